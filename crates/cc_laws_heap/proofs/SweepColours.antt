-- A SWEEP LEAVES THE COLOUR INVARIANT, where black and the marks are closed.
use Rattle.std.proofs.Common.{arith, ◌≢◌, ℕ, List, subst}
use Rattle.cc_lists.specs.Members.{Among}
use Rattle.cc_lists.proofs.Members.{Among-map, Among-filter, Among-passes}
use Rattle.cc_names.specs.declared.kind.Colour.TheVariants.{White}
use Rattle.cc_model.specs.Slots.{Slots, contents}
use Rattle.cc_model.specs.Heap.{Heap, HeapScript}
use Rattle.cc_model.specs.View.{view}
use Rattle.cc_model.specs.Colours.{HasColourInvariant}
use Rattle.cc_model.specs.Sweep.{sweep}
use Rattle.cc_laws_heap.specs.Sound.{IsSound}
use Rattle.cc_laws_heap.specs.Marks.{AreMarksClosed, IsBlackClosed}
use Rattle.cc_laws_heap.proofs.Coloured.{AreColoured-from_view, HasColourInvariant-from, IsColoured}
use Rattle.cc_laws_heap.proofs.NameLists.{is_not_among-apart}
use Rattle.cc_laws_heap.proofs.RoundParts.{sweep-scripts}
use Rattle.cc_laws_heap.proofs.Swept.{beside-sweep, scripts-sweep, sweep-sound}

module _ {owned : List ℕ} (h : Heap) (c : AreMarksClosed h) (s : IsSound owned h) where
  -- what is left is not white
  left-not_white : (o : HeapScript) → Among o (sweep h).heap.scripts → o.colour ≢ White
  left-not_white o m e = grind (arith, is_not_among-apart, Among-passes, scripts-sweep, Among-map, Among-filter, sweep-scripts)

  -- what is left keeps its colours
  swept-coloured : IsBlackClosed h → IsColoured (sweep h).heap
  swept-coloured b = record {
    black_to_black = λ o p m n. b.places o p (sweep-scripts h o m) (sweep-scripts h p n);
    held_black = λ o m i. b.registers o (sweep-scripts h o m) (subst (λ (r : Slots). Among o.name (contents r)) (beside-sweep h s).script_registers i);
    none_white = left-not_white;
  }

  -- A SWEEP LEAVES THE COLOUR INVARIANT, where black is closed.
  pub sweep-invariant : IsBlackClosed h → HasColourInvariant (view (sweep h).heap)
  sweep-invariant b = HasColourInvariant-from (sweep h).heap (sweep-sound h c s).well_formed (swept-coloured b)

  -- A sweep keeps the colour invariant.
  pub sweep-colours : HasColourInvariant (view h) → HasColourInvariant (view (sweep h).heap)
  sweep-colours v = let a = AreColoured-from_view h s.well_formed v in sweep-invariant (record { registers = a.held_black; places = a.black_to_black })
