-- A SCRIPT COLLECTION KEEPS THE HEAPS SOUND, tells what it takes out, and leaves the colours of marking, none of them white.
use Rattle.std.proofs.Common.{arith, ◌≡◌, ◌≢◌, ℕ, suc, List, [], ◌++◌, length, sym, ◌∙◌, ap, subst}
use Rattle.cc_lists.specs.Members.{Among}
use Rattle.cc_lists.proofs.Members.{Among-map, Among-filter}
use Rattle.cc_names.specs.declared.name.Name.{Name}
use Rattle.cc_names.specs.declared.kind.Colour.TheVariants.{White}
use Rattle.cc_model.specs.Heap.{Heap, HeapScript, Outcome, silently}
use Rattle.cc_model.specs.View.{view}
use Rattle.cc_model.specs.Colours.{marked, HasColours, HasColourInvariant}
use Rattle.cc_model.specs.Sweep.{unmarked, sweep, collect_scripts}
use Rattle.cc_laws_heap.specs.Sound.{IsSound}
use Rattle.cc_laws_heap.specs.Rounds.{FreesNames}
use Rattle.cc_laws_heap.proofs.Coloured.{IsColoured, HasColourInvariant-from}
use Rattle.cc_laws_heap.proofs.FreedNames.{FreesNames-silently, FreesNames-then}
use Rattle.cc_laws_heap.proofs.Marking.{HasColours-marked}
use Rattle.cc_laws_heap.proofs.MarkedKept.{IsBlackClosed-colours}
use Rattle.cc_laws_heap.proofs.MarkingKeeps.{round-sound, round-frees}
use Rattle.cc_laws_heap.proofs.RoundsEnd.{next_round, rounds-keep, collect_scripts-marked}

-- Rounds

-- WHAT A ROUND OF SOUND HEAPS KEEPS, A SCRIPT COLLECTION KEEPS.
pub collecting-keeps : {owned : List ℕ} (Q : Outcome → Type 0) → ((o : Outcome) → IsSound owned o.heap → Q o → Q (next_round o)) → (h : Heap) → IsSound owned h → Q (silently h) →
    Q (collect_scripts h)
unfolding collect_scripts
collecting-keeps {owned} Q step h s q = (rounds-keep (λ o. IsSound owned o.heap × Q o) (λ o c. (round-sound o.heap c.0, step o c.0 c.1)) (suc (length h.scripts)) (silently h) (s, q)).1

-- A SCRIPT COLLECTION LEAVES SOUND HEAPS,
pub collect_scripts-sound : {owned : List ℕ} (h : Heap) → IsSound owned h → IsSound owned (collect_scripts h).heap
collect_scripts-sound {owned} h s = collecting-keeps (λ o. IsSound owned o.heap) (λ o s q. round-sound o.heap q) h s s

-- and what it tells is what it takes out.
pub collect_scripts-frees : {owned : List ℕ} (h : Heap) → IsSound owned h → (xs : List Name) × FreesNames h xs (collect_scripts h)
collect_scripts-frees h s = collecting-keeps (λ o. (xs : List Name) × FreesNames h xs o)
    (λ o c f. let r = round-frees o.heap c in (f.0 ++ r.0, FreesNames-then h f.0 r.0 o (sweep (marked o.heap)) f.1 r.1))
    h s ([], FreesNames-silently h)

-- Colours

-- THE COLOURS AFTER A SCRIPT COLLECTION are those of marking.
pub collect_scripts-colours : (h : Heap) → HasColours (collect_scripts h).heap
collect_scripts-colours h = let g = collect_scripts-marked h in subst HasColours (sym g.1) (HasColours-marked g.0)

-- nothing is unmarked after it
pub collect_scripts-unmarked : (h : Heap) → unmarked (collect_scripts h).heap ≡ []
collect_scripts-unmarked h = let g = collect_scripts-marked h in ap unmarked g.1 ∙ g.2

module _ (h : Heap) (c : HasColours h) (none : unmarked h ≡ []) where
  -- where nothing is unmarked no script object is white
  none-white : (o : HeapScript) → Among o h.scripts → o.colour ≢ White
  none-white o m e = grind (arith, Among-map, Among-filter)

  -- Colours of marking, none of them white, keep the colour invariant.
  IsColoured-colours : IsColoured h
  IsColoured-colours = let b = IsBlackClosed-colours h c in record { black_to_black = b.places; held_black = b.registers; none_white = none-white }

-- A SCRIPT COLLECTION LEAVES THE COLOUR INVARIANT.
pub collect_scripts-invariant : {owned : List ℕ} (h : Heap) → IsSound owned h → HasColourInvariant (view (collect_scripts h).heap)
collect_scripts-invariant h s = HasColourInvariant-from (collect_scripts h).heap (collect_scripts-sound h s).well_formed
    (IsColoured-colours (collect_scripts h).heap (collect_scripts-colours h) (collect_scripts-unmarked h))
