-- WHAT THE LAWS MAKE of the end of a collection.
use Rattle.std.proofs.Common.{◌≡◌, ℕ, [], sym, ap, ◌∙◌, subst}
use Rattle.cc_lists.specs.Members.{Among}
use Rattle.cc_names.specs.Names.{native}
use Rattle.cc_model.specs.View.{view}
use Rattle.cc_model.specs.WellFormed.{native_names}
use Rattle.cc_model.specs.Snapshot.{Snapshot}
use Rattle.cc_model.specs.Suspected.{IsSuspected}
use Rattle.cc_model.specs.End.{take_away}
use Rattle.cc_laws_heap.proofs.Face.{AreColoured-from_view, HasColourInvariant-from, SameScripts-coloured, reached-there, stands-reached, take_away-sound, take_away-stands, take_away-takes}
use Rattle.cc_laws_snapshot.proofs.Face.{end-suspected}
use Rattle.cc_laws_heap.specs.Apart.{AreApart}
use Rattle.cc_graph.specs.Shown.{Shown}
use Rattle.cc_heaps.specs.Keyed.{Keyed, IsInOrder, left_with}
use Rattle.cc_heaps.specs.Standing.{StillStands, KeepsColours}
use Rattle.cc_unlink.specs.Whites.{whites_of, AreWhiteIn, KeepsReached}
use Rattle.cc_unlink.proofs.Passing.{whites_of-there}

module _ (g : Shown) (v w : Keyed) (order : IsInOrder [] v) (e : w ≡ left_with v (take_away (whites_of g v.heap) v.heap).heap) where
  there : (k : ℕ) → Among k (whites_of g v.heap) → Among (native k) (native_names v.heap)
  there = whites_of-there g v.heap

  -- Where the white natives are apart, the heaps go on standing for the same graphs.
  pub ended-stands : AreApart v.heap (whites_of g v.heap) → StillStands v.heap w.heap
  ended-stands apart = subst (λ (u : Keyed). StillStands v.heap u.heap) (sym e)
      (λ h m t. take_away-stands v.heap h (whites_of g v.heap) order.sound there m t apart)

  -- and what is reached stays, with its slots and its flag:
  pub ended-reached : AreApart v.heap (whites_of g v.heap) → KeepsReached v.heap w.heap
  ended-reached apart h x m t r =
      let before = stands-reached v.heap h t x r in
      let stands = ended-stands apart h m t in
      let left = stands-reached w.heap h stands x r in (
        reached-there w.heap h x stands r,
        left.there ∙ (sym left.made ∙ (before.made ∙ sym before.there)),
      )

  -- no script object is changed.
  pub ended-objects : w.heap.scripts ≡ v.heap.scripts
  ended-objects = ap (λ (u : Keyed). u.heap.scripts) e ∙ (take_away-takes v.heap (whites_of g v.heap) order.sound there).1.scripts

  -- The colours stay.
  pub ended-colours : KeepsColours v.heap w.heap
  ended-colours colours = subst (λ (u : Keyed). KeepsColours v.heap u.heap) (sym e)
      (λ c.
      let takes = (take_away-takes v.heap (whites_of g v.heap) order.sound there).1 in
      HasColourInvariant-from (take_away (whites_of g v.heap) v.heap).heap (take_away-sound v.heap (whites_of g v.heap) order.sound there).well_formed
      (SameScripts-coloured v.heap (take_away (whites_of g v.heap) v.heap).heap (record { scripts = takes.scripts; registers = takes.script_registers })
      (AreColoured-from_view v.heap order.sound.well_formed c)))
      colours

  -- Where they are those of a snapshot, no native that nothing reaches is forgotten.
  pub ended-suspected : (s : Snapshot) → AreWhiteIn g v.heap s → IsSuspected (view v.heap) s.candidates → IsSuspected (view w.heap) []
  ended-suspected s white suspected = subst (λ (u : Keyed). IsSuspected (view u.heap) []) (sym (e ∙ ap (λ ks. left_with v (take_away ks v.heap).heap) white.natives))
      (end-suspected v.heap s order.sound white.fresh white.traversed suspected)
