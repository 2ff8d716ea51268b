-- THE END OF A COLLECTION THAT MISSED NOTHING: what it took away is empty or gone, so each native that holds something is reached.
use Rattle.std.proofs.Common.{arith, ◌≡◌, ℕ, List, [], ◌∙◌, ap, subst, ⊎_elim}
use Rattle.cc_lists.specs.Members.{Among}
use Rattle.cc_lists.proofs.Members.{Among-map, Among-left}
use Rattle.cc_names.specs.declared.name.Name.{Name}
use Rattle.cc_names.specs.Names.{native, number_of}
use Rattle.cc_model.specs.Heap.{Heap, HeapNative}
use Rattle.cc_model.specs.View.{view, native_edges, ReachedIn}
use Rattle.cc_model.specs.WellFormed.{native_names, script_names, names_there}
use Rattle.cc_model.specs.StandsFor.{IsEmptied}
use Rattle.cc_model.specs.Snapshot.{Snapshot, white_natives}
use Rattle.cc_model.specs.Fresh.{IsFresh, IsTraversed}
use Rattle.cc_model.specs.End.{take_away}
use Rattle.cc_laws_heap.specs.Sound.{IsSound}
use Rattle.cc_laws_heap.proofs.TakingAway.{take_away-sound, taken-emptied, others-kept, take_away-leaves}
use Rattle.cc_laws_heap.proofs.ViewEdges.{native_edges-are}
use Rattle.cc_laws_heap.proofs.Making.{contents-empty_none}
use Rattle.cc_laws_snapshot.proofs.WhiteNatives.{white_natives-there, white_natives-unreached}
use Rattle.cc_laws_run.specs.Doomed.{IsDoomed}
use Rattle.cc_laws_run.proofs.DoomedWhite.{doomed-white_native}
use Rattle.cc_laws_snapshot.proofs.KindsLoyal.{reached_cases}
use Rattle.cc_laws_snapshot.proofs.ReachedStays.{IsTidy, KeepsReached, reached-kept, native-edge_of, left-keeps}

-- The end

module _ (h : Heap) (ks : List ℕ) (s : IsSound [] h) (there : (k : ℕ) → Among k ks → Among (native k) (native_names h)) where
  -- the heaps after it
  abbrev end : Heap
  end = (take_away ks h).heap

  -- they are sound
  end-sound : IsSound [] end
  end-sound = take_away-sound h ks s there

  -- an empty native has no edges
  pub emptied-none : (n : HeapNative) (x y : Name) → IsEmptied n → ¬ (Among (x, y) (native_edges n))
  emptied-none n x y e m = grind (arith, contents-empty_none, native_edges-are)

  module _ (out : (k : ℕ) → Among k ks → ¬ (ReachedIn (view h) (native k))) where
    -- Taking away what is unreached keeps what is reached.
    pub take_away-keeps : KeepsReached h (take_away ks h).heap
    take_away-keeps = left-keeps h end s.well_formed end-sound.well_formed (take_away-leaves h ks s there).beside
        (λ n m r. others-kept h ks s there n m (λ i. out n.number i r))

    -- Where all unreached natives are taken away, each native that holds something is reached.
    pub take_away-tidy : ((n : HeapNative) → Among n h.natives → ¬ (ReachedIn (view h) (native n.number)) → Among n.number ks) →
        IsTidy (take_away ks h).heap
    take_away-tidy all i y m =
        let f = native-edge_of end i y end-sound.well_formed m in
        let number : f.0.number ≡ i = ap number_of f.2 in
        let apart : ¬ (Among f.0.number ks) = λ j. emptied-none f.0 (native i) y (taken-emptied h ks s there f.0 f.1 j) f.3 in
        let p = others-kept h ks s there f.0 f.1 apart in
        let before : p.0.number ≡ f.0.number = ap (λ (u : HeapNative). u.number) p.2 in
        let reached : ReachedIn (view h) (native p.0.number) = ⊎_elim (λ r. r)
        (λ d. absurd (apart (subst (λ j. Among j ks) before (all p.0 p.1 d)))) (reached_cases (view h) (native p.0.number)) in
        reached-kept h end end-sound.well_formed take_away-keeps (native i) (subst (λ j. ReachedIn (view h) (native j)) (before ∙ number) reached)

-- WHERE ALL GARBAGE IS DOOMED the end of a collection leaves natives that hold something reached.
pub end-tidy : (h : Heap) (s : Snapshot) (ds : List Name) → IsSound [] h → IsFresh h.natives_made (view h) s → IsTraversed s → IsDoomed (view h) s ds →
    ((x : Name) → Among x (names_there h) → ¬ (ReachedIn (view h) x) → Among x ds) → IsTidy (take_away (white_natives h s) h).heap
end-tidy h s ds sound fresh all doomed garbage = take_away-tidy h (white_natives h s) sound (white_natives-there h s sound).there
    (white_natives-unreached h s sound fresh all)
    (λ n m out. doomed-white_native h s ds n.number sound fresh all doomed
    (garbage (native n.number)
    (Among-left (native n.number) (native_names h) (script_names h) (Among-map (λ (k : HeapNative). native k.number) n h.natives m)) out))
