-- THE END OF A COLLECTION ONLY LOSES REFERENCES: what a slot held is in hand once it was emptied, and so is who was touched.
use Rattle.std.proofs.Common.{◌≡◌, ◌==◌, ℕ, Bool, true, false, List, [], ◌∷◌, ◌++◌, map, get_or, Some, None, refl, sym, ◌∙◌, ap, subst, inl, inr, ◌⊎◌, ⊎_elim, arith, if◌then◌else◌}
use Rattle.std.specs.List.{flat_map}
use Rattle.std.specs.Option.{option_to_list}
use Rattle.std.proofs.lemmas.Bool.{eqb-true}
use Rattle.cc_lists.specs.Members.{Among}
use Rattle.cc_lists.proofs.Members.{Among-map, Among-left, Among-right, Among-append, Among-flat_map, Among-flat_map_cases}
use Rattle.cc_names.specs.declared.name.Name.{Name}
use Rattle.cc_names.specs.Names.{native, is_script, number_of}
use Rattle.cc_model.specs.declared.item.Event.{Event}
use Rattle.cc_model.specs.Heap.{Heap, HeapNative, native_at, change_native, with_native_slot, set_slot, as_unlinked, set_unlinked}
use Rattle.cc_model.specs.View.{view, native_edges, script_edges}
use Rattle.cc_model.specs.Cascade.{add_ref}
use Rattle.cc_model.specs.Counts.{times}
use Rattle.cc_model.specs.Fresh.{IsLiving}
use Rattle.cc_laws_heap.specs.Sound.{numbers_of}
use Rattle.cc_laws_heap.specs.Stages.{Stage, stage, Done, Ending}
use Rattle.cc_laws_heap.specs.Stages.Ending.{reordered, raised, told, emptied, unlinked}
use Rattle.cc_laws_heap.proofs.Folding.{done-keeps}
use Rattle.cc_laws_heap.proofs.References.{times-among, times-some}
use Rattle.cc_laws_heap.proofs.HoldsTheSame.{HoldsTheSame-add_ref, native_names-alike}
use Rattle.cc_laws_heap.proofs.Natives.{KeepsNumber, changed_at, native_names-change, native_at-member}
use Rattle.cc_laws_heap.specs.Balance.{HasDistinctNumbers}
use Rattle.cc_laws_snapshot.proofs.SlotsWritten.{contents-written_kept, numbers_of-there}
use Rattle.cc_laws_snapshot.proofs.NamePairs.{native-no_script}
use Rattle.cc_laws_snapshot.proofs.NamesAndEdges.{living-same, edges-alike}
use Rattle.cc_laws_snapshot.proofs.GivingBack.{purple-stays, name-was}
use Rattle.cc_laws_snapshot.proofs.LosesTo.{IsLost, LosesTo, LosesTo-refl}
use Rattle.cc_laws_snapshot.proofs.CascadeLoses.{LosesIn, losing-kept}
use Rattle.cc_laws_heap.proofs.ViewEdges.{native_edges-are}
use Rattle.cc_laws_snapshot.proofs.Edges.{native_edges-has}

-- One native changed

-- the edges of native k to natives that a change drops lead to some of ks
abbrev DropsOnly : List ℕ → Heap → ℕ → (HeapNative → HeapNative) → Type 0
DropsOnly ks h k f = (n : HeapNative) → Among n h.natives → n.number ≡ k → (x : Name) (i : ℕ) → Among (x, native i) (native_edges n) →
    Among (x, native i) (native_edges (f n)) ⊎ Among i ks

-- then nothing is lost but for these, which are in hand afterwards
change_native-loses : (ks hand : List ℕ) (h : Heap) (k : ℕ) (f : HeapNative → HeapNative) → KeepsNumber f → DropsOnly ks h k f →
    LosesTo (stage hand [] h) (stage (ks ++ hand) [] (change_native h k f))
change_native-loses ks hand h k f number drops = record {
  lost = λ i p. ⊎_elim
      (λ q. inl (⊎_elim (λ a. inl a) (λ gone. inr (λ l. gone (living (native i) l))) q))
      (λ q. ⊎_elim (λ w. absurd w) (λ m. inr (inr (Among-right i ks hand m))) q) p;
  edge = λ x i m. ⊎_elim
      (λ l. let g = Among-flat_map_cases native_edges h.natives (x, native i) l in of_native x i g.0 g.1 g.2)
      (λ r. inl (Among-right (x, native i) (flat_map native_edges (map (changed_at k f) h.natives)) (flat_map script_edges h.scripts) r))
      (Among-append (x, native i) (flat_map native_edges h.natives) (flat_map script_edges h.scripts) m);
  register = λ i m. inl m;
  buffer = λ i m. inl m;
  living = living;
}
  where
    end : Stage
    end = stage (ks ++ hand) [] (change_native h k f)

    living : (x : Name) → IsLiving (view (change_native h k f)) x → IsLiving (view h) x
    living x l = living-same h (change_native h k f) (native_names-change h k f number) x l

    of_native : (x : Name) (i : ℕ) (n : HeapNative) → Among n h.natives → Among (x, native i) (native_edges n) → Among (x, native i) (view end.heap).edges ⊎ IsLost end i
    of_native x i n m e = ⊎_elim
        (λ t. inl (Among-left (x, native i) (flat_map native_edges (map (changed_at k f) h.natives)) (flat_map script_edges h.scripts)
        (Among-flat_map native_edges (changed_at k f n) (x, native i) (map (changed_at k f) h.natives) (Among-map (changed_at k f) n h.natives m) t)))
        (λ d. inr (inr (inr (Among-left i ks hand d))))
        (go (n.number == k) refl)
      where
        go : (b : Bool) → (n.number == k) ≡ b → Among (x, native i) (native_edges (if b then f n else n)) ⊎ Among i ks
        go true t = drops n m (eqb-true n.number k t) x i e
        go false t = inl e

-- A slot emptied

-- a slot emptied loses nothing but for what it held
slot-loses : (hand : List ℕ) (h : Heap) (k i : ℕ) (n : HeapNative) → HasDistinctNumbers h → native_at h k ≡ Some n →
    LosesTo (stage hand [] h) (stage (numbers_of (get_or n.slots i None) ++ hand) [] (change_native h k (with_native_slot i None)))
slot-loses hand h k i n d found = change_native-loses (numbers_of (get_or n.slots i None)) hand h k (with_native_slot i None) (λ m. refl) drops
  where
    drops : DropsOnly (numbers_of (get_or n.slots i None)) h k (with_native_slot i None)
    drops m a number x j e =
        let here : Some m ≡ Some n = sym (native_at-member h d m a) ∙ (ap (native_at h) number ∙ found) in
        let same : m ≡ n = cc in
        let p = native_edges-are m x (native j) e in
        ⊎_elim
        (λ c. ⊎_elim
        (λ t. inl (native_edges-has (with_native_slot i None m) x (native j) p.0 (inl t)))
        (λ t. inr (numbers_of-there (get_or n.slots i None) j (subst (λ (p : HeapNative). Among (native j) (option_to_list (get_or p.slots i None))) same t)))
        (contents-written_kept m.slots i None (native j) c))
        (λ q. inl (native_edges-has (with_native_slot i None m) x (native j) p.0 (inr q))) p.1

-- to be unlinked for good, with no preservation, loses no native
set_unlinked-loses : (hand : List ℕ) (h : Heap) (k : ℕ) → LosesTo (stage hand [] h) (stage hand [] (set_unlinked h k))
set_unlinked-loses hand h k = change_native-loses [] hand h k as_unlinked (λ n. refl) drops
  where
    drops : DropsOnly [] h k as_unlinked
    drops n m number x i e =
        let p = native_edges-are n x (native i) e in
        ⊎_elim
        (λ c. inl (native_edges-has (as_unlinked n) x (native i) p.0 (inl c)))
        (λ q. absurd (native-no_script (native i) refl (subst (λ y. is_script y ≡ true) q.1 refl))) p.1

-- References taken in hand

-- other references in hand, the same by number
reordered-loses : (early late : List ℕ) (h : Heap) → ((k : ℕ) → times k late ≡ times k early) → LosesTo (stage early [] h) (stage late [] h)
reordered-loses early late h same = record {
  lost = λ i p. ⊎_elim (λ q. inl q) (λ q. ⊎_elim (λ w. inr (inl w))
      (λ m. inr (inr (times-among i late (omega (arith, same i, times-some i early m))))) q) p;
  edge = λ x i m. inl m;
  register = λ i m. inl m;
  buffer = λ i m. inl m;
  living = λ x l. l;
}

-- a reference taken in hand
raised-loses : (hand : List ℕ) (h : Heap) (k : ℕ) → LosesTo (stage hand [] h) (stage (k ∷ hand) [] (add_ref h k))
raised-loses hand h k = record {
  lost = λ i p. ⊎_elim
      (λ q. ⊎_elim (λ a. ⊎_elim (λ s. inr (inr (inl (sym (ap number_of s))))) (λ t. inl (inl t)) (purple-stays false k h.buffer (native i) a))
      (λ g. inl (inr (λ a. g (living (native i) a)))) q)
      (λ q. ⊎_elim (λ w. inr (inl w)) (λ m. inr (inr (inr m))) q) p;
  edge = λ x i m. inl (subst (λ es. Among (x, native i) es) (sym (edges-alike h (add_ref h k) (HoldsTheSame-add_ref h k))) m);
  register = λ i m. inl m;
  buffer = λ i m. ⊎_elim (λ s. inr (inr (inr (inl (sym (ap number_of s)))))) (λ t. inl t) (name-was false k h.buffer (native i) m);
  living = living;
}
  where
    living : (x : Name) → IsLiving (view (add_ref h k)) x → IsLiving (view h) x
    living x l = living-same h (add_ref h k) (native_names-alike h (add_ref h k) (HoldsTheSame-add_ref h k)) x l

-- WHAT THE END OF A COLLECTION DOES ONLY LOSES, kind by kind.
ending-loses : (ks : List ℕ) (s : Stage) (es : List Event) (t : Stage) → Ending ks s es t → LosesTo s t
ending-loses ks _ _ _ (reordered early late h same) = reordered-loses early late h same
ending-loses ks _ _ _ (raised hand h k m) = raised-loses hand h k
ending-loses ks _ _ _ (told hand h k m) = LosesTo-refl (stage hand [] h)
ending-loses ks _ _ _ (emptied hand h k i n x m d e room content) =
    subst (λ y. LosesTo (stage hand [] h) (stage (numbers_of y ++ hand) [] (set_slot h (Some (native k)) i None))) content (slot-loses hand h k i n d e)
ending-loses ks _ _ _ (unlinked hand h k m) = set_unlinked-loses hand h k

-- ALL THAT IS DONE at the end of a collection only loses.
pub done-loses : (ks : List ℕ) (s : Stage) (es : List Event) (t : Stage) → Done (Ending ks) s es t → LosesTo s t
done-loses ks = done-keeps LosesIn (Ending ks) losing-kept (ending-loses ks)
