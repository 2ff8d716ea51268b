-- A NATIVE UNLINKED: while it is owned it stays, with empty slots and no preservation, unlinked for good; all others are
-- as they were, or were freed.
use Rattle.std.proofs.Common.{arith, ◌≡◌, ℕ, ◌+◌, ◌≤◌, Bool, List, [], ◌∷◌, ◌++◌, Option, Some, refl, sym, ◌∙◌, ap, subst, ◌==◌, inl, ⊎_elim}
use Rattle.std.proofs.lemmas.Bool.{false≢true}
use Rattle.std.proofs.lemmas.List.{append-nil, length-replicate}
use Rattle.cc_lists.specs.Members.{Among}
use Rattle.cc_names.specs.Names.{native}
use Rattle.cc_model.specs.declared.item.Event.TheVariants.{Unlinked}
use Rattle.cc_model.specs.Slots.{empty_slots}
use Rattle.cc_model.specs.Heap.{Heap, HeapNative, Outcome, silently, native_at, as_unlinked, set_unlinked}
use Rattle.cc_model.specs.End.{empty_each, slots_now, unlink}
use Rattle.cc_model.specs.Lawful.{unlinked_numbers}
use Rattle.cc_model.specs.WellFormed.{IsWellFormed, native_names}
use Rattle.cc_model.specs.Counts.{refs_to, slots_of_natives, times}
use Rattle.cc_model.specs.StandsFor.{IsEmptied}
use Rattle.cc_laws_heap.specs.Sound.{IsSound}
use Rattle.cc_laws_heap.specs.Ending.{freed_numbers, IsLeft}
use Rattle.cc_laws_heap.specs.Stages.{Stage, stage, Done, Ending}
use Rattle.cc_laws_heap.specs.Stages.Done.{followed, besides}
use Rattle.cc_laws_heap.specs.Stages.Ending.{told, unlinked}
use Rattle.cc_laws_heap.proofs.Natives.{native_names-change, native_at-change_same, native_at-member, IsWellFormed-distinct, named-found}
use Rattle.cc_laws_heap.proofs.Giving.{quietly}
use Rattle.cc_lists.proofs.ListWrites.{changed_where, changed_where-either, each-map, flat_map-kept}
use Rattle.cc_laws_heap.proofs.Kept.{IsBuffer-own, ChangesNatives, ChangesNatives-where, IsWellFormed-natives}
use Rattle.cc_laws_heap.proofs.Leaving.{Leave, done-leaves, OthersStay}
use Rattle.cc_laws_heap.proofs.Staying.{done-stays}
use Rattle.cc_laws_heap.proofs.Emptying.{IsEmptying, IsEmptying-start, empty_each-sound}

-- To be unlinked for good, with no preservation, leaves the heaps sound.
set_unlinked-sound : (owned : List ℕ) (h : Heap) (k : ℕ) → IsSound owned h → IsSound owned (set_unlinked h k)
set_unlinked-sound owned h k s = record {
  well_formed = IsWellFormed-natives h change h.buffer w changes (IsBuffer-own h w);
  counts = each-map (λ n. n.count ≡ refs_to (set_unlinked h k) n.number + times n.number owned) change h.natives
      (λ n m. changed_where-either (λ o. o.count ≡ refs_to (set_unlinked h k) o.number + times o.number owned) is_it as_unlinked n
      (λ e. counted n m) (counted n m));
  none_zero = each-map (λ n. 1 ≤ n.count) change h.natives
      (λ n m. changed_where-either (λ o. 1 ≤ o.count) is_it as_unlinked n (λ e. s.none_zero n m) (s.none_zero n m));
  owned_there = λ j m. subst (λ xs. Among (native j) xs) (sym names) (s.owned_there j m);
}
  where
    w : IsWellFormed h
    w = s.well_formed

    is_it : HeapNative → Bool
    is_it m = m.number == k

    change : HeapNative → HeapNative
    change n = changed_where is_it as_unlinked n

    changes : ChangesNatives h change
    changes = ChangesNatives-where h w is_it as_unlinked (λ m. refl) (λ m a e. record {
      slots = w.native_slots m a;
      contents = λ y z. w.native_contents m y a z;
      preserved = λ f. absurd (false≢true f);
    })

    names : native_names (set_unlinked h k) ≡ native_names h
    names = native_names-change h k as_unlinked (λ n. refl)

    slots : slots_of_natives (set_unlinked h k) ≡ slots_of_natives h
    slots = grind (arith, flat_map-kept, changed_where-either)

    refs : (j : ℕ) → refs_to (set_unlinked h k) j ≡ refs_to h j
    refs j = rw slots refl

    counted : (n : HeapNative) → Among n h.natives → n.count ≡ refs_to (set_unlinked h k) n.number + times n.number owned
    counted n m = s.counts n m ∙ ap (λ r. r + times n.number owned) (sym (refs n.number))

-- what is unlinked with its slots empty is emptied
IsEmptied-from : (n : HeapNative) (j : ℕ) → n.slots ≡ empty_slots j → IsEmptied (as_unlinked n)
IsEmptied-from n j e = grind (arith, length-replicate)

-- native k was told unlinked and is so where it is there; those freed have left; the others are as they were
pub record Unlinks (h : Heap) (k : ℕ) (freed : List ℕ) (o : Outcome) : Type 0 where
  pub unlinked_told : unlinked_numbers o.events ≡ k ∷ []
  pub leaves : Leave h freed o.heap
  pub others : OthersStay h k o.heap
  pub taken : (n : HeapNative) → Among n o.heap.natives → n.number ≡ k → IsEmptied n

module _ (owned : List ℕ) (h : Heap) (k : ℕ) (s : IsSound owned h) (own : Among k owned) where
  -- the slots of what was found emptied
  abbrev emptying : Option HeapNative → Outcome
  emptying o = empty_each k 0 (slots_now o) (silently h)

  abbrev Empties : List ℕ → Option HeapNative → Type 0
  Empties ks o = (j : ℕ) × IsSound owned (emptying o).heap × IsEmptying ks owned h k (empty_slots j ++ []) (emptying o)

  -- the native is found, and its slots are emptied
  emptied-sound : (ks : List ℕ) → Among k ks → Empties ks (native_at h k)
  emptied-sound ks taken =
      let n = named-found h k (s.owned_there k own) in
      subst (Empties ks) (sym n.1) (empty_each-sound ks owned h k taken own 0 n.0.slots (silently h) s (IsEmptying-start ks owned h k n.0 n.1))

  -- What is done where it is unlinked.
  pub unlink-done : (ks : List ℕ) → Among k ks → Done (Ending ks) (stage owned [] h) (unlink h k).events (stage owned [] (unlink h k).heap)
  unfolding unlink
  unlink-done ks taken =
      let o : Outcome = emptying (native_at h k) in
      let here : Stage = stage owned [] h in
      let bare : Stage = stage owned [] o.heap in
      let end : Stage = stage owned [] (set_unlinked o.heap k) in
      followed here here end (Unlinked (native k) ∷ []) o.events (besides here (Unlinked (native k) ∷ []) here (told owned h k taken))
      (quietly (Ending ks) here bare end o.events (emptied-sound ks taken).2.done (besides bare [] end (unlinked owned o.heap k taken)))

  -- A native that is owned is unlinked: the heaps stay sound.
  pub unlink-keeps : (freed : List ℕ) × IsSound owned (unlink h k).heap × Unlinks h k freed (unlink h k)
  unfolding unlink
  unlink-keeps = (
    freed_numbers (unlink h k).events,
    sound,
    record {
      unlinked_told = ap (λ ks. k ∷ ks) e.unlinks_none;
      leaves = done-leaves (k ∷ []) (stage owned [] h) (unlink h k).events (stage owned [] end) done;
      others = λ n m d.
          let c = done-stays (k ∷ []) (stage owned [] h) (unlink h k).events (stage owned [] end) done n m in
          (c.was, c.there, c.same (λ i. ⊎_elim (λ q. d (sym q)) (λ x. x) i));
      taken = λ n m number.
          let here : native_at end k ≡ Some n =
          subst (λ j. native_at end j ≡ Some n) number (native_at-member end (IsWellFormed-distinct end sound.well_formed) n m) in
          let there : native_at end k ≡ Some (as_unlinked e.held) = native_at-change_same before k as_unlinked (λ o. refl) ∙ rw e.found refl in
          let both : Some (as_unlinked e.held) ≡ Some n = sym there ∙ here in
          let same : as_unlinked e.held ≡ n = cc in
          subst IsEmptied same (IsEmptied-from e.held f.0 (e.slots ∙ append-nil (empty_slots f.0)));
    },
  )
    where
      before : Heap
      before = (emptying (native_at h k)).heap

      end : Heap
      end = set_unlinked before k

      f : Empties (k ∷ []) (native_at h k)
      f = emptied-sound (k ∷ []) (inl refl)

      e : IsEmptying (k ∷ []) owned h k (empty_slots f.0 ++ []) (emptying (native_at h k))
      e = f.2

      sound : IsSound owned end
      sound = set_unlinked-sound owned before k f.1

      done : Done (Ending (k ∷ [])) (stage owned [] h) (unlink h k).events (stage owned [] (unlink h k).heap)
      done = unlink-done (k ∷ []) (inl refl)

  -- The native is unlinked for good where it is left, and the others are as they were.
  pub unlink-left : (n : HeapNative) → Among n (unlink h k).heap.natives → IsLeft h (k ∷ []) n
  unlink-left n m =
      let c = done-stays (k ∷ []) (stage owned [] h) (unlink h k).events (stage owned [] (unlink h k).heap) (unlink-done (k ∷ []) (inl refl)) n m in
      record {
        was = c.was;
        there = c.there;
        number = c.number;
        taken = λ i. unlink-keeps.2.taken n m (⊎_elim (λ e. sym e) (λ x. absurd x) i);
        other = c.same;
      }
