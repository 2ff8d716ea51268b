-- WHAT HOLDS OF EACH NATIVE, its count aside, still holds of each after references are taken and given up, slots are
-- written and natives are unlinked.
use Rattle.std.proofs.Common.{ℕ, suc, ◌==◌, List, [], ◌∷◌, map, set, Option, None, Some, subst}
use Rattle.cc_lists.specs.Members.{Among}
use Rattle.cc_lists.proofs.Members.{Among-map, Among-map_cases, Among-filtered}
use Rattle.cc_lists.proofs.ListWrites.{changed_where, changed_where-either, each-map}
use Rattle.cc_names.specs.declared.name.Name.{Name}
use Rattle.cc_names.specs.Names.{native}
use Rattle.cc_model.specs.Slots.{Slots}
use Rattle.cc_model.specs.Heap.{Heap, HeapNative, Outcome, native_at, silently, after, change_native, with_native_slot, as_unlinked, set_slot}
use Rattle.cc_model.specs.Cascade.{add_ref, cascade, let_go}
use Rattle.cc_model.specs.End.{empty_slot, empty_each, slots_now, unlink}
use Rattle.cc_laws_heap.specs.Freeing.{uncounted, is_none_of}
use Rattle.cc_laws_heap.proofs.Face.{HoldsTheSame-add_ref, TakesOut, TakesOut-cascade, TakesOut-let_go}

module _ (Q : HeapNative → Type 0) where
  abbrev pub IsOfEach : List HeapNative → Type 0
  IsOfEach ns = (n : HeapNative) → Among n ns → Q (uncounted n)

  -- counts aside the natives are among those of before
  pub each-alike : (ns ms : List HeapNative) → ((u : HeapNative) → Among u (map uncounted ms) → Among u (map uncounted ns)) → IsOfEach ns → IsOfEach ms
  each-alike ns ms inside all n m =
      let f = Among-map_cases uncounted ns (uncounted n) (inside (uncounted n) (Among-map uncounted n ms m)) in
      subst Q f.2 (all f.0 f.1)

  each-taken_out : (h : Heap) (ks : List ℕ) (o : Outcome) → TakesOut h ks o → IsOfEach h.natives → IsOfEach o.heap.natives
  each-taken_out h ks o t = each-alike h.natives o.heap.natives
      (λ u m. Among-filtered (is_none_of ks) u (map uncounted h.natives) (subst (λ us. Among u us) t.natives m))

  pub each-cascade : (h : Heap) (k : ℕ) → IsOfEach h.natives → IsOfEach (cascade h k).heap.natives
  each-cascade h k = let t = TakesOut-cascade h k in each-taken_out h t.0 (cascade h k) t.1

  pub each-let_go : (h : Heap) (x : Option Name) → IsOfEach h.natives → IsOfEach (let_go h x).heap.natives
  each-let_go h x = let t = TakesOut-let_go h x in each-taken_out h t.0 (let_go h x) t.1

  pub each-add_ref : (h : Heap) (k : ℕ) → IsOfEach h.natives → IsOfEach (add_ref h k).natives
  each-add_ref h k = each-alike h.natives (add_ref h k).natives (λ u m. subst (λ us. Among u us) (HoldsTheSame-add_ref h k).natives m)

  -- a native changed
  pub each-changed : (h : Heap) (k : ℕ) (f : HeapNative → HeapNative) → ((n : HeapNative) → Q (uncounted n) → Q (uncounted (f n))) → IsOfEach h.natives →
      IsOfEach (change_native h k f).natives
  each-changed h k f keeps all = each-map (λ n. Q (uncounted n)) (changed_where (λ n. n.number == k) f) h.natives
      (λ n m. changed_where-either (λ o. Q (uncounted o)) (λ n. n.number == k) f n (λ e. keeps n (all n m)) (all n m))

  -- What holds after a slot is emptied, and after a native is unlinked
  module _ (emptied : (u : HeapNative) (i : ℕ) → Q u → Q (record u { slots = set u.slots i None })) where
    each-empty_each : (k i : ℕ) (xs : Slots) (o : Outcome) → IsOfEach o.heap.natives → IsOfEach (empty_each k i xs o).heap.natives
    each-empty_each k i [] o all = all
    each-empty_each k i (x ∷ xs) o all = each-empty_each k (suc i) xs (after o.events (empty_slot o.heap k i x))
        (each-let_go (set_slot o.heap (Some (native k)) i None) x
        (each-changed o.heap k (with_native_slot i None) (λ n. emptied (uncounted n) i) all))

    pub each-unlink : ((u : HeapNative) → Q u → Q (as_unlinked u)) → (h : Heap) (k : ℕ) → IsOfEach h.natives → IsOfEach (unlink h k).heap.natives
    unfolding unlink
    each-unlink ended h k all = each-changed (empty_each k 0 (slots_now (native_at h k)) (silently h)).heap k as_unlinked
        (λ n. ended (uncounted n)) (each-empty_each k 0 (slots_now (native_at h k)) (silently h) all)
