-- THE FRONT OF THE QUEUE FREED: nothing refers to it, so it is the same whether its slots are given up before or after
-- it is taken out; taken out first, its slots are references in hand, which are then given up one after another.
use Rattle.std.proofs.Common.{◌≡◌, ◌≢◌, ℕ, ◌+◌, ◌≤◌, true, not, List, [], ◌∷◌, ◌++◌, Some, refl, sym, ◌∙◌, ap, subst, arith, count_by}
use Rattle.std.proofs.lemmas.Bool.{eqb-true, not-true}
use Rattle.cc_model.specs.Heap.{Heap, HeapNative, native_at}
use Rattle.cc_model.specs.Cascade.{Draining, lower, fallen, give_up, give_up_each, removed, natives_of_slots, told_free, without_native, free_front}
use Rattle.cc_model.specs.Counts.{times}
use Rattle.cc_lists.proofs.Searching.{filter-map, count_by-kept, count_by-dropped}
use Rattle.cc_lists.proofs.Numbers.{at-each}
use Rattle.cc_laws_heap.proofs.Natives.{changed_at-number, native_at-removed_same, native_at-removed_other}
use Rattle.cc_laws_heap.proofs.References.{times-append, times-cons_same, times-cons_other, refs_to-removed}
use Rattle.cc_laws_heap.proofs.GiveUp.{IsBalanced-give_up_each}
use Rattle.cc_laws_heap.specs.Balance.{one_at_zero, waiting, one_above_zero, living, IsBalanced, count_of, count_at, has_number, HasDistinctNumbers, places}

-- a number that waits is that of a native with count zero
pub waiting-found : (h : Heap) (k : ℕ) → 1 ≤ waiting (native_at h k) → (n : HeapNative) × (native_at h k ≡ Some n) × (n.count ≡ 0)
waiting-found h k some = grind arith

-- natives with distinct numbers stay so when one is taken out
HasDistinctNumbers-removed : (h : Heap) (k : ℕ) → HasDistinctNumbers h → HasDistinctNumbers (removed h k)
HasDistinctNumbers-removed h k d = at-each (λ j. count_by (has_number j) (removed h k).natives ≤ 1) k
    (omega (arith, count_by-dropped (has_number k) (λ n. not (has_number k n)) h.natives (λ n e. not-true (has_number k n) e)))
    (λ j o. omega (arith, d j, count_by-kept (has_number j) (λ n. not (has_number k n)) h.natives (λ n e. each j o n e)))
  where
    each : (j : ℕ) → j ≢ k → (n : HeapNative) → has_number j n ≡ true → not (has_number k n) ≡ true
    each j o n e = grind (arith, eqb-true)

-- A native with count zero taken out of the queue and of the heap: what its slots hold is in hand.
pub IsBalanced-removed : (owned : List ℕ) (d : Draining) (k : ℕ) (ks : List ℕ) (n : HeapNative) → IsBalanced owned d → d.queue ≡ k ∷ ks →
    native_at d.heap k ≡ Some n → n.count ≡ 0 → IsBalanced (natives_of_slots (Some n) ++ owned) (without_native (told_free d k ks) k)
IsBalanced-removed owned d k ks n b q e z = record {
  distinct = HasDistinctNumbers-removed d.heap k b.distinct;
  counts = λ j.
      omega (
        arith,
        b.counts j,
        same_count j,
        refs_to-removed d.heap k n b.distinct e j,
        times-append j (natives_of_slots (Some n)) owned,
      );
  queue = at-each (λ j. times j ks ≡ waiting (native_at (removed d.heap k) j)) k
      (omega (
        arith,
        ap waiting (native_at-removed_same d.heap k),
        b.queue k,
        ap (times k) q,
        times-cons_same k ks,
        ap waiting e ∙ ap one_at_zero z,
      ))
      (λ j o. omega (
        arith,
        ap waiting (native_at-removed_other d.heap k j o),
        b.queue j,
        ap (times j) q,
        times-cons_other j k ks (λ s. o (sym s)),
      ));
  buffer = at-each (λ j. places j d.heap.buffer ≤ living (native_at (removed d.heap k) j)) k
      (omega (arith, b.buffer k, ap living e ∙ ap one_above_zero z))
      (λ j o. omega (arith, b.buffer j, ap living (native_at-removed_other d.heap k j o)));
}
  where
    same_count : (j : ℕ) → count_at (removed d.heap k) j ≡ count_at d.heap j
    same_count = grind (arith, at-each, native_at-removed_same, native_at-removed_other)

-- Taking a native out, and giving up references to others, may change places

-- a count that falls, and a native taken out
removed-lower : (h : Heap) (j k : ℕ) → removed (lower h j) k ≡ lower (removed h k) j
removed-lower h j k = grind (arith, filter-map, changed_at-number)

-- the same while natives are deleted, by the count before
without_native-fallen : (d : Draining) (j k c : ℕ) → without_native (fallen d j c) k ≡ fallen (without_native d k) j c
without_native-fallen d j k c = grind (arith, removed-lower)

-- one reference given up to another native than that taken out
without_native-give_up : (d : Draining) (j k : ℕ) → j ≢ k → without_native (give_up d j) k ≡ give_up (without_native d k) j
without_native-give_up d j k o = grind (arith, native_at-removed_other, without_native-fallen)

-- several, none of them to the native taken out
pub without_native-give_up_each : (d : Draining) (js : List ℕ) (k : ℕ) → times k js ≡ 0 → without_native (give_up_each d js) k ≡ give_up_each (without_native d k) js
without_native-give_up_each d [] k none = refl
without_native-give_up_each d (j ∷ js) k none =
    without_native-give_up_each (give_up d j) js k rest ∙ ap (λ e. give_up_each e js) (without_native-give_up d j k other)
  where
    other : j ≢ k
    other e =
        let here : times k (j ∷ js) ≡ 1 + times k js = subst (λ i. times k (i ∷ js) ≡ 1 + times k js) (sym e) (times-cons_same k js) in
        omega arith

    rest : times k js ≡ 0
    rest = sym (times-cons_other k j js other) ∙ none

-- THE FRONT FREED KEEPS THE BALANCE.
pub IsBalanced-free_front : (owned : List ℕ) (d : Draining) (k : ℕ) (ks : List ℕ) → IsBalanced owned d → d.queue ≡ k ∷ ks → IsBalanced owned (free_front d k ks)
IsBalanced-free_front owned d k ks b q = go (waiting-found d.heap k (omega (arith, b.queue k, ap (times k) q, times-cons_same k ks)))
  where
    go : (n : HeapNative) × (native_at d.heap k ≡ Some n) × (n.count ≡ 0) → IsBalanced owned (free_front d k ks)
    go f =
        let held : List ℕ = natives_of_slots (Some f.0) in
        let none : times k held ≡ 0 = omega (arith, b.counts k, ap count_of f.1 ∙ f.2, refs_to-removed d.heap k f.0 b.distinct f.1 k) in
        let out : IsBalanced owned (give_up_each (without_native (told_free d k ks) k) held) =
        IsBalanced-give_up_each owned (without_native (told_free d k ks) k) held (IsBalanced-removed owned d k ks f.0 b q f.1 f.2) in
        subst (λ o. IsBalanced owned (without_native (give_up_each (told_free d k ks) (natives_of_slots o)) k)) (sym f.1)
        (subst (IsBalanced owned) (sym (without_native-give_up_each (told_free d k ks) held k none)) out)
