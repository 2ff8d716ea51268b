-- WHERE CALLERS OWN WHAT IS COUNTED and no native waits, the heap is balanced; and the other way round.
use Rattle.std.proofs.Common.{◌≡◌, ℕ, ◌+◌, ◌<◌, ◌≤◌, List, [], map, Option, Some, None, refl, sym, ◌∙◌, ap, subst, ⊎_elim, arith, count_by}
use Rattle.std.proofs.lemmas.Bool.{cases_lt, eqb-true, eq-eqb}
use Rattle.cc_lists.specs.Members.{Among}
use Rattle.cc_lists.proofs.Counting.{count_by-some, counted_is}
use Rattle.cc_names.specs.Names.{native, same_name}
use Rattle.cc_names.proofs.NameTests.{same_name-refl, same_name-true}
use Rattle.cc_model.specs.Heap.{Heap, HeapNative, Buffered, native_at}
use Rattle.cc_model.specs.Cascade.{at_rest, draining_at}
use Rattle.cc_model.specs.WellFormed.{native_names}
use Rattle.cc_model.specs.Counts.{refs_to, slots_of_natives, times}
use Rattle.cc_laws_heap.specs.Balance.{HasDistinctNumbers, waiting, living, IsBalanced, count_of, has_place, places}
use Rattle.cc_laws_heap.proofs.Face.{IsCounted-owned, IsCounted-referred, above-one_at_zero, living-one, named-found, native_at-member, native_at-named, native_at-number, native_at-there, one_above_zero-above, one_at_zero-above, times-among, times-some}
use Rattle.cc_counted.specs.Counts.{Counts, the_number, heap_of}
use Rattle.cc_counted.specs.Owning.{AreOwned}
use Rattle.cc_counted.specs.Lists.{Lists, keyed, counts_of, draining_of, IsPlaced}
use Rattle.cc_counted.proofs.Places.{natives-distinct}

-- with no registers and no script objects, the references to a native are the slots that hold it
refs_to-slots : (c : Counts) (k : ℕ) → refs_to (heap_of c) k ≡ count_by (same_name (native k)) (slots_of_natives (heap_of c))
refs_to-slots c k = omega arith

module _ (c : Counts) (distinct : HasDistinctNumbers (heap_of c)) (owned : List ℕ) (o : AreOwned owned c) where
  abbrev h : Heap
  h = heap_of c

  named-not_found : (k : ℕ) → native_at h k ≡ None → Among (native k) (native_names h) → ⊥
  named-not_found k e m = let f = named-found h k m in let both : None ≡ Some f.0 = sym e ∙ f.1 in cc

  none-held : (k : ℕ) → native_at h k ≡ None → count_by (same_name (native k)) (slots_of_natives h) ≡ 0
  none-held k e = ⊎_elim
      (λ some.
      let f = counted_is (same_name (native k)) (slots_of_natives h) some in
      absurd (named-not_found k e (o.held_there k (subst (λ x. Among x (slots_of_natives h)) (sym (same_name-true (native k) f.0 f.2)) f.1))))
      (λ no. omega arith) (cases_lt 0 (count_by (same_name (native k)) (slots_of_natives h)))

  none-owned : (k : ℕ) → native_at h k ≡ None → times k owned ≡ 0
  none-owned k e = ⊎_elim (λ some. absurd (named-not_found k e (o.owned_there k (times-among k owned some)))) (λ no. omega arith) (cases_lt 0 (times k owned))

  counts : (k : ℕ) → count_of (native_at h k) ≡ refs_to h k + times k owned
  counts k = go (native_at h k) refl
    where
      go : (f : Option HeapNative) → native_at h k ≡ f → count_of f ≡ refs_to h k + times k owned
      go None e = omega (arith, refs_to-slots c k, none-held k e, none-owned k e)
      go (Some n) e = subst (λ j. n.count ≡ refs_to h j + times j owned) (native_at-number h k n e)
          (omega (arith, o.counts n (native_at-there h k n e), refs_to-slots c n.number))

  none-wait : (k : ℕ) → waiting (native_at h k) ≡ 0
  none-wait k = go (native_at h k) refl
    where
      go : (f : Option HeapNative) → native_at h k ≡ f → waiting f ≡ 0
      go None e = refl
      go (Some n) e = one_at_zero-above n.count (o.none_zero n (native_at-there h k n e))

  buffer : (k : ℕ) → places k h.buffer ≤ living (native_at h k)
  buffer k = ⊎_elim lives (λ no. omega arith) (cases_lt 0 (places k h.buffer))
    where
      lives : 0 < places k h.buffer → places k h.buffer ≤ living (native_at h k)
      lives some =
          let f = counted_is (has_place k) h.buffer some in
          let named : Among (native k) (native_names h) = subst (λ j. Among (native j) (native_names h)) (eqb-true f.0.number k f.2) (o.buffered f.0 f.1) in
          let n = named-found h k named in
          omega (arith, o.buffered_once k, ap living n.1 ∙ one_above_zero-above n.0.count (o.none_zero n.0 (native_at-there h k n.0 n.1)))

  -- What callers own is balanced.
  pub balanced-owned : IsBalanced owned (at_rest (heap_of c))
  balanced-owned = search (counts, none-wait, buffer)

module _ (c : Counts) (owned : List ℕ) (b : IsBalanced owned (at_rest (heap_of c))) where
  -- a native that is there does not wait
  living-above : (n : HeapNative) → Among n c.natives → 1 ≤ n.count
  living-above n m = search (native_at-member, above-one_at_zero, b.queue)

  -- what stands in the buffer is there
  buffered-there : (e : Buffered) → Among e c.buffer → Among (native e.number) (native_names (heap_of c))
  buffered-there e m = go (native_at (heap_of c) e.number) refl
      (omega (arith, b.buffer e.number, count_by-some (has_place e.number) e c.buffer m (eq-eqb e.number e.number refl)))
    where
      go : (f : Option HeapNative) → native_at (heap_of c) e.number ≡ f → 1 ≤ living f → Among (native e.number) (native_names (heap_of c))
      go None none l = absurd (omega arith)
      go (Some n) found l = native_at-named (heap_of c) e.number n found

  -- What is balanced, and in which no native waits, is what callers own.
  pub owned-balanced : AreOwned owned c
  owned-balanced = record {
    counts = λ n m.
        let found : native_at (heap_of c) n.number ≡ Some n = native_at-member (heap_of c) b.distinct n m in
        omega (arith, ap count_of (sym found), b.counts n.number, refs_to-slots c n.number);
    none_zero = living-above;
    held_there = λ k m. IsCounted-referred owned (heap_of c) b.counts k
        (omega (arith, refs_to-slots c k, count_by-some (same_name (native k)) (native k) (slots_of_natives (heap_of c)) m (same_name-refl (native k))));
    owned_there = λ k m. IsCounted-owned owned (heap_of c) b.counts k (times-some k owned m);
    buffered = buffered-there;
    buffered_once = λ k. omega (arith, b.buffer k, living-one (native_at (heap_of c) k));
  }

-- where no native waits, nothing is in between
pub resting : (l : Lists) → l.queue ≡ [] → draining_of l [] ≡ at_rest (heap_of (counts_of l))
resting l none = ap (λ ks. draining_at (heap_of (counts_of l)) (map (the_number (keyed l.cells)) ks) []) none

pub IsBalanced-owned : (l : Lists) → IsPlaced l → l.queue ≡ [] → (owned : List ℕ) → AreOwned owned (counts_of l) → IsBalanced owned (draining_of l [])
IsBalanced-owned l p none owned o = subst (IsBalanced owned) (sym (resting l none)) (balanced-owned (counts_of l) (natives-distinct l p) owned o)

pub owned-lists : (l : Lists) → l.queue ≡ [] → (owned : List ℕ) → IsBalanced owned (draining_of l []) → AreOwned owned (counts_of l)
owned-lists l none owned b = owned-balanced (counts_of l) owned (subst (IsBalanced owned) (resting l none) b)
