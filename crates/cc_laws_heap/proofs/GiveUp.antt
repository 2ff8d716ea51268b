-- WHAT GIVING UP A REFERENCE KEEPS: between two steps of a cascade each count is that of the references in the heaps'
-- lists and of those in hand, the natives with count zero are those that wait, each once, and none of them stands in
-- the buffer.
use Rattle.std.proofs.Common.{◌≡◌, ◌≢◌, ℕ, zero, suc, ◌+◌, ◌-◌, ◌≤◌, true, List, [], ◌∷◌, ◌++◌, Option, Some, None, option_map, refl, sym, ◌∙◌, ap, subst, arith}
use Rattle.cc_model.specs.Heap.{Heap, HeapNative, native_at, with_mark, forget}
use Rattle.cc_model.specs.Cascade.{Draining, lower, lowered, queued, fallen, given_up, give_up, give_up_each}
use Rattle.cc_model.specs.Counts.{refs_to, times}
use Rattle.cc_laws_heap.proofs.Natives.{native_at-change_same, native_at-change_other, HasDistinctNumbers-change, uncounted-change}
use Rattle.cc_lists.proofs.Numbers.{at-each}
use Rattle.cc_laws_heap.proofs.References.{times-append, times-cons_same, times-cons_other, refs_to-alike}
use Rattle.cc_laws_heap.proofs.Beside.{SameBeside-change_native}
use Rattle.cc_laws_heap.proofs.Counted.{count_at-found}
use Rattle.cc_laws_heap.specs.Balance.{IsCounted, count_of, count_at, places, one_at_zero, waiting, one_above_zero, living, IsBalanced}
use Rattle.cc_laws_heap.proofs.Buffer.{places-with_mark_same, places-with_mark_other, places-forget_same, places-forget_other}

-- One reference less

-- a native with one reference less
abbrev pub lower_native : HeapNative → HeapNative
lower_native n = record n { count = n.count - 1 }

-- what is found at its number
pub native_at-lower_same : (h : Heap) (k : ℕ) → native_at (lower h k) k ≡ option_map lower_native (native_at h k)
native_at-lower_same h k = native_at-change_same h k lower_native (λ n. refl)

-- and at any other
pub native_at-lower_other : (h : Heap) (k j : ℕ) → j ≢ k → native_at (lower h k) j ≡ native_at h j
native_at-lower_other h k j d = native_at-change_other h k lower_native (λ n. refl) j d

-- its count is one less
count_at-lower_same : (h : Heap) (k : ℕ) → count_at (lower h k) k ≡ count_at h k - 1
count_at-lower_same h k = grind (arith, native_at-lower_same)

-- any other count stays
count_at-lower_other : (h : Heap) (k j : ℕ) → j ≢ k → count_at (lower h k) j ≡ count_at h j
count_at-lower_other h k j d = ap count_of (native_at-lower_other h k j d)

-- a count that falls changes no slot, so no reference
refs_to-lower : (h : Heap) (k j : ℕ) → refs_to (lower h k) j ≡ refs_to h j
refs_to-lower h k j = refs_to-alike h (lower h k) (SameBeside-change_native h k lower_native) (uncounted-change h k lower_native (λ n. refl)) j

-- the reference given up is in hand no more
IsCounted-lower : (owned : List ℕ) (h : Heap) (k : ℕ) → IsCounted (k ∷ owned) h → IsCounted owned (lower h k)
IsCounted-lower owned h k c = at-each (λ j. count_at (lower h k) j ≡ refs_to (lower h k) j + times j owned) k
    (omega (arith, c k, count_at-lower_same h k, refs_to-lower h k k, times-cons_same k owned))
    (λ j o. omega (arith, c j, count_at-lower_other h k j o, refs_to-lower h k j, times-cons_other j k owned (λ e. o (sym e))))

-- what holds where there is no such native, and where its count falls to zero or not that far, holds where a reference to it is given up
pub give_up-cases : (P : Draining → Type 0) (d : Draining) (k : ℕ) → ((n : HeapNative) → native_at d.heap k ≡ Some n → 1 ≤ n.count) →
    (native_at d.heap k ≡ None → P d) → P (queued d k) → P (lowered d k) → P (give_up d k)
give_up-cases P d k some none zero_left some_left = grind arith

-- no more than one
pub living-one : (o : Option HeapNative) → living o ≤ 1
living-one o = grind arith

module _ (owned : List ℕ) (d : Draining) (k : ℕ) (b : IsBalanced (k ∷ owned) d) (n : HeapNative) (e : native_at d.heap k ≡ Some n) where
  -- how often the native waits before its count falls
  waiting-before : (c : ℕ) → n.count ≡ c → times k d.queue ≡ one_at_zero c
  waiting-before c z = b.queue k ∙ (ap waiting e ∙ ap one_at_zero z)

  -- how often it should after
  waiting-lower : (c : ℕ) → n.count ≡ suc c → waiting (native_at (lower d.heap k) k) ≡ one_at_zero c
  waiting-lower c z = grind (arith, native_at-lower_same)

  -- how often it may stand in the buffer after
  living-lower : (c : ℕ) → n.count ≡ suc c → living (native_at (lower d.heap k) k) ≡ one_above_zero c
  living-lower c z = grind (arith, native_at-lower_same)

  -- where the count stays above zero the native is suspected
  IsBalanced-lowered : (c : ℕ) → n.count ≡ suc (suc c) → IsBalanced owned (lowered d k)
  IsBalanced-lowered c z = record {
    distinct = HasDistinctNumbers-change d.heap k lower_native (λ n. refl) b.distinct;
    counts = IsCounted-lower owned d.heap k b.counts;
    queue = at-each (λ j. times j d.queue ≡ waiting (native_at (lower d.heap k) j)) k
        (waiting-before (suc (suc c)) z ∙ sym (waiting-lower (suc c) z))
        (λ j o. b.queue j ∙ ap waiting (sym (native_at-lower_other d.heap k j o)));
    buffer = at-each (λ j. places j (with_mark true k d.heap.buffer) ≤ living (native_at (lower d.heap k) j)) k
        (omega (arith, living-lower (suc c) z, places-with_mark_same true k d.heap.buffer few))
        (λ j o. omega (arith, b.buffer j, places-with_mark_other true k j d.heap.buffer o, ap living (native_at-lower_other d.heap k j o)));
  }
    where
      few : places k d.heap.buffer ≤ 1
      few = omega (arith, b.buffer k, living-one (native_at d.heap k))

  -- where it falls to zero the native waits
  IsBalanced-queued : n.count ≡ 1 → IsBalanced owned (queued d k)
  IsBalanced-queued z = record {
    distinct = HasDistinctNumbers-change d.heap k lower_native (λ n. refl) b.distinct;
    counts = IsCounted-lower owned d.heap k b.counts;
    queue = at-each (λ j. times j (d.queue ++ k ∷ []) ≡ waiting (native_at (lower d.heap k) j)) k
        (omega (arith, times-append k d.queue (k ∷ []), times-cons_same k [], waiting-before 1 z, waiting-lower 0 z))
        (λ j o. omega (
          arith,
          times-append j d.queue (k ∷ []),
          times-cons_other j k [] (λ q. o (sym q)),
          b.queue j,
          ap waiting (native_at-lower_other d.heap k j o),
        ));
    buffer = at-each (λ j. places j (forget (lower d.heap k) k).buffer ≤ living (native_at (lower d.heap k) j)) k
        (omega (arith, places-forget_same k d.heap.buffer))
        (λ j o. omega (arith, b.buffer j, places-forget_other k j d.heap.buffer o, ap living (native_at-lower_other d.heap k j o)));
  }

  -- by the count before, which is not zero
  IsBalanced-fallen : (c : ℕ) → n.count ≡ c → IsBalanced owned (fallen d k c)
  IsBalanced-fallen zero z =
      let none : count_at d.heap k ≡ 0 = ap count_of e ∙ z in
      absurd (omega (arith, b.counts k, times-cons_same k owned))
  IsBalanced-fallen (suc zero) z = IsBalanced-queued z
  IsBalanced-fallen (suc (suc c)) z = IsBalanced-lowered c z

-- A reference in hand, given up, is in hand no more, and the balance holds.
pub IsBalanced-give_up : (owned : List ℕ) (d : Draining) (k : ℕ) → IsBalanced (k ∷ owned) d → IsBalanced owned (give_up d k)
IsBalanced-give_up owned d k b =
    let f = count_at-found d.heap k (omega (arith, b.counts k, times-cons_same k owned)) in
    subst (λ o. IsBalanced owned (given_up d k o)) (sym f.1) (IsBalanced-fallen owned d k b f.0 f.1 f.0.count refl)

-- So for several.
pub IsBalanced-give_up_each : (owned : List ℕ) (d : Draining) (js : List ℕ) → IsBalanced (js ++ owned) d → IsBalanced owned (give_up_each d js)
IsBalanced-give_up_each owned d [] b = b
IsBalanced-give_up_each owned d (j ∷ js) b = IsBalanced-give_up_each owned (give_up d j) js (IsBalanced-give_up (js ++ owned) d j b)
