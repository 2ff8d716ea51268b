-- A cascade ends: each native that is freed leaves less to do, and nothing that it gives up makes more.
use Rattle.std.proofs.Common.{◌≡◌, ℕ, zero, suc, ◌+◌, ◌-◌, ◌<◌, ◌≤◌, Bool, true, false, not, List, [], ◌∷◌, length, Option, Some, None, refl, ap, arith, length-append, count_by, if◌then◌else◌, ◌==◌, nat_lt}
use Rattle.std.proofs.lemmas.Bool.{lt-ltb, ltb-true, le-ltb}
use Rattle.std.proofs.lemmas.List.Sums.{count_by-le-length}
use Rattle.cc_lists.specs.Members.{Among}
use Rattle.cc_lists.proofs.Counting.{count_by-map}
use Rattle.cc_model.specs.Heap.{Heap, HeapNative, native_at}
use Rattle.cc_model.specs.Cascade.{Draining, lower, fallen, given_up, give_up, give_up_each, without_native, natives_of_slots, told_free, free_front, drain, at_rest, drained}
use Rattle.cc_lists.proofs.Filtering.{find-among, find-passes, count_by-weaker, count_by-wider, count_by-filter-le}

-- whether the count of a native is above zero
abbrev pub is_counted : HeapNative → Bool
is_counted n = nat_lt 0 n.count

-- how many natives have a count above zero
abbrev pub counted_natives : Heap → ℕ
counted_natives h = count_by is_counted h.natives

-- how many natives a cascade can still free: those that wait, and those that could come to wait
abbrev pub pending : Draining → ℕ
pending d = length d.queue + counted_natives d.heap

-- a native with one reference less, where it has the number k
abbrev lower_native : ℕ → HeapNative → HeapNative
lower_native k n = if n.number == k then record n { count = n.count - 1 } else n

-- a native above zero after a reference was given up was above zero before
counted-lower_native : (k : ℕ) (n : HeapNative) → is_counted (lower_native k n) ≡ true → is_counted n ≡ true
counted-lower_native k n e = go (n.number == k) e
  where
    go : (b : Bool) → is_counted (if b then record n { count = n.count - 1 } else n) ≡ true → is_counted n ≡ true
    go true t = lt-ltb 0 n.count (omega (arith, ltb-true 0 (n.count - 1) t))
    go false t = t

-- giving up a reference raises no native above zero
counted-lower : (h : Heap) (k : ℕ) → counted_natives (lower h k) ≤ counted_natives h
counted-lower h k = rw (count_by-map is_counted (lower_native k) h.natives)
    (count_by-weaker (λ n. is_counted (lower_native k n)) is_counted h.natives (counted-lower_native k))

-- giving up the last reference to a native leaves fewer natives above zero
counted-lower_last : (h : Heap) (k : ℕ) (n : HeapNative) → Among n h.natives → (n.number == k) ≡ true → n.count ≡ 1 →
    counted_natives (lower h k) < counted_natives h
counted-lower_last h k n m e c = rw (count_by-map is_counted (lower_native k) h.natives)
    (count_by-wider (λ n. is_counted (lower_native k n)) is_counted h.natives n (counted-lower_native k) m off (lt-ltb 0 n.count (omega arith)))
  where
    off : is_counted (lower_native k n) ≡ false
    off = rw e (le-ltb 0 (n.count - 1) (omega arith))

-- giving up one reference makes no more to do
pub pending-give_up : (d : Draining) (k : ℕ) → pending (give_up d k) ≤ pending d
pending-give_up d k = go (native_at d.heap k) refl
  where
    fall : (n : HeapNative) → native_at d.heap k ≡ Some n → (c : ℕ) → n.count ≡ c → pending (fallen d k c) ≤ pending d
    fall n e zero z = omega arith
    fall n e (suc zero) z =
        let there : Among n d.heap.natives = find-among (λ n. n.number == k) d.heap.natives n e in
        let named : (n.number == k) ≡ true = find-passes (λ n. n.number == k) d.heap.natives n e in
        omega (arith, length-append d.queue (k ∷ []), counted-lower_last d.heap k n there named z)
    fall n e (suc (suc c)) z = omega (arith, counted-lower d.heap k)

    go : (o : Option HeapNative) → native_at d.heap k ≡ o → pending (given_up d k o) ≤ pending d
    go None e = omega arith
    go (Some n) e = fall n e n.count refl

-- giving up several references makes no more to do
pub pending-give_up_each : (d : Draining) (ks : List ℕ) → pending (give_up_each d ks) ≤ pending d
pending-give_up_each d [] = omega arith
pending-give_up_each d (k ∷ ks) = omega (arith, pending-give_up_each (give_up d k) ks, pending-give_up d k)

-- a native that leaves the heap makes no more to do
pub pending-without_native : (d : Draining) (k : ℕ) → pending (without_native d k) ≤ pending d
pending-without_native d k = omega (arith, count_by-filter-le is_counted (λ n. not (n.number == k)) d.heap.natives)

-- a native freed leaves one less to do
pub pending-free_front : (d : Draining) (k : ℕ) (ks : List ℕ) → d.queue ≡ k ∷ ks → pending (free_front d k ks) < pending d
pending-free_front d k ks e =
    let held : List ℕ = natives_of_slots (native_at d.heap k) in
    let long : length d.queue ≡ suc (length ks) = ap length e in
    omega (arith, pending-without_native (give_up_each (told_free d k ks) held) k, pending-give_up_each (told_free d k ks) held)

-- nothing to do is an empty queue
queue-at_rest : (d : Draining) → pending d ≤ 0 → d.queue ≡ []
queue-at_rest d small = go d.queue refl
  where
    go : (q : List ℕ) → d.queue ≡ q → d.queue ≡ []
    go [] e = e
    go (k ∷ ks) e = let long : length d.queue ≡ suc (length ks) = ap length e in absurd (omega arith)

-- a step and n more, by the queue
abbrev drain_by : ℕ → Draining → List ℕ → Draining
drain_by n d [] = d
drain_by n d (k ∷ ks) = drain n (free_front d k ks)

-- as many steps as there is to do leave no native waiting
pub drain-empties : (n : ℕ) (d : Draining) → pending d ≤ n → (drain n d).queue ≡ []
unfolding drain
drain-empties zero d small = queue-at_rest d small
drain-empties (suc n) d small = go (drain-empties n) d.queue refl
  where
    go : ((e : Draining) → pending e ≤ n → (drain n e).queue ≡ []) → (q : List ℕ) → d.queue ≡ q →
        (drain_by n d q).queue ≡ []
    go ih [] e = e
    go ih (k ∷ ks) e = ih (free_front d k ks) (omega (arith, pending-free_front d k ks e))

-- where no native waits, a drain changes nothing
pub drain-done : (n : ℕ) (d : Draining) → d.queue ≡ [] → drain n d ≡ d
unfolding drain
drain-done zero d e = refl
drain-done (suc n) d e = rw e refl

-- once one reference is given up, there is no more to do than there are natives
pub pending-drained : (h : Heap) (k : ℕ) → pending (give_up (at_rest h) k) ≤ length h.natives
pending-drained h k = omega (arith, pending-give_up (at_rest h) k, count_by-le-length is_counted h.natives)

-- A cascade leaves no native waiting.
pub drained-empties : (h : Heap) (k : ℕ) → (drained h k).queue ≡ []
unfolding drained
drained-empties h k = drain-empties (length h.natives) (give_up (at_rest h) k) (pending-drained h k)
