-- THE BALANCE BETWEEN TWO STEPS OF A CASCADE: each count is that of the references in the heaps' lists and of those in
-- hand, the natives with count zero are those that wait, each once, and none of them stands in the buffer.
use Rattle.std.specs.Prelude.{◌≡◌, ℕ, zero, suc, ◌+◌, ◌≤◌, ◌==◌, Bool, List, count_by, Option, Some, None}
use Rattle.cc_model.specs.Heap.{Heap, HeapNative, Buffered, native_at}
use Rattle.cc_model.specs.Cascade.{Draining, at_rest}
use Rattle.cc_model.specs.Counts.{refs_to, times}

-- whether a native has the number k
abbrev pub has_number : ℕ → HeapNative → Bool
has_number k n = n.number == k

-- no two natives have one number
abbrev pub HasDistinctNumbers : Heap → Type 0
HasDistinctNumbers h = (k : ℕ) → count_by (has_number k) h.natives ≤ 1

-- the count of what was found; none is zero
abbrev pub count_of : Option HeapNative → ℕ
count_of None = 0
count_of (Some n) = n.count

-- the count that a number has
abbrev pub count_at : Heap → ℕ → ℕ
count_at h k = count_of (native_at h k)

-- each number has the count of its references, in the lists and owned
abbrev pub IsCounted : List ℕ → Heap → Type 0
IsCounted owned h = (k : ℕ) → count_at h k ≡ refs_to h k + times k owned

-- one where a native was found whose count is zero
abbrev pub one_at_zero : ℕ → ℕ
one_at_zero zero = 1
one_at_zero (suc c) = 0

-- how often what was found should wait
abbrev pub waiting : Option HeapNative → ℕ
waiting None = 0
waiting (Some n) = one_at_zero n.count

-- one where a native was found whose count is above zero
abbrev pub one_above_zero : ℕ → ℕ
one_above_zero zero = 0
one_above_zero (suc c) = 1

-- how often it may stand in the buffer
abbrev pub living : Option HeapNative → ℕ
living None = 0
living (Some n) = one_above_zero n.count

-- whether a place of the buffer is that of native k
abbrev pub has_place : ℕ → Buffered → Bool
has_place k b = b.number == k

-- how often native k stands in the buffer
abbrev pub places : ℕ → List Buffered → ℕ
places k bs = count_by (has_place k) bs

-- THE BALANCE with the references `owned` in hand
pub record IsBalanced (owned : List ℕ) (d : Draining) : Type 0 where
  pub distinct : HasDistinctNumbers d.heap
  pub counts : IsCounted owned d.heap
  pub queue : (k : ℕ) → times k d.queue ≡ waiting (native_at d.heap k)
  pub buffer : (k : ℕ) → places k d.heap.buffer ≤ living (native_at d.heap k)

-- heaps at rest in which each count is that of the references, and no native waits
abbrev pub IsSteady : List ℕ → Heap → Type 0
IsSteady owned h = IsBalanced owned (at_rest h)
