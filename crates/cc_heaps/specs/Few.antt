-- HOW GREAT A COUNT MAY BE.
use Rattle.std.specs.Prelude.{◌≡◌, ℕ, ◌+◌, ◌≤◌, List, length}
use Rattle.cc_lists.specs.Members.{Among}
use Rattle.cc_names.specs.Sizes.{most_references}
use Rattle.cc_model.specs.Heap.{Heap, HeapNative}
use Rattle.cc_model.specs.Counts.{times}
use Rattle.cc_heaps.specs.Keyed.{Keyed, IsInOrder}

-- no count is greater than all references there can be, and one that is owned
abbrev pub AreFew : Heap → Type 0
AreFew h = (n : HeapNative) → Among n h.natives → n.count ≤ most_references (length h.native_registers) + 1

-- a native is not among those that are owned
abbrev pub IsNotOwned : ℕ → List ℕ → Type 0
IsNotOwned k owned = times k owned ≡ 0

-- no native is owned twice
abbrev pub AreOwnedOnce : List ℕ → Type 0
AreOwnedOnce owned = (k : ℕ) → times k owned ≤ 1

-- counts are few where no native is owned twice
abbrev pub AreFewIfOwnedOnce : Keyed → Type 0
AreFewIfOwnedOnce v = (owned : List ℕ) → IsInOrder owned v → AreOwnedOnce owned → AreFew v.heap
