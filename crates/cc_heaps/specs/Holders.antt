-- THE NATIVES THAT HOLD A GRAY SCRIPT OBJECT, one after another, by rising number.
use Rattle.std.specs.Prelude.{ℕ, List, map, filter, Option}
pub use Rattle.cc_lists.specs.Walks.{first_of, is_above}
use Rattle.cc_model.specs.Heap.{Heap, HeapNative}
use Rattle.cc_model.specs.Units.{holds_gray}

-- the numbers of natives
abbrev pub native_numbers : List HeapNative → List ℕ
native_numbers ns = map (λ n. n.number) ns

-- the numbers of the holders
abbrev pub holder_numbers : Heap → List ℕ
holder_numbers h = native_numbers (filter (holds_gray h) h.natives)

-- the holder with the least number above
abbrev pub holder_after : Heap → Option ℕ → Option ℕ
holder_after h at = first_of (filter (is_above at) (holder_numbers h))
