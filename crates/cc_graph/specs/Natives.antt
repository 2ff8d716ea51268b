-- THE NATIVES AMONG NODES, by rising number.
use Rattle.std.specs.Prelude.{◌≡◌, ℕ, ◌≤◌, Option, None, option_map}
pub use Rattle.cc_pages.specs.Values.{IsFirst, behind}
use Rattle.cc_names.specs.declared.name.Name.{Name}
use Rattle.cc_names.specs.declared.number.NativeNo.{NativeNo}
use Rattle.cc_names.specs.Names.{native}

-- the first number of those behind a native's; behind none it is the first of all
abbrev pub from_behind : Option NativeNo → ℕ
from_behind after = behind (option_map (λ k. k.0) after)

-- of the natives whose names have a number this one is the next behind another, with its number
abbrev pub IsNext : (Name → Option ℕ) → Option NativeNo → ℕ → ℕ → Type 0
IsNext number_of after k number = IsFirst (λ j. number_of (native j)) (from_behind after) k number

-- there is none
abbrev pub IsLast : (Name → Option ℕ) → Option NativeNo → Type 0
IsLast number_of after = (j : ℕ) → from_behind after ≤ j → number_of (native j) ≡ None
