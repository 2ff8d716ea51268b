-- THE VALUES OF NUMBERS, in pages and in groups of pages.
use Rattle.std.specs.Prelude.{◌≡◌, ℕ, ◌+◌, ◌<◌, ◌≤◌, ◌/◌, ◌%◌, ◌⊎◌, nat_lt, true, false, List, [], get_or, slice_get, Vec, Option, Some, None, option_and_then}
use Rattle.cc_pages.specs.declared.pages.Pages.{Pages}

-- the value at a place of a page; none where none is, and past the end
abbrev pub in_page : {Z : Type 0} → Vec (Option ℕ) Z → ℕ → Option ℕ
in_page p i = get_or p.items i None

-- the value at a place of a page, by the page's place in a group
abbrev pub in_group : {Z : Type 0} → List (Vec (Option ℕ) Z) → ℕ → ℕ → Option ℕ
in_group {Z} ps k i = option_and_then (λ (p : Vec (Option ℕ) Z). in_page p i) (slice_get ps k)

-- by its number within the group
abbrev pub at_number : {Z : Type 0} → List (Vec (Option ℕ) Z) → ℕ → Option ℕ
at_number ps m = in_group ps (m / 128) (m % 128)

-- the same of the group at a place of the list of groups
abbrev pub within_group : {X Y : Type 0} → List (Vec (Vec (Option ℕ) X) Y) → ℕ → ℕ → Option ℕ
within_group {X} {Y} gs k m = option_and_then (λ (g : Vec (Vec (Option ℕ) X) Y). at_number g.items m) (slice_get gs k)

-- and by the page's number
abbrev pub in_page_of : {X Y : Type 0} → List (Vec (Vec (Option ℕ) X) Y) → ℕ → ℕ → Option ℕ
in_page_of {X} {Y} gs q i = option_and_then (λ (g : Vec (Vec (Option ℕ) X) Y). in_group g.items (q % 64) i) (slice_get gs (q / 64))

-- the value of a number, whose page is that of 128 numbers
abbrev pub in_groups : {X Y : Type 0} → List (Vec (Vec (Option ℕ) X) Y) → ℕ → Option ℕ
in_groups gs n = in_page_of gs (n / 128) (n % 128)

-- THE VALUE OF A NUMBER; none where it has none. Numbers have 32 bits: a greater one has no value.
unfoldable pub value_at : Pages → ℕ → Option ℕ
value_at ps n = elim (nat_lt n 4294967296) [ true ↦ in_groups ps.groups.items n | false ↦ None ]

-- the number behind one; the first of all where there is none
abbrev pub behind : Option ℕ → ℕ
behind None = 0
behind (Some k) = k + 1

-- the first number, from one on, that has a value, and its value
pub record IsFirst (value_of : ℕ → Option ℕ) (start n value : ℕ) : Type 0 where
  pub from : start ≤ n
  pub there : value_of n ≡ Some value
  pub before : (j : ℕ) → start ≤ j → j < n → value_of j ≡ None

-- at a place at which there was no list there is an empty one
pub record IsNewAt {X Z : Type 0} (old new : List (Vec X Z)) (k : ℕ) : Type 0 where
  pub list : Vec X Z
  pub vacant : slice_get old k ≡ None
  pub there : slice_get new k ≡ Some list
  pub empty : list.items ≡ []

-- the lists are as they were, but for empty ones where there were none
abbrev pub HasEmpty : {X Z : Type 0} → List (Vec X Z) → List (Vec X Z) → Type 0
HasEmpty old new = (k : ℕ) → (slice_get new k ≡ slice_get old k) ⊎ IsNewAt old new k
