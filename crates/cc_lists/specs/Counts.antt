-- How often something stands in a list, counted by a key.
use Rattle.std.specs.Prelude.{ℕ, ◌≤◌, Bool, ◌&&◌, List, count_by}
use Rattle.cc_lists.specs.Members.{IsEqualityTest}

-- it passes, and its key is v
abbrev pub keyed : {A Y : Type 0} → (Y → Y → Bool) → (A → Bool) → (A → Y) → Y → A → Bool
keyed same p key v a = p a && same (key a) v

-- How two lists are counted: what counts in each, and the key that it is counted under.
pub record Counting (A B Y : Type 0) : Type 0 where
  pub same : Y → Y → Bool
  pub exact : IsEqualityTest same
  pub first_counts : A → Bool
  pub first_key : A → Y
  pub second_counts : B → Bool
  pub second_key : B → Y

-- how often each list has the key v
abbrev pub first_has : {A B Y : Type 0} → Counting A B Y → List A → Y → ℕ
first_has c xs v = count_by (keyed c.same c.first_counts c.first_key v) xs

abbrev pub second_has : {A B Y : Type 0} → Counting A B Y → List B → Y → ℕ
second_has c ys v = count_by (keyed c.same c.second_counts c.second_key v) ys

-- each key is at most as often in the first list as in the second
abbrev pub IsNowhereMoreOften : {A B Y : Type 0} → Counting A B Y → List A → List B → Type 0
IsNowhereMoreOften {A} {B} {Y} c xs ys = (v : Y) → first_has c xs v ≤ second_has c ys v

-- so many are counted in each list
abbrev pub first_count : {A B Y : Type 0} → Counting A B Y → List A → ℕ
first_count c xs = count_by c.first_counts xs

abbrev pub second_count : {A B Y : Type 0} → Counting A B Y → List B → ℕ
second_count c ys = count_by c.second_counts ys
