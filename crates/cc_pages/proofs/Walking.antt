-- A WALK over the numbers that have a value.
use Rattle.std.specs.Prelude.{Vec, slice_get}
use Rattle.std.proofs.Common.{◌≡◌, ℕ, ◌+◌, ◌*◌, ◌/◌, ◌%◌, ◌<◌, ◌≤◌, List, Option, None, option_and_then, ◌∙◌, ap, arith}
use Rattle.cc_pages.specs.Values.{IsFirst, in_group, in_groups, within_group}

-- no number from one up to another has a value
abbrev pub AreNone : (ℕ → Option ℕ) → ℕ → ℕ → Type 0
AreNone value_of start end = (n : ℕ) → start ≤ n → n < end → value_of n ≡ None

pub in-its-group : {X Y : Type 0} (gs : List (Vec (Vec (Option ℕ) X) Y)) (n : ℕ) → in_groups gs n ≡ within_group gs (n / 8192) (n % 8192)
in-its-group {X = X} {Y = Y} gs n =
    let group : n / 128 / 64 ≡ n / 8192 = omega arith in
    let page : n / 128 % 64 ≡ n % 8192 / 128 = omega arith in
    let place : n % 128 ≡ n % 8192 % 128 = omega arith in
    ap (λ k. option_and_then (λ (g : Vec (Vec (Option ℕ) X) Y). in_group g.items (n / 128 % 64) (n % 128)) (slice_get gs k)) group
    ∙ (ap (λ k. option_and_then (λ (g : Vec (Vec (Option ℕ) X) Y). in_group g.items k (n % 128)) (slice_get gs (n / 8192))) page
    ∙ ap (λ k. option_and_then (λ (g : Vec (Vec (Option ℕ) X) Y). in_group g.items (n % 8192 / 128) k) (slice_get gs (n / 8192))) place)

within : {X Y : Type 0} (gs : List (Vec (Vec (Option ℕ) X) Y)) (n k : ℕ) → n / 8192 ≡ k → in_groups gs n ≡ within_group gs k (n % 8192)
within gs n k e = in-its-group gs n ∙ ap (λ g. within_group gs g (n % 8192)) e

pub first-within-group : {X Y : Type 0} (gs : List (Vec (Vec (Option ℕ) X) Y)) (n m value : ℕ) → m < 8192 → IsFirst (within_group gs (n / 8192)) (n % 8192) m value →
    IsFirst (in_groups gs) n (n / 8192 * 8192 + m) value
first-within-group gs n m value small h =
    let group : (n / 8192 * 8192 + m) / 8192 ≡ n / 8192 = omega (arith, small) in
    let number : (n / 8192 * 8192 + m) % 8192 ≡ m = omega (arith, small) in
    record {
      from = omega (arith, h.from);
      there = within gs (n / 8192 * 8192 + m) (n / 8192) group ∙ (ap (within_group gs (n / 8192)) number ∙ h.there);
      before = λ j after until.
          let here : j / 8192 ≡ n / 8192 = omega (arith, after, until, small) in
          let low : n % 8192 ≤ j % 8192 = omega (arith, after, here) in
          let high : j % 8192 < m = omega (arith, until, here) in
          within gs j (n / 8192) here ∙ h.before (j % 8192) low high;
    }

pub none-within-group : {X Y : Type 0} (gs : List (Vec (Vec (Option ℕ) X) Y)) (n : ℕ) → ((m : ℕ) → n % 8192 ≤ m → m < 8192 → within_group gs (n / 8192) m ≡ None) →
    (j : ℕ) → n ≤ j → j / 8192 ≡ n / 8192 → in_groups gs j ≡ None
none-within-group gs n none j after here =
    let low : n % 8192 ≤ j % 8192 = omega (arith, after, here) in
    let high : j % 8192 < 8192 = omega arith in
    within gs j (n / 8192) here ∙ none (j % 8192) low high
