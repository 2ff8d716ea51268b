-- NUMBERS OF 32 BITS have the values that stand in their pages.
use Rattle.std.proofs.Common.{◌≡◌, ◌≢◌, ℕ, ◌<◌, ◌==◌, Bool, true, false, nat_lt, Option, None, if◌then◌else◌, refl, sym, ◌∙◌, ap, ⊎_elim, arith}
use Rattle.std.proofs.lemmas.Bool.{lt-ltb, ltb-true}
use Rattle.std.proofs.lemmas.Bool.Decides.{eqb_tells}
use Rattle.cc_pages.specs.declared.pages.Pages.{Pages}
use Rattle.cc_pages.specs.Values.{IsFirst, in_groups, value_at}

value-by : (ps : Pages) (n : ℕ) (b : Bool) → nat_lt n 4294967296 ≡ b → value_at ps n ≡ elim b [ true ↦ in_groups ps.groups.items n | false ↦ None ]
unfolding value_at
value-by ps n b e = ap (λ t. elim t [ true ↦ in_groups ps.groups.items n | false ↦ None ]) e

pub value-within : (ps : Pages) (n : ℕ) → n < 4294967296 → value_at ps n ≡ in_groups ps.groups.items n
value-within ps n small = value-by ps n true (lt-ltb n 4294967296 small)

-- what has none in the pages has none
pub value-none : (ps : Pages) (n : ℕ) → (n < 4294967296 → in_groups ps.groups.items n ≡ None) → value_at ps n ≡ None
value-none ps n none = go (nat_lt n 4294967296) refl
  where
    go : (b : Bool) → nat_lt n 4294967296 ≡ b → value_at ps n ≡ None
    go true e = value-by ps n true e ∙ none (ltb-true n 4294967296 e)
    go false e = value-by ps n false e

-- the values of pages that say the same
pub values-same : (ps qs : Pages) (n : ℕ) → in_groups qs.groups.items n ≡ in_groups ps.groups.items n → value_at qs n ≡ value_at ps n
values-same ps qs n same = go (nat_lt n 4294967296) refl
  where
    go : (b : Bool) → nat_lt n 4294967296 ≡ b → value_at qs n ≡ value_at ps n
    go true e = value-by qs n true e ∙ (same ∙ sym (value-by ps n true e))
    go false e = value-by qs n false e ∙ sym (value-by ps n false e)

-- and where one number's value is another, or none any more
pub values-changed : (ps qs : Pages) (m : ℕ) (o : Option ℕ) → m < 4294967296 → in_groups qs.groups.items m ≡ o →
    ((n : ℕ) → n ≢ m → in_groups qs.groups.items n ≡ in_groups ps.groups.items n) → (n : ℕ) → value_at qs n ≡ (if m == n then o else value_at ps n)
values-changed ps qs m o small here others n = ⊎_elim
    (λ t. ap (value_at qs) (sym t.1) ∙ (value-within qs m small ∙ (here ∙ sym (rw t.0 refl))))
    (λ f. let other : n ≢ m = λ e. f.1 (sym e) in values-same ps qs n (others n other) ∙ sym (rw f.0 refl))
    (eqb_tells m n)

-- the first in the pages is the first
pub first-within : (ps : Pages) (start n value : ℕ) → n < 4294967296 → IsFirst (in_groups ps.groups.items) start n value → IsFirst (value_at ps) start n value
first-within ps start n value small h = record {
  from = h.from;
  there = value-within ps n small ∙ h.there;
  before = λ j from until. let below : j < 4294967296 = omega arith in value-within ps j below ∙ h.before j from until;
}
