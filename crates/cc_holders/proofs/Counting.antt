-- HOW MANY ELEMENTS OF A LIST PASS A TEST, where one of them is written.
use Rattle.std.proofs.Common.{◌≡◌, ℕ, zero, suc, ◌+◌, ◌-◌, ◌<◌, ◌≤◌, Bool, true, false, cond, nat_lt, List, [], ◌∷◌, length, get_or, set, count_by, refl, ◌∙◌, ap, ⊎_elim, arith}
use Rattle.std.proofs.lemmas.Bool.{cases_lt}
use Rattle.std.proofs.lemmas.List.Sums.{sum_by-cons, sum_by-set}
use Rattle.cc_holders.specs.declared.entry.Entry.{Entry}
use Rattle.cc_holders.specs.declared.entry.Entry.TheVariants.{Unknown, Known}
use Rattle.cc_holders.specs.Entries.{AreUnknown, is_known, is_marked, one_if}

pub past : {X : Type 0} (xs : List X) (i : ℕ) (d : X) → length xs ≤ i → get_or xs i d ≡ d
past [] i d over = refl
past (x ∷ xs) zero d over = absurd (omega (arith, over))
past (x ∷ xs) (suc i) d over = past xs i d (omega (arith, over))

pub counted : {X : Type 0} (p : X → Bool) (xs : List X) (i : ℕ) (y d : X) → i < length xs → count_by p (set xs i y) + one_if (p (get_or xs i d)) ≡ count_by p xs + one_if (p y)
counted p xs i y d inside = sum_by-set (λ x. cond (p x) 1 0) xs i y d inside

-- the count as it is kept
pub count-written : {X : Type 0} (p : X → Bool) (xs : List X) (i : ℕ) (y old : X) (n a b : ℕ) → i < length xs → old ≡ get_or xs i old →
    n ≡ count_by p xs → a ≡ one_if (p y) → b ≡ one_if (p old) → n + a - b ≡ count_by p (set xs i y)
count-written p xs i y old n a b inside here e f g = let h = rw (← here) at (counted p xs i y old inside) in omega (arith, h, e, f, g)

-- where none passes, no element does
pub none-passes : {X : Type 0} (p : X → Bool) (xs : List X) (i : ℕ) (d : X) → p d ≡ false → count_by p xs ≡ 0 → p (get_or xs i d) ≡ false
none-passes p xs i d fails none = ⊎_elim
    (λ inside. go (p (get_or xs i d)) refl (counted p xs i d d inside))
    (λ over. ap p (past xs i d over) ∙ fails)
    (cases_lt i (length xs))
  where
    go : (b : Bool) → p (get_or xs i d) ≡ b → count_by p (set xs i d) + one_if (p (get_or xs i d)) ≡ count_by p xs + one_if (p d) → p (get_or xs i d) ≡ false
    go false e f = e
    go true e f = absurd (omega (arith, rw (e, fails, none) at f))

-- Known and marked numbers of a page

is_known-false : (e : Entry) → is_known e ≡ false → e ≡ Unknown
is_known-false Unknown h = refl
is_known-false (Known count key) h = absurd (cc)

pub are-unknown : (es : List Entry) → count_by is_known es ≡ 0 → AreUnknown es
are-unknown es none i = is_known-false (get_or es i Unknown) (none-passes is_known es i Unknown refl none)

pub none-known : (es : List Entry) → AreUnknown es → count_by is_known es ≡ 0
none-known [] unknown = refl
none-known (e ∷ es) unknown = sum_by-cons (λ x. cond (is_known x) 1 0) e es ∙ rw (unknown 0) (let more = none-known es (λ i. unknown (suc i)) in omega (arith, more))

-- what is marked is known
one-marked : (e : Entry) → cond (is_marked e) 1 0 ≤ cond (is_known e) 1 0
one-marked Unknown = omega arith
one-marked (Known count key) = go (nat_lt 0 count)
  where
    go : (b : Bool) → cond b 1 0 ≤ 1
    go true = omega arith
    go false = omega arith

pub marked-known : (es : List Entry) → count_by is_marked es ≤ count_by is_known es
marked-known [] = omega arith
marked-known (e ∷ es) = let one = one-marked e in let more = marked-known es in
    rw (sum_by-cons (λ x. cond (is_marked x) 1 0) e es, sum_by-cons (λ x. cond (is_known x) 1 0) e es) (omega arith)
