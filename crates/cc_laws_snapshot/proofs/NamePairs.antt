-- Names and pairs of names told apart.
use Rattle.std.proofs.Common.{arith, ◌≡◌, ◌∙◌, true, sym, ap, inl, inr, ◌⊎◌, ⊎_elim}
use Rattle.std.proofs.lemmas.Bool.{cases_Bool, and_parts, and_from, true≢false}
use Rattle.cc_names.specs.declared.name.Name.{Name}
use Rattle.cc_names.specs.Names.{same_name, is_native, is_script}
use Rattle.cc_names.proofs.NameTests.{same_name-true, same_name-refl, same_name-exact}
use Rattle.cc_model.specs.View.{between}

-- names are the same or not
pub name_cases : (x y : Name) → (x ≡ y) ⊎ (¬ (x ≡ y))
name_cases x y = ⊎_elim (λ e. inl (same_name-true x y e)) (λ e. inr (λ k. true≢false (sym ((same_name-exact x y).1 k) ∙ e))) (cases_Bool (same_name x y))

-- a script object is no native
pub native-no_script : (x : Name) → is_native x ≡ true → is_script x ≡ true → ⊥
native-no_script x e f = grind arith

-- two names as a pair
abbrev pair_of : Name → Name → Name × Name
pair_of x y = (x, y)

-- pairs of the same names are the same
pair-same : (r : Name × Name) (x y : Name) → r.0 ≡ x → r.1 ≡ y → r ≡ (x, y)
pair-same r x y a b = ap (λ z. pair_of z r.1) a ∙ ap (λ z. pair_of x z) b

-- the test of a reference from x to y tells this reference
pub between-true : (x y : Name) (r : Name × Name) → between x y r ≡ true → r ≡ (x, y)
between-true x y r e = grind (arith, and_parts, pair-same, same_name-true)

-- and this reference passes it
pub between-refl : (x y : Name) → between x y (x, y) ≡ true
between-refl x y = and_from (same_name y y) (same_name x x) (same_name-refl y) (same_name-refl x)
