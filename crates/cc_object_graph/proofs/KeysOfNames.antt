-- Keys tell script objects apart.
use Rattle.std.proofs.Common.{◌≡◌, ℕ, ◌+◌, ◌*◌, ◌/◌, ◌%◌, ◌==◌, Bool, true, false, not, refl, sym, ap, ◌∙◌, arith}
use Rattle.std.specs.Prelude.{if◌then◌else◌}
use Rattle.std.proofs.lemmas.Bool.{eqb-true, eq-eqb}
use Rattle.std.proofs.lemmas.Bool.Decides.{nat_tests, same_from_decides}
use Rattle.cc_names.specs.Names.{object, reflector, same_name, is_reflector, number_of}
use Rattle.cc_names.proofs.NameTests.{same_name-exact}
use Rattle.cc_object_graph.specs.Keys.{object_of}

by_kind : (b : Bool) (i : ℕ) → number_of (if b then object i else reflector i) ≡ i
by_kind true i = refl
by_kind false i = refl

kind_by : (b : Bool) (i : ℕ) → is_reflector (if b then object i else reflector i) ≡ not b
kind_by true i = refl
kind_by false i = refl

number_of-object_of : (k : ℕ) → number_of (object_of k) ≡ k / 2
number_of-object_of k = by_kind (k % 2 == 0) (k / 2)

is_reflector-object_of : (k : ℕ) → is_reflector (object_of k) ≡ not (k % 2 == 0)
is_reflector-object_of k = kind_by (k % 2 == 0) (k / 2)

halves : (i j : ℕ) → i / 2 ≡ j / 2 → not (i % 2 == 0) ≡ not (j % 2 == 0) → i ≡ j
halves i j h p = grind (arith, nat_tests)

pub object_of-injective : (i j : ℕ) → object_of i ≡ object_of j → i ≡ j
object_of-injective i j e = halves i j
    (sym (number_of-object_of i) ∙ ap number_of e ∙ number_of-object_of j)
    (sym (is_reflector-object_of i) ∙ ap is_reflector e ∙ is_reflector-object_of j)

pub same_name-object_of : (i j : ℕ) → same_name (object_of i) (object_of j) ≡ (i == j)
same_name-object_of i j = same_from_decides (same_name (object_of i) (object_of j)) (i == j)
    (λ t. object_of-injective i j ((same_name-exact (object_of i) (object_of j)).0 t), λ e. (same_name-exact (object_of i) (object_of j)).1 (ap object_of e))
    (eqb-true i j, eq-eqb i j)

-- the objects of even keys and of odd ones
pub object_of-even : (k : ℕ) → object_of (2 * k) ≡ object k
object_of-even k =
    let rest : (2 * k) % 2 ≡ 0 = omega arith in
    let half : (2 * k) / 2 ≡ k = omega arith in
    rw (rest, half) refl

pub object_of-odd : (k : ℕ) → object_of (2 * k + 1) ≡ reflector k
object_of-odd k =
    let rest : (2 * k + 1) % 2 ≡ 1 = omega arith in
    let half : (2 * k + 1) / 2 ≡ k = omega arith in
    rw (rest, half) refl
