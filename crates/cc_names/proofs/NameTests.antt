-- Names are told apart by kind and number.
use Rattle.std.specs.Prelude.{IsTrue, ◌↔◌}
use Rattle.std.proofs.Common.{◌≡◌, true, refl, ap, subst}
use Rattle.std.proofs.lemmas.Bool.{false≢true, eqb-true, eq-eqb}
use Rattle.cc_names.specs.declared.name.Name.{Name}
use Rattle.cc_names.specs.declared.name.Name.TheVariants.{Native, Script, Reflector}
use Rattle.cc_names.specs.Names.{native, object, reflector, same_name}

pub same_name-true : (x y : Name) → same_name x y ≡ true → x ≡ y
same_name-true (Native i) (Native j) e = ap native (eqb-true i.0 j.0 e)
same_name-true (Script i) (Script j) e = ap object (eqb-true i.0 j.0 e)
same_name-true (Reflector i) (Reflector j) e = ap reflector (eqb-true i.0 j.0 e)
same_name-true (Native i) (Script j) e = absurd (false≢true e)
same_name-true (Native i) (Reflector j) e = absurd (false≢true e)
same_name-true (Script i) (Native j) e = absurd (false≢true e)
same_name-true (Script i) (Reflector j) e = absurd (false≢true e)
same_name-true (Reflector i) (Native j) e = absurd (false≢true e)
same_name-true (Reflector i) (Script j) e = absurd (false≢true e)

pub same_name-refl : (x : Name) → same_name x x ≡ true
same_name-refl (Native i) = eq-eqb i.0 i.0 refl
same_name-refl (Script i) = eq-eqb i.0 i.0 refl
same_name-refl (Reflector i) = eq-eqb i.0 i.0 refl

pub same_name-exact : (x y : Name) → IsTrue (same_name x y) ↔ (x ≡ y)
same_name-exact x y = (same_name-true x y, λ e. subst (λ z. same_name x z ≡ true) e (same_name-refl x))
