-- A NATIVE THAT HAS A REFLECTOR is wrapped: none comes, and none is wanted.
use Rattle.std.proofs.Common.{◌≡◌, Bool, true, false, refl, Option, Some, None, Result, Ok, Err, IfOk, OnErr, sym, subst, inl, ⊎_elim}
use Rattle.cc_lists.specs.Members.{Among}
use Rattle.cc_lists.proofs.Members.{Among-right}
use Rattle.cc_names.specs.declared.name.Name.{Name}
use Rattle.cc_names.specs.declared.name.Name.TheVariants as name
use Rattle.cc_names.specs.Names.{number_of, reflector}
use Rattle.cc_model.specs.Checks.{reflector_of}
use Rattle.cc_model.specs.Heap.{Heap, has_reflector}
use Rattle.cc_model.specs.WellFormed.{native_names, script_names, names_there}
use Rattle.cc_laws_heap.proofs.Face.{has_reflector-there}
use Rattle.cc_host.specs.Calls.{Comes, NoneComes}
use Rattle.cc_host.specs.Hosted.{Hosted, named}
use Rattle.cc_host.specs.Reading.{reflector_in}
use Rattle.cc_host.specs.declared.object.Object.{Object}
use Rattle.cc_host.specs.declared.stop.Stop.{Stop}

-- the name of its reflector is there
there : (h : Heap) (x : Name) (y : Name) → has_reflector h (number_of x) ≡ true → Some y ≡ reflector_of (Some x) → Among y (names_there h)
there h (name.Native k) y has is =
    subst (λ z. Among z (names_there h)) (sym (the is)) (Among-right (reflector k.0) (native_names h) (script_names h) (has_reflector-there h k.0 has))
  where
    the : Some y ≡ Some (reflector k.0) → y ≡ reflector k.0
    the e = cc
there h (name.Script k) y has is = absurd (cc)
there h (name.Reflector k) y has is = absurd (cc)

-- so none comes
pub none-came : (h k : Hosted) (x : Name) (r : Result Object Stop) → has_reflector h.heaps.heap (number_of x) ≡ true → IfOk r (λ y. Some y.name ≡ reflector_of (Some x)) →
    IfOk r (λ y. Comes y.name h k) → OnErr r (NoneComes h k) → NoneComes h k
none-came h k x (Ok y) has is came none = λ z m. ⊎_elim (λ l. l) (λ e. subst (λ w. Among w (names_there h.heaps.heap)) (sym e) (there h.heaps.heap x y.name has is)) (came z m)
none-came h k x (Err s) has is came none = none

-- where none comes, none but the one that is answered does
pub none-but : (h k : Hosted) (r : Result Object Stop) → NoneComes h k → IfOk r (λ y. Comes y.name h k)
none-but h k (Ok y) none = λ z m. inl (none z m)
none-but h k (Err s) none = tt

-- where a reflector is answered there is one, and where none is there is none
pub has-answered : (h : Heap) (x : Name) (o : Option Object) → named o ≡ reflector_in h x → (y : Object) → o ≡ Some y → has_reflector h (number_of x) ≡ true
has-answered h x o is y e = go (has_reflector h (number_of x)) is
  where
    some-named : (o : Option Object) (y : Object) → o ≡ Some y → named o ≡ None → ⊥
    some-named o y e f = cc

    go : (b : Bool) → named o ≡ elim b [ true ↦ Some (reflector (number_of x)) | false ↦ None ] → b ≡ true
    go true f = refl
    go false f = absurd (some-named o y e f)
