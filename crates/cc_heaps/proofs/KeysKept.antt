-- KEYS THAT ARE KEPT where the heaps changed under the same keys, and where some natives are no more.
use Rattle.std.proofs.Common.{arith, ◌≡◌, true, Option, Some, None, refl, sym, ◌∙◌, ap, subst}
use Rattle.std.proofs.Math.ListN.{get_or-map}
use Rattle.cc_lists.specs.Members.{Among}
use Rattle.cc_names.specs.declared.name.Name.{Name}
use Rattle.cc_names.specs.declared.name.Name.TheVariants as name
use Rattle.cc_names.specs.Names.{native}
use Rattle.cc_model.specs.Heap.{Heap, preserve}
use Rattle.cc_model.specs.WellFormed.{native_names, script_names}
use Rattle.cc_laws_heap.proofs.Face.{native_names-change}
use Rattle.cc_counted.specs.Counts.{key_left}
use Rattle.cc_heaps.specs.Keyed.{Keyed, changed_to, left_with}
use Rattle.cc_heaps.specs.Changes.{KeepsKeys}
use Rattle.cc_heaps.proofs.LeftWith.{key_left-there}
use Rattle.cc_heaps.proofs.StandingStill.{Front, TakesFront}

-- nothing changed
pub KeepsKeys-same : (v : Keyed) → KeepsKeys v v
KeepsKeys-same v = record { natives = λ key k at there. at; scripts = λ key x at there. at }

-- the same natives and the same script objects
pub KeepsKeys-changed : (v w : Keyed) (h : Heap) → w ≡ changed_to v h → KeepsKeys v w
KeepsKeys-changed v w h e = subst (KeepsKeys v) (sym e) (record { natives = λ key k at there. at; scripts = λ key x at there. at })

-- the same as before that
pub KeepsKeys-preserved : (v mid w : Keyed) (x : Option Name) → KeepsKeys v mid → w ≡ changed_to mid (preserve mid.heap x) → KeepsKeys v w
KeepsKeys-preserved v mid w x k e = subst (KeepsKeys v) (sym e) (record {
  natives = λ key n at there. k.natives key n at (subst (Among (native n)) (names mid.heap x) there);
  scripts = λ key y at there. k.scripts key y at (subst (Among y) (objects mid.heap x) there);
})
  where
    names : (h : Heap) (y : Option Name) → native_names (preserve h y) ≡ native_names h
    names h None = refl
    names h (Some (name.Native j)) = refl
    names h (Some (name.Script j)) = refl
    names h (Some (name.Reflector j)) = native_names-change h j.0 (λ n. record n { preserved = true }) (λ n. refl)

    objects : (h : Heap) (y : Option Name) → script_names (preserve h y) ≡ script_names h
    objects h None = refl
    objects h (Some (name.Native j)) = refl
    objects h (Some (name.Script j)) = refl
    objects h (Some (name.Reflector j)) = refl

-- some natives are no more
pub KeepsKeys-left : (v w : Keyed) (h : Heap) → w ≡ left_with v h → KeepsKeys v w
KeepsKeys-left v w h e = subst (KeepsKeys v) (sym e) (record {
  natives = λ key k at there. get_or-map (key_left h) v.keys key None ∙ (ap (key_left h) at ∙ key_left-there h k there);
  scripts = λ key x at there. at;
})

-- the front of the buffer was taken out, where there was one
pub KeepsKeys-front : (v w : Keyed) (o : Option Front) → TakesFront v w o → KeepsKeys v w
KeepsKeys-front v w o t = grind (arith, KeepsKeys-same, KeepsKeys-changed)
