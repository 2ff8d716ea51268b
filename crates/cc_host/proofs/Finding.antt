-- WHAT STANDS AT A KEY IS FOUND there, by its key and name.
use Rattle.std.proofs.Common.{◌≡◌, Some, refl, sym, subst, inl}
use Rattle.std.specs.Option.{option_to_list}
use Rattle.cc_lists.specs.Members.{Among}
use Rattle.cc_names.specs.declared.name.Name.{Name}
use Rattle.cc_names.specs.declared.name.Name.TheVariants as name
use Rattle.cc_model.specs.WellFormed.{script_names}
use Rattle.cc_laws_heap.proofs.Face.{native-no_script}
use Rattle.cc_script.specs.Objects.{name_at}
use Rattle.cc_heaps.proofs.Keys.{name-in}
use Rattle.cc_host.specs.declared.object.Object.{Object}
use Rattle.cc_host.specs.Hosted.{Hosted, IsKept, name_found}

-- a script object, whose name is that of no native
pub script-found : (h : Hosted) → IsKept h → (x : Object) → name_at h.heaps.scripts x.key ≡ Some x.name → name_found h x ≡ Some x.name
script-found h kept x e = go x.name there e
  where
    there : Among x.name (script_names h.heaps.heap)
    there = name-in h.heaps.heap h.heaps.scripts kept.runs.order.named x.key x.name (subst (λ o. Among x.name (option_to_list o)) (sym e) (inl refl))

    go : (y : Name) → Among y (script_names h.heaps.heap) → name_at h.heaps.scripts x.key ≡ Some y → name_found h (record x { name = y }) ≡ Some y
    go (name.Native k) m f = absurd (native-no_script h.heaps.heap k.0 kept.runs.order.sound.well_formed m)
    go (name.Script k) m f = f
    go (name.Reflector k) m f = f
