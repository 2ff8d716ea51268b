-- WHAT THE GRAPH DOES NOT SEE: counts, the buffer, colours, and natives that a cascade takes out.
use Rattle.std.proofs.Common.{arith, ◌≡◌, ℕ, Bool, false, map, Option, Some, None, refl, sym, ◌∙◌, ap, subst, if◌then◌else◌}
use Rattle.cc_lists.specs.Members.{Among, has}
use Rattle.cc_lists.proofs.Members.{Among-map_cases, Among-filtered}
use Rattle.cc_names.specs.declared.name.Name.{Name}
use Rattle.cc_names.specs.declared.name.Name.TheVariants as name
use Rattle.cc_names.specs.Names.{object, reflector, same_name}
use Rattle.cc_model.specs.Heap.{Heap, HeapScript, touch, with_mark}
use Rattle.cc_model.specs.Cascade.{add_ref, take_up, let_go}
use Rattle.cc_model.specs.Exposure.{exposed, exposed_names, as_black}
use Rattle.cc_model.specs.Effects.{touched}
use Rattle.cc_model.specs.StandsFor.{shape_of_held_script}
use Rattle.cc_laws_heap.specs.Freeing.{uncounted, is_none_of}
use Rattle.cc_laws_heap.proofs.Natives.{uncounted-change}
use Rattle.cc_laws_heap.proofs.Beside.{SameBeside-with}
use Rattle.cc_laws_heap.proofs.Changing.{Leaves, Leaves-uncounted}
use Rattle.cc_laws_heap.proofs.CascadeTakesOut.{TakesOut-let_go}

-- heaps left as they are
pub Leaves-refl : (h : Heap) → Leaves h h
Leaves-refl h = search

-- a reference taken
pub Leaves-add_ref : (h : Heap) (k : ℕ) → Leaves h (add_ref h k)
Leaves-add_ref h k = grind (arith, Leaves-uncounted, uncounted-change, SameBeside-with)

-- a reference to what a register or a slot is to hold taken
pub Leaves-take_up : (h : Heap) (x : Option Name) → Leaves h (take_up h x)
Leaves-take_up h x = grind (arith, Leaves-add_ref, Leaves-refl)

-- a reference given up, with all that is freed
pub Leaves-let_go : (h : Heap) (x : Option Name) → Leaves h (let_go h x).heap
Leaves-let_go h x =
    let t = TakesOut-let_go h x in
    Leaves-uncounted h (let_go h x).heap (λ u i. Among-filtered (is_none_of t.0) u (map uncounted h.natives) (subst (Among u) t.1.natives i)) t.1.beside

-- an exposure
pub Leaves-exposed : (h : Heap) (x : Option Name) → Leaves h (exposed h x)
unfolding exposed
Leaves-exposed h None = Leaves-refl h
Leaves-exposed h (Some x) = record {
  beside = record { native_registers = refl; script_registers = refl; entries = refl; natives_made = refl; scripts_made = refl; limits = refl };
  objects = record {
    natives = λ n i. (n, i, refl, refl, refl);
    scripts = λ o i.
        let p = Among-map_cases (λ (o : HeapScript). if has same_name (exposed_names h x) o.name then as_black o else o) h.scripts o i in (
          p.0,
          p.1,
          sym (names p.0 (has same_name (exposed_names h x) p.0.name)) ∙ ap (λ (o : HeapScript). o.name) p.2,
          ap shape_of_held_script (sym p.2) ∙ shapes p.0 (has same_name (exposed_names h x) p.0.name),
        );
  };
}
  where
    names : (o : HeapScript) (b : Bool) → (if b then as_black o else o).name ≡ o.name
    names o b = grind arith

    shapes : (o : HeapScript) (b : Bool) → shape_of_held_script (if b then as_black o else o) ≡ shape_of_held_script o
    shapes o b = grind arith

-- what is taken out of a slot touched
pub Leaves-touched : (h : Heap) (x : Option Name) → Leaves h (touched h x)
Leaves-touched h None = Leaves-refl h
Leaves-touched h (Some (name.Native k)) = Leaves-uncounted h (touch h k.0) (λ u i. i) (SameBeside-with h h.natives (with_mark false k.0 h.buffer))
Leaves-touched h (Some (name.Script k)) = Leaves-exposed h (Some (object k.0))
Leaves-touched h (Some (name.Reflector k)) = Leaves-exposed h (Some (reflector k.0))
