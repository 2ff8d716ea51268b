-- WHAT IS STILL GIVEN: what the registers reach, natives that were not unlinked, and what these lead to.
use Rattle.std.proofs.Common.{arith, ◌≡◌, true, false, not, List, [], ◌++◌, ap, ⊎_elim}
use Rattle.std.specs.List.{filter}
use Rattle.cc_lists.specs.Members.{Among}
use Rattle.cc_lists.proofs.Members.{Among-left, Among-right, Among-append, Among-map, Among-map_cases, Among-filter, Among-filtered, Among-passes}
use Rattle.cc_names.specs.declared.name.Name.{Name}
use Rattle.cc_names.specs.declared.register.Reg.TheVariants.{N, S, W}
use Rattle.cc_names.specs.Names.{native}
use Rattle.cc_model.specs.Slots.{contents}
use Rattle.cc_model.specs.Graph.{Graph}
use Rattle.cc_model.specs.Reached.{Reached, held, edge, value, key, roots_of}
use Rattle.cc_model.specs.Given.{GivenFrom, given, given_edge, given_value, given_key, Given, is_living, living_names}
use Rattle.cc_model.specs.Heap.{Heap, HeapNative}
use Rattle.cc_laws_heap.proofs.Holds.{contents-get, contents-place}

-- what is living was not unlinked
not-living : (n : HeapNative) → is_living n ≡ true → n.unlinked ≡ false
not-living n e = grind arith

-- A NATIVE THAT WAS NOT UNLINKED has its name among the living.
pub living-named : (h : Heap) (n : HeapNative) → Among n h.natives → n.unlinked ≡ false → Among (native n.number) (living_names h)
living-named h n m e = Among-map (λ (n : HeapNative). native n.number) n (filter is_living h.natives) (Among-filter is_living n h.natives m (ap not e))

-- Each name among the living is that of a native that was not unlinked.
pub named-living : (h : Heap) (x : Name) → Among x (living_names h) → (n : HeapNative) × Among n h.natives × (n.unlinked ≡ false) × (native n.number ≡ x)
named-living h x m =
    let f = Among-map_cases (λ (n : HeapNative). native n.number) (filter is_living h.natives) x m in
    (f.0, Among-filtered is_living f.0 h.natives f.1, not-living f.0 (Among-passes is_living f.0 h.natives f.1), f.2)

-- WHAT IS REACHED is led to by names among which are those that the registers have.
pub reached-given_from : (g : Graph) (xs : List Name) → ((x : Name) → Among x (roots_of g) → Among x xs) → (x : Name) → Reached g x → GivenFrom g xs x
reached-given_from g xs roots _ (held (N r) x e) = given x (roots x (Among-left x (contents g.native_registers) (contents g.script_registers) (contents-get g.native_registers r x e)))
reached-given_from g xs roots _ (held (S r) x e) = given x (roots x (Among-right x (contents g.native_registers) (contents g.script_registers) (contents-get g.script_registers r x e)))
reached-given_from g xs roots _ (held (W r) x e) = absurd (contents-get [] r x e)
reached-given_from g xs roots _ (edge x y d i) = given_edge x y (reached-given_from g xs roots x d) i
reached-given_from g xs roots _ (value e i a b) = given_value e i (reached-given_from g xs roots e.the_map a) (reached-given_from g xs roots e.key b)
reached-given_from g xs roots _ (key e d i q a b) = given_key e d i q (reached-given_from g xs roots e.the_map a) (reached-given_from g xs roots d b)

-- What the names that the registers have lead to is reached.
pub given_from-reached : (g : Graph) (x : Name) → GivenFrom g (roots_of g) x → Reached g x
given_from-reached g _ (given x i) = ⊎_elim
    (λ l. let k = contents-place g.native_registers x l in held (N k.0) x k.1)
    (λ r. let k = contents-place g.script_registers x r in held (S k.0) x k.1)
    (Among-append x (contents g.native_registers) (contents g.script_registers) i)
given_from-reached g _ (given_edge x y d i) = edge x y (given_from-reached g x d) i
given_from-reached g _ (given_value e i a b) = value e i (given_from-reached g e.the_map a) (given_from-reached g e.key b)
given_from-reached g _ (given_key e d i q a b) = key e d i q (given_from-reached g e.the_map a) (given_from-reached g d b)

-- Names lead to no more than others that lead to them.
pub given_from-grows : (g : Graph) (xs ys : List Name) → ((x : Name) → Among x xs → GivenFrom g ys x) → (x : Name) → GivenFrom g xs x → GivenFrom g ys x
given_from-grows g xs ys starts _ (given x i) = starts x i
given_from-grows g xs ys starts _ (given_edge x y d i) = given_edge x y (given_from-grows g xs ys starts x d) i
given_from-grows g xs ys starts _ (given_value e i a b) = given_value e i (given_from-grows g xs ys starts e.the_map a) (given_from-grows g xs ys starts e.key b)
given_from-grows g xs ys starts _ (given_key e d i q a b) = given_key e d i q (given_from-grows g xs ys starts e.the_map a) (given_from-grows g xs ys starts d b)

-- WHAT IS REACHED IS GIVEN.
pub Reached-given : (h : Heap) (g : Graph) (x : Name) → Reached g x → Given h g x
Reached-given h g = reached-given_from g (roots_of g ++ living_names h) (λ x i. Among-left x (roots_of g) (living_names h) i)

-- A NATIVE THAT WAS NOT UNLINKED IS GIVEN.
pub living-given : (h : Heap) (g : Graph) (n : HeapNative) → Among n h.natives → n.unlinked ≡ false → Given h g (native n.number)
living-given h g n m e = given (native n.number) (Among-right (native n.number) (roots_of g) (living_names h) (living-named h n m e))
