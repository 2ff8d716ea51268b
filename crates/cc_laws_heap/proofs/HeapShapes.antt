-- THE SHAPES OF WHAT IS IN THE HEAPS: each object is found under its name, and its edges are those of the flat view.
use Rattle.std.proofs.Common.{arith, ◌≡◌, ◌++◌, map, Option, Some, option_map, refl, sym, ◌∙◌, ap, subst, ◌⊎◌, ⊎_elim}
use Rattle.std.specs.Option.{option_to_list}
use Rattle.std.specs.List.{flat_map}
use Rattle.cc_lists.specs.Members.{Among}
use Rattle.cc_lists.proofs.Members.{Among-map, Among-map_cases, Among-left, Among-right, Among-append, Among-flat_map, Among-flat_map_cases}
use Rattle.cc_names.specs.declared.name.Name.{Name}
use Rattle.cc_names.specs.declared.name.Name.TheVariants as name
use Rattle.cc_names.specs.declared.kind.Kind.{Kind}
use Rattle.cc_names.specs.Names.{native}
use Rattle.cc_names.proofs.NameTests.{same_name-true}
use Rattle.cc_model.specs.Slots.{Slots, contents, from_to}
use Rattle.cc_model.specs.Checks.{native_of, slots_or_none}
use Rattle.cc_model.specs.Places.{places_of_native, places_of_script, places_in}
use Rattle.cc_model.specs.Heap.{Heap, HeapNative, HeapScript, slots_of_kind, script_at}
use Rattle.cc_model.specs.View.{view, native_edges, script_edges}
use Rattle.cc_model.proofs.Places.{contents-last}
use Rattle.cc_model.specs.WellFormed.{IsWellFormed, FitsName, native_names, script_names, names_there}
use Rattle.cc_model.specs.StandsFor.{Shape, script_shape, shape_at, shape_of_held_native, shape_of_held_script}
use Rattle.cc_lists.proofs.Filtering.{find-among, find-passes}
use Rattle.cc_laws_heap.proofs.ScriptNames.{script_at-member}
use Rattle.cc_laws_heap.proofs.Natives.{native_at-there, native_at-number, native_at-member, IsWellFormed-distinct}
use Rattle.cc_laws_heap.proofs.Shapes.{edges_of_shape, contents-script}

-- Objects under their names

-- a script object has its shape under its name
pub shape_at-script : (h : Heap) → IsWellFormed h → (o : HeapScript) → Among o h.scripts → shape_at h o.name ≡ Some (shape_of_held_script o)
shape_at-script h w o m = go o.name refl (w.kinds o m)
  where
    go : (x : Name) → o.name ≡ x → FitsName x o.kind o.slots → shape_at h x ≡ Some (shape_of_held_script o)
    go x e f = grind (arith, script_at-member)

-- so has a native
pub shape_at-native : (h : Heap) → IsWellFormed h → (n : HeapNative) → Among n h.natives → shape_at h (native n.number) ≡ Some (shape_of_held_native n)
shape_at-native h w n m = ap (option_map shape_of_held_native) (native_at-member h (IsWellFormed-distinct h w) n m)

-- what is found as a script object and has a shape is a script object of that name
script-found : (h : Heap) (x : Name) (s : Shape) → option_map shape_of_held_script (script_at h x) ≡ Some s →
    (o : HeapScript) × Among o h.scripts × (o.name ≡ x) × (shape_of_held_script o ≡ s)
script-found h x s e = grind (arith, find-among, same_name-true, find-passes)

-- what has a shape is a native or a script object of that name
pub shape_at-found : (h : Heap) (x : Name) (s : Shape) → shape_at h x ≡ Some s →
    ((n : HeapNative) × Among n h.natives × (native n.number ≡ x) × (shape_of_held_native n ≡ s)) ⊎
    ((o : HeapScript) × Among o h.scripts × (o.name ≡ x) × (shape_of_held_script o ≡ s))
shape_at-found h x s e = grind (arith, native_at-there, native_at-number, script-found)

-- what has a shape is there
pub shape_at-there : (h : Heap) (x : Name) (s : Shape) → shape_at h x ≡ Some s → Among x (names_there h)
shape_at-there h x s e = grind (arith, Among-left, Among-map, Among-right, shape_at-found)

-- and what is there has one
pub there-shape_at : (h : Heap) → IsWellFormed h → (x : Name) → Among x (names_there h) → (s : Shape) × (shape_at h x ≡ Some s)
there-shape_at h w x m = ⊎_elim
    (λ l. let f = Among-map_cases (λ (n : HeapNative). native n.number) h.natives x l in
    (shape_of_held_native f.0, ap (shape_at h) (sym f.2) ∙ shape_at-native h w f.0 f.1))
    (λ r. let f = Among-map_cases (λ (o : HeapScript). o.name) h.scripts x r in
    (shape_of_held_script f.0, ap (shape_at h) (sym f.2) ∙ shape_at-script h w f.0 f.1))
    (Among-append x (native_names h) (script_names h) m)

-- Edges

-- the places of a native hold what its shape refers to
native_places-shape : (n : HeapNative) → contents (places_of_native n) ≡ edges_of_shape (native n.number) (shape_of_held_native n)
native_places-shape n = grind (arith, contents-last)

-- and so do those of a script object
script_places-shape : (o : HeapScript) → FitsName o.name o.kind o.slots → contents (places_of_script o) ≡ edges_of_shape o.name (shape_of_held_script o)
script_places-shape o fits = contents-script o.slots o.delegate (native_of (Some o.name)) ∙ by_name o.name o.kind o.slots o.delegate fits
  where
    by_name : (x : Name) (kind : Kind) (slots : Slots) (d : Option Name) → FitsName x kind slots →
        contents slots ++ (option_to_list d ++ option_to_list (native_of (Some x))) ≡ edges_of_shape x (script_shape (slots_of_kind kind slots) d)
    by_name x kind slots d f = grind arith

-- the edges of a native in the flat view are those of its shape
native_edges-shape : (n : HeapNative) → native_edges n ≡ map (from_to (native n.number)) (edges_of_shape (native n.number) (shape_of_held_native n))
native_edges-shape n = ap (map (from_to (native n.number))) (native_places-shape n)

-- and so are those of a script object
script_edges-shape : (o : HeapScript) → FitsName o.name o.kind o.slots → script_edges o ≡ map (from_to o.name) (edges_of_shape o.name (shape_of_held_script o))
script_edges-shape o fits = ap (map (from_to o.name)) (script_places-shape o fits)

-- THE PLACES OF WHAT HAS A SHAPE hold what the shape refers to.
pub places_in-shape : (h : Heap) → IsWellFormed h → (x : Name) (s : Shape) → shape_at h x ≡ Some s → contents (slots_or_none (places_in h x)) ≡ edges_of_shape x s
places_in-shape h w x s e = ⊎_elim
    (λ f. moved (native f.0.number) (shape_of_held_native f.0) (places_of_native f.0) f.2 f.3
    (ap (option_map places_of_native) (native_at-member h (IsWellFormed-distinct h w) f.0 f.1)) (native_places-shape f.0))
    (λ f. moved f.0.name (shape_of_held_script f.0) (places_of_script f.0) f.2 f.3 (of_script f.0 f.1 f.0.name refl (w.kinds f.0 f.1)) (script_places-shape f.0 (w.kinds f.0 f.1)))
    (shape_at-found h x s e)
  where
    of_script : (o : HeapScript) → Among o h.scripts → (z : Name) → o.name ≡ z → FitsName z o.kind o.slots → places_in h z ≡ Some (places_of_script o)
    of_script o i (name.Native k) q f = absurd f
    of_script o i (name.Script k) q f = ap (option_map places_of_script) (subst (λ v. script_at h v ≡ Some o) q (script_at-member h w o i))
    of_script o i (name.Reflector k) q f = ap (option_map places_of_script) (subst (λ v. script_at h v ≡ Some o) q (script_at-member h w o i))

    moved : (z : Name) (t : Shape) (places : Slots) → z ≡ x → t ≡ s → places_in h z ≡ Some places → contents places ≡ edges_of_shape z t →
        contents (slots_or_none (places_in h x)) ≡ edges_of_shape x s
    moved z t places p q there held = subst (λ v. contents (slots_or_none (places_in h v)) ≡ edges_of_shape v s) p
        (subst (λ u. contents (slots_or_none (places_in h z)) ≡ edges_of_shape z u) q (ap (λ o. contents (slots_or_none o)) there ∙ held))

-- AN EDGE OF THE FLAT VIEW is one of an object that is there.
pub edge-held : (h : Heap) → IsWellFormed h → (x y : Name) → Among (x, y) (view h).edges → (s : Shape) × (shape_at h x ≡ Some s) × Among y (edges_of_shape x s)
edge-held h w x y m = ⊎_elim
    (λ l. let f = Among-flat_map_cases native_edges h.natives (x, y) l in
    of_object (native f.0.number) (shape_of_held_native f.0) (shape_at-native h w f.0 f.1) (subst (Among (x, y)) (native_edges-shape f.0) f.2))
    (λ r. let f = Among-flat_map_cases script_edges h.scripts (x, y) r in
    of_object f.0.name (shape_of_held_script f.0) (shape_at-script h w f.0 f.1) (subst (Among (x, y)) (script_edges-shape f.0 (w.kinds f.0 f.1)) f.2))
    (Among-append (x, y) (flat_map native_edges h.natives) (flat_map script_edges h.scripts) m)
  where
    of_object : (z : Name) (s : Shape) → shape_at h z ≡ Some s → Among (x, y) (map (from_to z) (edges_of_shape z s)) →
        (s : Shape) × (shape_at h x ≡ Some s) × Among y (edges_of_shape x s)
    of_object z s e i =
        let f = Among-map_cases (from_to z) (edges_of_shape z s) (x, y) i in
        let source : z ≡ x = ap (λ (p : Name × Name). p.0) f.2 in
        let target : f.0 ≡ y = ap (λ (p : Name × Name). p.1) f.2 in
        (s, ap (shape_at h) (sym source) ∙ e, subst (λ v. Among y (edges_of_shape v s)) source (subst (λ v. Among v (edges_of_shape z s)) target f.1))

-- And what an object that is there refers to is an edge of the flat view.
pub held-edge : (h : Heap) → IsWellFormed h → (x y : Name) (s : Shape) → shape_at h x ≡ Some s → Among y (edges_of_shape x s) → Among (x, y) (view h).edges
held-edge h w x y s e m = ⊎_elim
    (λ f.
    let t : Among y (edges_of_shape (native f.0.number) (shape_of_held_native f.0)) = moved (native f.0.number) (shape_of_held_native f.0) f.2 f.3 in
    subst (λ z. Among (z, y) (view h).edges) f.2
    (Among-left (native f.0.number, y) (flat_map native_edges h.natives) (flat_map script_edges h.scripts)
    (Among-flat_map native_edges f.0 (native f.0.number, y) h.natives f.1
    (subst (Among (native f.0.number, y)) (sym (native_edges-shape f.0))
    (Among-map (from_to (native f.0.number)) y (edges_of_shape (native f.0.number) (shape_of_held_native f.0)) t)))))
    (λ f.
    let t : Among y (edges_of_shape f.0.name (shape_of_held_script f.0)) = moved f.0.name (shape_of_held_script f.0) f.2 f.3 in
    subst (λ z. Among (z, y) (view h).edges) f.2
    (Among-right (f.0.name, y) (flat_map native_edges h.natives) (flat_map script_edges h.scripts)
    (Among-flat_map script_edges f.0 (f.0.name, y) h.scripts f.1
    (subst (Among (f.0.name, y)) (sym (script_edges-shape f.0 (w.kinds f.0 f.1)))
    (Among-map (from_to f.0.name) y (edges_of_shape f.0.name (shape_of_held_script f.0)) t)))))
    (shape_at-found h x s e)
  where
    moved : (z : Name) (t : Shape) → z ≡ x → t ≡ s → Among y (edges_of_shape z t)
    moved z t p q = subst (λ v. Among y (edges_of_shape v t)) (sym p) (subst (λ v. Among y (edges_of_shape x v)) (sym q) m)
