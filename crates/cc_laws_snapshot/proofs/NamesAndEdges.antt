-- NATIVES AND EDGES OF THE VIEW: who lives, and what does not change with counts and the buffer.
use Rattle.std.proofs.Common.{◌≡◌, ℕ, ◌++◌, sym, ◌∙◌, ap, subst, arith}
use Rattle.std.specs.List.{flat_map}
use Rattle.std.proofs.lemmas.List.Folds.{flat_map-map}
use Rattle.cc_lists.specs.Members.{Among}
use Rattle.cc_lists.proofs.Members.{Among-map, Among-map_cases}
use Rattle.cc_names.specs.declared.name.Name.{Name}
use Rattle.cc_names.specs.Names.{native}
use Rattle.cc_model.specs.Heap.{Heap, HeapNative}
use Rattle.cc_model.specs.View.{view, counted, native_edges, script_edges}
use Rattle.cc_model.specs.WellFormed.{native_names}
use Rattle.cc_model.specs.Fresh.{IsLiving}
use Rattle.cc_laws_heap.specs.Freeing.{uncounted}
use Rattle.cc_laws_heap.proofs.HoldsTheSame.{HoldsTheSame}
use Rattle.cc_laws_snapshot.proofs.SoundView.{living-native}

-- who lives in the view is the name of a native
pub named-of_living : (h : Heap) (x : Name) → IsLiving (view h) x → Among x (native_names h)
named-of_living h x l = grind (arith, living-native, Among-map)

-- and has a number
pub living-number : (h : Heap) (x : Name) → IsLiving (view h) x → (i : ℕ) × (native i ≡ x)
living-number h x l = let f = living-native h x l.0 l.1 in (f.0.number, f.2)

-- the name of a native lives in the view
pub living-of_named : (h : Heap) (x : Name) → Among x (native_names h) → IsLiving (view h) x
living-of_named h x m =
    let f = Among-map_cases (λ (n : HeapNative). native n.number) h.natives x m in
    (f.0.count, subst (λ z. Among (z, f.0.count) (view h).natives) f.2 (Among-map counted f.0 h.natives f.1))

-- where the same names of natives are there, the same live
pub living-same : (h g : Heap) → native_names g ≡ native_names h → (x : Name) → IsLiving (view g) x → IsLiving (view h) x
living-same h g e x l = living-of_named h x (subst (λ xs. Among x xs) e (named-of_living g x l))

-- heaps that differ in counts and the buffer alone have the same edges
pub edges-alike : (h g : Heap) → HoldsTheSame h g → (view g).edges ≡ (view h).edges
edges-alike h g a =
    let natives : flat_map native_edges g.natives ≡ flat_map native_edges h.natives =
    sym (flat_map-map native_edges uncounted g.natives) ∙ (ap (flat_map native_edges) a.natives ∙ flat_map-map native_edges uncounted h.natives) in
    ap (λ es. es ++ flat_map script_edges g.scripts) natives ∙ ap (λ os. flat_map native_edges h.natives ++ flat_map script_edges os) a.beside.scripts
