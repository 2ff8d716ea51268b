-- THERE ARE FEW OBJECTS: things with distinct names are no more than the names that there can be.
use Rattle.std.proofs.Common.{◌≡◌, ℕ, zero, suc, ◌+◌, ◌<◌, ◌≤◌, true, List, [], ◌∷◌, ◌++◌, length, map, refl, sym, ap, subst, ◌⊎◌, ⊎_elim, inl, inr, arith, count_by, length-append}
use Rattle.std.proofs.lemmas.Bool.{false≢true}
use Rattle.std.proofs.lemmas.List.{length-map}
use Rattle.cc_lists.specs.Members.{Among}
use Rattle.cc_lists.proofs.Members.{Among-map, Among-map_cases, Among-left, Among-right}
use Rattle.cc_lists.proofs.Counting.{count_by-below, count_by-some, counted_is, count_by-all}
use Rattle.cc_names.specs.Names.{native, object, reflector, number_of, same_name}
use Rattle.cc_names.specs.declared.name.Name.{Name}
use Rattle.cc_names.specs.declared.name.Name.TheVariants as name
use Rattle.cc_names.proofs.NameTests.{same_name-true, same_name-refl, same_name-exact}
use Rattle.cc_model.specs.Heap.{Heap, HeapNative, HeapScript}
use Rattle.cc_model.specs.WellFormed.{script_names}
use Rattle.cc_laws_heap.proofs.Face.{script_names-named, scripts-once}
use Rattle.cc_graph.specs.Shown.{Vertex}
use Rattle.cc_heaps.specs.Keyed.{Keyed, IsInOrder}
use Rattle.cc_builder.specs.Building.{Built, IsBuilt, WasMade}

-- the numbers from 1 to m
abbrev numbers_to : ℕ → List ℕ
numbers_to zero = []
numbers_to (suc m) = suc m ∷ numbers_to m

numbers_to-among : (m k : ℕ) → 1 ≤ k → k ≤ m → Among k (numbers_to m)
numbers_to-among zero k low high = absurd (omega arith)
numbers_to-among (suc m) k low high = ⊎_elim
    (λ (e : k ≡ suc m). inl (sym e))
    (λ (l : k < suc m). inr (numbers_to-among m k low (omega arith)))
    (eq_or_lt k (suc m) high)
  where
    eq_or_lt : (i j : ℕ) → i ≤ j → (i ≡ j) ⊎ (i < j)
    eq_or_lt i j l = grind arith

numbers_to-length : (m : ℕ) → length (numbers_to m) ≡ m
numbers_to-length zero = refl
numbers_to-length (suc m) = ap suc (numbers_to-length m)

-- things with distinct names of a list are no more than these
distinct-few : {X : Type 0} (named : X → Name) (xs : List X) (ys : List Name) → ((y : Name) → count_by (λ x. same_name (named x) y) xs ≤ 1) →
    ((x : X) → Among x xs → Among (named x) ys) → length xs ≤ length ys
distinct-few {X} named xs ys distinct among =
    let below : count_by (λ (x : X). true) xs ≤ count_by (λ (y : Name). true) ys =
    count_by-below same_name same_name-exact (λ (x : X). true) named (λ (y : Name). true) (λ (y : Name). y) xs ys (λ y. at y (count_by (λ x. same_name (named x) y) xs) refl) in
    omega (arith, below, count_by-all xs, count_by-all ys)
  where
    at : (y : Name) (n : ℕ) → count_by (λ x. same_name (named x) y) xs ≡ n → count_by (λ x. same_name (named x) y) xs ≤ count_by (λ z. same_name z y) ys
    at y zero e = omega arith
    at y (suc n) e =
        let x = counted_is (λ x. same_name (named x) y) xs (omega arith) in
        let some : 0 < count_by (λ z. same_name z y) ys =
        count_by-some (λ z. same_name z y) y ys (subst (λ z. Among z ys) (same_name-true (named x.0) y x.2) (among x.0 x.1)) (same_name-refl y) in
        omega (arith, distinct y)

-- Script objects have numbers that were given to script objects, and reflectors those of natives, each its own

-- the names that script objects may have
abbrev script_names_to : Heap → List Name
script_names_to h = map object (numbers_to h.scripts_made) ++ map reflector (numbers_to h.natives_made)

scripts-few : (v : Keyed) → IsInOrder [] v → length v.heap.scripts ≤ 2000000
scripts-few v order =
    let well = order.sound.well_formed in
    let objects = map object (numbers_to v.heap.scripts_made) in
    let reflectors = map reflector (numbers_to v.heap.natives_made) in
    omega (
      arith,
      distinct-few (λ (o : HeapScript). o.name) v.heap.scripts (script_names_to v.heap) (scripts-once v.heap well) (λ o m. among o.name (Among-map (λ (p : HeapScript). p.name) o v.heap.scripts m)),
      length-append objects reflectors,
      length-map (numbers_to v.heap.scripts_made) object,
      length-map (numbers_to v.heap.natives_made) reflector,
      numbers_to-length v.heap.scripts_made,
      numbers_to-length v.heap.natives_made,
      well.scripts_allowed,
      well.natives_allowed,
      order.limits.0,
      order.limits.1,
    )
  where
    -- a reflector has its native, whose number was given
    reflector-among : (k : ℕ) → Among (reflector k) (script_names v.heap) → Among k (numbers_to v.heap.natives_made)
    reflector-among k m =
        let well = order.sound.well_formed in
        let n = Among-map_cases (λ (n : HeapNative). native n.number) v.heap.natives (native k) (well.reflected k m) in
        let bounds = well.native_numbers n.0 n.1 in
        let same : n.0.number ≡ k = ap number_of n.2 in
        subst (λ j. Among j (numbers_to v.heap.natives_made)) same (numbers_to-among v.heap.natives_made n.0.number bounds.0 bounds.1)

    among : (x : Name) → Among x (script_names v.heap) → Among x (script_names_to v.heap)
    among (name.Native k) m = absurd (false≢true (script_names-named v.heap order.sound.well_formed (name.Native k) m))
    among (name.Script k) m =
        let bounds = order.sound.well_formed.object_numbers k.0 m in
        Among-left (object k.0) (map object (numbers_to v.heap.scripts_made)) (map reflector (numbers_to v.heap.natives_made))
        (Among-map object k.0 (numbers_to v.heap.scripts_made) (numbers_to-among v.heap.scripts_made k.0 bounds.0 bounds.1))
    among (name.Reflector k) m = Among-right (reflector k.0) (map object (numbers_to v.heap.scripts_made)) (map reflector (numbers_to v.heap.natives_made))
        (Among-map reflector k.0 (numbers_to v.heap.natives_made) (reflector-among k.0 m))

-- Nodes are those of objects that were made, each its own

pub made-few : (h : Heap) (vs : List Vertex) → ((x : Name) → count_by (λ v. same_name v.name x) vs ≤ 1) → ((v : Vertex) → Among v vs → WasMade h v.name) →
    length vs ≤ h.natives_made + length h.scripts
made-few h vs distinct made =
    let natives = map native (numbers_to h.natives_made) in
    omega (
      arith,
      distinct-few (λ (v : Vertex). v.name) vs (natives ++ script_names h) distinct (λ v m. among v.name (made v m)),
      length-append natives (script_names h),
      length-map (numbers_to h.natives_made) native,
      numbers_to-length h.natives_made,
      length-map h.scripts (λ (o : HeapScript). o.name),
    )
  where
    among : (x : Name) → WasMade h x → Among x (map native (numbers_to h.natives_made) ++ script_names h)
    among (name.Native k) m = Among-left (native k.0) (map native (numbers_to h.natives_made)) (script_names h)
        (Among-map native k.0 (numbers_to h.natives_made) (numbers_to-among h.natives_made k.0 m.0 m.1))
    among (name.Script k) m = Among-right (name.Script k) (map native (numbers_to h.natives_made)) (script_names h) m
    among (name.Reflector k) m = Among-right (name.Reflector k) (map native (numbers_to h.natives_made)) (script_names h) m

-- so numbers of nodes do not run out
pub nodes-limited : (b : Built) (v : Keyed) → IsInOrder [] v → IsBuilt b v → length b.graph.nodes ≤ 3000000
nodes-limited b v order built = omega (arith, built.few, scripts-few v order, order.sound.well_formed.natives_allowed, order.limits.0)
