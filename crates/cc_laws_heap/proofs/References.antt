-- The references to a native: where they stand, and how they change with the lists.
use Rattle.std.proofs.Common.{◌++◌, cond, ◌==◌, ◌≡◌, ℕ, ◌+◌, ◌<◌, ◌≤◌, Bool, not, List, [], ◌∷◌, map, Some, refl, sym, subst, ⊎_elim, arith, count_by, sum_by}
use Rattle.std.specs.List.{filter, flat_map}
use Rattle.std.proofs.lemmas.Bool.{cases_lt, eqb-true, eq-eqb, ne_eqb}
use Rattle.std.proofs.lemmas.List.Folds.{flat_map-map}
use Rattle.cc_lists.specs.Members.{Among}
use Rattle.cc_lists.proofs.Members.{Among-append, Among-map, Among-map_cases, Among-flat_map, Among-flat_map_cases}
use Rattle.cc_lists.proofs.Counting.{count_by-cons, count_by-append, count_by-flat_map, count_by-some, counted_is}
use Rattle.cc_names.specs.declared.name.Name.{Name}
use Rattle.cc_names.specs.declared.name.Name.TheVariants as name
use Rattle.cc_names.specs.Names.{native, reflector, same_name, natives_in}
use Rattle.cc_names.proofs.NameTests.{same_name-true, same_name-refl}
use Rattle.cc_model.specs.Slots.{contents}
use Rattle.cc_model.specs.Heap.{Heap, HeapNative, HeapScript, native_at}
use Rattle.cc_model.specs.Cascade.{removed, natives_of_slots}
use Rattle.cc_model.specs.WellFormed.{IsWellFormed, FitsName, native_names, script_names, names_there}
use Rattle.cc_model.specs.Counts.{refs_to, slots_of_natives, times}
use Rattle.cc_laws_heap.specs.Freeing.{uncounted, SameBeside}
use Rattle.cc_lists.proofs.Searching.{sum_by-taken_out}
use Rattle.cc_lists.proofs.Numbers.{eqb-sym}
use Rattle.cc_laws_heap.specs.Balance.{HasDistinctNumbers, has_number}

-- How often a number stands in a list of numbers

-- in two lists one after the other
pub times-append : (k : ℕ) (xs ys : List ℕ) → times k (xs ++ ys) ≡ times k xs + times k ys
times-append k xs ys = count_by-append (λ j. j == k) xs ys

-- with one number in front
pub times-cons : (k i : ℕ) (xs : List ℕ) → times k (i ∷ xs) ≡ cond (i == k) 1 0 + times k xs
times-cons k i xs = count_by-cons (λ j. j == k) i xs

-- with itself in front
pub times-cons_same : (k : ℕ) (xs : List ℕ) → times k (k ∷ xs) ≡ 1 + times k xs
times-cons_same k xs = rw (times-cons k k xs, eq-eqb k k refl) refl

-- with another in front
pub times-cons_other : (k i : ℕ) (xs : List ℕ) → ¬ (i ≡ k) → times k (i ∷ xs) ≡ times k xs
times-cons_other k i xs d = rw (times-cons k i xs, ne_eqb i k d) (omega arith)

-- what stands in the list is counted
pub times-some : (k : ℕ) (xs : List ℕ) → Among k xs → 1 ≤ times k xs
times-some k xs m = count_by-some (λ j. j == k) k xs m (eq-eqb k k refl)

-- what is counted stands in the list
pub times-among : (k : ℕ) (xs : List ℕ) → 1 ≤ times k xs → Among k xs
times-among k xs some =
    let found = counted_is (λ j. j == k) xs some in
    subst (λ j. Among j xs) (eqb-true found.0 k found.2) found.1

-- a native stands in a list of names as often as its number among the numbers of the natives there
pub times-natives_in : (k : ℕ) (xs : List Name) → times k (flat_map natives_in xs) ≡ count_by (same_name (native k)) xs
times-natives_in k [] = refl
times-natives_in k (name.Native i ∷ xs) =
    rw (times-cons k i.0 (flat_map natives_in xs), count_by-cons (same_name (native k)) (name.Native i) xs, times-natives_in k xs, eqb-sym k i.0) refl
times-natives_in k (name.Script i ∷ xs) =
    rw (count_by-cons (same_name (native k)) (name.Script i) xs, times-natives_in k xs) (omega arith)
times-natives_in k (name.Reflector i ∷ xs) =
    rw (count_by-cons (same_name (native k)) (name.Reflector i) xs, times-natives_in k xs) (omega arith)

-- Where references stand

-- a native register that holds a native refers to it
pub refs_to-register : (h : Heap) (k : ℕ) → Among (native k) (contents h.native_registers) → 1 ≤ refs_to h k
refs_to-register h k m = omega (arith, count_by-some (same_name (native k)) (native k) (contents h.native_registers) m (same_name-refl (native k)))

-- a slot of a native that holds a native refers to it
pub refs_to-slot : (h : Heap) (k : ℕ) (n : HeapNative) → Among n h.natives → Among (native k) (contents n.slots) → 1 ≤ refs_to h k
refs_to-slot h k n there m =
    let all : Among (native k) (slots_of_natives h) = Among-flat_map (λ (o : HeapNative). contents o.slots) n (native k) h.natives there m in
    omega (arith, count_by-some (same_name (native k)) (native k) (slots_of_natives h) all (same_name-refl (native k)))

-- a reflector refers to its native
pub refs_to-reflector : (h : Heap) (k : ℕ) → Among (reflector k) (script_names h) → 1 ≤ refs_to h k
refs_to-reflector h k m = grind (arith, Among-map_cases, same_name-refl, count_by-some)

-- a native's name among the names that are there is that of a native
pub native-there : (h : Heap) (k : ℕ) → IsWellFormed h → Among (native k) (names_there h) → Among (native k) (native_names h)
native-there h k w m = ⊎_elim (λ l. l) (λ r. absurd (no_script r)) (Among-append (native k) (native_names h) (script_names h) m)
  where
    no_script : Among (native k) (script_names h) → ⊥
    no_script r =
        let f = Among-map_cases (λ (o : HeapScript). o.name) h.scripts (native k) r in
        subst (λ x. FitsName x f.0.kind f.0.slots) f.2 (w.kinds f.0 f.1)

-- what is referred to is there
pub refs_to-there : (h : Heap) (k : ℕ) → IsWellFormed h → 1 ≤ refs_to h k → Among (native k) (native_names h)
refs_to-there h k w some = ⊎_elim register
    (λ none. ⊎_elim slot (λ empty. reflected (omega arith)) (cases_lt 0 (count_by is_it (slots_of_natives h))))
    (cases_lt 0 (count_by is_it (contents h.native_registers)))
  where
    is_it : Name → Bool
    is_it x = same_name (native k) x

    is_its_reflector : HeapScript → Bool
    is_its_reflector o = same_name o.name (reflector k)

    register : 0 < count_by is_it (contents h.native_registers) → Among (native k) (native_names h)
    register c =
        let f = counted_is is_it (contents h.native_registers) c in
        subst (λ x. Among x (native_names h)) (sym (same_name-true (native k) f.0 f.2)) (w.native_registers f.0 f.1)

    slot : 0 < count_by is_it (slots_of_natives h) → Among (native k) (native_names h)
    slot c =
        let f = counted_is is_it (slots_of_natives h) c in
        let g = Among-flat_map_cases (λ (n : HeapNative). contents n.slots) h.natives f.0 f.1 in
        native-there h k w (subst (λ x. Among x (names_there h)) (sym (same_name-true (native k) f.0 f.2)) (w.native_contents g.0 f.0 g.1 g.2))

    reflected : 0 < count_by is_its_reflector h.scripts → Among (native k) (native_names h)
    reflected c =
        let f = counted_is is_its_reflector h.scripts c in
        w.reflected k
        (subst (λ x. Among x (script_names h)) (same_name-true f.0.name (reflector k) f.2)
        (Among-map (λ (o : HeapScript). o.name) f.0 h.scripts f.1))

-- Two heaps that are the same but for counts and buffers have the same references

-- what natives hold is the same without their counts
slots_of_natives-uncounted : (h : Heap) → slots_of_natives h ≡ flat_map (λ (u : HeapNative). contents u.slots) (map uncounted h.natives)
slots_of_natives-uncounted h = sym (flat_map-map (λ (u : HeapNative). contents u.slots) uncounted h.natives)

-- heaps that are the same but for counts and the buffer have the same references
pub refs_to-alike : (h g : Heap) → SameBeside h g → map uncounted g.natives ≡ map uncounted h.natives → (k : ℕ) → refs_to g k ≡ refs_to h k
refs_to-alike h g b e k = grind (arith, slots_of_natives-uncounted)

-- a native taken out takes the references of its slots along
pub refs_to-removed : (h : Heap) (k : ℕ) (n : HeapNative) → HasDistinctNumbers h → native_at h k ≡ Some n → (j : ℕ) →
    refs_to (removed h k) j + times j (natives_of_slots (Some n)) ≡ refs_to h j
refs_to-removed h k n d e j =
    let slots = λ (m : HeapNative). contents m.slots in
    let out : sum_by held others + held n ≡ sum_by held h.natives = sum_by-taken_out held (has_number k) h.natives n (d k) e in
    let before : count_by (same_name (native j)) (slots_of_natives h) ≡ sum_by held h.natives = count_by-flat_map (same_name (native j)) slots h.natives in
    let after : count_by (same_name (native j)) (slots_of_natives (removed h k)) ≡ sum_by held others = count_by-flat_map (same_name (native j)) slots others in
    omega (arith, times-natives_in j (contents n.slots))
  where
    held : HeapNative → ℕ
    held m = count_by (same_name (native j)) (contents m.slots)

    others : List HeapNative
    others = filter (λ m. not (has_number k m)) h.natives
