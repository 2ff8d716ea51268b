-- NO COUNT IS GREAT: registers, a million natives with their slots, one reflector, and what is owned.
use Rattle.std.proofs.Common.{ℕ, ◌+◌, ◌*◌, ◌<◌, ◌≤◌, List, [], ◌∷◌, map, length, Some, None, refl, subst, inl, inr, arith, count_by}
use Rattle.std.proofs.lemmas.List.{length-map}
use Rattle.std.proofs.lemmas.List.Sums.{count_by-le-length}
use Rattle.cc_lists.specs.Members.{Among}
use Rattle.cc_lists.proofs.Members.{Among-map_cases}
use Rattle.cc_names.specs.Names.{native, reflector, same_name}
use Rattle.cc_names.specs.Sizes.{most_references, most_slots}
use Rattle.cc_model.specs.Slots.{Slots, contents}
use Rattle.cc_model.specs.Heap.{Heap, HeapNative}
use Rattle.cc_model.specs.WellFormed.{IsWellFormed, IsRising}
use Rattle.cc_model.specs.Counts.{slots_of_natives, times}
use Rattle.cc_laws_heap.specs.Sound.{IsSound}
use Rattle.cc_laws_heap.proofs.ScriptNames.{scripts-once}
use Rattle.cc_laws_heap.proofs.Rising.{IsRising-tail, IsRising-first}
use Rattle.cc_lists.proofs.ListWrites.{length-flat_map_le}

-- so many rising numbers fit between two
IsRising-length : (xs : List ℕ) (low high : ℕ) → IsRising xs → low ≤ high → ((x : ℕ) → Among x xs → (low < x) × (x ≤ high)) → low + length xs ≤ high
IsRising-length [] low high r order within = omega arith
IsRising-length (x ∷ xs) low high r order within =
    let first : low < x = (within x (inl refl)).0 in
    let rest : x + length xs ≤ high =
    IsRising-length xs x high (IsRising-tail x xs r) (within x (inl refl)).1 (λ y m. (IsRising-first x xs r y m, (within y (inr m)).1)) in
    omega arith

-- there are at most as many natives as were made
pub natives-made : (h : Heap) → IsWellFormed h → length h.natives ≤ h.natives_made
natives-made h w =
    let many : 0 + length (map (λ (n : HeapNative). n.number) h.natives) ≤ h.natives_made =
    IsRising-length (map (λ (n : HeapNative). n.number) h.natives) 0 h.natives_made w.rising (omega arith)
    (λ x m. let f = Among-map_cases (λ (n : HeapNative). n.number) h.natives x m in
    subst (λ i. (0 < i) × (i ≤ h.natives_made)) f.2 (let k = w.native_numbers f.0 f.1 in (omega (arith, k.0), k.1))) in
    omega (arith, length-map h.natives (λ (n : HeapNative). n.number))

-- a place holds at most one name
contents-length : (slots : Slots) → length (contents slots) ≤ length slots
contents-length [] = omega arith
contents-length (None ∷ slots) = omega (arith, contents-length slots)
contents-length (Some x ∷ slots) = omega (arith, contents-length slots)

-- Of a million natives none has more than most_references in the heaps' lists, by how many native registers there are; the others are owned.
pub count-bound : (owned : List ℕ) (h : Heap) (n : HeapNative) → IsSound owned h → h.limits.natives ≤ 1000000 → Among n h.natives →
    n.count ≤ most_references (length h.native_registers) + times n.number owned
count-bound owned h n s few m =
    let w : IsWellFormed h = s.well_formed in
    let registers : count_by (same_name (native n.number)) (contents h.native_registers) ≤ length h.native_registers =
    omega (arith, count_by-le-length (same_name (native n.number)) (contents h.native_registers), contents-length h.native_registers) in
    let slots : count_by (same_name (native n.number)) (slots_of_natives h) ≤ most_slots * length h.natives =
    omega (
      arith,
      count_by-le-length (same_name (native n.number)) (slots_of_natives h),
      length-flat_map_le (λ (o : HeapNative). contents o.slots) most_slots h.natives (λ o i. omega (arith, contents-length o.slots, w.native_slots o i)),
    ) in
    let many : length h.natives ≤ 1000000 = omega (arith, natives-made h w, w.natives_allowed) in
    omega (arith, s.counts n m, scripts-once h w (reflector n.number))
