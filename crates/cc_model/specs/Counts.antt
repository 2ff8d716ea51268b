-- REFERENCES COUNTED.
use Rattle.std.specs.Prelude.{◌≡◌, ℕ, ◌+◌, ◌==◌, List, flat_map, count_by}
use Rattle.cc_lists.specs.Members.{Among}
use Rattle.cc_names.specs.declared.name.Name.{Name}
use Rattle.cc_names.specs.Names.{native, reflector, same_name}
use Rattle.cc_model.specs.Slots.{contents}
use Rattle.cc_model.specs.Heap.{Heap, HeapNative}

-- what natives hold in their slots; of their places these alone are counted
abbrev pub slots_of_natives : Heap → List Name
slots_of_natives h = flat_map (λ n. contents n.slots) h.natives

-- the native registers, native slots and reflectors that refer to native k, by occurrence
abbrev pub refs_to : Heap → ℕ → ℕ
refs_to h k =
    count_by (same_name (native k)) (contents h.native_registers)
    + (count_by (same_name (native k)) (slots_of_natives h)
    + count_by (λ o. same_name o.name (reflector k)) h.scripts)

-- how often a number stands in a list
abbrev pub times : ℕ → List ℕ → ℕ
times k ks = count_by (λ j. j == k) ks

-- EACH COUNT IS THAT OF THE REFERENCES, and of those that are owned outside the heaps' lists: one more
-- while a native is rooted, and one while a reference was taken and is not stored yet
abbrev pub HasCounts : List ℕ → Heap → Type 0
HasCounts owned h = (n : HeapNative) → Among n h.natives → n.count ≡ refs_to h n.number + times n.number owned
