-- WHAT A WRITE OF A REGISTER, A SLOT, A FLAG OR A COLOUR DOES TO THE COUNTS: the new content is owned before, the old one after.
use Rattle.std.proofs.Common.{◌≡◌, ℕ, ◌<◌, ◌≤◌, Bool, true, List, ◌++◌, length, set, get_or, Option, Some, None, refl, sym, subst, ⊎_elim, arith, ◌==◌}
use Rattle.std.specs.Option.{option_to_list}
use Rattle.std.proofs.lemmas.Bool.{eqb-true}
use Rattle.std.proofs.lemmas.List.{length-set}
use Rattle.cc_lists.specs.Members.{Among}
use Rattle.cc_names.specs.declared.name.Name.{Name}
use Rattle.cc_names.specs.declared.register.Reg.TheVariants.{N, S}
use Rattle.cc_names.specs.Names.{native, reflector, same_name}
use Rattle.cc_names.specs.Sizes.{most_slots}
use Rattle.cc_model.specs.Banks.{IsBankLength}
use Rattle.cc_model.specs.Slots.{Slots, contents}
use Rattle.cc_model.specs.Heap.{Heap, HeapNative, HeapScript, native_at, register, set_register, change_native, with_native_slot, set_preserved}
use Rattle.cc_model.specs.WellFormed.{IsWellFormed, native_names, script_names, names_there}
use Rattle.cc_model.specs.Counts.{refs_to, slots_of_natives}
use Rattle.cc_laws_heap.specs.Sound.{IsSound, numbers_of}
use Rattle.cc_laws_heap.proofs.Natives.{KeepsNumber, IsWellFormed-distinct, native_at-change_same, native_at-change_other}
use Rattle.cc_laws_heap.proofs.Counted.{IsSound-counted, IsSound-from_counted}
use Rattle.cc_laws_heap.specs.Balance.{count_at}
use Rattle.cc_lists.proofs.ListWrites.{Among-flat_map_set, Among-flat_map_at, count_by-flat_map_set, changed_where, changed_where-either, count_by-flat_map_changed, each-map, flat_map-kept, count_by-kept_map}
use Rattle.cc_laws_heap.proofs.Kept.{IsBuffer-own, IsWellFormed-registers, ChangesNatives, ChangesNatives-where, IsWellFormed-natives, ChangesScripts, with_scripts, IsWellFormed-scripts}
use Rattle.cc_laws_heap.proofs.Owning.{IsIn, times-numbers_of}

-- Slots in general

-- what stands at a place of slots is among their contents
pub contents-at : (slots : Slots) (i : ℕ) → IsIn (contents slots) (get_or slots i None)
contents-at slots i = λ y m. Among-flat_map_at option_to_list slots i None y (λ n. n) m

-- after a write slots hold what was written, and what they held
pub contents-written : (names : List Name) (slots : Slots) (i : ℕ) (x : Option Name) → IsIn names x →
    ((y : Name) → Among y (contents slots) → Among y names) →
    (y : Name) → Among y (contents (set slots i x)) → Among y names
contents-written names slots i x new old y m = ⊎_elim (new y) (old y) (Among-flat_map_set option_to_list slots i x y m)

-- Registers

-- A native register is written.
pub native_register-sound : (owned : List ℕ) (h : Heap) (d : ℕ) (x : Option Name) → d < length h.native_registers → IsIn (native_names h) x →
    IsSound (numbers_of x ++ owned) h → IsSound (numbers_of (register h (N d)) ++ owned) (set_register h (N d) x)
native_register-sound owned h d x room there s = IsSound-from_counted (numbers_of (register h (N d)) ++ owned) (set_register h (N d) x)
    (IsWellFormed-registers h (set h.native_registers d x) h.script_registers w (record {
      natives = contents-written (native_names h) h.native_registers d x there w.native_registers;
      scripts = w.script_registers;
      lengths = (subst IsBankLength (sym (length-set h.native_registers d x)) w.registers.0, w.registers.1);
    }))
    (λ k. omega (
      arith,
      IsSound-counted (numbers_of x ++ owned) h s k,
      count_by-flat_map_set (same_name (native k)) option_to_list h.native_registers d x None room,
      times-numbers_of k x owned,
      times-numbers_of k (register h (N d)) owned,
    ))
    s.none_zero
  where
    w : IsWellFormed h
    w = s.well_formed

-- A script register is written: no count changes.
pub script_register-sound : (owned : List ℕ) (h : Heap) (d : ℕ) (x : Option Name) → IsIn (script_names h) x →
    IsSound owned h → IsSound owned (set_register h (S d) x)
script_register-sound owned h d x there s = record {
  well_formed = IsWellFormed-registers h h.native_registers (set h.script_registers d x) w (record {
    natives = w.native_registers;
    scripts = contents-written (script_names h) h.script_registers d x there w.script_registers;
    lengths = (w.registers.0, subst IsBankLength (sym (length-set h.script_registers d x)) w.registers.1);
  });
  counts = s.counts;
  none_zero = s.none_zero;
  owned_there = s.owned_there;
}
  where
    w : IsWellFormed h
    w = s.well_formed

-- Natives

-- a change of a native that keeps its count
abbrev KeepsCount : (HeapNative → HeapNative) → Type 0
KeepsCount f = (n : HeapNative) → (f n).count ≡ n.count

-- such a change of one native keeps the count of each number
count_at-changed : (h : Heap) (k : ℕ) (f : HeapNative → HeapNative) → KeepsNumber f → KeepsCount f → (j : ℕ) →
    count_at (change_native h k f) j ≡ count_at h j
count_at-changed h k f e c j = grind (arith, native_at-change_same, native_at-change_other)

-- and leaves no count zero
none_zero-changed : (h : Heap) (k : ℕ) (f : HeapNative → HeapNative) → KeepsCount f → ((n : HeapNative) → Among n h.natives → 1 ≤ n.count) →
    (n : HeapNative) → Among n (change_native h k f).natives → 1 ≤ n.count
none_zero-changed h k f c above = each-map (λ n. 1 ≤ n.count) (changed_where (λ n. n.number == k) f) h.natives
    (λ n m. changed_where-either (λ o. 1 ≤ o.count) (λ n. n.number == k) f n (λ e. subst (λ i. 1 ≤ i) (sym (c n)) (above n m)) (above n m))

-- Slot i of native k is written.
pub native_slot-sound : (owned : List ℕ) (h : Heap) (k i : ℕ) (n : HeapNative) (x : Option Name) → native_at h k ≡ Some n → i < length n.slots →
    IsIn (names_there h) x →
    IsSound (numbers_of x ++ owned) h → IsSound (numbers_of (get_or n.slots i None) ++ owned) (change_native h k (with_native_slot i x))
native_slot-sound owned h k i n x found room there s = IsSound-from_counted (numbers_of (get_or n.slots i None) ++ owned) (change_native h k written)
    (IsWellFormed-natives h (changed_where is_it written) h.buffer w changes (IsBuffer-own h w))
    (λ j. omega (
      arith,
      IsSound-counted (numbers_of x ++ owned) h s j,
      count_at-changed h k written (λ m. refl) (λ m. refl) j,
      count_by-flat_map_changed (same_name (native j)) (λ (m : HeapNative). contents m.slots) is_it written h.natives n (IsWellFormed-distinct h w k) found,
      count_by-flat_map_set (same_name (native j)) option_to_list n.slots i x None room,
      times-numbers_of j x owned,
      times-numbers_of j (get_or n.slots i None) owned,
    ))
    (none_zero-changed h k written (λ m. refl) s.none_zero)
  where
    w : IsWellFormed h
    w = s.well_formed

    is_it : HeapNative → Bool
    is_it m = m.number == k

    written : HeapNative → HeapNative
    written m = with_native_slot i x m

    changes : ChangesNatives h (changed_where is_it written)
    changes = ChangesNatives-where h w is_it written (λ m. refl) (λ m a e. record {
      slots = subst (λ l. l ≤ most_slots) (sym (length-set m.slots i x)) (w.native_slots m a);
      contents = contents-written (names_there h) m.slots i x there (λ y z. w.native_contents m y a z);
      preserved = w.preserved m a;
    })

-- a reflector that is there is preserved
pub set_preserved-sound : (owned : List ℕ) (h : Heap) (k : ℕ) → Among (reflector k) (script_names h) → IsSound owned h →
    IsSound owned (set_preserved h k true)
set_preserved-sound owned h k there s = IsSound-from_counted owned (set_preserved h k true)
    (IsWellFormed-natives h (changed_where is_it kept) h.buffer w changes (IsBuffer-own h w))
    (λ j. let slots : slots_of_natives (set_preserved h k true) ≡ slots_of_natives h =
    flat_map-kept (λ (m : HeapNative). contents m.slots) (changed_where is_it kept) h.natives
    (λ m. changed_where-either (λ o. contents o.slots ≡ contents m.slots) is_it kept m (λ e. refl) refl) in
    let refs : refs_to (set_preserved h k true) j ≡ refs_to h j = rw slots refl in
    omega (arith, IsSound-counted owned h s j, count_at-changed h k kept (λ m. refl) (λ m. refl) j))
    (none_zero-changed h k kept (λ m. refl) s.none_zero)
  where
    w : IsWellFormed h
    w = s.well_formed

    is_it : HeapNative → Bool
    is_it m = m.number == k

    kept : HeapNative → HeapNative
    kept m = record m { preserved = true }

    changes : ChangesNatives h (changed_where is_it kept)
    changes = ChangesNatives-where h w is_it kept (λ m. refl) (λ m a e. record {
      slots = w.native_slots m a;
      contents = λ y z. w.native_contents m y a z;
      preserved = λ f. subst (λ j. Among (reflector j) (script_names h)) (sym (eqb-true m.number k e)) there;
    })

-- Script objects: no change of them that keeps their names changes a count

-- Script objects change, and keep their names.
pub scripts-sound : (owned : List ℕ) (h : Heap) (f : HeapScript → HeapScript) → ChangesScripts h f → IsSound owned h →
    IsSound owned (with_scripts h f)
scripts-sound owned h f c s = search (IsWellFormed-scripts, count_by-kept_map, s.well_formed, s.counts, s.none_zero, s.owned_there, h.scripts, c.name)
