-- THE NATIVE THAT A REGISTER HOLDS, by its key: its slots, and what they hold.
use Rattle.std.proofs.Common.{◌≡◌, ℕ, ◌==◌, ◌≤◌, List, map, length, get_or, Option, Some, None, option_map, option_and_then, IsTrue, IsSome, refl, sym, ◌∙◌, ap, subst, inl, arith}
use Rattle.std.specs.Option.{option_to_list}
use Rattle.std.proofs.Math.ListN.{get_or-map}
use Rattle.std.proofs.lemmas.Bool.{false≢true}
use Rattle.std.proofs.lemmas.List.{length-map}
use Rattle.cc_lists.specs.Members.{Among}
use Rattle.cc_lists.proofs.Searching.{find-map}
use Rattle.cc_names.specs.declared.number.NKey.{NKey}
use Rattle.cc_names.specs.declared.register.Reg.TheVariants.{N}
use Rattle.cc_names.specs.Names.{native}
use Rattle.cc_names.specs.Sizes.{most_slots}
use Rattle.cc_model.specs.Slots.{Slots}
use Rattle.cc_model.specs.Checks.{slot_at, slots_at}
use Rattle.cc_model.specs.Heap.{HeapNative, native_at, objects_of, register}
use Rattle.cc_laws_heap.proofs.Face.{named-found, native_at-there, native_register-there, slot_at-there}
use Rattle.cc_counted.specs.declared.held.Held.{Held}
use Rattle.cc_counted.specs.Counts.{heap_of, is_live, name_of, number_or_none, slots_of}
use Rattle.cc_counted.specs.Counts as counts
use Rattle.cc_heaps.specs.Keyed.{Keyed, IsInOrder, counts_of, number_at, the_number, keyed_name, keyed_native}
use Rattle.cc_heaps.specs.Changes.{native_name}
use Rattle.cc_heaps.proofs.ContentNames.{IsHeldAs, content-named}

-- the native at a key, which a register holds
pub record IsNativeAt (v : Keyed) (r key : ℕ) : Type 0 where
  pub number : ℕ
  pub at : number_at v key ≡ Some number
  pub held : register v.heap (N r) ≡ Some (native number)
  pub native : HeapNative
  pub found : native_at v.heap number ≡ Some native

-- names of contents as the counted heap shows them
abbrev pub keyed_slots : Keyed → Slots → Slots
keyed_slots v slots = map (λ x. option_and_then (keyed_name v.scripts) x) slots

module _ (owned : List ℕ) (v : Keyed) (order : IsInOrder owned v) (r : ℕ) (key : NKey) (name : native_name v (Some key) ≡ register v.heap (N r)) (there : IsSome (number_at v key.0)) where
  -- It is found by its number.
  pub native-at : IsNativeAt v r key.0
  native-at = go (number_at v key.0) refl there
    where
      go : (o : Option ℕ) → number_at v key.0 ≡ o → IsSome o → IsNativeAt v r key.0
      go None e t = absurd (false≢true t)
      go (Some k) e t =
          let is : register v.heap (N r) ≡ Some (native k) = sym name ∙ ap (option_map native) e in
          let f = named-found v.heap k (native_register-there v.heap r order.sound.well_formed (native k) (subst (λ o. Among (native k) (option_to_list o)) (sym is) (inl refl))) in
          record { number = k; at = e; held = is; native = f.0; found = f.1 }

  pub held-number : register v.heap (N r) ≡ Some (native (the_number v key.0))
  held-number = native-at.held ∙ sym (ap (λ o. Some (native (number_or_none o))) native-at.at)

  -- its slots by names,
  pub slots-named : slots_at (objects_of v.heap) (N r) ≡ native-at.native.slots
  slots-named = grind arith

  -- and as the counted heap shows them
  pub slots-keyed : slots_of (counts_of v) key.0 ≡ keyed_slots v native-at.native.slots
  slots-keyed =
      ap (λ o. counts.slots_at (native_at (heap_of (counts_of v)) (number_or_none o))) native-at.at
      ∙ (ap counts.slots_at (find-map (λ (n : HeapNative). n.number == native-at.number) (keyed_native v.scripts) v.heap.natives)
      ∙ ap (λ o. counts.slots_at (option_map (keyed_native v.scripts) o)) native-at.found)

  -- as many
  pub slots-as_many : length (slots_of (counts_of v) key.0) ≡ length (slots_at (objects_of v.heap) (N r))
  slots-as_many = ap length slots-keyed ∙ (length-map native-at.native.slots (λ x. option_and_then (keyed_name v.scripts) x) ∙ sym (ap length slots-named))

  -- and few
  pub slots-few : length (slots_at (objects_of v.heap) (N r)) ≤ most_slots
  slots-few = grind (arith, slots-named, native_at-there, order.sound.well_formed.native_slots)

  -- WHAT A SLOT HOLDS, as the counted heap answers it, by name
  pub slot-named : (i : ℕ) (x : Option Held) → name_of (counts_of v) x ≡ get_or (slots_of (counts_of v) key.0) i None → IsTrue (is_live (counts_of v) x) →
      IsHeldAs v x (slot_at (objects_of v.heap) (N r) i)
  slot-named i x e live =
      content-named owned v order (slot_at (objects_of v.heap) (N r) i) x (slot_at-there v.heap (N r) i order.sound.well_formed)
      (e ∙ (ap (λ ss. get_or ss i None) slots-keyed
      ∙ (get_or-map (λ x. option_and_then (keyed_name v.scripts) x) native-at.native.slots i None
      ∙ ap (λ ss. option_and_then (keyed_name v.scripts) (get_or ss i None)) (sym slots-named)))) live
