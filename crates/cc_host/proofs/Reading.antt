-- THE SLOTS OF WHAT STANDS AT A KEY, by its name: as many by keys as by names, and what each holds.
use Rattle.std.proofs.Common.{◌≡◌, ℕ, ◌==◌, [], List, map, length, get_or, Option, Some, None, option_map, option_and_then, IsTrue, refl, sym, ◌∙◌, ap, subst}
use Rattle.std.proofs.Math.ListN.{get_or-map}
use Rattle.std.proofs.lemmas.List.{length-map}
use Rattle.cc_lists.proofs.Filtering.{find-among}
use Rattle.cc_lists.proofs.Searching.{find-map}
use Rattle.cc_lists.proofs.Places.{among-get}
use Rattle.cc_names.specs.declared.name.Name.{Name}
use Rattle.cc_names.specs.declared.number.NKey.{NKey}
use Rattle.cc_names.specs.declared.number.SKey.{SKey}
use Rattle.cc_names.specs.Names.{native}
use Rattle.cc_model.specs.Checks.{slots_or_none}
use Rattle.cc_model.specs.Heap.{HeapNative, native_at, slots_in}
use Rattle.cc_laws_heap.proofs.Face.{named-found, option_map-found, slot-there}
use Rattle.cc_counted.specs.declared.held.Held.{Held}
use Rattle.cc_counted.specs.Counts.{Counts, heap_of, is_live, name_of, number_or_none}
use Rattle.cc_counted.specs.Counts as counts
use Rattle.cc_script.specs.Objects as objects
use Rattle.cc_script.proofs.PlacesOf.{slot-place}
use Rattle.cc_heaps.specs.Keyed.{Keyed, counts_of, number_at, keyed_name, keyed_native, name_held, named_object}
use Rattle.cc_heaps.specs.Changes.{IsScriptThere, native_name, script_name}
use Rattle.cc_heaps.proofs.Calls.{number-named}
use Rattle.cc_heaps.proofs.ContentNames.{IsHeldAs, content-named, object-there}
use Rattle.cc_mutator.proofs.NativesRead.{keyed_slots}
use Rattle.cc_mutator.proofs.ScriptsRead.{slots-of_object}
use Rattle.cc_host.specs.declared.object.Object.{Object}
use Rattle.cc_host.specs.Hosted.{Hosted, IsKept, slots_of}

-- what a slot of a script object holds, by key and by name
pub record IsReadAs (v : Keyed) (y : Option SKey) (x : Option Name) : Type 0 where
  pub name : script_name v y ≡ x
  pub there : IsScriptThere v y

module _ (h : Hosted) (kept : IsKept h) (x : Object) where
  abbrev v : Keyed
  v = h.heaps

  -- A native

  module _ (key : NKey) (name : native_name v (Some key) ≡ Some x.name) where
    number-at : (k : ℕ) × (number_at v key.0 ≡ Some k) × (native k ≡ x.name)
    number-at = option_map-found native (number_at v key.0) x.name name

    native-at : (n : HeapNative) × (native_at v.heap number-at.0 ≡ Some n)
    native-at = named-found v.heap number-at.0 (number-named v [] key.0 number-at.0 kept.runs.order number-at.1)

    slots-named : slots_of h x ≡ native-at.0.slots
    slots-named =
        ap (λ y. slots_or_none (slots_in v.heap y)) (sym number-at.2)
        ∙ ap (λ o. slots_or_none (option_map (λ (n : HeapNative). n.slots) o)) native-at.1

    slots-keyed : counts.slots_of (counts_of v) key.0 ≡ keyed_slots v native-at.0.slots
    slots-keyed =
        ap (λ o. counts.slots_at (native_at (heap_of (counts_of v)) (number_or_none o))) number-at.1
        ∙ (ap counts.slots_at (find-map (λ (n : HeapNative). n.number == number-at.0) (keyed_native v.scripts) v.heap.natives)
        ∙ ap (λ o. counts.slots_at (option_map (keyed_native v.scripts) o)) native-at.1)

    module _ (d : Counts) (is : d ≡ counts_of v) where
      -- has as many slots,
      pub native_slots-many : length (counts.slots_of d key.0) ≡ length (slots_of h x)
      native_slots-many =
          ap (λ (c : Counts). length (counts.slots_of c key.0)) is
          ∙ (ap length slots-keyed
          ∙ (length-map native-at.0.slots (λ y. option_and_then (keyed_name v.scripts) y) ∙ sym (ap length slots-named)))

      -- and what each holds is there under its name.
      pub native_slot-held : (i : ℕ) (y : Option Held) → name_of d y ≡ get_or (counts.slots_of d key.0) i None → IsTrue (is_live d y) →
          IsHeldAs v y (get_or (slots_of h x) i None)
      native_slot-held i y e live =
          content-named [] v kept.runs.order (get_or (slots_of h x) i None) y
          (slot-there v.heap number-at.0 i native-at.0 (get_or (slots_of h x) i None) kept.runs.order.sound.well_formed native-at.1 (ap (λ ss. get_or ss i None) (sym slots-named)))
          (subst (λ (c : Counts). name_of c y ≡ get_or (counts.slots_of c key.0) i None) is e
          ∙ (ap (λ ss. get_or ss i None) slots-keyed
          ∙ (get_or-map (λ z. option_and_then (keyed_name v.scripts) z) native-at.0.slots i None
          ∙ ap (λ ss. option_and_then (keyed_name v.scripts) (get_or ss i None)) (sym slots-named))))
          (subst (λ (c : Counts). IsTrue (is_live c y)) is live)

  -- A script object

  module _ (key : SKey) (name : script_name v (Some key) ≡ Some x.name) where
    object-at : (o : objects.Object) × (objects.object_at v.scripts key.0 ≡ Some o) × (o.name ≡ x.name)
    object-at = option_map-found (λ (o : objects.Object). o.name) (objects.object_at v.scripts key.0) x.name name

    script_slots-named : slots_of h x ≡ map (name_held v.scripts) object-at.0.slots
    script_slots-named = ap (λ y. slots_or_none (slots_in v.heap y)) (sym object-at.2)
        ∙ slots-of_object [] v kept.runs.order (named_object v.scripts object-at.0) (object-there [] v kept.runs.order key.0 object-at.0 object-at.1)

    module _ (os : List objects.Object) (is : os ≡ v.scripts) where
      script_slots-keyed : objects.slots_at os key.0 ≡ object-at.0.slots
      script_slots-keyed = ap (λ ps. objects.slots_at ps key.0) is ∙ ap objects.slots_or_none object-at.1

      -- has as many slots,
      pub script_slots-many : length (objects.slots_at os key.0) ≡ length (slots_of h x)
      script_slots-many = ap length script_slots-keyed ∙ (sym (length-map object-at.0.slots (name_held v.scripts)) ∙ sym (ap length script_slots-named))

      -- and what each holds is there under its name.
      pub script_slot-read : (i : ℕ) (y : Option SKey) → option_map (λ (k : SKey). k.0) y ≡ get_or (objects.slots_at os key.0) i None →
          IsReadAs v y (get_or (slots_of h x) i None)
      script_slot-read i y e = record { name = named; there = there y (sym (e ∙ ap (λ ss. get_or ss i None) script_slots-keyed)) }
        where
          by_key : (y : Option SKey) → script_name v y ≡ name_held v.scripts (option_map (λ (k : SKey). k.0) y)
          by_key None = refl
          by_key (Some k) = refl

          named : script_name v y ≡ get_or (slots_of h x) i None
          named =
              by_key y ∙ (ap (name_held v.scripts) (e ∙ ap (λ ss. get_or ss i None) script_slots-keyed)
              ∙ (sym (get_or-map (name_held v.scripts) object-at.0.slots i None) ∙ ap (λ ss. get_or ss i None) (sym script_slots-named)))

          there : (y : Option SKey) → get_or object-at.0.slots i None ≡ option_map (λ (k : SKey). k.0) y → IsScriptThere v y
          there None f = tt
          there (Some k) f = kept.runs.order.whole object-at.0 k.0 (find-among (λ (p : objects.Object). p.key == key.0) v.scripts object-at.0 object-at.1)
              (slot-place object-at.0 k.0 (among-get object-at.0.slots i k.0 f))
