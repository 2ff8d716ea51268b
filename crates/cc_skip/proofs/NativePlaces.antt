-- WHAT A NATIVE REFERS TO, as the counted heap answers it by its key: it has the name that stands at the place, and is there.
use Rattle.std.proofs.Common.{◌≡◌, ℕ, ◌+◌, ◌<◌, ◌==◌, Bool, true, false, List, [], ◌∷◌, ◌++◌, map, length, get_or, Option, Some, None, IsSome, IsTrue, option_map, option_and_then, refl, sym, ◌∙◌, ap, subst, ⊎_elim, arith}
use Rattle.std.specs.Option.{option_to_list}
use Rattle.std.proofs.Math.ListN.{get_or-map}
use Rattle.std.proofs.lemmas.List.{get_or_append_left, get_or_push, length-map, map-append}
use Rattle.cc_lists.specs.Members.{Among}
use Rattle.cc_lists.proofs.Members.{Among-append, Among-right}
use Rattle.cc_lists.proofs.Searching.{find-map}
use Rattle.cc_names.specs.declared.name.Name.{Name}
use Rattle.cc_names.specs.declared.number.NKey.{NKey}
use Rattle.cc_names.specs.declared.number.SKey.{SKey}
use Rattle.cc_names.specs.Names.{native, object, reflector}
use Rattle.cc_names.specs.Places.{where_set}
use Rattle.cc_model.specs.Checks.{slots_or_none}
use Rattle.cc_model.specs.Heap.{HeapNative, native_at}
use Rattle.cc_model.specs.Places.{places_in, places_of_native}
use Rattle.cc_model.specs.Slots.{contents}
use Rattle.cc_model.specs.WellFormed.{IsWellFormed, names_there, native_names, script_names}
use Rattle.cc_model.proofs.Places.{contents-last}
use Rattle.cc_laws_heap.proofs.Face.{IsIn, IsWellFormed-distinct, contents-at-of_writes as contents-at, native_at-member}
use Rattle.cc_counted.specs.declared.held.Held.{Held}
use Rattle.cc_counted.specs.declared.held.Held.TheVariants as held
use Rattle.cc_counted.specs.Counts.{Counts, heap_of, is_live, name_of, number_or_none, preserved_at, preserved_of, preserved_reflector, reflector_at, references_of, slots_of}
use Rattle.cc_counted.specs.Counts as counts
use Rattle.cc_heaps.specs.Keyed.{Keyed, IsInOrder, counts_of, keyed_name, keyed_native, number_at, reflector_key}
use Rattle.cc_heaps.specs.Changes.{IsScriptThere, script_name}
use Rattle.cc_heaps.specs.Places.{places_at}
use Rattle.cc_heaps.proofs.ContentNames.{IsHeldAs, content-named}
use Rattle.cc_heaps.proofs.Keys.{HasKeys-names, counts_in}
use Rattle.cc_heaps.proofs.References.{length-references, native-found}
use Rattle.cc_skip.specs.Walked.{Enters}
use Rattle.cc_skip.proofs.States.{places-rest, there-rest}

module _ (owned : List ℕ) (v : Keyed) (order : IsInOrder owned v) (key : NKey) (there : IsSome (number_at v key.0)) where
  well : IsWellFormed v.heap
  well = order.sound.well_formed

  found : (n : HeapNative) × Among n v.heap.natives × (number_at v key.0 ≡ Some n.number)
  found = native-found (counts_in v.heap v.keys) (HasKeys-names v order.keyed) key.0 there

  abbrev n : HeapNative
  n = found.0

  at : native_at v.heap n.number ≡ Some n
  at = native_at-member v.heap (IsWellFormed-distinct v.heap well) n found.1

  places-are : places_at v (held.Native key) ≡ places_of_native n
  places-are =
      ap (λ k. slots_or_none (option_and_then (places_in v.heap) (option_map native k))) found.2
      ∙ ap (λ m. slots_or_none (option_map places_of_native m)) at

  -- The same as the counted heap shows it, where keys stand for names of script objects

  keyed-at : native_at (heap_of (counts_of v)) (counts.the_number (counts_of v) key.0) ≡ Some (keyed_native v.scripts n)
  keyed-at =
      ap (λ k. native_at (heap_of (counts_of v)) (number_or_none k)) found.2
      ∙ (find-map (λ (m : HeapNative). m.number == n.number) (keyed_native v.scripts) v.heap.natives ∙ ap (option_map (keyed_native v.scripts)) at)

  reflector-at : reflector_at (counts_of v) key.0 ≡ reflector_key v.scripts n.number
  reflector-at = get_or-map (option_and_then (reflector_key v.scripts)) v.keys key.0 None ∙ ap (option_and_then (reflector_key v.scripts)) found.2

  abbrev by_key : Option Name → Option Name
  by_key x = option_and_then (keyed_name v.scripts) x

  references-are : references_of (counts_of v) key.0 ≡ map by_key (places_at v (held.Native key))
  references-are =
      (λ i. counts.slots_at (keyed-at i) ++ preserved_reflector (preserved_at (keyed-at i)) (reflector-at i) ∷ [])
      ∙ (ap (λ o. map by_key n.slots ++ o ∷ []) (last n.preserved)
      ∙ (sym (map-append by_key n.slots (where_set n.preserved (Some (reflector n.number)) ∷ [])) ∙ ap (map by_key) (sym places-are)))
    where
      last : (b : Bool) → preserved_reflector b (reflector_key v.scripts n.number) ≡ by_key (where_set b (Some (reflector n.number)))
      last true = refl
      last false = refl

  -- there is one more place than slots
  pub native_places-length : length (places_at v (held.Native key)) ≡ length (slots_of (counts_of v) key.0) + 1
  native_places-length =
      sym (length-map (places_at v (held.Native key)) by_key) ∙ (ap length (sym references-are) ∙ length-references (counts_of v) key.0)

  -- what a place holds is there
  place-there : (i : ℕ) → IsIn (names_there v.heap) (get_or (places_at v (held.Native key)) i None)
  place-there i y m = ⊎_elim
      (well.native_contents n y found.1)
      (last n.preserved refl)
      (Among-append y (contents n.slots) (option_to_list (where_set n.preserved (Some (reflector n.number))))
      (subst (Among y) (ap contents places-are ∙ contents-last n.slots (where_set n.preserved (Some (reflector n.number)))) (contents-at (places_at v (held.Native key)) i y m)))
    where
      last : (b : Bool) → n.preserved ≡ b → Among y (option_to_list (where_set b (Some (reflector n.number)))) → Among y (names_there v.heap)
      last false e j = absurd j
      last true e j = ⊎_elim
          (λ s. Among-right y (native_names v.heap) (script_names v.heap) (subst (λ x. Among x (script_names v.heap)) s (well.preserved n found.1 e)))
          (λ none. absurd none) j

  -- what has the name of a reference by key is held under the name of its place
  reference-held : (i : ℕ) (x : Option Held) → name_of (counts_of v) x ≡ get_or (references_of (counts_of v) key.0) i None → IsTrue (is_live (counts_of v) x) →
      IsHeldAs v x (get_or (places_at v (held.Native key)) i None)
  reference-held i x e live = content-named owned v order (get_or (places_at v (held.Native key)) i None) x (place-there i)
      (e ∙ (ap (λ ss. get_or ss i None) references-are ∙ get_or-map by_key (places_at v (held.Native key)) i None)) live

  -- WHAT A SLOT HOLDS
  native_slot-held : (i : ℕ) (x : Option Held) → i < length (slots_of (counts_of v) key.0) → name_of (counts_of v) x ≡ get_or (slots_of (counts_of v) key.0) i None →
      IsTrue (is_live (counts_of v) x) → IsHeldAs v x (get_or (places_at v (held.Native key)) i None)
  native_slot-held i x within e live = reference-held i x (e ∙ sym (get_or_append_left (slots_of (counts_of v) key.0) (its_reference ∷ []) None i within)) live
    where
      its_reference : Option Name
      its_reference = preserved_reflector (preserved_of (counts_of v) key.0) (reflector_at (counts_of v) key.0)

  -- what stands behind the last slot
  last-held : (x : Option Held) → name_of (counts_of v) x ≡ preserved_reflector (preserved_of (counts_of v) key.0) (reflector_at (counts_of v) key.0) → IsTrue (is_live (counts_of v) x) →
      IsHeldAs v x (get_or (places_at v (held.Native key)) (length (slots_of (counts_of v) key.0)) None)
  last-held x e live = reference-held (length (slots_of (counts_of v) key.0)) x
      (e ∙ sym (get_or_push (slots_of (counts_of v) key.0) (preserved_reflector (preserved_of (counts_of v) key.0) (reflector_at (counts_of v) key.0)) None (length (slots_of (counts_of v) key.0)) refl)) live

  -- ITS REFLECTOR, where that is preserved,
  reflector-held : (x : Option SKey) → preserved_of (counts_of v) key.0 ≡ true → option_map (λ (r : SKey). r.0) x ≡ reflector_at (counts_of v) key.0 →
      (script_name v x ≡ get_or (places_at v (held.Native key)) (length (slots_of (counts_of v) key.0)) None) × IsScriptThere v x
  reflector-held x p e = go x (last-held (option_map held.Script x) (by-name x ∙ λ i. preserved_reflector (sym p i) (e i)) (lives x))
    where
      by-name : (x : Option SKey) → name_of (counts_of v) (option_map held.Script x) ≡ option_map object (option_map (λ (r : SKey). r.0) x)
      by-name None = refl
      by-name (Some r) = refl

      lives : (x : Option SKey) → IsTrue (is_live (counts_of v) (option_map held.Script x))
      lives None = refl
      lives (Some r) = refl

      go : (x : Option SKey) {y : Option Name} → IsHeldAs v (option_map held.Script x) y → (script_name v x ≡ y) × IsScriptThere v x
      go None h = (h.name, h.there)
      go (Some r) h = (h.name, h.there)

  -- and nothing, where it is not
  no_reflector-held : preserved_of (counts_of v) key.0 ≡ false → None ≡ get_or (places_at v (held.Native key)) (length (slots_of (counts_of v) key.0)) None
  no_reflector-held p = (last-held None (λ i. preserved_reflector (sym p i) (reflector_at (counts_of v) key.0)) refl).name

-- READ LATER in the walk, when others came in
module _ (owned : List ℕ) (a b : Keyed) (order : IsInOrder owned a) (names : List Name) (s : Enters a b names) (key : NKey) (there : IsSome (number_at a key.0))
    (n : ℕ) (many : length (places_at a (held.Native key)) ≡ n + 1) (d : Counts) (shown : d ≡ counts_of b) where
  ordered : IsInOrder owned b
  ordered = s.kept.order owned order

  still : IsSome (number_at b key.0)
  still = there-rest a b s.rest (Some (held.Native key)) there

  slots-still : length (slots_of (counts_of b) key.0) ≡ n
  slots-still = omega (arith, many, native_places-length owned b ordered key still, ap length (places-rest a b s.rest (held.Native key)))

  -- it has as many slots
  pub native_slots-still : length (slots_of d key.0) ≡ n
  native_slots-still = ap (λ (e : Counts). length (slots_of e key.0)) shown ∙ slots-still

  pub native_slot-read : (i : ℕ) (x : Option Held) → i < n → name_of d x ≡ get_or (slots_of d key.0) i None → IsTrue (is_live d x) →
      IsHeldAs b x (get_or (places_at b (held.Native key)) i None)
  native_slot-read i x within e live = native_slot-held owned b ordered key still i x (omega (arith, within, slots-still))
      (subst (λ (f : Counts). name_of f x ≡ get_or (slots_of f key.0) i None) shown e)
      (subst (λ (f : Counts). IsTrue (is_live f x)) shown live)

  preserved-shown : preserved_of (counts_of b) key.0 ≡ preserved_of d key.0
  preserved-shown = ap (λ (f : Counts). preserved_of f key.0) (sym shown)

  -- its reflector is read behind the test
  pub reflector-read : (next : Counts) → next ≡ counts_of b → (x : Option SKey) → preserved_of d key.0 ≡ true → option_map (λ (r : SKey). r.0) x ≡ reflector_at next key.0 →
      (script_name b x ≡ get_or (places_at b (held.Native key)) n None) × IsScriptThere b x
  reflector-read next e x p is =
      let h = reflector-held owned b ordered key still x (preserved-shown ∙ p) (is ∙ ap (λ (f : Counts). reflector_at f key.0) e) in
      (h.0 ∙ ap (λ i. get_or (places_at b (held.Native key)) i None) slots-still, h.1)

  pub no_reflector-read : preserved_of d key.0 ≡ false → None ≡ get_or (places_at b (held.Native key)) n None
  no_reflector-read p = no_reflector-held owned b ordered key still (preserved-shown ∙ p) ∙ ap (λ i. get_or (places_at b (held.Native key)) i None) slots-still
