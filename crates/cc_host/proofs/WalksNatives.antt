-- A WALK OVER NATIVES BY KEYS goes by their numbers, and passes over those that were unlinked.
use Rattle.std.proofs.Common.{◌≡◌, ℕ, true, false, not, cond, [], List, ◌∷◌, ◌++◌, map, nat_lt, Option, Some, None, option_map, refl, sym, ◌∙◌, ap, subst}
use Rattle.std.specs.Prelude.{IfSome, IsSome}
use Rattle.std.specs.List.{filter}
use Rattle.std.specs.Option.{option_and_then}
use Rattle.std.proofs.lemmas.Bool.{eq-eqb}
use Rattle.std.proofs.lemmas.List.{map-append, append_assoc}
use Rattle.std.proofs.lemmas.List.Elements.{filter-append}
use Rattle.cc_lists.specs.Members.{Among}
use Rattle.cc_lists.specs.Walks.{HasDistinctKeys, first_of, left_at, next_key}
use Rattle.cc_lists.proofs.Members.{Among-filtered}
use Rattle.cc_lists.proofs.Rising.{rising-distinct}
use Rattle.cc_lists.proofs.RisingWalks.{next-above}
use Rattle.cc_lists.proofs.Searching.{filter-map}
use Rattle.cc_lists.proofs.Walks.{among-between, first_key-map, left-between, left-first, left-next, others-around}
use Rattle.cc_names.specs.declared.name.Name.{Name}
use Rattle.cc_names.specs.declared.name.Name.TheVariants as name
use Rattle.cc_names.specs.declared.number.NKey.{NKey}
use Rattle.cc_names.specs.declared.number.NativeNo.{NativeNo}
use Rattle.cc_names.specs.Names.{native, number_of}
use Rattle.cc_model.specs.Given.{is_living, living_names}
use Rattle.cc_model.specs.Heap.{HeapNative, native_at}
use Rattle.cc_model.specs.WellFormed.{script_names}
use Rattle.cc_laws_heap.proofs.Face.{is_some-found, named-found, native_at-number, native_at-there}
use Rattle.cc_counted.specs.Counts.{Counts, first_number, number_after, number_or_none, the_number, unlinked_at, unlinked_of}
use Rattle.cc_counted.specs.Counts as counts
use Rattle.cc_heaps.specs.Keyed.{Keyed, IsInOrder, counts_of, keyed_native, number_at}
use Rattle.cc_heaps.specs.Changes.{IsNativeThere, native_name}
use Rattle.cc_heaps.proofs.Calls.{number-named}
use Rattle.cc_host.specs.Walks.{behind, names_from, natives_from, objects_in}
use Rattle.cc_host.specs.declared.object.Object.{Object}
use Rattle.cc_host.specs.Hosted.{Hosted}
use Rattle.cc_host.specs.Stops.{stop_at}
use Rattle.cc_host.proofs.Referring.{found-native, found-there, unlinked-of}
use Rattle.cc_host.proofs.WalksLists.{behind-here, behind-past}

-- the rest of two lists that are one
pub rests-alike : {X : Type 0} (x : X) (xs ys : List X) → x ∷ xs ≡ x ∷ ys → xs ≡ ys
rests-alike x xs ys e = cc

-- what the number of a native is
abbrev pub number_in : HeapNative → ℕ
number_in n = n.number

abbrev pub name_in : HeapNative → Name
name_in n = native n.number

-- one that was not unlinked is listed,
living-kept : (n : HeapNative) (ns : List HeapNative) → n.unlinked ≡ false → filter is_living (n ∷ ns) ≡ n ∷ filter is_living ns
living-kept n ns e = ap (λ b. cond (not b) (n ∷ filter is_living ns) (filter is_living ns)) e

-- and one that was is not
unlinked-passed : (n : HeapNative) (ns : List HeapNative) → n.unlinked ≡ true → filter is_living (n ∷ ns) ≡ filter is_living ns
unlinked-passed n ns e = ap (λ b. cond (not b) (n ∷ filter is_living ns) (filter is_living ns)) e

-- A NATIVE STANDS AT A KEY
pub record IsNativeAt (v : Keyed) (key : NKey) (n : HeapNative) : Type 0 where
  pub there : Among n v.heap.natives
  pub here : number_at v key.0 ≡ Some n.number
  pub found : native_at v.heap n.number ≡ Some n

module _ (v : Keyed) (o : IsInOrder [] v) where
  distinct : HasDistinctKeys number_in v.heap.natives
  distinct = rising-distinct number_in v.heap.natives o.sound.well_formed.rising

  pub native-at : (key : NKey) → IsSome (number_at v key.0) → (n : HeapNative) × IsNativeAt v key n
  native-at key live =
      let k = is_some-found (number_at v key.0) live in
      let f = named-found v.heap k.0 (number-named v [] key.0 k.0 o k.1) in
      let same = native_at-number v.heap k.0 f.0 f.1 in (
        f.0,
        record {
          there = native_at-there v.heap k.0 f.0 f.1;
          here = k.1 ∙ ap Some (sym same);
          found = ap (native_at v.heap) same ∙ f.1;
        },
      )

  -- what is there of the counted heap is there
  pub native-there : (c : Counts) → c ≡ counts_of v → (at : Option NKey) → IfSome at (λ (key : NKey). IsSome (counts.number_at c key.0)) → IsNativeThere v at
  native-there c is None live = tt
  native-there c is (Some key) live = subst (λ (d : Counts). IsSome (counts.number_at d key.0)) is live

  -- the first native is the first that is left
  pub natives-first : (c : Counts) → c ≡ counts_of v → (at : Option NKey) →
      option_and_then (λ (key : NKey). counts.number_at c key.0) at ≡ first_number c.natives → natives_from v at ≡ v.heap.natives
  natives-first c is at e =
      ap (left_at number_in v.heap.natives)
      (subst (λ (d : Counts). option_and_then (λ (key : NKey). counts.number_at d key.0) at ≡ first_number d.natives) is e
      ∙ first_key-map number_in (keyed_native v.scripts) v.heap.natives)
      ∙ left-first number_in v.heap.natives

  module _ (key : NKey) (n : HeapNative) (a : IsNativeAt v key n) where
    -- the next number is that of the next native
    number_after-next : number_after (counts_of v) (the_number (counts_of v) key.0) ≡ next_key number_in v.heap.natives n.number
    number_after-next =
        ap (number_after (counts_of v)) (ap number_or_none a.here)
        ∙ (ap first_number (filter-map (λ (m : HeapNative). nat_lt n.number m.number) (keyed_native v.scripts) v.heap.natives)
        ∙ (first_key-map number_in (keyed_native v.scripts) (filter (λ (m : HeapNative). nat_lt n.number m.number) v.heap.natives)
        ∙ sym (next-above number_in v.heap.natives o.sound.well_formed.rising n a.there)))

    -- AT A KEY ITS NATIVE IS LEFT, and those behind it,
    abbrev pub those_behind : List HeapNative
    those_behind = left_at number_in v.heap.natives (next_key number_in v.heap.natives n.number)

    pub natives-left : natives_from v (Some key) ≡ n ∷ those_behind
    natives-left = ap (left_at number_in v.heap.natives) a.here ∙ left-next number_in v.heap.natives n distinct a.there

    -- which are left at the next.
    pub natives-next : (c : Counts) → c ≡ counts_of v → (next : Option NKey) →
        option_and_then (λ (k : NKey). counts.number_at c k.0) next ≡ number_after c (the_number c key.0) → natives_from v (Some key) ≡ n ∷ natives_from v next
    natives-next c is next e =
        natives-left
        ∙ ap (λ at. n ∷ left_at number_in v.heap.natives at)
        (sym (subst (λ (d : Counts). option_and_then (λ (k : NKey). counts.number_at d k.0) next ≡ number_after d (the_number d key.0)) is e ∙ number_after-next))

    -- whether it was unlinked
    pub unlinked-is : (c : Counts) → c ≡ counts_of v → unlinked_of c key.0 ≡ n.unlinked
    unlinked-is c is =
        ap (λ (d : Counts). unlinked_of d key.0) is
        ∙ (unlinked-of v key.0 ∙ (ap (λ k. unlinked_at (native_at v.heap (number_or_none k))) a.here ∙ ap unlinked_at a.found))

    -- one that was not unlinked is the first that is left
    pub names-living : n.unlinked ≡ false → first_of (names_from v (Some key)) ≡ Some (native n.number)
    names-living e = ap (λ ns. first_of (map name_in (filter is_living ns) ++ script_names v.heap)) natives-left
        ∙ ap (λ ns. first_of (map name_in ns ++ script_names v.heap)) (living-kept n those_behind e)

    module _ (rest : List HeapNative) (left : natives_from v (Some key) ≡ n ∷ rest) where
      -- one that was unlinked is passed over
      pub names-passed : n.unlinked ≡ true → names_from v (Some key) ≡ map name_in (filter is_living rest) ++ script_names v.heap
      names-passed e = ap (λ ns. map name_in (filter is_living ns) ++ script_names v.heap) left ∙ ap (λ ns. map name_in ns ++ script_names v.heap) (unlinked-passed n rest e)

      -- BEHIND ONE THAT WAS NOT stands the first that is left of the rest.
      pub names-behind : n.unlinked ≡ false → behind (native n.number) (objects_in v.heap) ≡ first_of (map name_in (filter is_living rest) ++ script_names v.heap)
      names-behind e =
          let b = among-between n v.heap.natives a.there in
          let apart = others-around number_in b.before n b.behind (subst (HasDistinctKeys number_in) b.whole distinct) in
          let same : b.behind ≡ rest = rests-alike n b.behind rest
          (sym (ap (λ ns. left_at number_in ns (Some n.number)) b.whole ∙ left-between number_in n b.behind b.before apart.0)
          ∙ (ap (left_at number_in v.heap.natives) (sym a.here) ∙ left)) in
          let split : living_names v.heap ≡ map name_in (filter is_living b.before) ++ native n.number ∷ map name_in (filter is_living b.behind) =
          ap (λ ns. map name_in (filter is_living ns)) b.whole
          ∙ (ap (map name_in) (filter-append is_living b.before (n ∷ b.behind))
          ∙ (map-append name_in (filter is_living b.before) (filter is_living (n ∷ b.behind))
          ∙ ap (λ ns. map name_in (filter is_living b.before) ++ ns) (ap (map name_in) (living-kept n b.behind e)))) in
          ap (λ ns. behind (native n.number) (ns ++ script_names v.heap)) split
          ∙ (ap (behind (native n.number)) (append_assoc (map name_in (filter is_living b.before)) (native n.number ∷ map name_in (filter is_living b.behind)) (script_names v.heap))
          ∙ (behind-past name_in (native n.number) (filter is_living b.before) (native n.number ∷ map name_in (filter is_living b.behind) ++ script_names v.heap)
          (λ m i. apart.0 m (Among-filtered is_living m b.before i))
          ∙ (behind-here (native n.number) (native n.number) (map name_in (filter is_living b.behind) ++ script_names v.heap) (eq-eqb n.number n.number refl)
          ∙ ap (λ ns. first_of (map name_in (filter is_living ns) ++ script_names v.heap)) same)))

-- A NATIVE AT WHICH NO CALL STOPS was not unlinked.
pub not-unlinked : (h : Hosted) (o : IsInOrder [] h.heaps) (x : Object) (number : NativeNo) → x.name ≡ name.Native number → stop_at h x ≡ None →
    (key : NKey) (n : HeapNative) → IsNativeAt h.heaps key n → native_name h.heaps (Some key) ≡ Some x.name → (n.unlinked ≡ false) × (native n.number ≡ x.name)
not-unlinked h o x number is none key n a e =
    let f = found-there h.heaps x.key number (found-native h x number is none) in
    let named : Some (native n.number) ≡ Some x.name = ap (option_map native) (sym a.here) ∙ e in
    let same : native n.number ≡ x.name = cc in
    let number_is : n.number ≡ number.0 = ap number_of (same ∙ is) in (
      sym (ap (λ k. unlinked_at (native_at h.heaps.heap k)) (ap number_or_none f.0 ∙ sym number_is) ∙ ap unlinked_at a.found)
          ∙ (sym (unlinked-of h.heaps x.key) ∙ f.1),
      same,
    )
