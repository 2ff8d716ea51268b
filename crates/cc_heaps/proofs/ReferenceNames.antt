-- WHAT NATIVES REFER TO by keys and by names: a preserved reflector has its own name in the place of its key.
use Rattle.std.proofs.Math.ListN.{get_or-map}
use Rattle.cc_lists.proofs.Held.{held-is}
use Rattle.cc_laws_heap.proofs.Face.{option_map-found}
use Rattle.cc_heaps.proofs.Keys.{named-object}
use Rattle.cc_heaps.proofs.References.{reflector_by-key}
use Rattle.std.proofs.Common.{◌≡◌, ℕ, ◌≤◌, Bool, true, false, [], ◌∷◌, ◌++◌, map, get_or, Option, Some, None, option_map, refl, sym, ◌∙◌, ap, subst, ⊎_elim, option_and_then}
use Rattle.std.specs.List.{find}
use Rattle.std.specs.Option.{is_some, option_to_list}
use Rattle.std.proofs.lemmas.Bool.{false≢true}
use Rattle.std.proofs.lemmas.List.{map-append, length-map}
use Rattle.cc_lists.specs.Members.{Among}
use Rattle.cc_lists.proofs.Members.{Among-append, Among-map, Among-map_cases}
use Rattle.cc_lists.proofs.Filtering.{find-among}
use Rattle.cc_names.specs.declared.name.Name.{Name}
use Rattle.cc_names.specs.declared.name.Name.TheVariants as name
use Rattle.cc_names.specs.Names.{native, object, reflector, same_name, is_script}
use Rattle.cc_names.specs.Sizes.{most_slots}
use Rattle.cc_model.specs.Slots.{contents}
use Rattle.cc_model.specs.Heap.{HeapNative}
use Rattle.cc_model.specs.Places.{places_of_native}
use Rattle.cc_model.specs.WellFormed.{IsWellFormed}
use Rattle.cc_counted.specs.Counts.{preserved_reflector}
use Rattle.cc_counted.specs.Owning.{HasKeys}
use Rattle.cc_script.specs.Objects.{Object, name_at}
use Rattle.cc_script.proofs.Reaching.{held-among, among-held}
use Rattle.cc_heaps.specs.Keyed.{key_of, reflector_key}
use Rattle.cc_heaps.specs.Named.{named_native, IsHeldThere}
use Rattle.cc_heaps.specs.Fields.{heap_of, IsLinked}
use Rattle.cc_heaps.specs.Roots.{reflector_by, references_in, HaveFewSlots}
use Rattle.cc_heaps.specs.declared.heaps.Heaps.TheInside.{Inside}
use Rattle.cc_heaps.proofs.Keying.{key_of-name}
use Rattle.cc_heaps.proofs.Naming.{name_in}
use Rattle.cc_model.proofs.Places.{contents-last}
use Rattle.cc_heaps.proofs.Reaching.{object_at-own, name_at-own}

-- natives have few slots by keys as by names
pub few_slots-counted : (p : Inside) → IsWellFormed (heap_of p) → HaveFewSlots p.counted.natives
few_slots-counted p w n m =
    subst (λ j. j ≤ most_slots) (length-map n.slots (name_in p.scripts)) (w.native_slots (named_native p.scripts n) (Among-map (named_native p.scripts) n p.counted.natives m))

module _ (p : Inside) (l : IsLinked p) (k : HasKeys p.counted) where
  reflector-found : (n : HeapNative) → Among n p.counted.natives → reflector_by p.counted.keys p.counted.reflectors n.number ≡ reflector_key p.scripts n.number
  reflector-found n m =
      let f = k.key_of n m in
      reflector_by-key p.counted.keys p.counted.reflectors f.0 n.number f.1 (λ q e. k.one_key q f.0 n.number e f.1)
      ∙ (ap (λ rs. get_or rs f.0 None) l.reflectors
      ∙ (get_or-map (option_and_then (reflector_key p.scripts)) p.counted.keys f.0 None ∙ ap (option_and_then (reflector_key p.scripts)) f.1))

  -- WHAT A NATIVE REFERS TO IS THERE, as far as it is a script object
  pub references-there : (n : HeapNative) (x : Name) → Among n p.counted.natives → Among x (contents (references_in p.counted n)) → IsHeldThere p.scripts x
  references-there n x m i =
      ⊎_elim (l.held n x m)
      (λ j. last n.preserved (subst (λ o. Among x (option_to_list (preserved_reflector n.preserved o))) (reflector-found n m) j))
      (Among-append x (contents n.slots) (option_to_list reference) (subst (Among x) (contents-last n.slots reference) i))
    where
      reference : Option Name
      reference = preserved_reflector n.preserved (reflector_by p.counted.keys p.counted.reflectors n.number)

      last : (b : Bool) → Among x (option_to_list (preserved_reflector b (reflector_key p.scripts n.number))) → IsHeldThere p.scripts x
      last false j = absurd j
      last true j =
          let key = option_map-found object (reflector_key p.scripts n.number) x (held-is (option_map object (reflector_key p.scripts n.number)) x j) in
          let f = option_map-found (λ (q : Object). q.key) (find (λ (q : Object). same_name q.name (reflector n.number)) p.scripts) key.0 key.1 in
          let there = object_at-own p.scripts l.one_key f.0 (find-among (λ (q : Object). same_name q.name (reflector n.number)) p.scripts f.0 f.1) in
          subst (IsHeldThere p.scripts) (ap object f.2 ∙ key.2) (ap is_some there)

  module _ (w : IsWellFormed (heap_of p)) where
    -- a preserved reflector has its name
    reflector-named : (n : HeapNative) → Among n p.counted.natives → n.preserved ≡ true → name_in p.scripts (option_map object (reflector_key p.scripts n.number)) ≡ Some (reflector n.number)
    reflector-named n m e =
        let there = w.preserved (named_native p.scripts n) (Among-map (named_native p.scripts) n p.counted.natives m) e in
        let g = named-object (heap_of p) p.scripts refl (reflector n.number) there in
        let key : reflector_key p.scripts n.number ≡ Some g.0.key = ap (key_of p.scripts) (sym g.2) ∙ key_of-name p.scripts l.one_name l.script_names g.0 g.1 in
        ap (λ o. name_in p.scripts (option_map object o)) key ∙ (name_at-own p.scripts l.one_key g.0 g.1 ∙ ap (λ y. Some y) g.2)

    -- THE REFERENCES OF A NATIVE by their names are its places
    pub references-named : (n : HeapNative) → Among n p.counted.natives → map (name_in p.scripts) (references_in p.counted n) ≡ places_of_native (named_native p.scripts n)
    references-named n m =
        map-append (name_in p.scripts) n.slots (preserved_reflector n.preserved (reflector_by p.counted.keys p.counted.reflectors n.number) ∷ [])
        ∙ ap (λ o. map (name_in p.scripts) n.slots ++ o ∷ []) (ap (λ o. name_in p.scripts (preserved_reflector n.preserved o)) (reflector-found n m) ∙ go n.preserved refl)
      where
        go : (b : Bool) → n.preserved ≡ b → name_in p.scripts (preserved_reflector b (reflector_key p.scripts n.number)) ≡ elim b as (λ _. Option Name) [ true ↦ Some (reflector n.number) | false ↦ None ]
        go false e = refl
        go true e = reflector-named n m e

    -- and so are what they hold
    pub contents-named : (n : HeapNative) → Among n p.counted.natives → contents (map (name_in p.scripts) (references_in p.counted n)) ≡ contents (places_of_native (named_native p.scripts n))
    contents-named n m = ap contents (references-named n m)

    -- what a native refers to under its key, it refers to under its name
    pub named-reference : (n : HeapNative) (key : ℕ) (x : Name) → Among n p.counted.natives → Among (object key) (contents (references_in p.counted n)) → name_at p.scripts key ≡ Some x →
        Among x (contents (places_of_native (named_native p.scripts n)))
    named-reference n key x m i e = subst (Among x) (contents-named n m)
        (among-held (map (name_in p.scripts) (references_in p.counted n)) x
        (subst (λ y. Among y (map (name_in p.scripts) (references_in p.counted n))) e
        (Among-map (name_in p.scripts) (Some (object key)) (references_in p.counted n) (held-among (references_in p.counted n) (object key) i))))

    -- and a script object that it refers to under its name, under its key
    pub reference-named : (n : HeapNative) (x : Name) → Among n p.counted.natives → Among x (contents (places_of_native (named_native p.scripts n))) → is_script x ≡ true →
        (key : ℕ) × Among (object key) (contents (references_in p.counted n)) × (name_at p.scripts key ≡ Some x)
    reference-named n x m i s =
        let j : Among x (contents (map (name_in p.scripts) (references_in p.counted n))) = subst (Among x) (sym (contents-named n m)) i in
        let f = Among-map_cases (name_in p.scripts) (references_in p.counted n) (Some x) (held-among (map (name_in p.scripts) (references_in p.counted n)) x j) in
        go f.0 f.1 f.2
      where
        held : (y : Name) → Among y (contents (references_in p.counted n)) → IsHeldThere p.scripts y → name_in p.scripts (Some y) ≡ Some x →
            (key : ℕ) × Among (object key) (contents (references_in p.counted n)) × (name_at p.scripts key ≡ Some x)
        held (name.Native j) i t e = let same : native j.0 ≡ x = cc in absurd (false≢true (ap is_script same ∙ s))
        held (name.Script j) i t e = (j.0, i, e)
        held (name.Reflector j) i t e = absurd t

        go : (y : Option Name) → Among y (references_in p.counted n) → name_in p.scripts y ≡ Some x →
            (key : ℕ) × Among (object key) (contents (references_in p.counted n)) × (name_at p.scripts key ≡ Some x)
        go None j e = absurd (cc)
        go (Some y) j e = let i : Among y (contents (references_in p.counted n)) = among-held (references_in p.counted n) y j in held y i (references-there n y m i) e
