-- WHAT THE UNIT OF A NODE NOTES AND SAMPLES of an object that is there.
use Rattle.std.proofs.Common.{◌≡◌, ℕ, true, false, [], ◌∷◌, ◌++◌, Option, Some, None, IsTrue, is_some, option_map, option_to_list, refl, sym, ◌∙◌, ap, subst}
use Rattle.std.specs.List.{filter, flat_map}
use Rattle.std.proofs.lemmas.Bool.{true≢false}
use Rattle.std.proofs.lemmas.List.Elements.{filter-append}
use Rattle.cc_lists.specs.Members.{Among}
use Rattle.cc_names.specs.declared.name.Name.{Name}
use Rattle.cc_names.specs.declared.name.Name.TheVariants as name
use Rattle.cc_names.specs.declared.number.NKey.{NKey}
use Rattle.cc_names.specs.declared.number.SKey.{SKey}
use Rattle.cc_names.specs.Names.{native, is_native}
use Rattle.cc_model.specs.Slots.{Slots, contents}
use Rattle.cc_model.specs.Heap.{Heap, HeapNative, HeapScript, native_at, script_at}
use Rattle.cc_model.specs.Places.{places_of_native, places_of_script}
use Rattle.cc_model.specs.WellFormed.{native_names}
use Rattle.cc_model.specs.Units.{is_noted, to_note, sample}
use Rattle.cc_laws_heap.proofs.Face.{native_at-named}
use Rattle.cc_counted.specs.declared.held.Held.{Held}
use Rattle.cc_counted.specs.declared.held.Held.TheVariants as held
use Rattle.cc_script.specs.Objects.{Object, object_at}
use Rattle.cc_heaps.specs.Keyed.{Keyed, IsInOrder, named_object}
use Rattle.cc_heaps.specs.Changes.{IsThere}
use Rattle.cc_heaps.specs.HasKey.{HasKey}
use Rattle.cc_builder.specs.BuildSteps.{contents_at, noted_content, sample_of, the_name}
use Rattle.cc_builder.proofs.BuildStates.{IsSampleOf}
use Rattle.cc_builder.proofs.HeldObjects.{StandsAt, stands-at, native-name, native-places, shown-count, IsObjectAt, object-at, object-name, object-places}

-- what is noted of all places together
noted-contents : (h : Heap) (places : Slots) → filter (is_noted h) (contents places) ≡ flat_map (noted_content h) places
noted-contents h [] = refl
noted-contents h (y ∷ places) =
    filter-append (is_noted h) (option_to_list y) (contents places) ∙ ap (λ xs. noted_content h y ++ xs) (noted-contents h places)

-- What is noted

note-native : (v : Keyed) (key : NKey) → (s : StandsAt v key.0) → to_note v.heap (the_name v (held.Native key)) ≡ Some (contents_at v (held.Native key))
note-native v key s =
    ap (to_note v.heap) (native-name v key s)
    ∙ ap (λ (o : Option HeapNative). option_map (filter (is_noted v.heap)) (option_map contents (option_map places_of_native o))) s.found
    ∙ ap Some (noted-contents v.heap (places_of_native s.body))
    ∙ ap (λ places. Some (flat_map (noted_content v.heap) places)) (sym (native-places v key s))

-- where a name is none of a native, what is noted is that of a script object
note-script : (h : Heap) (x : Name) → is_native x ≡ false → to_note h x ≡ option_map (filter (is_noted h)) (option_map contents (option_map places_of_script (script_at h x)))
note-script h (name.Native k) e = absurd (true≢false e)
note-script h (name.Script k) e = refl
note-script h (name.Reflector k) e = refl

note-object : (v : Keyed) (key : SKey) → (s : IsObjectAt v key.0) → to_note v.heap (the_name v (held.Script key)) ≡ Some (contents_at v (held.Script key))
note-object v key s =
    let o = named_object v.scripts s.body in
    ap (to_note v.heap) (object-name v key s)
    ∙ note-script v.heap s.body.name s.kind
    ∙ ap (λ (p : Option HeapScript). option_map (filter (is_noted v.heap)) (option_map contents (option_map places_of_script p))) s.found
    ∙ ap Some (noted-contents v.heap (places_of_script o))
    ∙ ap (λ places. Some (flat_map (noted_content v.heap) places)) (sym (object-places v key s))

pub note-there : (v : Keyed) (object : Held) → IsInOrder [] v → IsThere v (Some object) → to_note v.heap (the_name v object) ≡ Some (contents_at v object)
note-there v (held.Native key) order there = note-native v key (stands-at v key order there)
note-there v (held.Script key) order there = note-object v key (object-at v key order there)

-- What is sampled

sample-script : (h : Heap) (x : Name) → is_native x ≡ false → sample h x ≡ None
sample-script h (name.Native k) e = absurd (true≢false e)
sample-script h (name.Script k) e = refl
sample-script h (name.Reflector k) e = refl

pub sample-there : (v : Keyed) (object : Held) → IsInOrder [] v → IsThere v (Some object) → sample v.heap (the_name v object) ≡ sample_of v object
sample-there v (held.Native key) order there =
    let s = stands-at v key order there in
    ap (sample v.heap) (native-name v key s)
    ∙ ap (option_map (λ (n : HeapNative). n.count)) s.found
    ∙ ap Some (sym (shown-count v key.0 s))
sample-there v (held.Script key) order there =
    let s = object-at v key order there in
    ap (sample v.heap) (object-name v key s) ∙ sample-script v.heap s.body.name s.kind

pub sample-kind : (v : Keyed) (object : Held) → IsInOrder [] v → IsThere v (Some object) → IsSampleOf (sample_of v object) (the_name v object)
sample-kind v (held.Native key) order there = ap is_native (native-name v key (stands-at v key order there))
sample-kind v (held.Script key) order there = let s = object-at v key order there in ap is_native (object-name v key s) ∙ s.kind

-- Nothing is there to be noted where a native is no more

-- a native's name has its number
native-named : (x : Name) → is_native x ≡ true → (k : ℕ) × (x ≡ native k)
native-named (name.Native k) e = (k.0, refl)
native-named (name.Script k) e = absurd (cc)
native-named (name.Reflector k) e = absurd (cc)

pub note-gone : (h : Heap) (x : Name) → is_native x ≡ true → ¬ (Among x (native_names h)) → to_note h x ≡ None
note-gone h x kind gone =
    let k = native-named x kind in
    ap (to_note h) k.1 ∙ ap (λ (o : Option HeapNative). option_map (filter (is_noted h)) (option_map contents (option_map places_of_native o))) (none k.0 k.1 (native_at h k.0) refl)
  where
    none : (k : ℕ) → x ≡ native k → (o : Option HeapNative) → native_at h k ≡ o → native_at h k ≡ None
    none k same None e = e
    none k same (Some n) e = absurd (gone (subst (λ y. Among y (native_names h)) (sym same) (native_at-named h k n e)))

-- A script object that is a node is there

pub key-there : (v : Keyed) (key : SKey) (x : Name) → HasKey v x (held.Script key) → IsThere v (Some (held.Script key))
key-there v key x has = named (object_at v.scripts key.0) has.1
  where
    named : (o : Option Object) → option_map (λ (p : Object). p.name) o ≡ Some x → IsTrue (is_some o)
    named None e = absurd (cc)
    named (Some p) e = refl

pub key-name : (v : Keyed) (key : SKey) (x : Name) → HasKey v x (held.Script key) → the_name v (held.Script key) ≡ x
key-name v key x has = ap (λ (o : Option Name). elim o [ None ↦ native 0 | Some y ↦ y ]) has.1
