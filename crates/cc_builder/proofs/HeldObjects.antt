-- An object that is there, by its name in the heaps: what stands there, and its places.
use Rattle.std.proofs.Common.{◌≡◌, ℕ, false, ◌||◌, List, [], Option, Some, None, IsSome, IsTrue, is_some, option_map, option_and_then, refl, sym, ◌∙◌, ap, subst, ◌==◌}
use Rattle.std.proofs.lemmas.Bool.{true≢false, not-true}
use Rattle.cc_heaps.proofs.GrayNames.{gray-named}
use denote.Enum.Bare.{sameb}
use Rattle.cc_lists.specs.Members.{Among}
use Rattle.cc_lists.proofs.Members.{Among-map}
use Rattle.cc_lists.proofs.Filtering.{find-among}
use Rattle.cc_lists.proofs.Searching.{find-only, find-map}
use Rattle.cc_names.specs.declared.name.Name.{Name}
use Rattle.cc_names.specs.declared.name.Name.TheVariants as name
use Rattle.cc_names.specs.declared.number.NKey.{NKey}
use Rattle.cc_names.specs.declared.number.SKey.{SKey}
use Rattle.cc_names.specs.contracts.kind.Colour.{the_type}
use Rattle.cc_names.specs.declared.kind.Colour.{Colour}
use Rattle.cc_names.specs.declared.kind.Colour.TheVariants.{White, Gray, Black}
use Rattle.cc_names.specs.Names.{native, object, is_native, same_name}
use Rattle.cc_names.proofs.NameTests.{same_name-refl}
use Rattle.cc_model.specs.Checks.{slots_or_none}
use Rattle.cc_model.specs.Heap.{Heap, HeapNative, HeapScript, native_at, script_at, is_gray_colour, is_gray_in}
use Rattle.cc_model.specs.Places.{places_of_native, places_of_script, places_in}
use Rattle.cc_model.specs.Units.{is_noted}
use Rattle.cc_laws_heap.proofs.Face.{named-found, native_at-there, script-named, scripts-once}
use Rattle.cc_counted.specs.declared.held.Held.{Held}
use Rattle.cc_counted.specs.declared.held.Held.TheVariants as held
use Rattle.cc_counted.specs.Counts.{heap_of, number_or_none, count_at, count_of}
use Rattle.cc_counted.specs.Counts as counts
use Rattle.cc_script.specs.Objects.{Object, object_at, colour_at}
use Rattle.cc_heaps.specs.Keyed.{Keyed, IsInOrder, counts_of, keyed_native, named_object, number_at, the_name_at}
use Rattle.cc_heaps.specs.Changes.{IsThere, IsNativeThere, IsScriptThere}
use Rattle.cc_heaps.specs.Places.{places_at}
use Rattle.cc_heaps.proofs.Calls.{number-named}
use Rattle.cc_builder.specs.BuildSteps.{the_name}

-- A native

-- the native at a key
pub record StandsAt (v : Keyed) (key : ℕ) : Type 0 where
  pub number : ℕ
  pub at : number_at v key ≡ Some number
  pub body : HeapNative
  pub found : native_at v.heap number ≡ Some body

some-is : {X : Type 0} (o : Option X) → IsSome o → (x : X) × (o ≡ Some x)
some-is None e = absurd (cc)
some-is (Some x) e = (x, refl)

pub stands-at : (v : Keyed) (key : NKey) → IsInOrder [] v → IsNativeThere v (Some key) → StandsAt v key.0
stands-at v key order there =
    let k = some-is (number_at v key.0) there in
    let f = named-found v.heap k.0 (number-named v [] key.0 k.0 order k.1) in
    record { number = k.0; at = k.1; body = f.0; found = f.1 }

pub StandsAt-member : (v : Keyed) (key : ℕ) (s : StandsAt v key) → Among s.body v.heap.natives
StandsAt-member v key s = native_at-there v.heap s.number s.body s.found

pub native-name : (v : Keyed) (key : NKey) (s : StandsAt v key.0) → the_name v (held.Native key) ≡ native s.number
native-name v key s = ap (λ (o : Option ℕ). elim (option_map native o) [ None ↦ native 0 | Some x ↦ x ]) s.at

pub native-places : (v : Keyed) (key : NKey) (s : StandsAt v key.0) → places_at v (held.Native key) ≡ places_of_native s.body
native-places v key s =
    ap (λ (o : Option ℕ). slots_or_none (option_and_then (places_in v.heap) (option_map native o))) s.at
    ∙ ap (λ (o : Option HeapNative). slots_or_none (option_map places_of_native o)) s.found

-- what the counted heap shows of it
shown-native : (v : Keyed) (key : ℕ) (s : StandsAt v key) → native_at (heap_of (counts_of v)) (counts.the_number (counts_of v) key) ≡ Some (keyed_native v.scripts s.body)
shown-native v key s =
    ap (λ o. native_at (heap_of (counts_of v)) (number_or_none o)) s.at
    ∙ find-map (λ (n : HeapNative). n.number == s.number) (keyed_native v.scripts) v.heap.natives
    ∙ ap (option_map (keyed_native v.scripts)) s.found

pub shown-count : (v : Keyed) (key : ℕ) (s : StandsAt v key) → count_of (counts_of v) key ≡ s.body.count
shown-count v key s = ap count_at (shown-native v key s)

-- A script object

-- the script object at a key
pub record IsObjectAt (v : Keyed) (key : ℕ) : Type 0 where
  pub body : Object
  pub at : object_at v.scripts key ≡ Some body
  pub kind : is_native body.name ≡ false
  pub found : script_at v.heap body.name ≡ Some (named_object v.scripts body)

-- a script object stands among the heaps' by name
pub object-among : (v : Keyed) (o : Object) → IsInOrder [] v → Among o v.scripts → Among (named_object v.scripts o) v.heap.scripts
object-among v o order m = subst (λ os. Among (named_object v.scripts o) os) (sym order.named) (Among-map (named_object v.scripts) o v.scripts m)

pub object-at : (v : Keyed) (key : SKey) → IsInOrder [] v → IsScriptThere v (Some key) → IsObjectAt v key.0
object-at v key order there =
    let o = some-is (object_at v.scripts key.0) there in
    let m = object-among v o.0 order (find-among (λ (p : Object). p.key == key.0) v.scripts o.0 o.1) in
    let well = order.sound.well_formed in
    record {
      body = o.0;
      at = o.1;
      kind = not-true (is_native o.0.name) (script-named v.heap well (named_object v.scripts o.0) m);
      found = find-only (λ (p : HeapScript). same_name p.name o.0.name) v.heap.scripts (named_object v.scripts o.0) (scripts-once v.heap well o.0.name) m (same_name-refl o.0.name);
    }

pub IsObjectAt-member : (v : Keyed) (key : ℕ) (s : IsObjectAt v key) → Among s.body v.scripts
IsObjectAt-member v key s = find-among (λ (p : Object). p.key == key) v.scripts s.body s.at

pub object-name : (v : Keyed) (key : SKey) (s : IsObjectAt v key.0) → the_name v (held.Script key) ≡ s.body.name
object-name v key s = ap (λ (o : Option Object). elim (option_map (λ p. p.name) o) [ None ↦ native 0 | Some x ↦ x ]) s.at

-- where a name is none of a native, the places are those of a script object
places_in-script : (h : Heap) (x : Name) → is_native x ≡ false → places_in h x ≡ option_map places_of_script (script_at h x)
places_in-script h (name.Native k) e = absurd (true≢false e)
places_in-script h (name.Script k) e = refl
places_in-script h (name.Reflector k) e = refl

pub object-places : (v : Keyed) (key : SKey) (s : IsObjectAt v key.0) → places_at v (held.Script key) ≡ places_of_script (named_object v.scripts s.body)
object-places v key s =
    ap (λ (o : Option Object). slots_or_none (option_and_then (places_in v.heap) (option_map (λ p. p.name) o))) s.at
    ∙ ap slots_or_none (places_in-script v.heap s.body.name s.kind)
    ∙ ap (λ (o : Option HeapScript). slots_or_none (option_map places_of_script o)) s.found

-- the test of gray
gray-same : (colour : Colour) → sameb the_type colour Gray ≡ is_gray_colour colour
gray-same White = refl
gray-same Gray = refl
gray-same Black = refl

-- whether it is gray, as its colour was read
gray-read : (v : Keyed) (scripts : List Object) (key : SKey) (colour : Colour) → IsInOrder [] v → scripts ≡ v.scripts → colour_at scripts key.0 ≡ Some colour →
    (s : IsObjectAt v key.0) → is_gray_in v.heap s.body.name ≡ sameb the_type colour Gray
gray-read v scripts key colour order same read s =
    let coloured : Some s.body.colour ≡ Some colour = sym (ap (option_map (λ (o : Object). o.colour)) s.at) ∙ sym (ap (λ os. colour_at os key.0) same) ∙ read in
    let colour_is : s.body.colour ≡ colour = cc in
    gray-named v.heap (named_object v.scripts s.body) order.sound.well_formed (object-among v s.body order (IsObjectAt-member v key.0 s))
    ∙ ap is_gray_colour colour_is
    ∙ sym (gray-same colour)

-- Whether references to a script object are noted

pub object-noted : (v : Keyed) (scripts : List Object) (object : Held) (key : SKey) (colour : Colour) → IsInOrder [] v → IsThere v (Some object) → object ≡ held.Script key → scripts ≡ v.scripts →
    colour_at scripts key.0 ≡ Some colour → is_noted v.heap (the_name v object) ≡ sameb the_type colour Gray
object-noted v scripts object key colour order there at same read =
    let s = object-at v key order (subst (λ o. IsThere v (Some o)) at there) in
    ap (λ o. is_noted v.heap (the_name v o)) at
    ∙ ap (is_noted v.heap) (object-name v key s)
    ∙ ap (λ b. b || is_gray_in v.heap s.body.name) s.kind
    ∙ gray-read v scripts key colour order same read s

-- Whether a script object is gray by its name

pub name-at_key : (v : Keyed) (key : SKey) → IsScriptThere v (Some key) → the_name v (held.Script key) ≡ the_name_at v.scripts key.0
name-at_key v key there = go (object_at v.scripts key.0) there
  where
    go : (o : Option Object) → IsTrue (is_some o) → ◌≡◌ {A = Name} (elim (option_map (λ (p : Object). p.name) o) [ None ↦ native 0 | Some x ↦ x ]) (elim (option_map (λ (p : Object). p.name) o) [ None ↦ object 0 | Some x ↦ x ])
    go None some = absurd (cc)
    go (Some p) some = refl

pub object-gray : (v : Keyed) (scripts : List Object) (key : SKey) (colour : Colour) → IsInOrder [] v → IsScriptThere v (Some key) → scripts ≡ v.scripts →
    colour_at scripts key.0 ≡ Some colour → is_gray_in v.heap (the_name_at v.scripts key.0) ≡ sameb the_type colour Gray
object-gray v scripts key colour order there same read =
    let s = object-at v key order there in
    ap (is_gray_in v.heap) (sym (name-at_key v key there) ∙ object-name v key s) ∙ gray-read v scripts key colour order same read s
