-- WHAT AN OBJECT REFERS TO, BY KEYS: each place holds the name of what the heaps answer, which is there.
use Rattle.cc_heaps.specs.Roots.{references_in}
use Rattle.cc_counted.specs.Owning.{HasKeys}
use Rattle.cc_heaps.proofs.ObjectsKept.{keys-counted}
use Rattle.cc_heaps.proofs.ReferenceNames as by_number
use Rattle.cc_heaps.proofs.ReferenceNames.{references-there, few_slots-counted}
use Rattle.cc_heaps.proofs.References.{native-found, references-found, length-references, few-slots}
use Rattle.cc_lists.proofs.Held.{is_some-map}
use Rattle.cc_heaps.proofs.Keys.{Reflects-cases}
use Rattle.cc_laws_heap.proofs.Face.{IsWellFormed-distinct, is_some-found, native_at-member}
use Rattle.std.proofs.Common.{◌≡◌, ℕ, ◌+◌, ◌<◌, ◌≤◌, ◌==◌, true, false, List, [], ◌∷◌, ◌++◌, map, length, get_or, length-append, Option, Some, None, IsTrue, is_some, option_map, refl, sym, ◌∙◌, ap, subst, arith}
use Rattle.std.specs.Option.{option_and_then}
use Rattle.std.proofs.Math.ListN.{get_or-map}
use Rattle.std.proofs.lemmas.Bool.{true≢false}
use Rattle.std.proofs.lemmas.List.{get_or_append_left, get_or_push, length-map}
use Rattle.cc_lists.specs.Members.{Among}
use Rattle.cc_lists.proofs.Filtering.{find-among}
use Rattle.cc_lists.proofs.Members.{Among-map}
use Rattle.cc_lists.proofs.Places.{among-get}
use Rattle.cc_lists.proofs.Searching.{find-map, find-only}
use Rattle.cc_names.specs.declared.kind.Kind.{Kind}
use Rattle.cc_names.specs.declared.name.Name.{Name}
use Rattle.cc_names.specs.declared.name.Name.TheVariants as name
use Rattle.cc_names.specs.declared.number.NKey.{NKey}
use Rattle.cc_names.specs.declared.number.SKey.{SKey}
use Rattle.cc_names.specs.Names.{native, object, reflector, same_name, is_native}
use Rattle.cc_names.proofs.NameTests.{same_name-refl}
use Rattle.cc_names.specs.Sizes.{most_slots}
use Rattle.cc_model.specs.Slots.{Slots}
use Rattle.cc_model.specs.Checks.{slots_or_none, native_of}
use Rattle.cc_model.specs.Places.{places_in, places_of_native, places_of_script}
use Rattle.cc_model.specs.Heap.{HeapNative, HeapScript, script_at}
use Rattle.cc_model.specs.WellFormed.{FitsName, IsWellFormed}
use Rattle.cc_counted.specs.declared.held.Held.{Held}
use Rattle.cc_counted.specs.declared.held.Held.TheVariants as held
use Rattle.cc_counted.specs.Counts.{held_of_native, is_live, name_of, references_of, slots_of}
use Rattle.cc_script.specs.Objects.{Object, object_at, is_there}
use Rattle.cc_script.specs.Objects as objects
use Rattle.cc_script.proofs.Reaching.{among-held}
use Rattle.cc_script.proofs.PlacesOf.{slot-place, delegate-place}
use Rattle.cc_heaps.specs.declared.heaps.Heaps.TheInside.{Inside}
use Rattle.cc_heaps.specs.Keyed.{Keyed, IsInOrder, name_held, named_object, number_at}
use Rattle.cc_heaps.specs.Changes.{IsThere, held_name}
use Rattle.cc_heaps.specs.Named.{named_native}
use Rattle.cc_heaps.specs.Fields.{keyed_of, IsLinked}
use Rattle.cc_heaps.specs.Places.{places_at}
use Rattle.cc_heaps.proofs.Content.{held-named}
use Rattle.cc_heaps.proofs.Naming.{name_in}

-- a script object has at most 256 slots: a reflector has four
pub fits-few : (x : Name) (kind : Kind) (slots : Slots) → FitsName x kind slots → length slots ≤ most_slots
fits-few x kind slots f = grind arith

-- what is there stands at its key
pub native-live : {v w : Keyed} {x : Held} {key : NKey} → w ≡ v → x ≡ held.Native key → IsThere v (Some x) → is_some (number_at w key.0) ≡ true
native-live {v} {w} {x} {key} e is there = subst (λ y. IsThere w (Some y)) is (subst (λ u. IsThere u (Some x)) (sym e) there)

pub script-live : {v w : Keyed} {x : Held} {key : SKey} → w ≡ v → x ≡ held.Script key → IsThere v (Some x) → IsTrue (is_there w.scripts key.0)
script-live {v} {w} {x} {key} e is there = subst (λ y. IsThere w (Some y)) is (subst (λ u. IsThere u (Some x)) (sym e) there)

-- and its places are read there
pub places-same : {v w : Keyed} {x y : Held} → w ≡ v → x ≡ y → places_at v x ≡ places_at w y
places-same e is = λ i. places_at (sym e i) (is i)

module _ (p : Inside) (owned : List ℕ) (l : IsLinked p) (o : IsInOrder owned (keyed_of p)) where
  abbrev v : Keyed
  v = keyed_of p

  -- A native

  module _ (key : NKey) (live : is_some (number_at v key.0) ≡ true) where
    keyed : HasKeys p.counted
    keyed = keys-counted owned p l o

    w : IsWellFormed v.heap
    w = o.sound.well_formed

    found : (n : HeapNative) × Among n p.counted.natives × (number_at v key.0 ≡ Some n.number)
    found = native-found p.counted keyed key.0 live

    abbrev n : HeapNative
    n = found.0

    places-are : places_at v (held.Native key) ≡ places_of_native (named_native p.scripts n)
    places-are =
        ap (λ j. slots_or_none (option_and_then (places_in v.heap) (option_map native j))) found.2
        ∙ ap (λ m. slots_or_none (option_map places_of_native m))
        (native_at-member v.heap (IsWellFormed-distinct v.heap w) (named_native p.scripts n) (Among-map (named_native p.scripts) n p.counted.natives found.1))

    -- its references as the counted heap shows them, and under their names
    references-are : references_of p.counted key.0 ≡ references_in p.counted n
    references-are = references-found p.counted keyed key.0 n found.1 found.2

    references-named : map (name_in p.scripts) (references_of p.counted key.0) ≡ places_at v (held.Native key)
    references-named = ap (map (name_in p.scripts)) references-are ∙ (by_number.references-named p l keyed w n found.1 ∙ sym places-are)

    -- there is one more than slots
    pub native_places-length : length (places_at v (held.Native key)) ≡ length (slots_of p.counted key.0) + 1
    native_places-length =
        ap length (sym references-named) ∙ (length-map (references_of p.counted key.0) (name_in p.scripts) ∙ length-references p.counted key.0)

    -- and slots are few
    pub native_slots-few : length (slots_of p.counted key.0) ≤ most_slots
    native_slots-few = few-slots p.counted (few_slots-counted p w) key.0

    module _ (i : ℕ) (x : Option Held) (e : name_of p.counted x ≡ get_or (references_of p.counted key.0) i None) where
      -- WHAT THE COUNTED HEAP ANSWERS has the name that stands at this place,
      pub reference-named : held_name v x ≡ get_or (places_at v (held.Native key)) i None
      reference-named =
          sym (held-named p x)
          ∙ (ap (name_in p.scripts) e
          ∙ (sym (get_or-map (name_in p.scripts) (references_of p.counted key.0) i None) ∙ ap (λ ss. get_or ss i None) references-named))

    -- a script object among the references is there
    script-there : (q : ℕ) → Among (Some (object q)) (references_of p.counted key.0) → IsTrue (is_there p.scripts q)
    script-there q m = references-there p l keyed n (object q) found.1 (among-held (references_in p.counted n) (object q) (subst (Among (Some (object q))) references-are m))

    -- and is there.
    pub reference-there : (i : ℕ) (x : Option Held) → name_of p.counted x ≡ get_or (references_of p.counted key.0) i None → IsTrue (is_live p.counted x) → IsThere v x
    reference-there i None e t = tt
    reference-there i (Some (held.Native q)) e t = sym (is_some-map native (number_at v q.0)) ∙ t
    reference-there i (Some (held.Script q)) e t = script-there q.0 (among-get (references_of p.counted key.0) i (object q.0) (sym e))

  -- A script object

  module _ (key : SKey) (live : IsTrue (is_there p.scripts key.0)) where
    object-found : (q : Object) × (object_at p.scripts key.0 ≡ Some q)
    object-found = is_some-found (object_at p.scripts key.0) live

    abbrev q : Object
    q = object-found.0

    q-there : Among q p.scripts
    q-there = find-among (λ (r : Object). r.key == key.0) p.scripts q object-found.1

    by-name : script_at v.heap q.name ≡ Some (named_object p.scripts q)
    by-name = find-map (λ (s : HeapScript). same_name s.name q.name) (named_object p.scripts) p.scripts
        ∙ ap (option_map (named_object p.scripts)) (find-only (λ (r : Object). same_name r.name q.name) p.scripts q (l.one_name q.name) q-there (same_name-refl q.name))

    script_places-are : places_at v (held.Script key) ≡ places_of_script (named_object p.scripts q)
    script_places-are =
        ap (λ (m : Option Object). slots_or_none (option_and_then (places_in v.heap) (option_map (λ (r : Object). r.name) m))) object-found.1
        ∙ go q.name (l.script_names q q-there) by-name
      where
        go : (x : Name) → is_native x ≡ false → script_at v.heap x ≡ Some (named_object p.scripts q) →
            slots_or_none (places_in v.heap x) ≡ places_of_script (named_object p.scripts q)
        go (name.Native j) f e = absurd (true≢false f)
        go (name.Script j) f e = ap (λ m. slots_or_none (option_map places_of_script m)) e
        go (name.Reflector j) f e = ap (λ m. slots_or_none (option_map places_of_script m)) e

    abbrev own_slots : List (Option ℕ)
    own_slots = objects.slots_at p.scripts key.0

    slots-are : own_slots ≡ q.slots
    slots-are = ap objects.slots_or_none object-found.1

    abbrev own_delegate : Option ℕ
    own_delegate = objects.delegate_at p.scripts key.0

    delegate-are : own_delegate ≡ q.delegate
    delegate-are = ap (option_and_then (λ (s : Object). s.delegate)) object-found.1

    -- its slots by names,
    abbrev named_slots : Slots
    named_slots = map (name_held p.scripts) own_slots

    -- with its delegate behind them,
    abbrev with_delegate : Slots
    with_delegate = named_slots ++ name_held p.scripts own_delegate ∷ []

    -- and what stands behind that are its places
    script_places : places_at v (held.Script key) ≡ with_delegate ++ native_of (Some q.name) ∷ []
    script_places = script_places-are
        ∙ (λ i. (map (name_held p.scripts) (sym slots-are i) ++ name_held p.scripts (sym delegate-are i) ∷ []) ++ native_of (Some q.name) ∷ [])

    length-delegate : length with_delegate ≡ length own_slots + 1
    length-delegate = length-append named_slots (name_held p.scripts own_delegate ∷ []) ∙ ap (λ i. i + 1) (length-map own_slots (name_held p.scripts))

    pub script_places-length : length (places_at v (held.Script key)) ≡ length own_slots + 2
    script_places-length = omega (
      arith,
      ap length script_places,
      length-append with_delegate (native_of (Some q.name) ∷ []),
      length-delegate,
    )

    pub script_slots-few : length own_slots ≤ most_slots
    script_slots-few = omega (
      arith,
      fits-few q.name q.kind (map (name_held p.scripts) q.slots) (o.sound.well_formed.kinds (named_object p.scripts q) (Among-map (named_object p.scripts) q p.scripts q-there)),
      length-map q.slots (name_held p.scripts),
      ap length slots-are,
    )

    -- a script object that may be there has its name,
    held-is_named : (x : Option SKey) → held_name v (option_map held.Script x) ≡ name_held p.scripts (option_map (λ (r : SKey). r.0) x)
    held-is_named None = refl
    held-is_named (Some r) = refl

    -- and is there, where it stands in a place
    held-is_there : (x : Option SKey) → Among (option_map (λ (r : SKey). r.0) x) (objects.places_of q) → IsThere v (option_map held.Script x)
    held-is_there None m = tt
    held-is_there (Some r) m = o.whole q r.0 q-there m

    -- what stands before the last place
    before-last : (i : ℕ) → i < length own_slots + 1 → get_or with_delegate i None ≡ get_or (places_at v (held.Script key)) i None
    before-last i within =
        sym (get_or_append_left with_delegate (native_of (Some q.name) ∷ []) None i (subst (λ j. i < j) (sym length-delegate) within))
        ∙ ap (λ ss. get_or ss i None) (sym script_places)

    -- WHAT A SLOT HOLDS has the name that stands at its place,
    pub slot-named : (i : ℕ) (x : Option SKey) → i < length own_slots → option_map (λ (r : SKey). r.0) x ≡ get_or own_slots i None →
        held_name v (option_map held.Script x) ≡ get_or (places_at v (held.Script key)) i None
    slot-named i x within e =
        held-is_named x
        ∙ (ap (name_held p.scripts) e
        ∙ (sym (get_or-map (name_held p.scripts) own_slots i None)
        ∙ (sym (get_or_append_left named_slots (name_held p.scripts own_delegate ∷ []) None i (subst (λ j. i < j) (sym (length-map own_slots (name_held p.scripts))) within))
        ∙ before-last i (omega (arith, within)))))

    -- and is there.
    pub slot-there : (i : ℕ) (x : Option SKey) → option_map (λ (r : SKey). r.0) x ≡ get_or own_slots i None → IsThere v (option_map held.Script x)
    slot-there i None e = tt
    slot-there i (Some r) e = held-is_there (Some r) (slot-place q r.0 (subst (Among (Some r.0)) slots-are (among-get own_slots i r.0 (sym e))))

    -- BEHIND THE LAST SLOT stands the delegate of a proxy, and nothing of another object,
    pub delegate-named : (x : Option SKey) → option_map (λ (r : SKey). r.0) x ≡ own_delegate →
        (held_name v (option_map held.Script x) ≡ get_or (places_at v (held.Script key)) (length own_slots) None) × IsThere v (option_map held.Script x)
    delegate-named x e = (
      held-is_named x
          ∙ (ap (name_held p.scripts) e
          ∙ (sym (get_or_push named_slots (name_held p.scripts own_delegate) None (length own_slots) (length-map own_slots (name_held p.scripts)))
          ∙ before-last (length own_slots) (omega arith))),
      there x e,
    )
      where
        there : (y : Option SKey) → option_map (λ (r : SKey). r.0) y ≡ own_delegate → IsThere v (option_map held.Script y)
        there None d = tt
        there (Some r) d = held-is_there (Some r) (delegate-place q r.0 (sym (d ∙ delegate-are)))

    -- and behind that the native of a reflector.
    pub native-named : (r : Option NKey) → option_map (λ (j : NKey). j.0) r ≡ objects.native_at p.scripts key.0 →
        (held_name v (held_of_native r) ≡ get_or (places_at v (held.Script key)) (length own_slots + 1) None) × IsThere v (held_of_native r)
    native-named r e =
        let f = Reflects-cases v Read plain own q.name q.native (o.reflecting q q-there) r (e ∙ ap (option_and_then (λ (s : Object). s.native)) object-found.1) in (
          f.0
              ∙ (sym (get_or_push with_delegate (native_of (Some q.name)) None (length own_slots + 1) length-delegate)
              ∙ ap (λ ss. get_or ss (length own_slots + 1) None) (sym script_places)),
          f.1,
        )
      where
        Read : Name → Option ℕ → Type 0
        Read x m = (r : Option NKey) → option_map (λ (j : NKey). j.0) r ≡ m → (held_name v (held_of_native r) ≡ native_of (Some x)) × IsThere v (held_of_native r)

        plain : (k : ℕ) → Read (object k) None
        plain k None e = (refl, tt)
        plain k (Some r) e = absurd (cc)

        own : (k i : ℕ) → number_at v i ≡ Some k → Read (reflector k) (Some i)
        own k i t None e = absurd (cc)
        own k i t (Some r) e = let at : number_at v r.0 ≡ Some k = ap (number_at v) (cc) ∙ t in (ap (option_map native) at, ap is_some at)
