-- WHAT A SCRIPT OBJECT REFERS TO, as the script heap answers it by its key: it has the name that stands at the place, and is there.
use Rattle.std.proofs.Common.{◌≡◌, ℕ, ◌+◌, ◌<◌, ◌≤◌, ◌==◌, true, List, [], ◌∷◌, ◌++◌, map, take, length, get_or, length-append, Option, Some, None, IsTrue, is_some, option_map, option_and_then, refl, sym, ◌∙◌, ap, subst, arith}
use Rattle.std.specs.Option.{option_to_list}
use Rattle.std.proofs.Math.ListN.{get_or-map}
use Rattle.std.proofs.lemmas.Bool.{true≢false}
use Rattle.std.proofs.lemmas.List.{get_or_append_left, get_or_push, length-map}
use Rattle.cc_lists.specs.Members.{Among}
use Rattle.cc_lists.proofs.Filtering.{find-among}
use Rattle.cc_lists.proofs.Places.{among-get}
use Rattle.cc_lists.proofs.Searching.{find-only}
use Rattle.cc_names.specs.declared.name.Name.{Name}
use Rattle.cc_names.specs.declared.name.Name.TheVariants as name
use Rattle.cc_names.specs.declared.number.NKey.{NKey}
use Rattle.cc_names.specs.declared.number.SKey.{SKey}
use Rattle.cc_names.specs.Names.{native, object, reflector, same_name, is_script}
use Rattle.cc_names.proofs.NameTests.{same_name-refl}
use Rattle.cc_model.specs.Checks.{native_of, slots_or_none}
use Rattle.cc_model.specs.Heap.{HeapScript, script_at}
use Rattle.cc_model.specs.Places.{places_in, places_of_script}
use Rattle.cc_model.specs.Slots.{Slots, contents}
use Rattle.cc_laws_heap.proofs.Face.{is_some-found, script-named, scripts-once}
use Rattle.cc_counted.specs.declared.held.Held.TheVariants as held
use Rattle.cc_script.specs.Objects.{Object, object_at, is_there}
use Rattle.cc_script.specs.Objects as objects
use Rattle.cc_script.proofs.PlacesOf.{slot-place, delegate-place}
use Rattle.cc_heaps.specs.Keyed.{Keyed, IsInOrder, name_held, named_object, number_at}
use Rattle.cc_heaps.specs.Changes.{IsNativeThere, IsScriptThere, native_name, script_name}
use Rattle.cc_heaps.specs.Places.{places_at}
use Rattle.cc_heaps.proofs.ContentNames.{object-there}
use Rattle.cc_heaps.proofs.Keys.{Reflects-cases}
use Rattle.cc_skip.specs.Walked.{Enters}
use Rattle.cc_skip.proofs.States.{places-rest, there-rest}
use Rattle.cc_skip.proofs.Entering.{Enters-place, Enters-slots}

module _ (owned : List ℕ) (v : Keyed) (order : IsInOrder owned v) (key : SKey) (there : IsTrue (is_there v.scripts key.0)) where
  found : (o : Object) × (object_at v.scripts key.0 ≡ Some o)
  found = is_some-found (object_at v.scripts key.0) there

  abbrev o : Object
  o = found.0

  o-there : Among o v.scripts
  o-there = find-among (λ (p : Object). p.key == key.0) v.scripts o found.1

  -- it stands in the heaps under its name
  abbrev named : HeapScript
  named = named_object v.scripts o

  stands : Among named v.heap.scripts
  stands = object-there owned v order key.0 o found.1

  by-name : script_at v.heap o.name ≡ Some named
  by-name = find-only (λ (p : HeapScript). same_name p.name o.name) v.heap.scripts named (scripts-once v.heap order.sound.well_formed o.name) stands (same_name-refl o.name)

  places-are : places_at v (held.Script key) ≡ places_of_script named
  places-are =
      ap (λ (m : Option Object). slots_or_none (option_and_then (places_in v.heap) (option_map (λ (p : Object). p.name) m))) found.1
      ∙ go o.name (script-named v.heap order.sound.well_formed named stands) by-name
    where
      go : (x : Name) → is_script x ≡ true → script_at v.heap x ≡ Some named → slots_or_none (places_in v.heap x) ≡ places_of_script named
      go (name.Native k) t e = absurd (true≢false (sym t))
      go (name.Script k) t e = ap (λ m. slots_or_none (option_map places_of_script m)) e
      go (name.Reflector k) t e = ap (λ m. slots_or_none (option_map places_of_script m)) e

  abbrev own_slots : List (Option ℕ)
  own_slots = objects.slots_at v.scripts key.0

  slots-are : own_slots ≡ o.slots
  slots-are = ap objects.slots_or_none found.1

  abbrev own_delegate : Option ℕ
  own_delegate = objects.delegate_at v.scripts key.0

  delegate-is : own_delegate ≡ o.delegate
  delegate-is = ap (option_and_then (λ (p : Object). p.delegate)) found.1

  -- its slots by names,
  abbrev named_slots : Slots
  named_slots = map (name_held v.scripts) own_slots

  -- with its delegate behind them,
  abbrev with_delegate : Slots
  with_delegate = named_slots ++ name_held v.scripts own_delegate ∷ []

  -- and what stands behind that are its places
  script_places : places_at v (held.Script key) ≡ with_delegate ++ native_of (Some o.name) ∷ []
  script_places = places-are
      ∙ (λ i. (map (name_held v.scripts) (sym slots-are i) ++ name_held v.scripts (sym delegate-is i) ∷ []) ++ native_of (Some o.name) ∷ [])

  length-delegate : length with_delegate ≡ length own_slots + 1
  length-delegate = length-append named_slots (name_held v.scripts own_delegate ∷ []) ∙ ap (λ i. i + 1) (length-map own_slots (name_held v.scripts))

  pub script_places-length : length (places_at v (held.Script key)) ≡ length own_slots + 2
  script_places-length = omega (
    arith,
    ap length script_places,
    length-append with_delegate (native_of (Some o.name) ∷ []),
    length-delegate,
  )

  -- a script object that may be there has its name,
  by-key : (x : Option SKey) → script_name v x ≡ name_held v.scripts (option_map (λ (r : SKey). r.0) x)
  by-key None = refl
  by-key (Some r) = refl

  -- and is there, where it stands in a place
  there-by_place : (x : Option SKey) → ((r : SKey) → x ≡ Some r → Among (Some r.0) (objects.places_of o)) → IsScriptThere v x
  there-by_place None m = tt
  there-by_place (Some r) m = order.whole o r.0 o-there (m r refl)

  -- what stands before the last place
  before-last : (i : ℕ) → i < length own_slots + 1 → get_or with_delegate i None ≡ get_or (places_at v (held.Script key)) i None
  before-last i within =
      sym (get_or_append_left with_delegate (native_of (Some o.name) ∷ []) None i (subst (λ j. i < j) (sym length-delegate) within))
      ∙ ap (λ ss. get_or ss i None) (sym script_places)

  -- WHAT A SLOT HOLDS has the name that stands at its place,
  script_slot-named : (i : ℕ) (x : Option SKey) → i < length own_slots → option_map (λ (r : SKey). r.0) x ≡ get_or own_slots i None →
      script_name v x ≡ get_or (places_at v (held.Script key)) i None
  script_slot-named i x within e =
      by-key x
      ∙ (ap (name_held v.scripts) e
      ∙ (sym (get_or-map (name_held v.scripts) own_slots i None)
      ∙ (sym (get_or_append_left named_slots (name_held v.scripts own_delegate ∷ []) None i (subst (λ j. i < j) (sym (length-map own_slots (name_held v.scripts))) within))
      ∙ before-last i (omega (arith, within)))))

  -- and is there.
  script_slot-there : (i : ℕ) (x : Option SKey) → option_map (λ (r : SKey). r.0) x ≡ get_or own_slots i None → IsScriptThere v x
  script_slot-there i x e = there-by_place x (λ r is. slot-place o r.0
      (subst (Among (Some r.0)) slots-are (among-get own_slots i r.0 (sym e ∙ ap (option_map (λ (s : SKey). s.0)) is))))

  -- BEHIND THE LAST SLOT stands the delegate of a proxy, and nothing of another object,
  delegate-named : (x : Option SKey) → option_map (λ (r : SKey). r.0) x ≡ own_delegate → script_name v x ≡ get_or (places_at v (held.Script key)) (length own_slots) None
  delegate-named x e =
      by-key x
      ∙ (ap (name_held v.scripts) e
      ∙ (sym (get_or_push named_slots (name_held v.scripts own_delegate) None (length own_slots) (length-map own_slots (name_held v.scripts)))
      ∙ before-last (length own_slots) (omega arith)))

  delegate-there : (x : Option SKey) → option_map (λ (r : SKey). r.0) x ≡ own_delegate → IsScriptThere v x
  delegate-there x e = there-by_place x (λ r is. delegate-place o r.0 (sym delegate-is ∙ (sym e ∙ ap (option_map (λ (s : SKey). s.0)) is)))

  -- and behind that the native of a reflector.
  native-held : (r : Option NKey) → option_map (λ (j : NKey). j.0) r ≡ objects.native_at v.scripts key.0 →
      (native_name v r ≡ get_or (places_at v (held.Script key)) (length own_slots + 1) None) × IsNativeThere v r
  native-held r e =
      let f = Reflects-cases v Read plain own o.name o.native (order.reflecting o o-there) r (e ∙ ap (option_and_then (λ (p : Object). p.native)) found.1) in (
        f.0
            ∙ (sym (get_or_push with_delegate (native_of (Some o.name)) None (length own_slots + 1) length-delegate)
            ∙ ap (λ ss. get_or ss (length own_slots + 1) None) (sym script_places)),
        f.1,
      )
    where
      Read : Name → Option ℕ → Type 0
      Read x m = (r : Option NKey) → option_map (λ (j : NKey). j.0) r ≡ m → (native_name v r ≡ native_of (Some x)) × IsNativeThere v r

      plain : (k : ℕ) → Read (object k) None
      plain k None e = (refl, tt)
      plain k (Some r) e = absurd (cc)

      own : (k i : ℕ) → number_at v i ≡ Some k → Read (reflector k) (Some i)
      own k i t None e = absurd (cc)
      own k i t (Some r) e = let at : number_at v r.0 ≡ Some k = ap (number_at v) (cc) ∙ t in (ap (option_map native) at, ap is_some at)

-- READ LATER in the walk, when others came in
module _ (owned : List ℕ) (a b : Keyed) (order : IsInOrder owned a) (names : List Name) (s : Enters a b names) (key : SKey) (there : IsTrue (is_there a.scripts key.0))
    (n : ℕ) (many : length (places_at a (held.Script key)) ≡ n + 2) (os : List Object) (shown : os ≡ b.scripts) where
  ordered : IsInOrder owned b
  ordered = s.kept.order owned order

  still : IsTrue (is_there b.scripts key.0)
  still = there-rest a b s.rest (Some (held.Script key)) there

  slots-still : length (objects.slots_at b.scripts key.0) ≡ n
  slots-still = omega (arith, many, script_places-length owned b ordered key still, ap length (places-rest a b s.rest (held.Script key)))

  -- it is there still,
  pub script-still : IsTrue (is_there os key.0)
  script-still = subst (λ ps. IsTrue (is_there ps key.0)) (sym shown) still

  -- with as many slots
  pub script_slots-still : length (objects.slots_at os key.0) ≡ n
  script_slots-still = ap (λ ps. length (objects.slots_at ps key.0)) shown ∙ slots-still

  pub script_slot-read : (i : ℕ) (x : Option SKey) → i < n → option_map (λ (r : SKey). r.0) x ≡ get_or (objects.slots_at os key.0) i None →
      (script_name b x ≡ get_or (places_at b (held.Script key)) i None) × IsScriptThere b x
  script_slot-read i x within e =
      let read = e ∙ ap (λ ps. get_or (objects.slots_at ps key.0) i None) shown in
      (script_slot-named owned b ordered key still i x (omega (arith, within, slots-still)) read, script_slot-there owned b ordered key still i x read)

  pub delegate-read : (x : Option SKey) → option_map (λ (r : SKey). r.0) x ≡ objects.delegate_at os key.0 →
      (script_name b x ≡ get_or (places_at b (held.Script key)) n None) × IsScriptThere b x
  delegate-read x e =
      let read = e ∙ ap (λ ps. objects.delegate_at ps key.0) shown in
      (delegate-named owned b ordered key still x read ∙ ap (λ i. get_or (places_at b (held.Script key)) i None) slots-still, delegate-there owned b ordered key still x read)

  pub native-read : (r : Option NKey) → option_map (λ (j : NKey). j.0) r ≡ objects.native_at os key.0 →
      (native_name b r ≡ get_or (places_at b (held.Script key)) (n + 1) None) × IsNativeThere b r
  native-read r e =
      let h = native-held owned b ordered key still r (e ∙ ap (λ ps. objects.native_at ps key.0) shown) in
      (h.0 ∙ ap (λ i. get_or (places_at b (held.Script key)) (i + 1) None) slots-still, h.1)

-- ALL BUT THE LAST PLACE, when what the delegate's place holds came in behind the slots
pub delegate-entered : (owned : List ℕ) (a b c : Keyed) → IsInOrder owned a → (key : SKey) → IsTrue (is_there a.scripts key.0) →
    (n : ℕ) → length (places_at a (held.Script key)) ≡ n + 2 → (i : ℕ) → i ≤ n → n ≤ i → Enters a b (contents (take i (places_at a (held.Script key)))) →
    (os : List Object) → os ≡ b.scripts → (x : Option SKey) → option_map (λ (r : SKey). r.0) x ≡ objects.delegate_at os key.0 →
    Enters b c (option_to_list (script_name b x)) → Enters a c (contents (take (n + 1) (places_at a (held.Script key))))
delegate-entered owned a b c order key there n many i below above s os shown x e t =
    Enters-place a b c (held.Script key) n (script_name b x) (omega (arith, many))
    (delegate-read owned a b order (contents (take i (places_at a (held.Script key)))) s key there n many os shown x e).0
    (Enters-slots a b (held.Script key) i n below above s) t
