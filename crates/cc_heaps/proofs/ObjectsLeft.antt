-- WHAT A SWEEP LEAVES OF THE SCRIPT OBJECTS, where the marks are closed: nothing that stays holds what goes, so what stays keeps
-- its names.
use Rattle.std.proofs.Common.{◌≡◌, ℕ, ◌==◌, Bool, true, false, not, List, map, Option, Some, None, refl, sym, ◌∙◌, ap, subst, arith}
use Rattle.std.specs.List.{filter}
use Rattle.std.specs.Option.{option_and_then}
use Rattle.std.proofs.lemmas.Bool.{true≢false}
use Rattle.std.proofs.lemmas.Simd.{map-map}
use Rattle.cc_lists.proofs.Held.{map-held}
use Rattle.cc_lists.specs.Members.{Among}
use Rattle.cc_lists.proofs.Members.{Among-map, Among-map_cases, Among-filter, Among-filtered, Among-passes, has-there, has-among}
use Rattle.cc_lists.proofs.Filtering.{count_by-filter-le, filter-agree}
use Rattle.cc_lists.proofs.Searching.{filter-map}
use Rattle.cc_lists.proofs.ListWrites.{only-member, map-agree}
use Rattle.cc_names.specs.declared.name.Name.{Name}
use Rattle.cc_names.specs.declared.number.SKey.{SKey}
use Rattle.cc_names.specs.Names.{object, same_name}
use Rattle.cc_names.proofs.NameTests.{same_name-refl, same_name-exact}
use Rattle.cc_model.specs.Slots.{contents}
use Rattle.cc_model.specs.Heap.{HeapNative}
use Rattle.cc_model.specs.Sweep.{unmarked}
use Rattle.cc_laws_heap.specs.Marks.{Stays, AreMarksClosed}
use Rattle.cc_laws_heap.proofs.Face.{is_spared, stays-native_slot, stays-place}
use Rattle.cc_model.specs.Places.{script_places_of}
use Rattle.cc_script.specs.Objects.{Object, name_at, places_of}
use Rattle.cc_script.proofs.PlacesOf.{slot-place, delegate-place}
use Rattle.cc_script.proofs.Reaching.{among-held, held-among}
use Rattle.cc_heaps.specs.Keyed.{IsInOrder, name_held, named_object, named_objects}
use Rattle.cc_heaps.specs.Named.{own_name, named_native}
use Rattle.cc_heaps.specs.Fields.{heap_of, keyed_of, IsLinked}
use Rattle.cc_heaps.specs.Sweeping.{is_white, not_white, white_names}
use Rattle.cc_heaps.specs.declared.heaps.Heaps.TheInside.{Inside}
use Rattle.cc_heaps.proofs.ObjectsKept.{AreObjects, there-kept, there-named}
use Rattle.cc_heaps.proofs.Reaching.{HasOneKey, named-places, same-tests, name_at-own, name_at-found}
use Rattle.cc_heaps.proofs.RootNames.{register-names, key-register, script-named}

-- whether an object stays
abbrev pub stays : Object → Bool
stays o = not (is_white o)

-- the objects that are left
abbrev pub left_objects : Inside → List Object
left_objects p = not_white p.scripts

-- THE NAMES OF THE WHITE ONES are those that are not marked
pub white-unmarked : (p : Inside) → white_names p.scripts ≡ unmarked (heap_of p)
white-unmarked p = grind (arith, filter-map, map-map)

-- a native's slot holds a key, and by names what stands at it
named-slot : (p : Inside) (n : HeapNative) (k : ℕ) (x : Name) → Among (object k) (contents n.slots) → name_at p.scripts k ≡ Some x → Among x (contents (named_native p.scripts n).slots)
named-slot p n k x i e =
    among-held (named_native p.scripts n).slots x
    (subst (λ y. Among y (named_native p.scripts n).slots) e
    (Among-map (λ (y : Option Name). option_and_then (own_name p.scripts) y) (Some (object k)) n.slots (held-among n.slots (object k) i)))

module _ {owned : List ℕ} (p : Inside) (l : IsLinked p) (o : IsInOrder owned (keyed_of p)) (c : AreMarksClosed (heap_of p)) where
  -- White or marked

  white-there : (q : Object) → Among q p.scripts → is_white q ≡ true → Among q.name (unmarked (heap_of p))
  white-there q m w = subst (Among q.name) (white-unmarked p) (Among-map (λ (r : Object). r.name) q (filter is_white p.scripts) (Among-filter is_white q p.scripts m w))

  there-white : (q : Object) → Among q p.scripts → Among q.name (unmarked (heap_of p)) → is_white q ≡ true
  there-white q m i =
      let f = Among-map_cases (λ (r : Object). r.name) (filter is_white p.scripts) q.name (subst (Among q.name) (sym (white-unmarked p)) i) in
      let same : f.0 ≡ q = only-member (λ r. same_name r.name q.name) p.scripts f.0 q (l.one_name q.name)
      (Among-filtered is_white f.0 p.scripts f.1) (subst (λ y. same_name y q.name ≡ true) (sym f.2) (same_name-refl q.name))
      m (same_name-refl q.name) in
      ap is_white (sym same) ∙ Among-passes is_white f.0 p.scripts f.1

  -- an object whose name stays is not white
  not_white-stays : (q : Object) → Among q p.scripts → Stays (heap_of p) q.name → stays q ≡ true
  not_white-stays q m d = go (is_white q) refl
    where
      go : (b : Bool) → is_white q ≡ b → not b ≡ true
      go true w = absurd (d (white-there q m w))
      go false w = refl

  -- the name of an object that is not white stays
  pub stays-not_white : (q : Object) → Among q p.scripts → stays q ≡ true → Stays (heap_of p) q.name
  stays-not_white q m s i = true≢false (sym s ∙ ap not (there-white q m i))

  -- Names that are kept

  pub one_key-left : HasOneKey (left_objects p)
  one_key-left key = omega (arith, l.one_key key, count_by-filter-le (λ (q : Object). q.key == key) stays p.scripts)

  -- a key whose object stays has its name still
  pub name-left : (k : ℕ) (x : Name) → name_at p.scripts k ≡ Some x → Stays (heap_of p) x → name_at (left_objects p) k ≡ name_at p.scripts k
  name-left k x e d =
      let f = name_at-found p.scripts k x e in
      let left : Among f.0 (left_objects p) = Among-filter stays f.0 p.scripts f.1 (not_white-stays f.0 f.1 (subst (Stays (heap_of p)) (sym f.3) d)) in
      subst (λ j. name_at (left_objects p) j ≡ Some f.0.name) f.2 (name_at-own (left_objects p) one_key-left f.0 left) ∙ (ap (λ y. Some y) f.3 ∙ sym e)

  -- so has each key that registers hold,
  pub register-left : (key : SKey) → Among (Some key) p.script_registers.items → name_at (left_objects p) key.0 ≡ name_at p.scripts key.0
  register-left key m =
      let f = there-named p.scripts key.0 (l.script_registers (Some key) m) in
      name-left key.0 f.0 f.1 (c.registers f.0 ((register-names p l).named key.0 f.0 (key-register p.script_registers.items key m) f.1))

  -- each that natives hold,
  pub native-left : (n : HeapNative) (key : ℕ) → Among n p.counted.natives → Among (object key) (contents n.slots) → name_at (left_objects p) key ≡ name_at p.scripts key
  native-left n key m i =
      let f = there-named p.scripts key (l.held n (object key) m i) in
      name-left key f.0 f.1 (stays-native_slot (heap_of p) c (named_native p.scripts n) f.0 (Among-map (named_native p.scripts) n p.counted.natives m)
      (named-slot p n key f.0 i f.1) (script-named p l key f.0 f.1))

  -- and each that is in a place of an object that stays
  place-left : (q : Object) (k : ℕ) → Among q p.scripts → stays q ≡ true → Among (Some k) (places_of q) → name_at (left_objects p) k ≡ name_at p.scripts k
  place-left q k m s i =
      let f = there-named p.scripts k (o.whole q k m i) in
      name-left k f.0 f.1 (stays-place (heap_of p) c (named_object p.scripts q) f.0 (Among-map (named_object p.scripts) q p.scripts m)
      (among-held (script_places_of (named_object p.scripts q)) f.0 (subst (Among (Some f.0)) (sym (named-places p.scripts q))
      (subst (λ y. Among y (map (name_held p.scripts) (places_of q))) f.1 (Among-map (name_held p.scripts) (Some k) (places_of q) i))))
      (stays-not_white q m s))

  pub objects-left : AreObjects (left_objects p)
  objects-left = record {
    one_key = one_key-left;
    one_name = λ x. omega (arith, l.one_name x, count_by-filter-le (λ (q : Object). same_name q.name x) stays p.scripts);
    script_names = λ q m. l.script_names q (Among-filtered stays q p.scripts m);
    whole = λ q k m i.
        let before : Among q p.scripts = Among-filtered stays q p.scripts m in
        there-kept p.scripts (left_objects p) k (place-left q k before (Among-passes stays q p.scripts m) i) (o.whole q k before i);
  }

  -- By names

  named-left : (q : Object) → Among q (left_objects p) → named_object (left_objects p) q ≡ named_object p.scripts q
  named-left q m = λ i. record (named_object p.scripts q) {
    slots = map-held (name_held (left_objects p)) (name_held p.scripts) q.slots refl (λ k s. place-left q k before passes (slot-place q k s)) i;
    delegate = held q.delegate (λ k e. place-left q k before passes (delegate-place q k e)) i;
  }
    where
      before : Among q p.scripts
      before = Among-filtered stays q p.scripts m

      passes : stays q ≡ true
      passes = Among-passes stays q p.scripts m

      held : (d : Option ℕ) → ((k : ℕ) → d ≡ Some k → name_at (left_objects p) k ≡ name_at p.scripts k) → name_held (left_objects p) d ≡ name_held p.scripts d
      held None t = refl
      held (Some k) t = t k refl

  pub spared-stays : (q : Object) → Among q p.scripts → is_spared (unmarked (heap_of p)) (named_object p.scripts q) ≡ stays q
  spared-stays q m = grind (arith, same-tests, there-white, has-among, same_name-exact, has-there, white-there)

  pub scripts-left : filter (is_spared (unmarked (heap_of p))) (heap_of p).scripts ≡ named_objects (left_objects p)
  scripts-left = grind (arith, filter-map, filter-agree, spared-stays, map-agree, named-left)
