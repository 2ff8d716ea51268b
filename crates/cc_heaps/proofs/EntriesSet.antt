-- AN ENTRY SET OR TAKEN OUT BY KEYS, which is set or taken out by names, and its key, preserved where it is a reflector.
use Rattle.std.proofs.lemmas.Bool.{cases_Bool}
use Rattle.cc_lists.proofs.Held.{option_and_then-found}
use Rattle.cc_laws_heap.proofs.Face.{delegate_at-found, has_reflector-none, is_some-found, option_map-found, with_entries, with_entry-sound, without_entry-sound}
use Rattle.std.proofs.Common.{arith, ◌≡◌, ℕ, true, List, Option, Some, None, Result, Ok, Err, OnOk, OnErr, is_some, option_map, refl, sym, ◌∙◌, ap, subst, ⊎_elim}
use Rattle.std.specs.Prelude.{IsTrue, IsSome}
use Rattle.std.specs.Option.{option_and_then}
use Rattle.cc_lists.specs.Members.{Among}
use Rattle.cc_lists.proofs.Members.{Among-map}
use Rattle.cc_names.specs.declared.name.Name.{Name}
use Rattle.cc_names.specs.declared.number.NKey.{NKey}
use Rattle.cc_names.specs.declared.kind.Kind.TheVariants.{Map}
use Rattle.cc_names.specs.Names.{reflector}
use Rattle.cc_model.specs.Entries as model
use Rattle.cc_model.specs.Entries.{Entry}
use Rattle.cc_model.specs.Heap.{Heap, HeapScript, has_reflector, preserve}
use Rattle.cc_model.specs.Heap as by_name
use Rattle.cc_model.specs.Effects.{set_entry}
use Rattle.cc_model.specs.WellFormed.{HasMembers, script_names}
use Rattle.cc_laws_heap.specs.Sound.{IsSound}
use Rattle.cc_script.specs.Objects.{Object, delegate_at, is_there, kind_at, name_at, native_at, object_at}
use Rattle.cc_script.proofs.PlacesOf.{delegate-place}
use Rattle.cc_weakmaps.specs.Entries.{KeyedEntry, with_entry, without_entry}
use Rattle.cc_marking.specs.Marking.{AreEntriesThere}
use Rattle.cc_heaps.specs.declared.heaps.Heaps.TheInside.{Inside}
use Rattle.cc_heaps.specs.Keyed.{Keyed, IsInOrder, Reflects, name_held, named_entries, named_object, number_at, the_name_at, the_number}
use Rattle.cc_heaps.specs.Fields.{heap_of, keyed_of, IsLinked}
use Rattle.cc_heaps.proofs.EntryNames.{script_at-named, with_entry-named, without_entry-named, entries_there-set, entries_there-without}
use Rattle.cc_heaps.proofs.Keys.{Reflects-kept, object-name, Reflects-some, Reflects-cases}
use Rattle.cc_heaps.proofs.Reaching.{name_at-found, object_at-found, the_name-there, the_name-is}
use Rattle.cc_heaps.proofs.ScriptCalls.{Becomes}

-- What an entry names by names

module _ (owned : List ℕ) (v : Keyed) (o : IsInOrder owned v) where
  -- what is there has its name in the heaps
  pub the_name-among : (key : ℕ) → IsTrue (is_there v.scripts key) → Among (the_name_at v.scripts key) (script_names v.heap)
  the_name-among key t = grind (arith, name_at-found, the_name-there, object-name)

  -- a weak map is one in the heaps
  the_map-among : (key : ℕ) → kind_at v.scripts key ≡ Some Map →
      (s : HeapScript) × Among s v.heap.scripts × (s.name ≡ the_name_at v.scripts key) × (s.kind ≡ Map)
  the_map-among key is =
      let f = option_map-found (λ (q : Object). q.kind) (object_at v.scripts key) Map is in (
        named_object v.scripts f.0,
        subst (Among (named_object v.scripts f.0)) (sym o.named) (Among-map (named_object v.scripts) f.0 v.scripts (object_at-found v.scripts key f.0 f.1).0),
        sym (the_name-is v.scripts key f.0.name (ap (option_map (λ (q : Object). q.name)) f.1)),
        f.2,
      )

  -- its delegate by names is that of its key
  pub entry-members : (m k x : ℕ) → kind_at v.scripts m ≡ Some Map → IsTrue (is_there v.scripts k) → IsTrue (is_there v.scripts x) →
      HasMembers v.heap (model.entry (the_name_at v.scripts m) (the_name_at v.scripts k) (by_name.delegate_at v.heap (the_name_at v.scripts k)) (the_name_at v.scripts x))
  entry-members m k x is s t = record {
    the_map = the_map-among m is;
    key = the_name-among k s;
    value = the_name-among x t;
    delegate = λ q i named. sym (delegate_at-found v.heap o.sound.well_formed q i) ∙ ap (by_name.delegate_at v.heap) named;
  }

  -- THE DELEGATE BY NAMES is that by keys
  pub delegate-named : (key : ℕ) → IsTrue (is_there v.scripts key) →
      by_name.delegate_at v.heap (the_name_at v.scripts key) ≡ name_held v.scripts (delegate_at v.scripts key)
  delegate-named key t =
      let f = is_some-found (object_at v.scripts key) t in
      ap (by_name.delegate_at v.heap) (the_name-is v.scripts key f.0.name (ap (option_map (λ (q : Object). q.name)) f.1))
      ∙ (ap (option_and_then (λ (s : HeapScript). s.delegate)) (script_at-named owned v o f.0 (object_at-found v.scripts key f.0 f.1).0)
      ∙ ap (λ q. name_held v.scripts (option_and_then (λ (r : Object). r.delegate) q)) (sym f.1))

  -- and it is there
  pub delegate-live : (key : ℕ) → IsTrue (is_there v.scripts key) → (d : ℕ) → delegate_at v.scripts key ≡ Some d → IsTrue (is_there v.scripts d)
  delegate-live key t d e =
      let f = is_some-found (object_at v.scripts key) t in
      o.whole f.0 d (object_at-found v.scripts key f.0 f.1).0 (delegate-place f.0 d (sym (ap (option_and_then (λ (r : Object). r.delegate)) f.1) ∙ e))

-- a weak map is there
pub map-there : (objects : List Object) (key : ℕ) → kind_at objects key ≡ Some Map → IsTrue (is_there objects key)
map-there objects key is = ap is_some (option_map-found (λ (q : Object). q.kind) (object_at objects key) Map is).1

-- The parts with other entries

abbrev pub with_weak : Inside → List KeyedEntry → Inside
with_weak p es = record p { weak = es }

module _ {owned : List ℕ} (p : Inside) (l : IsLinked p) (o : IsInOrder owned (keyed_of p)) where
  -- what is changed by keys is changed by names
  becomes-entries : (es : List KeyedEntry) (named : List Entry) → named_entries p.scripts es ≡ named → IsSound owned (with_entries (heap_of p) named) → AreEntriesThere p.scripts es →
      Becomes owned p (with_weak p es) (with_entries (heap_of p) named)
  becomes-entries es named e s there = grind (arith, Reflects-kept)

  module _ (m k : ℕ) (is_map : kind_at p.scripts m ≡ Some Map) (k-there : IsTrue (is_there p.scripts k)) where
    m-there : IsTrue (is_there p.scripts m)
    m-there = map-there p.scripts m is_map

    -- AN ENTRY IS SET,
    pub becomes-set : (v : ℕ) → IsTrue (is_there p.scripts v) → (d : Option ℕ) → d ≡ delegate_at p.scripts k → (es : List KeyedEntry) → es ≡ with_entry p.weak m k d v →
        Becomes owned p (with_weak p es) (with_entries (heap_of p) (model.with_entry (heap_of p).entries (the_name_at p.scripts m) (the_name_at p.scripts k)
        (by_name.delegate_at (heap_of p) (the_name_at p.scripts k)) (the_name_at p.scripts v)))
    becomes-set v v-there d its es e = becomes-entries es (model.with_entry (heap_of p).entries (the_name_at p.scripts m) (the_name_at p.scripts k) named (the_name_at p.scripts v))
        (ap (named_entries p.scripts) e ∙ (with_entry-named p.scripts l.one_name m k m-there k-there d v p.weak o.entries_there
        ∙ ap (λ x. model.with_entry (heap_of p).entries (the_name_at p.scripts m) (the_name_at p.scripts k) x (the_name_at p.scripts v))
        (ap (name_held p.scripts) its ∙ sym (delegate-named owned (keyed_of p) o k k-there))))
        (with_entry-sound owned (heap_of p) (the_name_at p.scripts m) (the_name_at p.scripts k) named (the_name_at p.scripts v)
        (entry-members owned (keyed_of p) o m k v is_map k-there v-there) o.sound)
        (subst (AreEntriesThere p.scripts) (sym e)
        (entries_there-set p.scripts p.weak o.entries_there m k d v
        (record { the_map = m-there; key = k-there; value = v-there; delegate = λ q is. delegate-live owned (keyed_of p) o k k-there q (sym its ∙ is) })))
      where
        named : Option Name
        named = by_name.delegate_at (heap_of p) (the_name_at p.scripts k)

    -- or memory was wanting, and then it is not; the parts stay in order
    pub order-set : {E : Type 0} (v : ℕ) → IsTrue (is_there p.scripts v) → (d : Option ℕ) → d ≡ delegate_at p.scripts k → (es : List KeyedEntry) (result : Result (Unit {0}) E) →
        OnOk result (es ≡ with_entry p.weak m k d v) → OnErr result (es ≡ p.weak) → IsInOrder owned (keyed_of (with_weak p es))
    order-set v v-there d its es (Ok x) set same = (becomes-set v v-there d its es set).order
    order-set v v-there d its es (Err x) set same = subst (λ fs. IsInOrder owned (keyed_of (with_weak p fs))) (sym same) o

    -- OR TAKEN OUT.
    pub becomes-unset : (es : List KeyedEntry) → es ≡ without_entry p.weak m k → Becomes owned p (with_weak p es) (set_entry (heap_of p) (name_at p.scripts m) (name_at p.scripts k) None)
    becomes-unset es e = subst (Becomes owned p (with_weak p es)) (λ i. set_entry (heap_of p) (sym (the_name-there p.scripts m m-there) i) (sym (the_name-there p.scripts k k-there) i) None)
        (becomes-entries es (model.without_entry (heap_of p).entries (the_name_at p.scripts m) (the_name_at p.scripts k))
        (ap (named_entries p.scripts) e ∙ without_entry-named p.scripts l.one_name m k m-there k-there p.weak o.entries_there)
        (without_entry-sound owned (heap_of p) (the_name_at p.scripts m) (the_name_at p.scripts k) o.sound)
        (subst (AreEntriesThere p.scripts) (sym e) (entries_there-without p.scripts p.weak o.entries_there m k)))

-- Reflectors preserved

module _ (owned : List ℕ) (v : Keyed) (o : IsInOrder owned v) (key : ℕ) (t : IsTrue (is_there v.scripts key)) where
  -- a script object with a native is its reflector,
  native-reflector : (r : NKey) → Some r.0 ≡ native_at v.scripts key → IsSome (number_at v r.0) × (name_at v.scripts key ≡ Some (reflector (the_number v r.0)))
  native-reflector r e =
      let f = option_and_then-found (λ (q : Object). q.native) (object_at v.scripts key) r.0 (sym e) in
      let k = Reflects-some v f.0.name r.0 (subst (Reflects v f.0.name) f.2 (o.reflecting f.0 (object_at-found v.scripts key f.0 f.1).0)) in
      rw (f.1, k.1, k.2) (refl, refl)

  -- as it is read,
  pub native-read : (p : Inside) → keyed_of p ≡ v → (found : Option NKey) (r : NKey) → found ≡ Some r → option_map (λ (n : NKey). n.0) found ≡ native_at p.scripts key →
      IsSome (number_at v r.0) × (name_at v.scripts key ≡ Some (reflector (the_number v r.0)))
  native-read p is found r e at =
      native-reflector r (ap (option_map (λ (n : NKey). n.0)) (sym e) ∙ subst (λ (w : Keyed). option_map (λ (n : NKey). n.0) found ≡ native_at w.scripts key) is at)

  -- which the heaps have,
  pub reflector-there : (k : ℕ) → name_at v.scripts key ≡ Some (reflector k) → has_reflector v.heap k ≡ true
  reflector-there k named = ⊎_elim (λ e. e)
      (λ e. absurd (has_reflector-none v.heap k e (subst (λ x. Among x (script_names v.heap)) (the_name-is v.scripts key (reflector k) named) (the_name-among owned v o key t))))
      (cases_Bool (has_reflector v.heap k))

  -- and one without is none
  pub no_native-preserved : (p : Inside) → keyed_of p ≡ v → (found : Option NKey) → found ≡ None → option_map (λ (n : NKey). n.0) found ≡ native_at p.scripts key →
      (h : Heap) → preserve h (name_at v.scripts key) ≡ h
  no_native-preserved p is found none at h = go (object_at v.scripts key) refl
      (sym (ap (option_map (λ (n : NKey). n.0)) (sym none) ∙ subst (λ (w : Keyed). option_map (λ (n : NKey). n.0) found ≡ native_at w.scripts key) is at))
    where
      named : (x : Name) (n : Option ℕ) → Reflects v x n → n ≡ None → preserve h (Some x) ≡ h
      named = Reflects-cases v (λ x n. n ≡ None → preserve h (Some x) ≡ h) (λ k e. refl) (λ k q d e. absurd (cc))

      go : (f : Option Object) → object_at v.scripts key ≡ f → option_and_then (λ (q : Object). q.native) f ≡ None → preserve h (option_map (λ (q : Object). q.name) f) ≡ h
      go None f e = refl
      go (Some q) f e = named q.name q.native (o.reflecting q (object_at-found v.scripts key q f).0) e
