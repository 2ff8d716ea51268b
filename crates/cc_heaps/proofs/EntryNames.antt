-- ENTRIES OF WEAK MAPS BY KEYS ARE THOSE BY NAMES, where no two script objects have one name: an entry is set, taken out and
-- looked for alike. A script object is a weak map where the definitions say that it has no slots.
use Rattle.cc_lists.proofs.Held.{through-test, of-test, of-one}
use Rattle.std.proofs.Common.{arith, ◌≡◌, ◌↔◌, ℕ, ◌==◌, true, false, not, ◌&&◌, List, [], ◌∷◌, Option, Some, None, option_map, refl, sym, ◌∙◌, ap, subst, inl, inr, ⊎_elim}
use Rattle.std.specs.Prelude.{IsTrue}
use Rattle.std.specs.Option.{is_some, option_and_then}
use Rattle.std.specs.List.{find}
use Rattle.std.proofs.lemmas.Bool.{eqb-true, eq-eqb}
use Rattle.cc_lists.specs.Members.{Among}
use Rattle.cc_lists.proofs.Filtering.{filter-agree}
use Rattle.cc_lists.proofs.Members.{Among-filtered, Among-map}
use Rattle.cc_lists.proofs.Searching.{filter-map, find-map, find-only}
use Rattle.cc_names.specs.declared.name.Name.{Name}
use Rattle.cc_names.specs.declared.name.Name.TheVariants as name
use Rattle.cc_names.specs.declared.number.SKey.{SKey}
use Rattle.cc_names.specs.declared.kind.Kind.TheVariants.{Map}
use Rattle.cc_names.specs.Names.{same_name}
use Rattle.cc_names.proofs.NameTests.{same_name-true, same_name-refl}
use Rattle.cc_model.specs.Entries as model
use Rattle.cc_model.specs.Entries.{Entry}
use Rattle.cc_model.specs.Checks.{is_map_in, value_at}
use Rattle.cc_model.specs.Heap.{HeapScript, objects_of, script_at, slots_in, slots_of_script}
use Rattle.cc_model.specs.WellFormed.{script_names}
use Rattle.cc_laws_heap.proofs.Face.{is_some-found, native-no_script}
use Rattle.cc_script.specs.Objects.{Object, is_there, kind_at, name_at, object_at}
use Rattle.cc_weakmaps.specs.Entries.{KeyedEntry, entry, has_value_in, is_entry_of, value_in, with_entry, without_entry}
use Rattle.cc_marking.specs.Marking.{AreDelegatesOfKeys, IsEntryThere, AreEntriesThere}
use Rattle.cc_script.proofs.PlacesOf.{delegate-place}
use Rattle.cc_heaps.specs.Keyed.{Keyed, IsInOrder, name_held, the_name_at, named_entry, named_entries, named_object}
use Rattle.cc_heaps.specs.Changes.{IsScriptThere, script_name}
use Rattle.cc_heaps.proofs.Keys.{object-name}
use Rattle.cc_heaps.proofs.Reaching.{HasOneName, key-named, name_at-found, object_at-found, same-tests, the_name-is, the_name-there}
use Rattle.cc_heaps.proofs.ScriptsChanged.{HasOneName-named}

-- Entries changed and read

module _ (objects : List Object) (one_name : HasOneName objects) where
  -- two keys are one where their names are
  same-key : (a b : ℕ) → IsTrue (is_there objects a) → IsTrue (is_there objects b) → same_name (the_name_at objects a) (the_name_at objects b) ≡ (a == b)
  same-key a b s t = grind (arith, same-tests, name_at-found, the_name-there, same_name-true, eq-eqb, key-named, eqb-true, same_name-refl)

  module _ (m k : ℕ) (m-there : IsTrue (is_there objects m)) (k-there : IsTrue (is_there objects k)) where
    abbrev x : Name
    x = the_name_at objects m

    abbrev y : Name
    y = the_name_at objects k

    -- it is told of an entry alike whether it is that of a map and a key
    is_entry_of-named : (e : KeyedEntry) → IsEntryThere objects e → model.is_entry_of x y (named_entry objects e) ≡ is_entry_of m k e
    is_entry_of-named e t = λ i. same-key e.the_map m t.the_map m-there i && same-key e.key k t.key k-there i

    -- AN ENTRY IS SET,
    pub with_entry-named : (d : Option ℕ) (v : ℕ) (es : List KeyedEntry) → AreEntriesThere objects es →
        named_entries objects (with_entry es m k d v) ≡ model.with_entry (named_entries objects es) x y (name_held objects d) (the_name_at objects v)
    with_entry-named d v [] t = refl
    with_entry-named d v (e ∷ es) t =
        through-test (named_entries objects) (is_entry_of m k e) (entry m k d v ∷ es) (e ∷ with_entry es m k d v)
        ∙ (λ i. elim (sym (is_entry_of-named e (t e (inl refl))) i) [
          | true ↦ model.entry x y (name_held objects d) (the_name_at objects v) ∷ named_entries objects es
          | false ↦ named_entry objects e ∷ with_entry-named d v es (λ f i. t f (inr i)) i
        ])

    -- OR TAKEN OUT,
    pub without_entry-named : (es : List KeyedEntry) → AreEntriesThere objects es →
        named_entries objects (without_entry es m k) ≡ model.without_entry (named_entries objects es) x y
    without_entry-named es t = ap (named_entries objects) (filter-agree (λ e. not (is_entry_of m k e)) (λ e. not (model.is_entry_of x y (named_entry objects e))) es
        (λ e i. ap not (sym (is_entry_of-named e (t e i)))))
        ∙ sym (filter-map (λ e. not (model.is_entry_of x y e)) (named_entry objects) es)

    -- AND ITS VALUE IS FOUND alike.
    pub value_in-named : (es : List KeyedEntry) → AreEntriesThere objects es → model.value_in (named_entries objects es) x y ≡ option_map (the_name_at objects) (value_in es m k)
    value_in-named [] t = refl
    value_in-named (e ∷ es) t = sym
        (through-test (option_map (the_name_at objects)) (is_entry_of m k e) (Some e.value) (value_in es m k)
        ∙ (λ i. elim (sym (is_entry_of-named e (t e (inl refl))) i) [
          | true ↦ Some (the_name_at objects e.value)
          | false ↦ sym (value_in-named es (λ f i. t f (inr i))) i
        ]))

-- What entries name

module _ (objects : List Object) (es : List KeyedEntry) (there : AreEntriesThere objects es) (m k : ℕ) where
  -- what entries name is there after one of what is there was set,
  pub entries_there-set : (d : Option ℕ) (v : ℕ) → IsEntryThere objects (entry m k d v) → AreEntriesThere objects (with_entry es m k d v)
  entries_there-set d v new = each es there
    where
      each : (fs : List KeyedEntry) → AreEntriesThere objects fs → AreEntriesThere objects (with_entry fs m k d v)
      each [] old = of-one (IsEntryThere objects) (entry m k d v) new
      each (f ∷ fs) old = of-test (AreEntriesThere objects) (is_entry_of m k f) (entry m k d v ∷ fs) (f ∷ with_entry fs m k d v)
          (λ e. ⊎_elim (λ s. subst (IsEntryThere objects) s new) (λ r. old e (inr r)))
          (λ e. ⊎_elim (λ s. old e (inl s)) (each fs (λ g j. old g (inr j)) e))

  -- and after one was taken out,
  pub entries_there-without : AreEntriesThere objects (without_entry es m k)
  entries_there-without e i = there e (Among-filtered (λ f. not (is_entry_of m k f)) e es i)

  -- and so is the value of a map and a key
  pub value_in-there : (v : ℕ) → value_in es m k ≡ Some v → IsTrue (is_there objects v)
  value_in-there v = each es there
    where
      each : (fs : List KeyedEntry) → AreEntriesThere objects fs → value_in fs m k ≡ Some v → IsTrue (is_there objects v)
      each [] old = λ e. absurd (cc)
      each (f ∷ fs) old = of-test (λ (o : Option ℕ). o ≡ Some v → IsTrue (is_there objects v)) (is_entry_of m k f) (Some f.value) (value_in fs m k)
          (λ d. let same : f.value ≡ v = cc in subst (λ j. IsTrue (is_there objects j)) same (old f (inl refl)).value)
          (each fs (λ d j. old d (inr j)))

-- The heaps with their keys

module _ (owned : List ℕ) (v : Keyed) (o : IsInOrder owned v) where
  -- no two script objects have one name
  pub one_name-order : HasOneName v.scripts
  one_name-order = HasOneName-named v.heap v.scripts o.named o.sound.well_formed

  -- THE VALUE OF A MAP AND A KEY has the name that the definitions give,
  pub value_at-named : (m k : ℕ) → IsTrue (is_there v.scripts m) → IsTrue (is_there v.scripts k) →
      value_at (objects_of v.heap) (name_at v.scripts m) (name_at v.scripts k) ≡ option_and_then (name_at v.scripts) (value_in v.entries m k)
  value_at-named m k s t =
      (λ i. value_at (objects_of v.heap) (the_name-there v.scripts m s i) (the_name-there v.scripts k t i))
      ∙ (ap (λ es. model.value_in es (the_name_at v.scripts m) (the_name_at v.scripts k)) o.entries
      ∙ (value_in-named v.scripts one_name-order m k s t v.entries o.entries_there
      ∙ go (value_in v.entries m k) refl))
    where
      go : (f : Option ℕ) → value_in v.entries m k ≡ f → option_map (the_name_at v.scripts) f ≡ option_and_then (name_at v.scripts) f
      go None e = refl
      go (Some j) e = sym (the_name-there v.scripts j (value_in-there v.scripts v.entries o.entries_there m k j e))

  -- there is one alike,
  pub has_value-named : (m k : ℕ) → IsTrue (is_there v.scripts m) → IsTrue (is_there v.scripts k) →
      is_some (value_at (objects_of v.heap) (name_at v.scripts m) (name_at v.scripts k)) ≡ has_value_in v.entries m k
  has_value-named m k s t = grind (arith, value_at-named, the_name-there, value_in-there)

  -- and it is there, as it is read of the entries.
  pub value-read : (m k : ℕ) → IsTrue (is_there v.scripts m) → IsTrue (is_there v.scripts k) → (found : Option SKey) → option_map (λ (j : SKey). j.0) found ≡ value_in v.entries m k →
      (script_name v found ≡ value_at (objects_of v.heap) (name_at v.scripts m) (name_at v.scripts k)) × IsScriptThere v found
  value-read m k s t found e = grind (arith, value_at-named, value_in-there)

  -- The kind of what is there

  -- a script object is found by its name
  pub script_at-named : (q : Object) → Among q v.scripts → script_at v.heap q.name ≡ Some (named_object v.scripts q)
  script_at-named q m = ap (find (λ (s : HeapScript). same_name s.name q.name)) o.named
      ∙ (find-map (λ (s : HeapScript). same_name s.name q.name) (named_object v.scripts) v.scripts
      ∙ ap (option_map (named_object v.scripts)) (find-only (λ (s : Object). same_name s.name q.name) v.scripts q (one_name-order q.name) m (same_name-refl q.name)))

  -- THE DELEGATE OF AN ENTRY IS THAT OF ITS KEY, by keys as by names
  pub delegates-order : AreDelegatesOfKeys v.scripts v.entries
  delegates-order e m =
      let there = o.entries_there e m in
      let f = is_some-found (object_at v.scripts e.key) there.key in
      let i = (object_at-found v.scripts e.key f.0 f.1).0 in
      let given : Among (named_entry v.scripts e) v.heap.entries = subst (Among (named_entry v.scripts e)) (sym o.entries) (Among-map (named_entry v.scripts) e v.entries m) in
      let same = (o.sound.well_formed.entries (named_entry v.scripts e) given).delegate (named_object v.scripts f.0)
      (subst (Among (named_object v.scripts f.0)) (sym o.named) (Among-map (named_object v.scripts) f.0 v.scripts i))
      (sym (the_name-is v.scripts e.key f.0.name (ap (option_map (λ (q : Object). q.name)) f.1))) in
      sym (only f.0.delegate e.delegate (λ d q. o.whole f.0 d i (delegate-place f.0 d q)) there.delegate same)
      ∙ sym (ap (option_and_then (λ (q : Object). q.delegate)) f.1)
    where
      only : (a b : Option ℕ) → ((d : ℕ) → a ≡ Some d → IsTrue (is_there v.scripts d)) → ((d : ℕ) → b ≡ Some d → IsTrue (is_there v.scripts d)) →
          name_held v.scripts a ≡ name_held v.scripts b → a ≡ b
      only None None s t e = refl
      only None (Some b) s t e = let n = the_name-there v.scripts b (t b refl) in let none : None ≡ Some (the_name_at v.scripts b) = e ∙ n in absurd (cc)
      only (Some a) None s t e = let n = the_name-there v.scripts a (s a refl) in let none : Some (the_name_at v.scripts a) ≡ None = sym n ∙ e in absurd (cc)
      only (Some a) (Some b) s t e =
          let n = the_name-there v.scripts a (s a refl) in
          let f = name_at-found v.scripts a (the_name_at v.scripts a) n in
          ap (λ (k : ℕ). Some k) (sym f.2 ∙ key-named v.scripts one_name-order b (the_name_at v.scripts a) (sym e ∙ n) f.0 f.1 f.3)

  -- and its slots
  slots_in-named : (q : Object) → Among q v.scripts → slots_in v.heap q.name ≡ slots_of_script (named_object v.scripts q)
  slots_in-named q m = go q.name (object-name v.heap v.scripts o.named q m) (script_at-named q m)
    where
      go : (x : Name) → Among x (script_names v.heap) → script_at v.heap x ≡ Some (named_object v.scripts q) → slots_in v.heap x ≡ slots_of_script (named_object v.scripts q)
      go (name.Native k) i e = absurd (native-no_script v.heap k.0 o.sound.well_formed i)
      go (name.Script k) i e = ap (option_and_then slots_of_script) e
      go (name.Reflector k) i e = ap (option_and_then slots_of_script) e

  -- A WEAK MAP IS WHAT IS THERE AND HAS NO SLOTS.
  pub map-named : (key : ℕ) (x : Name) → name_at v.scripts key ≡ Some x → (slots_in v.heap x ≡ None) ↔ (kind_at v.scripts key ≡ Some Map)
  map-named key x = grind (arith, slots_in-named, object_at-found)

  -- which the check of a command asks
  pub is_map-named : (key : ℕ) → IsTrue (is_there v.scripts key) → IsTrue (is_map_in (objects_of v.heap) (name_at v.scripts key)) ↔ (kind_at v.scripts key ≡ Some Map)
  is_map-named key t = grind (arith, the_name-there, map-named)
