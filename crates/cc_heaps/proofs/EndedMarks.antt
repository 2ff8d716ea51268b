-- THE NEW MARKS EXCHANGED FOR THE COLOURS: the objects by their new marks, and what has at least one of these, by names.
use Rattle.std.proofs.Common.{arith, ◌≡◌, ℕ, ◌==◌, Bool, true, false, not, List, [], ◌∷◌, map, filter, Some, option_map, refl, sym, ◌∙◌, ap, subst}
use Rattle.std.specs.List.{flat_map}
use Rattle.std.proofs.lemmas.Bool.{true≢false}
use Rattle.cc_lists.specs.Members.{Among}
use Rattle.cc_lists.proofs.ListWrites.{each-map, flat_map-kept, only-member}
use Rattle.cc_lists.proofs.Members.{Among-map, Among-map_cases, Among-filter, Among-filtered, Among-passes}
use Rattle.cc_lists.specs.Least.{closure, system}
use Rattle.cc_names.specs.declared.name.Name.{Name}
use Rattle.cc_names.specs.declared.kind.Colour.{Colour}
use Rattle.cc_names.specs.declared.kind.Colour.TheVariants.{White, Gray, Black}
use Rattle.cc_names.specs.Names.{same_name}
use Rattle.cc_names.proofs.NameTests.{same_name-refl}
use Rattle.cc_model.specs.Heap.{Heap}
use Rattle.cc_model.specs.Marking.{NewMarks, is_none_of, is_scanned, without_all}
use Rattle.cc_model.specs.View.{script_slot_edges}
use Rattle.cc_model.specs.Exposure.{slots_of_scripts}
use Rattle.cc_model.specs.WellFormed.{script_names}
use Rattle.cc_laws_heap.specs.UnderMarking.{IsScannedSoFar}
use Rattle.cc_laws_heap.proofs.Face.{is_some-found}
use Rattle.cc_laws_heap.proofs.Raising.{without_all-cases, without_all-in}
use Rattle.cc_script.specs.ColourOrder.{HasColourOrder}
use Rattle.cc_script.specs.NewMarks.{exchanged}
use Rattle.cc_script.specs.Objects.{Object, AreWhole, colour_at, is_below, object_at, places_of}
use Rattle.cc_script.specs.Walking.{slot_edges}
use Rattle.cc_script.proofs.Keys.{object_at-among, object_at-map}
use Rattle.cc_weakmaps.specs.Entries.{KeyedEntry}
use Rattle.cc_marking.specs.Joints.{joints, rules_of}
use Rattle.cc_marking.specs.Levels.{has_at_least, is_at_least, keys_at_least}
use Rattle.cc_marking.specs.Marking.{keys_marked}
use Rattle.cc_heaps.specs.Keyed.{named_objects}
use Rattle.cc_heaps.specs.NewMarks.{names_below}
use Rattle.cc_heaps.proofs.Keys.{named-object, object-name}
use Rattle.cc_heaps.proofs.Reaching.{AreNamesOf, HasOneKey, HasOneName, found-named, name_at-found, name_at-own, object_at-own}
use Rattle.cc_heaps.proofs.ScriptWrites.{KeepsObjects}

pub KeepsObjects-exchanged : KeepsObjects exchanged
KeepsObjects-exchanged = record { key = λ o. refl; name = λ o. refl; kind = λ o. refl; native = λ o. refl; delegate = λ o. refl }

-- a test that does not hold
unpassed : (b : Bool) → ¬ (b ≡ true) → b ≡ false
unpassed true none = absurd (none refl)
unpassed false none = refl

-- its negation holds
passed : (b : Bool) → ¬ (b ≡ true) → not b ≡ true
passed true none = absurd (none refl)
passed false none = refl

-- a list of nothing has no member
none-in : (xs : List Name) → is_none_of xs ≡ true → (x : Name) → ¬ (Among x xs)
none-in [] e x = λ i. i
none-in (y ∷ ys) e x = λ i. true≢false (sym e)

-- where nothing is left to scan, both lists are empty
none-listed : (m : NewMarks) → is_scanned m ≡ true → (is_none_of m.black_list ≡ true) × (is_none_of m.gray_list ≡ true)
none-listed m e = grind arith

module _ (objects : List Object) (one_key : HasOneKey objects) (one_name : HasOneName objects) where
  -- an object with a lower new mark than this has its name among these,
  below-in : (to : Colour) (o : Object) → Among o objects → is_below o.new_mark to ≡ true → Among o.name (names_below to objects)
  below-in to o i e = Among-map (λ (q : Object). q.name) o (filter (λ q. is_below q.new_mark to) objects) (Among-filter (λ q. is_below q.new_mark to) o objects i e)

  -- and an object that has its name among these has a lower one
  below-named : (to : Colour) (o : Object) → Among o objects → Among o.name (names_below to objects) → is_below o.new_mark to ≡ true
  below-named to o i j =
      let f = Among-map_cases (λ (q : Object). q.name) (filter (λ q. is_below q.new_mark to) objects) o.name j in
      let same : f.0 ≡ o = only-member (λ (q : Object). same_name q.name o.name) objects f.0 o (one_name o.name)
      (Among-filtered (λ q. is_below q.new_mark to) f.0 objects f.1) (subst (λ y. same_name y o.name ≡ true) (sym f.2) (same_name-refl o.name)) i (same_name-refl o.name) in
      subst (λ (q : Object). is_below q.new_mark to ≡ true) same (Among-passes (λ q. is_below q.new_mark to) f.0 objects f.1)

  -- THE COLOUR ORDER holds once the new marks are the colours: where nothing is left to scan, no object holds one of a lower new mark
  module _ (h : Heap) (named : h.scripts ≡ named_objects objects) (m : NewMarks)
      (unmarked : m.unmarked ≡ names_below Gray objects) (unblack : m.unblack ≡ names_below Black objects)
      (so_far : IsScannedSoFar h m) (scanned : is_scanned m ≡ true) (whole : AreWhole objects) where
    pub order-exchanged : HasColourOrder (map exchanged objects)
    order-exchanged = record { held = λ o q i above at. each-map Holds exchanged objects each o i q above at }
      where
        Holds : Object → Type 0
        Holds o = (q : ℕ) → is_below White o.colour ≡ true → Among (Some q) (places_of o) →
            (d : Object) × (object_at (map exchanged objects) q ≡ Some d) × (is_below d.colour o.colour ≡ false)

        is_unblack : (o : Object) → Among o objects → is_below o.new_mark Black ≡ true → Among o.name m.unblack
        is_unblack o i e = subst (Among o.name) (sym unblack) (below-in Black o i e)

        no_unblack : (o : Object) → Among o objects → is_below o.new_mark Black ≡ false → ¬ (Among o.name m.unblack)
        no_unblack o i e = λ j. true≢false (sym (below-named Black o i (subst (Among o.name) unblack j)) ∙ e)

        is_unmarked : (o : Object) → Among o objects → is_below o.new_mark Gray ≡ true → Among o.name m.unmarked
        is_unmarked o i e = subst (Among o.name) (sym unmarked) (below-in Gray o i e)

        no_unmarked : (o : Object) → Among o objects → is_below o.new_mark Gray ≡ false → ¬ (Among o.name m.unmarked)
        no_unmarked o i e = λ j. true≢false (sym (below-named Gray o i (subst (Among o.name) unmarked j)) ∙ e)

        -- a slot of one with a mark holds none with a lower one
        level : (o d : Object) → Among o objects → Among d objects → Among (o.name, d.name) (slots_of_scripts h) → (c : Colour) → o.new_mark ≡ c → is_below White c ≡ true →
            is_below d.new_mark c ≡ false
        level o d i j e White s above = absurd (true≢false (sym above))
        level o d i j e Gray s above = unpassed (is_below d.new_mark Gray) (λ b.
            so_far.gray_on o.name d.name e
            (is_unblack o i (ap (λ c. is_below c Black) s))
            (no_unmarked o i (ap (λ c. is_below c Gray) s))
            (none-in m.gray_list (none-listed m scanned).1 o.name)
            (is_unmarked d j b))
        level o d i j e Black s above = unpassed (is_below d.new_mark Black) (λ b.
            so_far.black_on o.name d.name e
            (no_unblack o i (ap (λ c. is_below c Black) s))
            (none-in m.black_list (none-listed m scanned).0 o.name)
            (is_unblack d j b))

        each : (o : Object) → Among o objects → Holds (exchanged o)
        each o i q above at =
            let f = is_some-found (object_at objects q) (whole o q i at) in
            let j : Among f.0 objects = object_at-among objects q f.0 f.1 in
            let e : Among (o.name, f.0.name) (slots_of_scripts h) = subst (λ ss. Among (o.name, f.0.name) (flat_map script_slot_edges ss)) (sym named)
            (found-named objects o q f.0.name i at (ap (option_map (λ (z : Object). z.name)) f.1)) in
            (exchanged f.0, object_at-map exchanged (λ z. refl) objects q ∙ ap (option_map exchanged) f.1, level o f.0 i j e o.new_mark refl above)

  -- What has at least a new mark

  -- the new mark of an object is its colour then,
  colour-exchanged : (o : Object) → Among o objects → colour_at (map exchanged objects) o.key ≡ Some o.new_mark
  colour-exchanged o i = ap (option_map (λ (z : Object). z.colour))
      (object_at-map exchanged (λ z. refl) objects o.key ∙ ap (option_map exchanged) (object_at-own objects one_key o i))

  -- which is at least another where the new mark is not below that
  has_at_least-exchanged : (to : Colour) (o : Object) → Among o objects → has_at_least to (map exchanged objects) o.key ≡ not (is_below o.new_mark to)
  has_at_least-exchanged to o i = ap (is_at_least to) (colour-exchanged o i)

  -- THE NAMES OF WHAT HAS AT LEAST A NEW MARK are those of the objects but for what has a lower one
  pub names-at_least : (h : Heap) → h.scripts ≡ named_objects objects → (to : Colour) → AreNamesOf objects (keys_at_least to (map exchanged objects)) (without_all (names_below to objects) (script_names h))
  names-at_least h named to = record {
    named = λ k x i e.
        let f = name_at-found objects k x e in
        let high : not (is_below f.0.new_mark to) ≡ true = sym (has_at_least-exchanged to f.0 f.1)
        ∙ (ap (has_at_least to (map exchanged objects)) f.2 ∙ Among-passes (has_at_least to (map exchanged objects)) k keys i) in
        subst (λ y. Among y (without_all (names_below to objects) (script_names h))) f.3
        (without_all-in (names_below to objects) (script_names h) f.0.name (object-name h objects named f.0 f.1)
        (λ j. true≢false (sym high ∙ ap not (below-named to f.0 f.1 j))));
    keyed = λ x i.
        let c = without_all-cases (names_below to objects) (script_names h) x i in
        let f = named-object h objects named x c.0 in
        let high : has_at_least to (map exchanged objects) f.0.key ≡ true = has_at_least-exchanged to f.0 f.1
        ∙ passed (is_below f.0.new_mark to) (λ b. c.1 (subst (λ y. Among y (names_below to objects)) f.2 (below-in to f.0 f.1 b))) in
        (f.0.key, Among-filter (has_at_least to (map exchanged objects)) f.0.key keys (key-in f.0 f.1) high, name_at-own objects one_key f.0 f.1 ∙ ap (λ y. Some y) f.2);
  }
    where
      keys : List ℕ
      keys = map (λ (o : Object). o.key) (map exchanged objects)

      key-in : (o : Object) → Among o objects → Among o.key keys
      key-in o i = Among-map (λ (z : Object). z.key) (exchanged o) (map exchanged objects) (Among-map exchanged o objects i)

  -- what a mark comes to from some keys is the same before the exchange and after it
  pub keys_marked-exchanged : (es : List KeyedEntry) (keys : List ℕ) → keys_marked (map exchanged objects) es keys ≡ keys_marked objects es keys
  keys_marked-exchanged es keys = ap (λ ways. closure ◌==◌ (system keys ways (rules_of (joints es)))) (flat_map-kept slot_edges exchanged objects (λ o. refl))
