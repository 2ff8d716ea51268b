-- MANY OBJECTS GET A HIGHER NEW MARK, one after another: those that roots give, and those that an object holds.
use Rattle.std.proofs.Common.{◌≡◌, ℕ, zero, suc, ◌+◌, ◌<◌, ◌≤◌, List, [], ◌∷◌, drop, get_or, map, length, Option, Some, None, option_map, refl, sym, ◌∙◌, ap, subst, inl, inr}
use Rattle.std.specs.Prelude.{IfSome, IsTrue, slice_index_or}
use Rattle.std.specs.Option.{is_some, option_and_then}
use Rattle.std.proofs.lemmas.List.{at_drop_more, at_drop_all}
use Rattle.cc_lists.specs.Members.{Among}
use Rattle.cc_lists.proofs.Members.{Among-left, Among-right}
use Rattle.cc_laws_heap.proofs.Face.{is_some-found}
use Rattle.cc_names.specs.declared.name.Name.{Name}
use Rattle.cc_names.specs.declared.number.SKey.{SKey}
use Rattle.cc_names.specs.declared.kind.Colour.{Colour}
use Rattle.cc_names.specs.Places.{script_places}
use Rattle.cc_model.specs.Slots.{contents}
use Rattle.cc_model.specs.Marking.{NewMarks, each_raised}
use Rattle.cc_script.specs.Objects.{AreWhole, Object, delegate_at, is_there, object_at, places_at, places_or_none, slots_at, slots_or_none}
use Rattle.cc_script.proofs.Keys.{object_at-among}
use Rattle.cc_heaps.specs.ToScan.{Lists}
use Rattle.cc_heaps.specs.Keyed.{name_held, the_name_at}
use Rattle.cc_heaps.specs.NewMarks.{IsGoingOn, IsRemarked, marks_held, names_held_at, raised_to}
use Rattle.cc_heaps.proofs.Remarked.{remarked-delegate, remarked-held, remarked-name, remarked-same, remarked-slots, remarked-then, remarked-there}

-- raised by one function and then by another
then-mapped : (f g h : NewMarks → NewMarks) → ((m : NewMarks) → g (f m) ≡ h m) → (o : Option NewMarks) → option_map g (option_map f o) ≡ option_map h o
then-mapped f g h same None = refl
then-mapped f g h same (Some m) = ap (λ n. Some n) (same m)

-- ROOTS: what was given so far is raised, and the rest is left

module _ (to : Colour) where
  -- the names of some keys are raised
  abbrev pub raised_names : List Object → List ℕ → Option NewMarks → Option NewMarks
  raised_names objects keys o = option_map (λ m. each_raised (raised_to to) m (map (the_name_at objects) keys)) o

  pub record IsRaising (first_keys : List ℕ) (first : List Object) (first_lists : Lists) (keys : List ℕ) (objects : List Object) (lists : Lists) : Type 0 where
    pub marks : raised_names first keys (marks_held objects lists) ≡ raised_names first first_keys (marks_held first first_lists)
    pub same : IsRemarked first objects
    pub going_on : IsGoingOn objects lists
    pub there : (key : ℕ) → Among key keys → IsTrue (is_there first key)

  module _ (first_keys : List ℕ) (first : List Object) (first_lists : Lists) where
    pub raising-begun : IsGoingOn first first_lists → ((key : ℕ) → Among key first_keys → IsTrue (is_there first key)) →
        IsRaising first_keys first first_lists first_keys first first_lists
    raising-begun going_on there = record { marks = refl; same = remarked-same first; going_on = going_on; there = there }

    module _ (keys : List ℕ) (objects : List Object) (lists : Lists) (before : IsRaising first_keys first first_lists keys objects lists) where
      -- the next one is there
      pub raising-there : (key : ℕ) (rest : List ℕ) → keys ≡ key ∷ rest → IsTrue (is_there objects key)
      raising-there key rest e = remarked-there first objects before.same key ∙ before.there key (subst (Among key) (sym e) (inl refl))

      pub raising-next : (key : ℕ) (rest : List ℕ) → keys ≡ key ∷ rest → (next : List Object) (left : Lists) →
          marks_held next left ≡ option_map (λ m. raised_to to m (the_name_at objects key)) (marks_held objects lists) → IsRemarked objects next → IsGoingOn next left →
          IsRaising first_keys first first_lists rest next left
      raising-next key rest e next left marks same going_on = record {
        marks = ap (raised_names first rest) marks
            ∙ (then-mapped (λ m. raised_to to m (the_name_at objects key)) (λ m. each_raised (raised_to to) m (map (the_name_at first) rest))
            (λ m. each_raised (raised_to to) m (map (the_name_at first) (key ∷ rest)))
            (λ m. ap (λ x. each_raised (raised_to to) (raised_to to m x) (map (the_name_at first) rest)) (remarked-name first objects before.same key))
            (marks_held objects lists)
            ∙ (ap (λ ks. raised_names first ks (marks_held objects lists)) (sym e) ∙ before.marks));
        same = remarked-then first objects next before.same same;
        going_on = going_on;
        there = λ k m. before.there k (subst (Among k) (sym e) (inr m));
      }

      pub raising-done : keys ≡ [] → marks_held objects lists ≡ raised_names first first_keys (marks_held first first_lists)
      raising-done e = sym (mapped-same (marks_held objects lists)) ∙ (ap (λ ks. raised_names first ks (marks_held objects lists)) (sym e) ∙ before.marks)
        where
          mapped-same : (o : Option NewMarks) → raised_names first [] o ≡ o
          mapped-same None = refl
          mapped-same (Some m) = refl

-- WHAT AN OBJECT HOLDS: its first slots are done, and the rest is left

-- what stands at a place of a list is in it
get-among : {X : Type 0} (xs : List (Option X)) (i : ℕ) (x : X) → get_or xs i None ≡ Some x → Among (Some x) xs
get-among [] i x e = absurd (cc)
get-among (y ∷ ys) zero x e = inl e
get-among (y ∷ ys) (suc i) x e = inr (get-among ys i x e)

-- the places of an object are its slots and its delegate
places-apart : (objects : List Object) (key : ℕ) → IsTrue (is_there objects key) → places_at objects key ≡ script_places (slots_at objects key) (delegate_at objects key)
places-apart objects key there = go (object_at objects key) there
  where
    go : (o : Option Object) → IsTrue (is_some o) → places_or_none o ≡ script_places (slots_or_none o) (option_and_then (λ (p : Object). p.delegate) o)
    go None t = absurd (cc)
    go (Some o) t = refl

-- what one place has is raised, and then what is left
raised-apart : (raise : NewMarks → Name → NewMarks) (x : Option Name) (xs : List (Option Name)) (m : NewMarks) →
    each_raised raise (each_raised raise m (contents (x ∷ []))) (contents xs) ≡ each_raised raise m (contents (x ∷ xs))
raised-apart raise None xs m = refl
raised-apart raise (Some x) xs m = refl

module _ (to : Colour) (first : List Object) (key : ℕ) where
  -- what these slots and the delegate hold is raised
  abbrev pub raised_held : List (Option ℕ) → Option NewMarks → Option NewMarks
  raised_held slots o = option_map (λ m. each_raised (raised_to to) m (contents (map (name_held first) (script_places slots (delegate_at first key))))) o

  pub record IsRaisingHeld (first_lists : Lists) (i : ℕ) (objects : List Object) (lists : Lists) : Type 0 where
    pub marks : raised_held (drop i (slots_at first key)) (marks_held objects lists) ≡ raised_held (slots_at first key) (marks_held first first_lists)
    pub same : IsRemarked first objects
    pub going_on : IsGoingOn objects lists

  pub held-begun : (first_lists : Lists) → IsGoingOn first first_lists → IsRaisingHeld first_lists 0 first first_lists
  held-begun first_lists going_on = record { marks = refl; same = remarked-same first; going_on = going_on }

  module _ (there : IsTrue (is_there first key)) (whole : AreWhole first) (first_lists : Lists) (i : ℕ) (objects : List Object) (lists : Lists)
      (before : IsRaisingHeld first_lists i objects lists) where
    pub held-live : IsTrue (is_there objects key)
    held-live = remarked-there first objects before.same key ∙ there

    pub held-within : (count : ℕ) → count ≡ length (slots_at first key) → i < count → i < length (slots_at objects key)
    held-within count e less = rw (remarked-slots first objects before.same key, ← e) less

    -- what is held is there
    place-there : (q : ℕ) → Among (Some q) (script_places (slots_at first key) (delegate_at first key)) → IsTrue (is_there objects q)
    place-there q m =
        let f = is_some-found (object_at first key) there in
        remarked-there first objects before.same q
        ∙ whole f.0 q (object_at-among first key f.0 f.1) (subst (λ o. Among (Some q) (places_or_none o)) f.1 (subst (Among (Some q)) (sym (places-apart first key there)) m))

    content-there : (content : Option SKey) (x : Option ℕ) → option_map (λ (k : SKey). k.0) content ≡ x →
        ((q : ℕ) → x ≡ Some q → IsTrue (is_there objects q)) → IfSome content (λ k. IsTrue (is_there objects k.0))
    content-there None x e h = tt
    content-there (Some k) x e h = h k.0 (sym e)

    pub slot-there : (content : Option SKey) → option_map (λ (k : SKey). k.0) content ≡ slice_index_or (slots_at objects key) i None → IfSome content (λ k. IsTrue (is_there objects k.0))
    slot-there content e = content-there content (get_or (slots_at first key) i None) (e ∙ ap (λ ss. get_or ss i None) (remarked-slots first objects before.same key))
        (λ q s. place-there q (Among-left (Some q) (slots_at first key) (delegate_at first key ∷ []) (get-among (slots_at first key) i q s)))

    pub delegate-there : (content : Option SKey) → option_map (λ (k : SKey). k.0) content ≡ delegate_at objects key → IfSome content (λ k. IsTrue (is_there objects k.0))
    delegate-there content e = content-there content (delegate_at first key) (e ∙ remarked-delegate first objects before.same key)
        (λ q s. place-there q (Among-right (Some q) (slots_at first key) (delegate_at first key ∷ []) (inl s)))

    module _ (content : Option SKey) (next : List Object) (left : Lists)
        (marks : marks_held next left ≡ option_map (λ m. each_raised (raised_to to) m (contents (name_held objects (option_map (λ (k : SKey). k.0) content) ∷ []))) (marks_held objects lists))
        (same : IsRemarked objects next) (going_on : IsGoingOn next left) where
      -- one slot after another
      pub held-next : i < length (slots_at first key) → option_map (λ (k : SKey). k.0) content ≡ slice_index_or (slots_at objects key) i None →
          IsRaisingHeld first_lists (i + 1) next left
      held-next less e =
          let x : option_map (λ (k : SKey). k.0) content ≡ get_or (slots_at first key) i None = e ∙ ap (λ ss. get_or ss i None) (remarked-slots first objects before.same key) in
          let rest : List (Option ℕ) = drop (i + 1) (slots_at first key) in
          let more : raised_held (drop i (slots_at first key)) (marks_held objects lists) ≡ raised_held (get_or (slots_at first key) i None ∷ rest) (marks_held objects lists) =
          at_drop_more (λ ss. raised_held ss (marks_held objects lists)) (slots_at first key) i None less in
          record {
            marks = ap (raised_held rest) marks
                ∙ (then-mapped (λ m. each_raised (raised_to to) m (contents (name_held objects (option_map (λ (k : SKey). k.0) content) ∷ [])))
                (λ m. each_raised (raised_to to) m (contents (map (name_held first) (script_places rest (delegate_at first key)))))
                (λ m. each_raised (raised_to to) m (contents (map (name_held first) (script_places (get_or (slots_at first key) i None ∷ rest) (delegate_at first key)))))
                (λ m. ap (λ y. each_raised (raised_to to) (each_raised (raised_to to) m (contents (y ∷ []))) (contents (map (name_held first) (script_places rest (delegate_at first key)))))
                (remarked-held first objects before.same (option_map (λ (k : SKey). k.0) content) ∙ ap (name_held first) x)
                ∙ raised-apart (raised_to to) (name_held first (get_or (slots_at first key) i None)) (map (name_held first) (script_places rest (delegate_at first key))) m)
                (marks_held objects lists)
                ∙ (sym more ∙ before.marks));
            same = remarked-then first objects next before.same same;
            going_on = going_on;
          }

      -- and then the delegate
      pub held-done : length (slots_at first key) ≤ i → option_map (λ (k : SKey). k.0) content ≡ delegate_at objects key →
          marks_held next left ≡ option_map (λ m. each_raised (raised_to to) m (names_held_at first key)) (marks_held first first_lists)
      held-done enough e =
          let none : raised_held (drop i (slots_at first key)) (marks_held objects lists) ≡ raised_held [] (marks_held objects lists) =
          at_drop_all (λ ss. raised_held ss (marks_held objects lists)) (slots_at first key) i enough in
          marks
          ∙ (ap (λ y. option_map (λ m. each_raised (raised_to to) m (contents (y ∷ []))) (marks_held objects lists))
          (remarked-held first objects before.same (option_map (λ (k : SKey). k.0) content) ∙ ap (name_held first) (e ∙ remarked-delegate first objects before.same key))
          ∙ (sym none ∙ (before.marks
          ∙ ap (λ ss. option_map (λ m. each_raised (raised_to to) m (contents (map (name_held first) ss))) (marks_held first first_lists)) (sym (places-apart first key there)))))
