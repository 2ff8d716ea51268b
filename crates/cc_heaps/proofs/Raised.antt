-- ONE OBJECT GETS A HIGHER NEW MARK: the new marks by names are those in which its name is raised, and what is to be scanned stays well
-- listed.
use Rattle.std.proofs.Common.{◌≡◌, ◌≢◌, ℕ, ◌+◌, ◌<◌, ◌≤◌, Bool, true, false, cond, not, ◌&&◌, List, [], ◌∷◌, ◌++◌, map, length, Option, Some, None, option_map, refl, sym, ◌∙◌, ap, subst, inl, inr, ◌==◌, if◌then◌else◌, arith, count_by, length-append}
use Rattle.std.specs.Prelude.{IsTrue}
use Rattle.std.specs.Option.{is_some}
use Rattle.std.specs.List.{filter}
use Rattle.std.proofs.Math.Path.{fun_ext}
use Rattle.std.proofs.lemmas.Bool.{true≢false, eqb-true, eq-eqb}
use Rattle.std.proofs.lemmas.List.{map-append, length-map}
use Rattle.std.proofs.lemmas.List.Elements.{filter-append}
use Rattle.cc_lists.specs.Counts.{keyed}
use Rattle.cc_lists.specs.Members.{Among, has, without}
use Rattle.cc_lists.proofs.Members.{Among-filter, Among-filtered, Among-passes, Among-map, Among-map_cases, has-among, has-there}
use Rattle.cc_lists.proofs.Filtering.{filter-agree, find-among, find-passes}
use Rattle.cc_lists.proofs.Held.{is_some-found}
use Rattle.cc_lists.proofs.Searching.{filter-map}
use Rattle.cc_lists.proofs.Counting.{count_by-all, count_by-append, count_by-below, count_by-cons, count_by-some}
use Rattle.cc_lists.proofs.CountsOf.{count_by-none, false-left}
use Rattle.cc_lists.proofs.ListWrites.{each-push, map-kept}
use Rattle.cc_lists.proofs.Numbers.{number-exact}
use Rattle.cc_names.specs.declared.name.Name.{Name}
use Rattle.cc_names.specs.declared.kind.Colour.{Colour}
use Rattle.cc_names.specs.declared.kind.Colour.TheVariants.{White, Gray, Black}
use Rattle.cc_names.specs.Names.{object, same_name}
use Rattle.cc_names.proofs.NameTests.{same_name-exact, same_name-refl, same_name-true}
use Rattle.cc_model.specs.Marking.{NewMarks, raised_black, raised_gray}
use Rattle.cc_script.specs.Objects.{Object, change_object, is_below, is_there, name_at, new_mark_at, object_at, with_new_mark}
use Rattle.cc_script.specs.NewMarks.{is_unblack}
use Rattle.cc_heaps.specs.ToScan.{ToScan, Lists, HasRoom, HasRoomFor, HasRoomOn, HasSameRoom, listed_last}
use Rattle.cc_heaps.specs.Keyed.{the_name_at}
use Rattle.cc_heaps.specs.NewMarks.{AreListedIn, IsGoingOn, IsRemarked, marks_held, names_below, new_marks_in, raised_to}
use Rattle.cc_heaps.proofs.Reaching.{HasOneKey, HasOneName, key-named, name_at-found, name_at-own, object_at-own, same-key, same-tests, the_name-there}
use Rattle.cc_heaps.proofs.Remarked.{KeepsObjects-remarked, mark_at_key, new_mark-given, one_key-remarked, one_name-remarked, remarked, remarked-at, remarked-length, room-same}
use Rattle.cc_heaps.proofs.ScriptWrites.{name_at-written}

and-true : (b : Bool) → (b && true) ≡ b
and-true true = refl
and-true false = refl

and-false : (b : Bool) → (b && false) ≡ false
and-false true = refl
and-false false = refl

-- what has a new mark is there
pub there-marked : (objects : List Object) (key : ℕ) (mark : Colour) → new_mark_at objects key ≡ Some mark → IsTrue (is_there objects key)
there-marked objects key mark e = go (object_at objects key) e
  where
    go : (o : Option Object) → option_map (λ (p : Object). p.new_mark) o ≡ Some mark → is_some o ≡ true
    go None e = absurd (cc)
    go (Some o) e = refl

-- below gray is white alone
below-gray : (c : Colour) → is_below c Gray ≡ true → c ≡ White
below-gray White e = refl
below-gray Gray e = absurd (true≢false (sym e))
below-gray Black e = absurd (true≢false (sym e))

-- names of those that pass a test, where one name fewer passes
pub filter-without : {X : Type 0} (p q : X → Bool) (n : X → Name) (y : Name) (xs : List X) →
    ((x : X) → Among x xs → q x ≡ (p x && not (same_name (n x) y))) → map n (filter q xs) ≡ without same_name y (map n (filter p xs))
filter-without p q n y [] h = refl
filter-without {X} p q n y (x ∷ xs) h = go (filter-without p q n y xs (λ z m. h z (inr m))) (p x) (same_name (n x) y) (q x) refl (h x (inl refl))
  where
    go : map n (filter q xs) ≡ without same_name y (map n (filter p xs)) → (b s t : Bool) → same_name (n x) y ≡ s → t ≡ (b && not s) →
        map n (cond t (x ∷ filter q xs) (filter q xs)) ≡ without same_name y (map n (cond b (x ∷ filter p xs) (filter p xs)))
    go ih true true t f g = rw (g, f) ih
    go ih true false t f g = rw (g, f) (ap (λ ys. n x ∷ ys) ih)
    go ih false s t f g = rw g ih

-- a list stays one in which nothing stands twice where what comes last was not there
once-last : (ks : List ℕ) (key : ℕ) → ((k : ℕ) → count_by (λ j. j == k) ks ≤ 1) → ¬ (Among key ks) → (k : ℕ) → count_by (λ j. j == k) (ks ++ key ∷ []) ≤ 1
once-last ks key once new k = go (key == k) refl
  where
    sums : count_by (λ j. j == k) (ks ++ key ∷ []) ≡ count_by (λ j. j == k) ks + (cond (key == k) 1 0 + 0)
    sums = count_by-append (λ j. j == k) ks (key ∷ []) ∙ ap (λ n. count_by (λ j. j == k) ks + n) (count_by-cons (λ j. j == k) key [])

    go : (b : Bool) → (key == k) ≡ b → count_by (λ j. j == k) (ks ++ key ∷ []) ≤ 1
    go true e =
        let is : key ≡ k = eqb-true key k e in
        let none : count_by (λ j. j == k) ks ≡ 0 = count_by-none (λ j. j == k) ks
        (λ j m. false-left (j == k) (λ t. new (subst (λ i. Among i ks) (eqb-true j k t ∙ sym is) m))) in
        let here = sums ∙ ap (λ b. count_by (λ j. j == k) ks + (cond b 1 0 + 0)) e in
        omega (arith, none, here)
    go false e =
        let here = sums ∙ ap (λ b. count_by (λ j. j == k) ks + (cond b 1 0 + 0)) e in
        omega (arith, once k, here)

-- THERE ARE NO MORE KEYS than script objects, where each is there and stands once
pub length-listed : (objects : List Object) (ks : List ℕ) → ((k : ℕ) → Among k ks → IsTrue (is_there objects k)) → ((k : ℕ) → count_by (λ j. j == k) ks ≤ 1) →
    length ks ≤ length objects
length-listed objects ks there once =
    subst (λ n. n ≤ length objects) (count_by-all ks)
    (subst (λ n. count_by (λ (k : ℕ). true) ks ≤ n) (count_by-all objects)
    (count_by-below ◌==◌ number-exact (λ (k : ℕ). true) (λ k. k) (λ (o : Object). true) (λ o. o.key) ks objects (λ k. at k (is_there objects k) refl)))
  where
    at : (k : ℕ) (b : Bool) → is_there objects k ≡ b → count_by (keyed ◌==◌ (λ (k : ℕ). true) (λ k. k) k) ks ≤ count_by (keyed ◌==◌ (λ (o : Object). true) (λ o. o.key) k) objects
    at k true e =
        let f = is_some-found (object_at objects k) e in
        let some : 0 < count_by (λ (o : Object). o.key == k) objects =
        count_by-some (λ (o : Object). o.key == k) f.0 objects (find-among (λ (o : Object). o.key == k) objects f.0 f.1) (find-passes (λ (o : Object). o.key == k) objects f.0 f.1) in
        omega (arith, once k, some)
    at k false e = omega (arith, count_by-none (λ j. j == k) ks (λ j m. false-left (j == k) (λ t. true≢false (sym (there k (subst (λ i. Among i ks) (eqb-true j k t) m)) ∙ e))))

module _ (objects : List Object) (one_key : HasOneKey objects) (one_name : HasOneName objects) (key : ℕ) (mark : Colour) (to : Colour)
    (marked : new_mark_at objects key ≡ Some mark) where
  here : IsTrue (is_there objects key)
  here = there-marked objects key mark marked

  abbrev pub raised_objects : List Object
  raised_objects = change_object objects key (with_new_mark to)

  abbrev the_name : Name
  the_name = the_name_at objects key

  named : name_at objects key ≡ Some the_name
  named = the_name-there objects key here

  -- an object stands at the key where it has the name
  same : (o : Object) → Among o objects → (o.key == key) ≡ same_name o.name the_name
  same o m = same-tests (o.key == key) (same_name o.name the_name)
      (λ e.
      let both : Some o.name ≡ Some the_name = sym (name_at-own objects one_key o m) ∙ (ap (name_at objects) (eqb-true o.key key e) ∙ named) in
      let is : o.name ≡ the_name = cc in
      subst (λ z. same_name z the_name ≡ true) (sym is) (same_name-refl the_name))
      (λ e. eq-eqb o.key key (key-named objects one_name key the_name named o m (same_name-true o.name the_name e)))

  -- and then it has the mark
  its-mark : (o : Object) → Among o objects → (o.key == key) ≡ true → o.new_mark ≡ mark
  its-mark o m e =
      let found : object_at objects key ≡ Some o = ap (object_at objects) (sym (eqb-true o.key key e)) ∙ object_at-own objects one_key o m in
      let both : Some o.new_mark ≡ Some mark = sym (ap (option_map (λ (p : Object). p.new_mark)) found) ∙ marked in
      cc

  -- names stay
  pub name-raised : (k : ℕ) → the_name_at raised_objects k ≡ the_name_at objects k
  name-raised k = ap (λ (x : Option Name). elim x [ None ↦ object 0 | Some y ↦ y ])
      (ap (λ os. name_at os k) (remarked-at objects key to) ∙ name_at-written (remarked (mark_at_key key to)) (KeepsObjects-remarked (mark_at_key key to)) objects k)

  -- the names of those below a colour are those of objects that will be
  below-raised : (low : Colour) → names_below low raised_objects ≡ map (λ o. o.name) (filter (λ o. is_below (mark_at_key key to o) low) objects)
  below-raised low = ap (names_below low) (remarked-at objects key to)
      ∙ (ap (map (λ (o : Object). o.name)) (filter-map (λ (o : Object). is_below o.new_mark low) (remarked (mark_at_key key to)) objects)
      ∙ map-kept (λ (o : Object). o.name) (remarked (mark_at_key key to)) (filter (λ o. is_below (mark_at_key key to o) low) objects) (λ o. refl))

  -- one name fewer where it was below, and is not now
  below-fewer : (low : Colour) → is_below to low ≡ false → names_below low raised_objects ≡ without same_name the_name (names_below low objects)
  below-fewer low e = below-raised low
      ∙ filter-without (λ (o : Object). is_below o.new_mark low) (λ o. is_below (mark_at_key key to o) low) (λ o. o.name) the_name objects
      (λ o m. go o (o.key == key) (same_name o.name the_name) refl (same o m))
    where
      go : (o : Object) (b s : Bool) → (o.key == key) ≡ b → b ≡ s → is_below (if b then to else o.new_mark) low ≡ (is_below o.new_mark low && not s)
      go o true true f g = e ∙ sym (and-false (is_below o.new_mark low))
      go o false false f g = sym (and-true (is_below o.new_mark low))
      go o true false f g = absurd (true≢false g)
      go o false true f g = absurd (true≢false (sym g))

  -- the same names where it was below, and still is
  below-same : (low : Colour) → is_below to low ≡ true → is_below mark low ≡ true → names_below low raised_objects ≡ names_below low objects
  below-same low e f = below-raised low
      ∙ ap (map (λ (o : Object). o.name)) (filter-agree (λ o. is_below (mark_at_key key to o) low) (λ (o : Object). is_below o.new_mark low) objects (λ o m. go o m (o.key == key) refl))
    where
      go : (o : Object) → Among o objects → (b : Bool) → (o.key == key) ≡ b → is_below (if b then to else o.new_mark) low ≡ is_below o.new_mark low
      go o m true g = e ∙ sym (ap (λ c. is_below c low) (its-mark o m g) ∙ f)
      go o m false g = refl

  -- whether it is below, by its name
  pub has-below : (low : Colour) → has same_name (names_below low objects) the_name ≡ is_below mark low
  has-below low = same-tests (has same_name (names_below low objects) the_name) (is_below mark low)
      (λ e.
      let f = Among-map_cases (λ (o : Object). o.name) (filter (λ (o : Object). is_below o.new_mark low) objects) the_name (has-among same_name same_name-exact (names_below low objects) the_name e) in
      let m = Among-filtered (λ (o : Object). is_below o.new_mark low) f.0 objects f.1 in
      let at : (f.0.key == key) ≡ true = same f.0 m ∙ subst (λ z. same_name z the_name ≡ true) (sym f.2) (same_name-refl the_name) in
      subst (λ c. is_below c low ≡ true) (its-mark f.0 m at) (Among-passes (λ (o : Object). is_below o.new_mark low) f.0 objects f.1))
      (λ e.
      let f = name_at-found objects key the_name named in
      let at : (f.0.key == key) ≡ true = eq-eqb f.0.key key f.2 in
      let passes : is_below f.0.new_mark low ≡ true = subst (λ c. is_below c low ≡ true) (sym (its-mark f.0 f.1 at)) e in
      has-there same_name same_name-exact (names_below low objects) the_name
      (subst (λ z. Among z (names_below low objects)) f.3
      (Among-map (λ (o : Object). o.name) f.0 (filter (λ (o : Object). is_below o.new_mark low) objects) (Among-filter (λ (o : Object). is_below o.new_mark low) f.0 objects f.1 passes))))

  -- whether the object at a key is not black
  unblack-raised : (k : ℕ) → is_unblack raised_objects k ≡ (if k == key then is_below to Black else is_unblack objects k)
  unblack-raised k = ap test (new_mark-given objects key to here k) ∙ go (k == key)
    where
      test : Option Colour → Bool
      test o = elim o [ None ↦ false | Some c ↦ is_below c Black ]

      go : (b : Bool) → test (if b then Some to else new_mark_at objects k) ≡ (if b then is_below to Black else test (new_mark_at objects k))
      go true = refl
      go false = refl

  names-raised : (ks : List ℕ) → map (the_name_at raised_objects) ks ≡ map (the_name_at objects) ks
  names-raised ks = ap (λ f. map f ks) (fun_ext name-raised)

  -- a key with another name is another
  other-name : (k : ℕ) → IsTrue (is_there objects k) → (k == key) ≡ same_name (the_name_at objects k) the_name
  other-name k t = same-tests (k == key) (same_name (the_name_at objects k) the_name)
      (λ e. subst (λ z. same_name z the_name ≡ true) (ap (the_name_at objects) (sym (eqb-true k key e))) (same_name-refl the_name))
      (λ e. eq-eqb k key (same-key objects one_key one_name k key the_name
      (the_name-there objects k t ∙ ap (λ z. Some z) (same_name-true (the_name_at objects k) the_name e)) named))

  -- RAISED, the object is raised by its name: it was below the mark that it gets
  pub marks-raised : (t : ToScan) → to ≢ White → is_below mark to ≡ true → ((k : ℕ) → Among k t.gray → IsTrue (is_there objects k)) →
      new_marks_in raised_objects (listed_last to key t) ≡ raised_to to (new_marks_in objects t) the_name
  marks-raised t not_white lower there = by_mark to refl
    where
      old : NewMarks
      old = new_marks_in objects t

      chosen_black : Bool → NewMarks
      chosen_black b = elim b [
        | true ↦ record {
          unmarked = without same_name the_name old.unmarked;
          unblack = without same_name the_name old.unblack;
          black_list = old.black_list ++ the_name ∷ [];
          gray_list = without same_name the_name old.gray_list;
        }
        | false ↦ old
      ]

      chosen_gray : Bool → NewMarks
      chosen_gray b = elim b [
        | true ↦ record old { unmarked = without same_name the_name old.unmarked; gray_list = old.gray_list ++ the_name ∷ [] }
        | false ↦ old
      ]

      last : (ks : List ℕ) → map (the_name_at raised_objects) (ks ++ key ∷ []) ≡ map (the_name_at objects) ks ++ the_name ∷ []
      last ks = names-raised (ks ++ key ∷ []) ∙ map-append (the_name_at objects) ks (key ∷ [])

      black : to ≡ Black → new_marks_in raised_objects (listed_last Black key t) ≡ raised_black old the_name
      black is =
          let yes : has same_name old.unblack the_name ≡ true = has-below Black ∙ subst (λ c. is_below mark c ≡ true) is lower in
          (λ i. record {
            unmarked = below-fewer Gray (ap (λ c. is_below c Gray) is) i;
            unblack = below-fewer Black (ap (λ c. is_below c Black) is) i;
            black_list = last t.black i;
            gray_list = passed i;
          }) ∙ sym (ap chosen_black yes)
        where
          at : (k : ℕ) → Among k t.gray → (b s : Bool) → (k == key) ≡ b → b ≡ s →
              (if b then is_below to Black else is_unblack objects k) ≡ (is_unblack objects k && not s)
          at k m true true f g = ap (λ c. is_below c Black) is ∙ sym (and-false (is_unblack objects k))
          at k m false false f g = sym (and-true (is_unblack objects k))
          at k m true false f g = absurd (true≢false g)
          at k m false true f g = absurd (true≢false (sym g))

          passed : map (the_name_at raised_objects) (filter (is_unblack raised_objects) t.gray) ≡ without same_name the_name old.gray_list
          passed = names-raised (filter (is_unblack raised_objects) t.gray)
              ∙ filter-without (is_unblack objects) (is_unblack raised_objects) (the_name_at objects) the_name t.gray
              (λ k m. unblack-raised k ∙ at k m (k == key) (same_name (the_name_at objects k) the_name) refl (other-name k (there k m)))

      gray : to ≡ Gray → new_marks_in raised_objects (listed_last Gray key t) ≡ raised_gray old the_name
      gray is =
          let white : mark ≡ White = below-gray mark (subst (λ c. is_below mark c ≡ true) is lower) in
          let yes : has same_name old.unmarked the_name ≡ true = has-below Gray ∙ ap (λ c. is_below c Gray) white in
          (λ i. record {
            unmarked = below-fewer Gray (ap (λ c. is_below c Gray) is) i;
            unblack = below-same Black (ap (λ c. is_below c Black) is) (ap (λ c. is_below c Black) white) i;
            black_list = names-raised t.black i;
            gray_list = stayed white i;
          }) ∙ sym (ap chosen_gray yes)
        where
          at : mark ≡ White → (k : ℕ) (b : Bool) → (k == key) ≡ b → (if b then is_below to Black else is_unblack objects k) ≡ is_unblack objects k
          at white k true e = ap (λ c. is_below c Black) is
              ∙ sym (ap (is_unblack objects) (eqb-true k key e) ∙ (ap (λ (o : Option Colour). elim o [ None ↦ false | Some c ↦ is_below c Black ]) marked ∙ ap (λ c. is_below c Black) white))
          at white k false e = refl

          stayed : mark ≡ White → map (the_name_at raised_objects) (filter (is_unblack raised_objects) (t.gray ++ key ∷ [])) ≡ old.gray_list ++ the_name ∷ []
          stayed white = names-raised (filter (is_unblack raised_objects) (t.gray ++ key ∷ []))
              ∙ (ap (λ p. map (the_name_at objects) (filter p (t.gray ++ key ∷ []))) (fun_ext (λ k. unblack-raised k ∙ at white k (k == key) refl))
              ∙ (ap (map (the_name_at objects)) (filter-append (is_unblack objects) t.gray (key ∷ []))
              ∙ (ap (λ ks. map (the_name_at objects) (filter (is_unblack objects) t.gray ++ ks)) (one white)
              ∙ map-append (the_name_at objects) (filter (is_unblack objects) t.gray) (key ∷ []))))
            where
              one : mark ≡ White → filter (is_unblack objects) (key ∷ []) ≡ key ∷ []
              one white = ap (λ b. cond b (key ∷ []) []) (ap (λ (o : Option Colour). elim o [ None ↦ false | Some c ↦ is_below c Black ]) marked ∙ ap (λ c. is_below c Black) white)

      by_mark : (c : Colour) → to ≡ c → new_marks_in raised_objects (listed_last c key t) ≡ raised_to c old the_name
      by_mark White is = absurd (not_white is)
      by_mark Gray is = gray is
      by_mark Black is = black is

  -- WHERE IT HAS THE MARK at least, nothing changes by its name
  pub marks-kept : (t : ToScan) → to ≢ White → is_below mark to ≡ false → new_marks_in objects t ≡ raised_to to (new_marks_in objects t) the_name
  marks-kept t not_white not_lower = by_mark to refl
    where
      old : NewMarks
      old = new_marks_in objects t

      by_mark : (c : Colour) → to ≡ c → old ≡ raised_to c old the_name
      by_mark White is = refl
      by_mark Gray is =
          let none : has same_name old.unmarked the_name ≡ false = has-below Gray ∙ subst (λ c. is_below mark c ≡ false) is not_lower in
          sym (ap (λ b. elim b [
            | true ↦ record old { unmarked = without same_name the_name old.unmarked; gray_list = old.gray_list ++ the_name ∷ [] }
            | false ↦ old
          ]) none)
      by_mark Black is =
          let none : has same_name old.unblack the_name ≡ false = has-below Black ∙ subst (λ c. is_below mark c ≡ false) is not_lower in
          sym (ap (λ b. elim b [
            | true ↦ record {
              unmarked = without same_name the_name old.unmarked;
              unblack = without same_name the_name old.unblack;
              black_list = old.black_list ++ the_name ∷ [];
              gray_list = without same_name the_name old.gray_list;
            }
            | false ↦ old
          ]) none)

  -- WHAT IS TO BE SCANNED STAYS WELL LISTED once the object is raised, and is last on the list of its mark
  module _ (t : ToScan) (not_white : to ≢ White) (lower : is_below mark to ≡ true) (listed : AreListedIn objects t) where
    not_on_black : ¬ (Among key t.black)
    not_on_black m =
        let both : Some mark ≡ Some Black = sym marked ∙ listed.black key m in
        let is : mark ≡ Black = cc in
        true≢false (sym lower ∙ ap (λ c. is_below c to) is)

    not_on_gray : to ≡ Gray → ¬ (Among key t.gray)
    not_on_gray is m =
        let f = listed.gray key m in
        let both : Some f.0 ≡ Some mark = sym f.1 ∙ marked in
        let same_mark : f.0 ≡ mark = cc in
        f.2 (same_mark ∙ below-gray mark (subst (λ c. is_below mark c ≡ true) is lower))

    still-black : (k : ℕ) → Among k t.black → new_mark_at raised_objects k ≡ Some Black
    still-black k m = new_mark-given objects key to here k ∙ go (k == key) refl
      where
        go : (b : Bool) → (k == key) ≡ b → (if b then Some to else new_mark_at objects k) ≡ Some Black
        go true e = absurd (not_on_black (subst (λ j. Among j t.black) (eqb-true k key e) m))
        go false e = listed.black k m

    still-marked : (k : ℕ) → Among k t.gray → (c : Colour) × (new_mark_at raised_objects k ≡ Some c) × (c ≢ White)
    still-marked k m = go (k == key) refl
      where
        go : (b : Bool) → (k == key) ≡ b → (c : Colour) × (new_mark_at raised_objects k ≡ Some c) × (c ≢ White)
        go true e = (to, new_mark-given objects key to here k ∙ ap (λ b. if b then Some to else new_mark_at objects k) e, not_white)
        go false e =
            let f = listed.gray k m in
            (f.0, new_mark-given objects key to here k ∙ (ap (λ b. if b then Some to else new_mark_at objects k) e ∙ f.1), f.2)

    its-new : new_mark_at raised_objects key ≡ Some to
    its-new = new_mark-given objects key to here key ∙ ap (λ b. if b then Some to else new_mark_at objects key) (eq-eqb key key refl)

    pub listed-raised : AreListedIn raised_objects (listed_last to key t)
    listed-raised = by_mark to refl
      where
        by_mark : (c : Colour) → to ≡ c → AreListedIn raised_objects (listed_last c key t)
        by_mark White is = absurd (not_white is)
        by_mark Gray is = record {
          black = still-black;
          gray = each-push (λ k. (c : Colour) × (new_mark_at raised_objects k ≡ Some c) × (c ≢ White)) t.gray key still-marked (to, its-new, not_white);
          black_once = listed.black_once;
          gray_once = once-last t.gray key listed.gray_once (not_on_gray is);
        }
        by_mark Black is = record {
          black = each-push (λ k. new_mark_at raised_objects k ≡ Some Black) t.black key still-black (its-new ∙ ap (λ c. Some c) is);
          gray = still-marked;
          black_once = once-last t.black key listed.black_once not_on_black;
          gray_once = listed.gray_once;
        }

    length-raised : length raised_objects ≡ length objects
    length-raised = length-map objects (λ o. if o.key == key then with_new_mark to o else o)

    -- and there was room for it
    pub room-raised : (l : Lists) → HasRoom l (length objects) → HasRoomOn to l t
    room-raised l room = by_mark to refl
      where
        fits : (ks : List ℕ) (count : ℕ) → length (ks ++ key ∷ []) ≤ length raised_objects → length objects ≤ count → length ks < count
        fits ks count few enough = omega (arith, few, enough, length-raised, length-append ks (key ∷ []))

        by_mark : (c : Colour) → to ≡ c → HasRoomOn c l t
        by_mark White is = tt
        by_mark Gray is =
            let after : AreListedIn raised_objects (listed_last Gray key t) = subst (λ c. AreListedIn raised_objects (listed_last c key t)) is listed-raised in
            fits t.gray l.gray_room (length-listed raised_objects (t.gray ++ key ∷ []) (λ k m. there-marked raised_objects k (after.gray k m).0 (after.gray k m).1) after.gray_once) room.1
        by_mark Black is =
            let after : AreListedIn raised_objects (listed_last Black key t) = subst (λ c. AreListedIn raised_objects (listed_last c key t)) is listed-raised in
            fits t.black l.black_room (length-listed raised_objects (t.black ++ key ∷ []) (λ k m. there-marked raised_objects k Black (after.black k m)) after.black_once) room.0

-- A MARKING GOES ON once an object is raised, and its name is
module _ (objects : List Object) (lists : Lists) (key : ℕ) (mark to : Colour) (going_on : IsGoingOn objects lists) (marked : new_mark_at objects key ≡ Some mark)
    (not_white : to ≢ White) where
  abbrev t : ToScan
  t = going_on.listed.0

  gray-there : (k : ℕ) → Among k t.gray → IsTrue (is_there objects k)
  gray-there k m = let f = going_on.listed.2.gray k m in there-marked objects k f.0 f.1

  module _ (lower : is_below mark to ≡ true) where
    pub room-for : HasRoomFor to lists
    room-for = (t, going_on.listed.1, room-raised objects going_on.one_key going_on.one_name key mark to marked t not_white lower going_on.listed.2 lists going_on.room)

    module _ (next : List Object) (left : Lists) (given : next ≡ change_object objects key (with_new_mark to))
        (listed : left.marking ≡ option_map (listed_last to key) lists.marking) (room : HasSameRoom lists left) where
      is-listed : left.marking ≡ Some (listed_last to key t)
      is-listed = listed ∙ ap (option_map (listed_last to key)) going_on.listed.1

      pub raised-marks : marks_held next left ≡ option_map (λ m. raised_to to m (the_name_at objects key)) (marks_held objects lists)
      raised-marks =
          (λ i. option_map (new_marks_in (given i)) (is-listed i))
          ∙ (ap (λ m. Some m) (marks-raised objects going_on.one_key going_on.one_name key mark to marked t not_white lower gray-there)
          ∙ sym (ap (λ o. option_map (λ m. raised_to to m (the_name_at objects key)) (option_map (new_marks_in objects) o)) going_on.listed.1))

      pub raised-same : IsRemarked objects next
      raised-same = (mark_at_key key to, given ∙ remarked-at objects key to)

      pub raised-going_on : IsGoingOn next left
      raised-going_on = record {
        one_key = one_key-remarked objects next raised-same going_on.one_key;
        one_name = one_name-remarked objects next raised-same going_on.one_name;
        room = room-same lists left (length objects) (length next) room (remarked-length objects next raised-same) going_on.room;
        listed = (
          listed_last to key t,
          is-listed,
          subst (λ os. AreListedIn os (listed_last to key t)) (sym given) (listed-raised objects going_on.one_key going_on.one_name key mark to marked t not_white lower going_on.listed.2),
        );
      }

  pub kept-marks : is_below mark to ≡ false → marks_held objects lists ≡ option_map (λ m. raised_to to m (the_name_at objects key)) (marks_held objects lists)
  kept-marks not_lower =
      ap (λ o. option_map (new_marks_in objects) o) going_on.listed.1
      ∙ (ap (λ m. Some m) (marks-kept objects going_on.one_key going_on.one_name key mark to marked t not_white not_lower)
      ∙ sym (ap (λ o. option_map (λ m. raised_to to m (the_name_at objects key)) (option_map (new_marks_in objects) o)) going_on.listed.1))
