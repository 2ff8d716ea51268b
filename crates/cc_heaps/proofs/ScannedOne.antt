-- ONE OBJECT IS TAKEN from the front of a list, and what it holds is raised: that is a scan by names.
use Rattle.std.proofs.Common.{◌≡◌, ◌≢◌, ℕ, ◌<◌, ◌≤◌, true, false, cond, List, [], ◌∷◌, map, length, Option, Some, None, option_map, refl, sym, ◌∙◌, ap, subst, inl, inr, arith, count_by, ◌==◌}
use Rattle.std.specs.Prelude.{IfSome, IsTrue}
use Rattle.std.specs.List.{filter, find}
use Rattle.cc_lists.proofs.Counting.{count_by-cons}
use Rattle.cc_lists.proofs.Searching.{find-map, find-only}
use Rattle.cc_names.specs.declared.name.Name.{Name}
use Rattle.cc_names.specs.declared.kind.Colour.{Colour}
use Rattle.cc_names.specs.declared.kind.Colour.TheVariants.{White, Gray, Black}
use Rattle.cc_names.specs.Names.{same_name}
use Rattle.cc_names.proofs.NameTests.{same_name-refl}
use Rattle.cc_model.specs.Slots.{contents}
use Rattle.cc_model.specs.Checks.{slots_or_none}
use Rattle.cc_model.specs.Heap.{Heap, HeapScript, script_at}
use Rattle.cc_model.specs.Places.{script_places_of}
use Rattle.cc_model.specs.Marking.{NewMarks, each_raised, held_by_script, raised_black, raised_gray, scanned}
use Rattle.cc_script.specs.Objects.{Object, is_below, is_there, new_mark_at, object_at, places_or_none}
use Rattle.cc_script.specs.NewMarks.{is_unblack}
use Rattle.cc_heaps.specs.ToScan.{ToScan, Lists, HasSameRoom, with_black, with_gray}
use Rattle.cc_heaps.specs.Keyed.{name_held, named_object, named_objects, the_name_at}
use Rattle.cc_heaps.specs.NewMarks.{AreListedIn, IsGoingOn, black_before, gray_before, marks_held, names_held_at, new_marks_in}
use Rattle.cc_heaps.proofs.Reaching.{HasOneKey, HasOneName, name_at-found, named-places, object_at-own, the_name-there}
use Rattle.cc_heaps.proofs.Raised.{there-marked}
use Rattle.cc_heaps.proofs.Remarked.{room-same}

-- THE FIRST IS TAKEN

-- what is left of a list in which nothing stands twice
once-left : (key : ℕ) (ks : List ℕ) → ((k : ℕ) → count_by (λ j. j == k) (key ∷ ks) ≤ 1) → (k : ℕ) → count_by (λ j. j == k) ks ≤ 1
once-left key ks once k = omega (arith, once k, count_by-cons (λ j. j == k) key ks)

module _ (objects : List Object) (l r : Lists) (going_on : IsGoingOn objects l) (room : HasSameRoom l r) where
  -- none was there: nothing is changed
  pub going_on-same : r.marking ≡ l.marking → IsGoingOn objects r
  going_on-same e = record {
    one_key = going_on.one_key;
    one_name = going_on.one_name;
    room = room-same l r (length objects) (length objects) room refl going_on.room;
    listed = (going_on.listed.0, e ∙ going_on.listed.1, going_on.listed.2);
  }

  going_on-with : (t : ToScan) → r.marking ≡ Some t → AreListedIn objects t → IsGoingOn objects r
  going_on-with t e listed = record {
    one_key = going_on.one_key;
    one_name = going_on.one_name;
    room = room-same l r (length objects) (length objects) room refl going_on.room;
    listed = (t, e, listed);
  }

  -- the lists as they were
  as-before : (f : ToScan → ToScan) → l.marking ≡ option_map f r.marking → (t : ToScan) × (r.marking ≡ Some t) × AreListedIn objects (f t)
  as-before f e = go r.marking refl
    where
      go : (o : Option ToScan) → r.marking ≡ o → (t : ToScan) × (o ≡ Some t) × AreListedIn objects (f t)
      go None is =
          let both : Some going_on.listed.0 ≡ None = sym going_on.listed.1 ∙ (e ∙ ap (option_map f) is) in
          absurd (cc)
      go (Some t) is =
          let both : Some going_on.listed.0 ≡ Some (f t) = sym going_on.listed.1 ∙ (e ∙ ap (option_map f) is) in
          let same : going_on.listed.0 ≡ f t = cc in
          (t, refl, subst (AreListedIn objects) same going_on.listed.2)

  pub going_on-black : (key : ℕ) → l.marking ≡ option_map (with_black key) r.marking → IsGoingOn objects r
  going_on-black key e =
      let f = as-before (with_black key) e in
      going_on-with f.0 f.1 (record {
        black = λ k m. f.2.black k (inr m);
        gray = f.2.gray;
        black_once = once-left key f.0.black f.2.black_once;
        gray_once = f.2.gray_once;
      })

  pub going_on-gray : (key : ℕ) → l.marking ≡ option_map (with_gray key) r.marking → IsGoingOn objects r
  going_on-gray key e =
      let f = as-before (with_gray key) e in
      going_on-with f.0 f.1 (record {
        black = f.2.black;
        gray = λ k m. f.2.gray k (inr m);
        black_once = f.2.black_once;
        gray_once = once-left key f.0.gray f.2.gray_once;
      })

  -- it is there
  pub gray-live : (key : ℕ) → l.marking ≡ option_map (with_gray key) r.marking → IsTrue (is_there objects key)
  gray-live key e = let f = as-before (with_gray key) e in let m = f.2.gray key (inl refl) in there-marked objects key m.0 m.1

-- The gray list by names

-- one that is black by now is passed
gray-passed : (objects : List Object) (key : ℕ) (t : ToScan) → is_unblack objects key ≡ false → new_marks_in objects (with_gray key t) ≡ new_marks_in objects t
gray-passed objects key t e =
    ap (λ ks. record (new_marks_in objects t) { gray_list = map (the_name_at objects) ks })
    (ap (λ b. cond b (key ∷ filter (is_unblack objects) t.gray) (filter (is_unblack objects) t.gray)) e)

-- and one that is not is the first
gray-first : (objects : List Object) (key : ℕ) (t : ToScan) → is_unblack objects key ≡ true →
    new_marks_in objects (with_gray key t) ≡ gray_before (the_name_at objects key) (new_marks_in objects t)
gray-first objects key t e =
    ap (λ ks. record (new_marks_in objects t) { gray_list = map (the_name_at objects) ks })
    (ap (λ b. cond b (key ∷ filter (is_unblack objects) t.gray) (filter (is_unblack objects) t.gray)) e)

-- whether it is black, by its mark
below-marked : (objects : List Object) (key : ℕ) (mark : Colour) → new_mark_at objects key ≡ Some mark → is_unblack objects key ≡ is_below mark Black
below-marked objects key mark e = ap (λ (o : Option Colour). elim o [ None ↦ false | Some c ↦ is_below c Black ]) e

below-black : (mark : Colour) → mark ≢ Black → is_below mark Black ≡ true
below-black White d = refl
below-black Gray d = refl
below-black Black d = absurd (d refl)

-- how many are left on the gray list
abbrev pub grays_left : Lists → ℕ
grays_left l = elim l.marking [ None ↦ 0 | Some t ↦ length t.gray ]

module _ (objects : List Object) (first : Lists) where
  -- those that were taken were black
  pub record IsPassing (l : Lists) : Type 0 where
    pub marks : marks_held objects l ≡ marks_held objects first
    pub going_on : IsGoingOn objects l

  module _ (l r : Lists) (before : IsPassing l) (room : HasSameRoom l r) (key : ℕ) (taken : l.marking ≡ option_map (with_gray key) r.marking) (mark : Colour)
      (marked : new_mark_at objects key ≡ Some mark) where
    pub passed-next : mark ≡ Black → IsPassing r
    passed-next black = record {
      marks = sym (ap (option_map (new_marks_in objects)) taken ∙ go r.marking) ∙ before.marks;
      going_on = going_on-gray objects l r before.going_on room key taken;
    }
      where
        go : (o : Option ToScan) → option_map (new_marks_in objects) (option_map (with_gray key) o) ≡ option_map (new_marks_in objects) o
        go None = refl
        go (Some t) = ap (λ m. Some m) (gray-passed objects key t (below-marked objects key mark marked ∙ ap (λ c. is_below c Black) black))

    pub passed-found : mark ≢ Black → marks_held objects first ≡ option_map (gray_before (the_name_at objects key)) (marks_held objects r)
    passed-found other = sym before.marks ∙ (ap (option_map (new_marks_in objects)) taken ∙ go r.marking)
      where
        go : (o : Option ToScan) → option_map (new_marks_in objects) (option_map (with_gray key) o) ≡ option_map (gray_before (the_name_at objects key)) (option_map (new_marks_in objects) o)
        go None = refl
        go (Some t) = ap (λ m. Some m) (gray-first objects key t (below-marked objects key mark marked ∙ below-black mark other))

    pub passed-less : grays_left r < grays_left l
    passed-less = go r.marking refl
      where
        count : Option ToScan → ℕ
        count o = elim o [ None ↦ 0 | Some t ↦ length t.gray ]

        go : (o : Option ToScan) → r.marking ≡ o → count r.marking < count l.marking
        go None e =
            let both : Some before.going_on.listed.0 ≡ None = sym before.going_on.listed.1 ∙ (taken ∙ ap (option_map (with_gray key)) e) in
            absurd (cc)
        go (Some t) e =
            let is : l.marking ≡ Some (with_gray key t) = taken ∙ ap (option_map (with_gray key)) e in
            rw (e, is) (omega arith)

  -- none is left
  pub passed-none : (l r : Lists) → IsPassing l → r.marking ≡ l.marking → IfSome l.marking (λ t. t.gray ≡ []) →
      (marks_held objects r ≡ marks_held objects first) × IfSome (marks_held objects first) (λ m. m.gray_list ≡ [])
  passed-none l r before same none = (
    ap (option_map (new_marks_in objects)) same ∙ before.marks,
    subst (λ o. IfSome o (λ (m : NewMarks). m.gray_list ≡ [])) before.marks (go l.marking none),
  )
    where
      go : (o : Option ToScan) → IfSome o (λ t. t.gray ≡ []) → IfSome (option_map (new_marks_in objects) o) (λ (m : NewMarks). m.gray_list ≡ [])
      go None e = tt
      go (Some t) e = ap (λ ks. map (the_name_at objects) (filter (is_unblack objects) ks)) e

-- WHAT THE OBJECT HOLDS, by its name and by its key
module _ (objects : List Object) (one_key : HasOneKey objects) (one_name : HasOneName objects) (key : ℕ) (there : IsTrue (is_there objects key)) (h : Heap) (scripts : h.scripts ≡ named_objects objects) where
  pub held-named : held_by_script h (the_name_at objects key) ≡ names_held_at objects key
  held-named =
      let n = name_at-found objects key (the_name_at objects key) (the_name-there objects key there) in
      let only : find (λ (o : Object). same_name o.name (the_name_at objects key)) objects ≡ Some n.0 =
      find-only (λ (o : Object). same_name o.name (the_name_at objects key)) objects n.0 (one_name (the_name_at objects key)) n.1
      (subst (λ z. same_name z (the_name_at objects key) ≡ true) (sym n.3) (same_name-refl (the_name_at objects key))) in
      let found : script_at h (the_name_at objects key) ≡ Some (named_object objects n.0) =
      ap (find (λ (o : HeapScript). same_name o.name (the_name_at objects key))) scripts
      ∙ (find-map (λ (o : HeapScript). same_name o.name (the_name_at objects key)) (named_object objects) objects ∙ ap (option_map (named_object objects)) only) in
      ap (λ o. contents (slots_or_none (option_map script_places_of o))) found
      ∙ (ap contents (named-places objects n.0)
      ∙ ap (λ o. contents (map (name_held objects) (places_or_none o))) (sym (ap (object_at objects) (sym n.2) ∙ object_at-own objects one_key n.0 n.1)))

-- A SCAN by names

-- the first of the black list
scanned-black : (h : Heap) (x : Name) (m : NewMarks) → scanned h (black_before x m) ≡ each_raised raised_black m (held_by_script h x)
unfolding scanned
scanned-black h x m = refl

-- or else of the gray one
scanned-gray : (h : Heap) (x : Name) (m : NewMarks) → m.black_list ≡ [] → scanned h (gray_before x m) ≡ each_raised raised_gray m (held_by_script h x)
unfolding scanned
scanned-gray h x m e = rw e refl

-- or nothing
scanned-nothing : (h : Heap) (m : NewMarks) → m.black_list ≡ [] → m.gray_list ≡ [] → scanned h m ≡ m
unfolding scanned
scanned-nothing h m e f =
    ap (λ (bs : List Name). elim bs [ x ∷ xs ↦ each_raised raised_black (record m { black_list = xs }) (held_by_script h x) | [] ↦ grays m.gray_list ]) e ∙ ap grays f
  where
    grays : List Name → NewMarks
    grays gs = elim gs [ x ∷ xs ↦ each_raised raised_gray (record m { gray_list = xs }) (held_by_script h x) | [] ↦ m ]

module _ (objects : List Object) (going_on_with : (HasOneKey objects) × (HasOneName objects)) (key : ℕ) (there : IsTrue (is_there objects key)) (old mid new : Option NewMarks) where
  -- a black one was taken
  pub black-scanned : old ≡ option_map (black_before (the_name_at objects key)) mid →
      new ≡ option_map (λ m. each_raised raised_black m (names_held_at objects key)) mid → (h : Heap) → h.scripts ≡ named_objects objects → new ≡ option_map (scanned h) old
  black-scanned e raised h scripts = raised ∙ (go mid ∙ sym (ap (option_map (scanned h)) e))
    where
      go : (o : Option NewMarks) → option_map (λ m. each_raised raised_black m (names_held_at objects key)) o ≡ option_map (scanned h) (option_map (black_before (the_name_at objects key)) o)
      go None = refl
      go (Some m) = ap (λ n. Some n) (ap (each_raised raised_black m) (sym (held-named objects going_on_with.0 going_on_with.1 key there h scripts)) ∙ sym (scanned-black h (the_name_at objects key) m))

  -- a gray one was taken
  pub gray-scanned : old ≡ option_map (gray_before (the_name_at objects key)) mid → IfSome old (λ m. m.black_list ≡ []) →
      new ≡ option_map (λ m. each_raised raised_gray m (names_held_at objects key)) mid → (h : Heap) → h.scripts ≡ named_objects objects → new ≡ option_map (scanned h) old
  gray-scanned e none raised h scripts =
      raised ∙ (go mid (subst (λ o. IfSome o (λ (m : NewMarks). m.black_list ≡ [])) e none) ∙ sym (ap (option_map (scanned h)) e))
    where
      go : (o : Option NewMarks) → IfSome (option_map (gray_before (the_name_at objects key)) o) (λ m. m.black_list ≡ []) →
          option_map (λ m. each_raised raised_gray m (names_held_at objects key)) o ≡ option_map (scanned h) (option_map (gray_before (the_name_at objects key)) o)
      go None b = refl
      go (Some m) b = ap (λ n. Some n)
          (ap (each_raised raised_gray m) (sym (held-named objects going_on_with.0 going_on_with.1 key there h scripts)) ∙ sym (scanned-gray h (the_name_at objects key) m b))

-- nothing was left
pub nothing-scanned : (h : Heap) (old new : Option NewMarks) → IfSome old (λ m. m.black_list ≡ []) → IfSome old (λ m. m.gray_list ≡ []) → new ≡ old → new ≡ option_map (scanned h) old
nothing-scanned h None new b g e = e
nothing-scanned h (Some m) new b g e = e ∙ ap (λ n. Some n) (sym (scanned-nothing h m b g))
