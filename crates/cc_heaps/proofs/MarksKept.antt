-- A MARKING IN SLICES LEFT AS IT IS: where the script objects stay, where each is changed and keeps its key and its new mark,
-- where one more is made, and by one change after another. One that goes on, with more that is black by the new mark.
use Rattle.std.proofs.Common.{◌≡◌, ◌≢◌, ℕ, Bool, true, false, cond, List, [], ◌∷◌, ◌++◌, map, Option, Some, None, option_map, refl, sym, ◌∙◌, ap, subst, ◌==◌, if◌then◌else◌, inl, inr, ⊎_elim}
use Rattle.std.specs.Prelude.{◌⊎◌, IfSome}
use Rattle.std.specs.List.{filter}
use Rattle.std.proofs.Math.Path.{fun_ext}
use Rattle.std.proofs.lemmas.List.{append-nil}
use Rattle.std.proofs.lemmas.List.Elements.{filter-append}
use Rattle.std.specs.Option.{is_some, option_or}
use Rattle.std.proofs.lemmas.List.Folds.{find-append}
use Rattle.cc_lists.proofs.Members.{Among-filtered}
use Rattle.cc_lists.proofs.Filtering.{filter-agree}
use Rattle.cc_lists.proofs.Held.{find-renamed}
use Rattle.cc_lists.proofs.ListWrites.{map-agree, map-kept}
use Rattle.cc_lists.proofs.Searching.{filter-map}
use Rattle.cc_names.specs.declared.name.Name.{Name}
use Rattle.cc_names.specs.Names.{object}
use Rattle.cc_names.specs.declared.kind.Colour.{Colour}
use Rattle.cc_names.specs.declared.kind.Colour.TheVariants.{White, Gray, Black}
use Rattle.cc_model.specs.Heap.{Heap}
use Rattle.cc_script.specs.Objects.{Object, is_below, is_there, new_mark_at, object_at}
use Rattle.cc_script.specs.NewMarks.{is_unblack}
use Rattle.cc_heaps.specs.Keyed.{Keyed, changed_to, left_with, the_name_at}
use Rattle.cc_heaps.specs.ToScan.{ToScan}
use Rattle.cc_heaps.specs.NewMarks.{AreListed, AreListedIn, marks_of, names_below, new_marks_in}
use Rattle.cc_heaps.specs.Marks.{KeepsMarks, MarksGoOn}

-- whether a new mark is lower than black
abbrev unblack_mark : Option Colour → Bool
unblack_mark o = elim o [ None ↦ false | Some mark ↦ is_below mark Black ]

-- what is not there has no new mark
pub unmarked-absent : (objects : List Object) (key : ℕ) → is_there objects key ≡ false → new_mark_at objects key ≡ None
unmarked-absent objects key absent = go (object_at objects key) absent
  where
    go : (o : Option Object) → is_some o ≡ false → option_map (λ (x : Object). x.new_mark) o ≡ None
    go None e = refl
    go (Some x) e = absurd (cc)

-- WHAT IS TO BE SCANNED STAYS WELL LISTED while a marking goes on
black-not_white : Black ≢ White
black-not_white e = absurd (cc)

listed-in : (v w : Keyed) → MarksGoOn v w → (m : Option ToScan) → IfSome m (AreListedIn v.scripts) → IfSome m (AreListedIn w.scripts)
listed-in v w k None l = tt
listed-in v w k (Some t) l = record {
  black = λ key m. ⊎_elim (λ e. e) (λ e. e) (k.there key Black (l.black key m));
  gray = λ key m. let f = l.gray key m in marked key f.0 f.2 (k.there key f.0 f.1);
  black_once = l.black_once;
  gray_once = l.gray_once;
}
  where
    marked : (key : ℕ) (mark : Colour) → mark ≢ White → (new_mark_at w.scripts key ≡ Some mark) ⊎ (new_mark_at w.scripts key ≡ Some Black) →
        (c : Colour) × (new_mark_at w.scripts key ≡ Some c) × (c ≢ White)
    marked key mark n e = ⊎_elim (λ h. (mark, h, n)) (λ h. (Black, h, black-not_white)) e

pub listed-still : (v w : Keyed) → MarksGoOn v w → AreListed v → AreListed w
listed-still v w k l = subst (λ m. IfSome m (AreListedIn w.scripts)) (sym k.lists) (listed-in v w k v.marking l)

-- one that stays as it is goes on
pub marks-go_on : {v w : Keyed} → KeepsMarks v w → MarksGoOn v w
marks-go_on k = record { lists = k.lists; there = λ key mark at. inl (k.there key mark at); made = k.made }

-- each key has the new mark that it had
marks-alike : (v w : Keyed) → w.marking ≡ v.marking → ((key : ℕ) → new_mark_at w.scripts key ≡ new_mark_at v.scripts key) → (AreListed v → marks_of w ≡ marks_of v) → KeepsMarks v w
marks-alike v w lists same by_names = record {
  lists = lists;
  there = λ key mark at. same key ∙ at;
  made = λ key mark absent at. go key mark (sym at ∙ (same key ∙ unmarked-absent v.scripts key absent));
  by_names = by_names;
}
  where
    go : (key : ℕ) (mark : Colour) → Some mark ≡ None → mark ≡ Black
    go key mark e = absurd (cc)

-- the lists and the script objects stay
pub marks-stay : (v w : Keyed) → w.marking ≡ v.marking → w.scripts ≡ v.scripts → KeepsMarks v w
marks-stay v w lists scripts = marks-alike v w lists (λ key. ap (λ os. new_mark_at os key) scripts)
    (λ listed. (λ i. option_map (new_marks_in (scripts i)) (lists i)))

-- each script object is changed, and keeps its key, its name and its new mark
module _ (f : Object → Object) (keys : (o : Object) → (f o).key ≡ o.key) (names : (o : Object) → (f o).name ≡ o.name) (marks : (o : Object) → (f o).new_mark ≡ o.new_mark)
    (objects : List Object) where
  same-mark : (key : ℕ) → new_mark_at (map f objects) key ≡ new_mark_at objects key
  same-mark key = find-renamed f (λ o. o.key == key) (λ o. o.key == key) (λ o. o.new_mark) (λ o. o.new_mark) (λ o. ap (λ k. k == key) (keys o)) marks objects

  same-name : (key : ℕ) → the_name_at (map f objects) key ≡ the_name_at objects key
  same-name key = ap (λ (x : Option Name). elim x [ None ↦ object 0 | Some y ↦ y ])
      (find-renamed f (λ o. o.key == key) (λ o. o.key == key) (λ o. o.name) (λ o. o.name) (λ o. ap (λ k. k == key) (keys o)) names objects)

  same-below : (low : Colour) → names_below low (map f objects) ≡ names_below low objects
  same-below low = ap (map (λ (o : Object). o.name)) (filter-map (λ (o : Object). is_below o.new_mark low) f objects)
      ∙ (map-kept (λ (o : Object). o.name) f (filter (λ o. is_below (f o).new_mark low) objects) names
      ∙ ap (λ (q : Object → Bool). map (λ (o : Object). o.name) (filter q objects)) (fun_ext (λ o. ap (λ c. is_below c low) (marks o))))

  same-unblack : (key : ℕ) → is_unblack (map f objects) key ≡ is_unblack objects key
  same-unblack key = ap unblack_mark (same-mark key)

  -- new marks by names stay
  pub marks-renamed : (t : ToScan) → new_marks_in (map f objects) t ≡ new_marks_in objects t
  marks-renamed t = λ i. record {
    unmarked = same-below Gray i;
    unblack = same-below Black i;
    black_list = map (λ k. same-name k i) t.black;
    gray_list = map (λ k. same-name k i) (filter (λ k. same-unblack k i) t.gray);
  }

pub marks-mapped : (v w : Keyed) (f : Object → Object) → w.marking ≡ v.marking → w.scripts ≡ map f v.scripts →
    ((o : Object) → (f o).key ≡ o.key) → ((o : Object) → (f o).name ≡ o.name) → ((o : Object) → (f o).new_mark ≡ o.new_mark) → KeepsMarks v w
marks-mapped v w f lists scripts keys names marks = marks-alike v w lists
    (λ key. ap (λ os. new_mark_at os key) scripts ∙ same-mark f keys names marks v.scripts key)
    (λ listed. (λ i. option_map (new_marks_in (scripts i)) (lists i)) ∙ ap (λ g. option_map g v.marking) (fun_ext (marks-renamed f keys names marks v.scripts)))

-- New marks by names where one more is made last, black by the new mark
module _ (objects : List Object) (new : Object) (black : new.new_mark ≡ Black) where
  abbrev more : List Object
  more = objects ++ new ∷ []

  more-below : (low : Colour) → is_below Black low ≡ false → names_below low more ≡ names_below low objects
  more-below low high = ap (map (λ (o : Object). o.name))
      (filter-append (λ (o : Object). is_below o.new_mark low) objects (new ∷ [])
      ∙ (ap (λ b. filter (λ (o : Object). is_below o.new_mark low) objects ++ cond b (new ∷ []) []) (ap (λ c. is_below c low) black ∙ high)
      ∙ append-nil (filter (λ (o : Object). is_below o.new_mark low) objects)))

  -- what is there stands there still
  more-at : (key : ℕ) (mark : Colour) → new_mark_at objects key ≡ Some mark → object_at more key ≡ object_at objects key
  more-at key mark e = find-append (λ (o : Object). o.key == key) objects (new ∷ []) ∙ go (object_at objects key) (object_at (new ∷ []) key) e
    where
      go : (o p : Option Object) → option_map (λ (x : Object). x.new_mark) o ≡ Some mark → option_or o p ≡ o
      go None p d = absurd (cc)
      go (Some x) p d = refl

  marks-more : (t : ToScan) → AreListedIn objects t → new_marks_in more t ≡ new_marks_in objects t
  marks-more t l = λ i. record {
    unmarked = more-below Gray refl i;
    unblack = more-below Black refl i;
    black_list = map-agree (the_name_at more) (the_name_at objects) t.black (λ k m. named k Black (l.black k m)) i;
    gray_list = gray i;
  }
    where
      named : (k : ℕ) (mark : Colour) → new_mark_at objects k ≡ Some mark → the_name_at more k ≡ the_name_at objects k
      named k mark e = ap (λ (o : Option Object). elim (option_map (λ (p : Object). p.name) o) [ None ↦ object 0 | Some y ↦ y ]) (more-at k mark e)

      unblack : (k : ℕ) (mark : Colour) → new_mark_at objects k ≡ Some mark → is_unblack more k ≡ is_unblack objects k
      unblack k mark e = ap (λ (o : Option Object). unblack_mark (option_map (λ (p : Object). p.new_mark) o)) (more-at k mark e)

      gray : map (the_name_at more) (filter (is_unblack more) t.gray) ≡ map (the_name_at objects) (filter (is_unblack objects) t.gray)
      gray = ap (map (the_name_at more)) (filter-agree (is_unblack more) (is_unblack objects) t.gray (λ k m. let f = l.gray k m in unblack k f.0 f.1))
          ∙ map-agree (the_name_at more) (the_name_at objects) (filter (is_unblack objects) t.gray)
          (λ k m. let f = l.gray k (Among-filtered (is_unblack objects) k t.gray m) in named k f.0 f.1)

  marks-more_held : (m : Option ToScan) → IfSome m (AreListedIn objects) → option_map (new_marks_in more) m ≡ option_map (new_marks_in objects) m
  marks-more_held None l = refl
  marks-more_held (Some t) l = ap (λ n. Some n) (marks-more t l)

-- one more is made last, black by the new mark
pub marks-made : (v w : Keyed) (new : Object) → w.marking ≡ v.marking → w.scripts ≡ v.scripts ++ new ∷ [] → new.new_mark ≡ Black → KeepsMarks v w
marks-made v w new lists scripts black = record {
  lists = lists;
  there = λ key mark at. read key ∙ first (object_at v.scripts key) (object_at (new ∷ []) key) mark at;
  made = λ key mark absent at. second (object_at v.scripts key) (new.key == key) mark absent (sym (read key) ∙ at);
  by_names = λ listed. (λ i. option_map (new_marks_in (scripts i)) (lists i)) ∙ marks-more_held v.scripts new black v.marking listed;
}
  where
    mark_of : Option Object → Option Colour
    mark_of o = option_map (λ (x : Object). x.new_mark) o

    read : (key : ℕ) → new_mark_at w.scripts key ≡ mark_of (option_or (object_at v.scripts key) (object_at (new ∷ []) key))
    read key = ap (λ os. new_mark_at os key) scripts ∙ ap mark_of (find-append (λ (o : Object). o.key == key) v.scripts (new ∷ []))

    first : (o p : Option Object) (mark : Colour) → mark_of o ≡ Some mark → mark_of (option_or o p) ≡ Some mark
    first None p mark e = absurd (cc)
    first (Some x) p mark e = e

    second : (o : Option Object) (b : Bool) (mark : Colour) → is_some o ≡ false → mark_of (option_or o (if b then Some new else None)) ≡ Some mark → mark ≡ Black
    second None true mark absent e = let same : new.new_mark ≡ mark = cc in sym same ∙ black
    second None false mark absent e = absurd (cc)
    second (Some x) b mark absent e = absurd (cc)

-- ONE CHANGE AFTER ANOTHER
pub marks-stay-then : {u v w : Keyed} → KeepsMarks u v → KeepsMarks v w → KeepsMarks u w
marks-stay-then {u} {v} {w} first second = record {
  lists = second.lists ∙ first.lists;
  there = λ key mark at. second.there key mark (first.there key mark at);
  made = λ key mark absent at. go key mark absent at (object_at v.scripts key) refl;
  by_names = λ listed. second.by_names (listed-still u v (marks-go_on first) listed) ∙ first.by_names listed;
}
  where
    go : (key : ℕ) (mark : Colour) → is_there u.scripts key ≡ false → new_mark_at w.scripts key ≡ Some mark → (o : Option Object) → object_at v.scripts key ≡ o → mark ≡ Black
    go key mark absent at None e = second.made key mark (ap is_some e) at
    go key mark absent at (Some o) e =
        let was : new_mark_at v.scripts key ≡ Some o.new_mark = ap (option_map (λ (x : Object). x.new_mark)) e in
        let black : o.new_mark ≡ Black = first.made key o.new_mark absent was in
        let both : Some mark ≡ Some o.new_mark = sym at ∙ second.there key o.new_mark was in
        let same : mark ≡ o.new_mark = cc in
        same ∙ black

-- as calls say what they come to

pub marks-stay-changed : (v w : Keyed) (h : Heap) → w ≡ changed_to v h → KeepsMarks v w
marks-stay-changed v w h e = marks-stay v w (ap (λ u. u.marking) e) (ap (λ u. u.scripts) e)

pub marks-stay-left : (v w : Keyed) (h : Heap) → w ≡ left_with v h → KeepsMarks v w
marks-stay-left v w h e = marks-stay v w (ap (λ u. u.marking) e) (ap (λ u. u.scripts) e)

-- ONE THAT GOES ON

pub marks-same : (v w : Keyed) → w.marking ≡ v.marking → w.scripts ≡ v.scripts → MarksGoOn v w
marks-same v w lists scripts = marks-go_on (marks-stay v w lists scripts)

pub marks-changed : (v w : Keyed) (h : Heap) → w ≡ changed_to v h → MarksGoOn v w
marks-changed v w h e = marks-go_on (marks-stay-changed v w h e)

pub marks-left : (v w : Keyed) (h : Heap) → w ≡ left_with v h → MarksGoOn v w
marks-left v w h e = marks-go_on (marks-stay-left v w h e)

-- a new mark that an object had, or black, is the one that it has at the end, or that is black
pub marks-then : {u v w : Keyed} → MarksGoOn u v → MarksGoOn v w → MarksGoOn u w
marks-then {u} {v} {w} first second = record {
  lists = second.lists ∙ first.lists;
  there = λ key mark at. ⊎_elim (second.there key mark) (λ black. inr (⊎_elim (λ e. e) (λ e. e) (second.there key Black black))) (first.there key mark at);
  made = λ key mark absent at. go key mark absent at (object_at v.scripts key) refl;
}
  where
    go : (key : ℕ) (mark : Colour) → is_there u.scripts key ≡ false → new_mark_at w.scripts key ≡ Some mark → (o : Option Object) → object_at v.scripts key ≡ o → mark ≡ Black
    go key mark absent at None e = second.made key mark (ap is_some e) at
    go key mark absent at (Some o) e =
        let was : new_mark_at v.scripts key ≡ Some o.new_mark = ap (option_map (λ (x : Object). x.new_mark)) e in
        let black : o.new_mark ≡ Black = first.made key o.new_mark absent was in
        ⊎_elim
        (λ same. let both : Some mark ≡ Some o.new_mark = sym at ∙ same in let m : mark ≡ o.new_mark = cc in m ∙ black)
        (λ now. let both : Some mark ≡ Some Black = sym at ∙ now in let m : mark ≡ Black = cc in m)
        (second.there key o.new_mark was)
