-- AN EXPOSURE BY THE NEW MARK: what it blackens by keys is what it blackens by names, so the new marks by names are those of the
-- definitions.
use Rattle.std.proofs.Common.{◌≡◌, ℕ, Bool, true, false, cond, not, ◌&&◌, List, [], ◌∷◌, map, Option, Some, None, option_map, refl, sym, ◌∙◌, ap, subst, inl, inr, ⊎_elim, ◌==◌, if◌then◌else◌}
use Rattle.std.specs.Prelude.{◌⊎◌, IsTrue}
use Rattle.std.specs.Option.{is_some}
use Rattle.std.specs.List.{filter, flat_map}
use Rattle.std.proofs.Math.Path.{fun_ext}
use Rattle.std.proofs.lemmas.Bool.{and_parts, and_from}
use Rattle.cc_lists.specs.Members.{Among, has}
use Rattle.cc_lists.specs.Least.{system, closure}
use Rattle.cc_lists.proofs.Members.{Among-filter, Among-filtered, Among-passes, Among-map, Among-map_cases, has-among, has-there}
use Rattle.cc_lists.proofs.CountsOf.{false-left}
use Rattle.cc_lists.proofs.Least.{derived-within}
use Rattle.cc_lists.proofs.Carried.{Carries, least-carried}
use Rattle.cc_lists.proofs.Closure.{closure-decides}
use Rattle.cc_lists.proofs.ListWrites.{map-agree, map-kept, only-member}
use Rattle.cc_lists.proofs.Numbers.{number-exact}
use Rattle.cc_lists.proofs.Searching.{filter-map}
use Rattle.cc_names.specs.declared.name.Name.{Name}
use Rattle.cc_names.specs.declared.kind.Colour.{Colour}
use Rattle.cc_names.specs.declared.kind.Colour.TheVariants.{Gray, Black}
use Rattle.cc_names.specs.declared.number.NKey.{NKey}
use Rattle.cc_names.specs.declared.number.SKey.{SKey}
use Rattle.cc_names.specs.Names.{native, same_name}
use Rattle.cc_names.proofs.NameTests.{same_name-exact, same_name-refl}
use Rattle.cc_model.specs.Heap.{Heap, HeapScript, lengthen}
use Rattle.cc_model.specs.Banks.{of_scripts}
use Rattle.cc_model.specs.View.{script_slot_edges}
use Rattle.cc_model.specs.Marking.{NewMarks, blackened_by_mark, exposed_marks, without_all}
use Rattle.cc_model.specs.Marking as names
use Rattle.cc_model.specs.WellFormed.{script_names}
use Rattle.cc_model.specs.Exposure.{slots_of_scripts}
use Rattle.cc_script.specs.Objects.{Object, is_below, is_there, name_at, new_mark_at, object_at, raised_among, with_new_mark}
use Rattle.cc_script.specs.Walking.{edges}
use Rattle.cc_script.specs.NewMarks.{edges_unblack, exposure_rules_by_mark, is_unblack, keys_to_blacken, newly_blackened}
use Rattle.cc_script.proofs.Keys.{object_at-map}
use Rattle.cc_script.proofs.Reaching.{edge-slot, slot-edge}
use Rattle.cc_heaps.specs.ToScan.{ToScan, HasRoom}
use Rattle.cc_heaps.specs.Keyed.{Keyed, IsInOrder, named_objects, number_at, the_name_at}
use Rattle.cc_heaps.specs.Changes.{native_name, script_name}
use Rattle.cc_heaps.specs.Marks.{MarksGoOn}
use Rattle.cc_heaps.specs.NewMarks.{IsRemarked, marks_of, names_below, new_marks_in}
use Rattle.cc_heaps.specs.Fields.{heap_of, keyed_of, IsLinked}
use Rattle.cc_heaps.specs.declared.heaps.Heaps.TheInside.{Inside}
use Rattle.cc_heaps.proofs.Reaching.{HasOneKey, HasOneName, found-named, name_at-found, name_at-own, named-found, named_edges, object_at-found, object_at-own, same-key, same-tests, the_name-is}
use Rattle.cc_laws_heap.proofs.Face.{native-no_script}
use Rattle.cc_heaps.proofs.Keys.{object-name}
use Rattle.cc_heaps.proofs.MarksKept.{marks-renamed}
use Rattle.cc_heaps.proofs.ObjectsKept.{there-named}
use Rattle.cc_heaps.proofs.Remarked.{remarked, remarked-length, remarked-name}
use Rattle.cc_heaps.proofs.RemarkedHeaps.{AreRemarked, heaps-remarked}
use Rattle.cc_heaps.proofs.ScriptWrites.{KeepsObjects-raised, new_mark-raised, raise_among}

and-true : (b : Bool) → (b && true) ≡ b
and-true true = refl
and-true false = refl

and-false : (b : Bool) → (b && false) ≡ false
and-false true = refl
and-false false = refl

-- names of those that pass a test, where it fails for more by their names
filter-less : {X : Type 0} (p q : X → Bool) (n : X → Name) (names : List Name) (xs : List X) →
    ((x : X) → Among x xs → q x ≡ (p x && not (has same_name names (n x)))) → map n (filter q xs) ≡ without_all names (map n (filter p xs))
filter-less p q n names [] h = refl
filter-less {X} p q n names (x ∷ xs) h = go (filter-less p q n names xs (λ z m. h z (inr m))) (p x) (has same_name names (n x)) (q x) refl (h x (inl refl))
  where
    go : map n (filter q xs) ≡ without_all names (map n (filter p xs)) → (b s t : Bool) → has same_name names (n x) ≡ s → t ≡ (b && not s) →
        map n (cond t (x ∷ filter q xs) (filter q xs)) ≡ without_all names (map n (cond b (x ∷ filter p xs) (filter p xs)))
    go ih true true t f g = rw (g, f) ih
    go ih true false t f g = rw (g, f) (ap (λ ys. n x ∷ ys) ih)
    go ih false s t f g = rw g ih

-- the objects at these keys black by the new mark
abbrev pub mark_among : List ℕ → Object → Colour
mark_among keys o = if has ◌==◌ keys o.key then Black else o.new_mark

blackened-at : (keys : List ℕ) (objects : List Object) → newly_blackened keys objects ≡ map (remarked (mark_among keys)) objects
blackened-at keys objects = map-agree (λ o. if has ◌==◌ keys o.key then with_new_mark Black o else o) (remarked (mark_among keys)) objects (λ o m. go o (has ◌==◌ keys o.key))
  where
    go : (o : Object) (b : Bool) → (if b then with_new_mark Black o else o) ≡ with_new_mark (if b then Black else o.new_mark) o
    go o true = refl
    go o false = refl

pub blackened-remarked : (keys : List ℕ) (objects : List Object) → IsRemarked objects (newly_blackened keys objects)
blackened-remarked keys objects = (mark_among keys, blackened-at keys objects)

-- whether what stands at a key is not black by the new mark
abbrev unblack_of : Option Object → Bool
unblack_of o = elim (option_map (λ (p : Object). p.new_mark) o) [ None ↦ false | Some mark ↦ is_below mark Black ]

module _ (objects : List Object) (one_key : HasOneKey objects) (one_name : HasOneName objects) where
  abbrev unblack : List Name
  unblack = names_below Black objects

  -- NOT BLACK BY KEYS is not black by names
  mark-own : (o : Object) → Among o objects → is_unblack objects o.key ≡ is_below o.new_mark Black
  mark-own o m = ap unblack_of (object_at-own objects one_key o m)

  unblack-own : (o : Object) → Among o objects → is_unblack objects o.key ≡ has same_name unblack o.name
  unblack-own o m = same-tests (is_unblack objects o.key) (has same_name unblack o.name)
      (λ e. has-there same_name same_name-exact unblack o.name
      (Among-map (λ (p : Object). p.name) o (filter (λ (p : Object). is_below p.new_mark Black) objects)
      (Among-filter (λ (p : Object). is_below p.new_mark Black) o objects m (sym (mark-own o m) ∙ e))))
      (λ e.
      let f = Among-map_cases (λ (p : Object). p.name) (filter (λ (p : Object). is_below p.new_mark Black) objects) o.name (has-among same_name same_name-exact unblack o.name e) in
      let is : f.0 ≡ o = only-member (λ (p : Object). same_name p.name o.name) objects f.0 o (one_name o.name)
      (Among-filtered (λ (p : Object). is_below p.new_mark Black) f.0 objects f.1) (subst (λ y. same_name y o.name ≡ true) (sym f.2) (same_name-refl o.name))
      m (same_name-refl o.name) in
      mark-own o m ∙ subst (λ (p : Object). is_below p.new_mark Black ≡ true) is (Among-passes (λ (p : Object). is_below p.new_mark Black) f.0 objects f.1))

  unblack-named : (k : ℕ) (x : Name) → name_at objects k ≡ Some x → is_unblack objects k ≡ has same_name unblack x
  unblack-named k x e =
      let f = name_at-found objects k x e in
      ap (is_unblack objects) (sym f.2) ∙ (unblack-own f.0 f.1 ∙ ap (has same_name unblack) f.3)

  module _ (key : ℕ) (x : Name) (named : name_at objects key ≡ Some x) where
    abbrev keys_from : List ℕ
    keys_from = filter (is_unblack objects) (key ∷ [])

    abbrev names_from : List Name
    names_from = filter (λ y. has same_name unblack y) (x ∷ [])

    abbrev both_unblack : Name × Name → Bool
    both_unblack e = has same_name unblack e.0 && has same_name unblack e.1

    abbrev both_unblack_keys : ℕ × ℕ → Bool
    both_unblack_keys e = is_unblack objects e.0 && is_unblack objects e.1

    abbrev ways : List (Name × Name)
    ways = filter both_unblack (named_edges objects)

    abbrev named_blackened : List Name
    named_blackened = closure same_name (system names_from ways [])

    only : {X : Type 0} (a b : X) → Among b (a ∷ []) → a ≡ b
    only a b m = ⊎_elim (λ e. e) (λ n. absurd n) m

    -- what a key gives, its name gives
    names-carried : Carries (λ k y. name_at objects k ≡ Some y) keys_from (edges_unblack objects) [] names_from ways []
    names-carried = record {
      root = λ k y m r.
          let is : key ≡ k = only key k (Among-filtered (is_unblack objects) k (key ∷ []) m) in
          let passes : is_unblack objects k ≡ true = Among-passes (is_unblack objects) k (key ∷ []) m in
          let both : Some x ≡ Some y = sym named ∙ (ap (name_at objects) is ∙ r) in
          let same : x ≡ y = cc in
          Among-filter (λ z. has same_name unblack z) y (x ∷ []) (inl same) (sym (unblack-named k y r) ∙ passes);
      edge = λ k q y m r.
          let i = Among-filtered both_unblack_keys (k, q) (edges objects) m in
          let p = and_parts (is_unblack objects k) (is_unblack objects q) (Among-passes both_unblack_keys (k, q) (edges objects) m) in
          let f = edge-slot objects k q i in
          let at : name_at objects k ≡ Some f.0.name = ap (name_at objects) (sym f.2) ∙ name_at-own objects one_key f.0 f.1 in (
            f.0.name,
            at,
            Among-filter both_unblack (f.0.name, y) (named_edges objects) (found-named objects f.0 q y f.1 f.3 r)
                (and_from (has same_name unblack f.0.name) (has same_name unblack y) (sym (unblack-named k f.0.name at) ∙ p.0) (sym (unblack-named q y r) ∙ p.1)),
          );
      entry = λ ks v y m r. absurd m;
    }

    -- what a name gives, its key gives
    keys-carried : Carries (λ y k. name_at objects k ≡ Some y) names_from ways [] keys_from (edges_unblack objects) []
    keys-carried = record {
      root = λ y k m r.
          let is : x ≡ y = only x y (Among-filtered (λ z. has same_name unblack z) y (x ∷ []) m) in
          let passes : has same_name unblack y ≡ true = Among-passes (λ z. has same_name unblack z) y (x ∷ []) m in
          let same : key ≡ k = same-key objects one_key one_name key k y (named ∙ ap (λ z. Some z) is) r in
          Among-filter (is_unblack objects) k (key ∷ []) (inl same) (unblack-named k y r ∙ passes);
      edge = λ y z k m r.
          let i = Among-filtered both_unblack (y, z) (named_edges objects) m in
          let p = and_parts (has same_name unblack y) (has same_name unblack z) (Among-passes both_unblack (y, z) (named_edges objects) m) in
          let f = named-found objects y z i in
          let at : name_at objects f.0.key ≡ Some y = name_at-own objects one_key f.0 f.1 ∙ ap (λ u. Some u) f.2 in
          let same : f.3.0 ≡ k = same-key objects one_key one_name f.3.0 k z f.3.2 r in (
            f.0.key,
            at,
            Among-filter both_unblack_keys (f.0.key, k) (edges objects)
                (subst (λ j. Among (f.0.key, j) (edges objects)) same (slot-edge objects f.0 f.3.0 f.1 f.3.1))
                (and_from (is_unblack objects f.0.key) (is_unblack objects k) (unblack-named f.0.key y at ∙ p.0) (unblack-named k z r ∙ p.1)),
          );
      entry = λ ys v k m r. absurd m;
    }

    blackened-alike : (o : Object) → Among o objects → has ◌==◌ (keys_to_blacken objects key) o.key ≡ has same_name named_blackened o.name
    blackened-alike o m =
        let by_key = closure-decides ◌==◌ number-exact (exposure_rules_by_mark objects key) o.key in
        let by_name = closure-decides same_name same_name-exact (system names_from ways []) o.name in
        same-tests (has ◌==◌ (keys_to_blacken objects key) o.key) (has same_name named_blackened o.name)
        (λ e. by_name.1 (least-carried (λ k y. name_at objects k ≡ Some y) keys_from (edges_unblack objects) [] names_from ways [] names-carried
        o.key (by_key.0 e) o.name (name_at-own objects one_key o m)))
        (λ e. by_key.1 (least-carried (λ y k. name_at objects k ≡ Some y) names_from ways [] keys_from (edges_unblack objects) [] keys-carried
        o.name (by_name.0 e) o.key (name_at-own objects one_key o m)))

    -- THE NEW MARKS THEN
    abbrev keys : List ℕ
    keys = keys_to_blacken objects key

    abbrev next : List Object
    next = newly_blackened keys objects

    same : IsRemarked objects next
    same = blackened-remarked keys objects

    -- black is below neither mark
    below-then : (low : Colour) → is_below Black low ≡ false → (o : Object) → Among o objects →
        is_below (mark_among keys o) low ≡ (is_below o.new_mark low && not (has same_name named_blackened o.name))
    below-then low high o m = go (has ◌==◌ keys o.key) (has same_name named_blackened o.name) (blackened-alike o m)
      where
        go : (b s : Bool) → b ≡ s → is_below (if b then Black else o.new_mark) low ≡ (is_below o.new_mark low && not s)
        go true true e = high ∙ sym (and-false (is_below o.new_mark low))
        go false false e = sym (and-true (is_below o.new_mark low))
        go true false e = absurd (cc)
        go false true e = absurd (cc)

    names-then : (low : Colour) → is_below Black low ≡ false → names_below low next ≡ without_all named_blackened (names_below low objects)
    names-then low high = ap (names_below low) (blackened-at keys objects)
        ∙ (ap (map (λ (o : Object). o.name)) (filter-map (λ (o : Object). is_below o.new_mark low) (remarked (mark_among keys)) objects)
        ∙ (map-kept (λ (o : Object). o.name) (remarked (mark_among keys)) (filter (λ o. is_below (mark_among keys o) low) objects) (λ o. refl)
        ∙ filter-less (λ (o : Object). is_below o.new_mark low) (λ o. is_below (mark_among keys o) low) (λ (o : Object). o.name) named_blackened objects (below-then low high)))

    listed-then : (ks : List ℕ) → map (the_name_at next) ks ≡ map (the_name_at objects) ks
    listed-then ks = ap (λ f. map f ks) (fun_ext (remarked-name objects next same))

    -- what stands at a key is passed then where it is blackened
    unblack-then : (k : ℕ) → is_unblack next k ≡ (is_unblack objects k && not (has same_name named_blackened (the_name_at objects k)))
    unblack-then k = ap (λ os. is_unblack os k) (blackened-at keys objects) ∙ (ap unblack_of (object_at-map (remarked (mark_among keys)) (λ o. refl) objects k) ∙ go (object_at objects k) refl)
      where
        go : (o : Option Object) → object_at objects k ≡ o →
            unblack_of (option_map (remarked (mark_among keys)) o) ≡ (is_unblack objects k && not (has same_name named_blackened (the_name_at objects k)))
        go None e = sym (ap (λ b. b && not (has same_name named_blackened (the_name_at objects k))) (ap unblack_of e))
        go (Some o) e =
            let f = object_at-found objects k o e in
            let its : the_name_at objects k ≡ o.name = the_name-is objects k o.name (ap (λ (p : Option Object). option_map (λ q. q.name) p) e) in
            below-then Black refl o f.0
            ∙ (λ i. sym (ap unblack_of e) i && not (has same_name named_blackened (sym its i)))

    gray-then : (ks : List ℕ) → map (the_name_at next) (filter (is_unblack next) ks) ≡ without_all named_blackened (map (the_name_at objects) (filter (is_unblack objects) ks))
    gray-then ks = listed-then (filter (is_unblack next) ks)
        ∙ filter-less (is_unblack objects) (is_unblack next) (the_name_at objects) named_blackened ks (λ k m. unblack-then k)

    blackened-in : (t : ToScan) → new_marks_in next t ≡ blackened_by_mark (new_marks_in objects t) named_blackened
    blackened-in t = λ i. record {
      unmarked = names-then Gray refl i;
      unblack = names-then Black refl i;
      black_list = listed-then t.black i;
      gray_list = gray-then t.gray i;
    }

    -- THEY ARE THOSE OF AN EXPOSURE
    pub exposed-in : (h : Heap) → h.scripts ≡ named_objects objects → (t : ToScan) → new_marks_in next t ≡ exposed_marks h (Some x) (new_marks_in objects t)
    unfolding exposed_marks
    exposed-in h scripts t = blackened-in t
        ∙ ap (λ (ss : List HeapScript). blackened_by_mark (new_marks_in objects t) (closure same_name (system names_from (filter both_unblack (flat_map script_slot_edges ss)) []))) (sym scripts)

-- A MARKING GOES ON while more is black by the new mark
pub marks-blackened : (v w : Keyed) (keys : List ℕ) → w.marking ≡ v.marking → w.scripts ≡ newly_blackened keys v.scripts → MarksGoOn v w
marks-blackened v w keys lists scripts = record {
  lists = lists;
  there = λ key mark at. ⊎_elim (λ e. inl (read key ∙ e)) (λ e. inr (read key ∙ e)) (go (object_at v.scripts key) mark at);
  made = λ key mark absent at. none (object_at v.scripts key) mark absent (sym (read key) ∙ at);
}
  where
    fuse : (o : Option Object) → option_map (λ (p : Object). p.new_mark) (option_map (remarked (mark_among keys)) o) ≡ option_map (mark_among keys) o
    fuse None = refl
    fuse (Some o) = refl

    read : (key : ℕ) → new_mark_at w.scripts key ≡ option_map (mark_among keys) (object_at v.scripts key)
    read key = ap (λ os. new_mark_at os key) (scripts ∙ blackened-at keys v.scripts)
        ∙ (ap (option_map (λ (p : Object). p.new_mark)) (object_at-map (remarked (mark_among keys)) (λ o. refl) v.scripts key) ∙ fuse (object_at v.scripts key))

    go : (o : Option Object) (mark : Colour) → option_map (λ (p : Object). p.new_mark) o ≡ Some mark →
        (option_map (mark_among keys) o ≡ Some mark) ⊎ (option_map (mark_among keys) o ≡ Some Black)
    go None mark e = absurd (cc)
    go (Some o) mark e = by (has ◌==◌ keys o.key)
      where
        by : (b : Bool) → (Some (if b then Black else o.new_mark) ≡ Some mark) ⊎ (Some (if b then Black else o.new_mark) ≡ Some Black)
        by true = inr refl
        by false = inl e

    none : (o : Option Object) (mark : Colour) → is_some o ≡ false → option_map (mark_among keys) o ≡ Some mark → mark ≡ Black
    none None mark absent e = absurd (cc)
    none (Some o) mark absent e = absurd (cc)

-- WHERE NOTHING IS EXPOSED, or what is exposed is black by the new mark, the new marks stay

-- nothing is exposed
pub nothing-in : (h : Heap) (o : Option NewMarks) → o ≡ option_map (exposed_marks h None) o
unfolding exposed_marks
nothing-in h None = refl
nothing-in h (Some m) = refl

pub nothing-marked : (v : Keyed) (h : Heap) (x : Option SKey) → ((key : SKey) → x ≡ Some key → ⊥) → marks_of v ≡ option_map (exposed_marks h (script_name v x)) (marks_of v)
nothing-marked v h None none = nothing-in h (marks_of v)
nothing-marked v h (Some key) none = absurd (none key refl)

-- rules without roots give nothing
unrooted : (edges : List (Name × Name)) (x : Name) → has same_name (closure same_name (system [] edges [])) x ≡ false
unrooted edges x = false-left (has same_name (closure same_name (system [] edges [])) x)
    (λ e. derived-within [] edges [] (λ y. ⊥) (λ y m. m) (λ y z m n. n) (λ ps y m n. m) x
    ((closure-decides same_name same_name-exact (system [] edges []) x).0 e))

without-none : (names : List Name) → ((x : Name) → has same_name names x ≡ false) → (xs : List Name) → without_all names xs ≡ xs
without-none names none xs = ap (λ (p : Name → Bool). filter p xs) (fun_ext (λ x. ap not (none x))) ∙ filter-all xs
  where
    filter-all : (ys : List Name) → filter (λ (y : Name). true) ys ≡ ys
    filter-all [] = refl
    filter-all (y ∷ ys) = ap (λ zs. y ∷ zs) (filter-all ys)

blackened-none : (names : List Name) → ((x : Name) → has same_name names x ≡ false) → (m : NewMarks) → blackened_by_mark m names ≡ m
blackened-none names none m = λ i. record m {
  unmarked = without-none names none m.unmarked i;
  unblack = without-none names none m.unblack i;
  gray_list = without-none names none m.gray_list i;
}

-- what is exposed is black by the new mark, or is no script object
exposed-black : (h : Heap) (x : Name) (m : NewMarks) → has same_name m.unblack x ≡ false → exposed_marks h (Some x) m ≡ m
unfolding exposed_marks
exposed-black h x m e =
    ap (λ (b : Bool). blackened_by_mark m (closure same_name (system (cond b (x ∷ []) []) (names.edges_unblack m (slots_of_scripts h)) []))) e
    ∙ blackened-none (closure same_name (system [] (names.edges_unblack m (slots_of_scripts h)) [])) (unrooted (names.edges_unblack m (slots_of_scripts h))) m

-- a native is exposed, which has no new mark
pub natives-marked : (owned : List ℕ) (v : Keyed) → IsInOrder owned v → (n : Option ℕ) → marks_of v ≡ option_map (exposed_marks v.heap (option_map native n)) (marks_of v)
natives-marked owned v o None = nothing-in v.heap (marks_of v)
natives-marked owned v o (Some k) = go v.marking
  where
    no_native : has same_name (names_below Black v.scripts) (native k) ≡ false
    no_native = false-left (has same_name (names_below Black v.scripts) (native k))
        (λ e.
        let f = Among-map_cases (λ (p : Object). p.name) (filter (λ (p : Object). is_below p.new_mark Black) v.scripts) (native k)
        (has-among same_name same_name-exact (names_below Black v.scripts) (native k) e) in
        native-no_script v.heap k o.sound.well_formed
        (subst (λ y. Among y (script_names v.heap)) f.2
        (object-name v.heap v.scripts o.named f.0 (Among-filtered (λ (p : Object). is_below p.new_mark Black) f.0 v.scripts f.1))))

    go : (t : Option ToScan) → option_map (new_marks_in v.scripts) t ≡ option_map (exposed_marks v.heap (Some (native k))) (option_map (new_marks_in v.scripts) t)
    go None = refl
    go (Some t) = ap (λ m. Some m) (sym (exposed-black v.heap (native k) (new_marks_in v.scripts t) no_native))

pub native-marked : (owned : List ℕ) (v : Keyed) → IsInOrder owned v → (x : Option NKey) → marks_of v ≡ option_map (exposed_marks v.heap (native_name v x)) (marks_of v)
native-marked owned v o None = nothing-in v.heap (marks_of v)
native-marked owned v o (Some key) = natives-marked owned v o (number_at v key.0)

-- An exposure comes to the same where the bank of script registers is longer.
pub exposed-longer : (h : Heap) (n : ℕ) (x : Option Name) → exposed_marks (lengthen h of_scripts n) x ≡ exposed_marks h x
unfolding exposed_marks
exposed-longer h n None = refl
exposed-longer h n (Some x) = refl

-- THE PARTS IN WHICH AN OBJECT IS EXPOSED by the new mark
pub record IsExposedByMark (p q : Inside) (key : ℕ) : Type 0 where
  pub marking : marks_of (keyed_of q) ≡ option_map (exposed_marks (heap_of p) (name_at p.scripts key)) (marks_of (keyed_of p))
  pub heap : heap_of q ≡ heap_of p
  pub same : IsRemarked p.scripts q.scripts
  pub marks : MarksGoOn (keyed_of p) (keyed_of q)
  pub order : (owned : List ℕ) → IsInOrder owned (keyed_of p) → IsInOrder owned (keyed_of q)
  pub linked : IsLinked q

module _ (p : Inside) (l : IsLinked p) (key : ℕ) (there : IsTrue (is_there p.scripts key)) (t : ToScan) (goes_on : p.to_scan.marking ≡ Some t) where
  pub exposed-by_mark : (objects : List Object) → objects ≡ newly_blackened (keys_to_blacken p.scripts key) p.scripts → IsExposedByMark p (record p { scripts = objects }) key
  exposed-by_mark objects given = record {
    marking = (λ i. option_map (new_marks_in (given i)) (goes_on i))
        ∙ (ap (λ m. Some m) (exposed-in p.scripts l.one_key l.one_name key n.0 n.1 (heap_of p) refl t)
        ∙ (λ i. option_map (exposed_marks (heap_of p) (sym n.1 i)) (option_map (new_marks_in p.scripts) (sym goes_on i))));
    heap = r.heap;
    same = same;
    marks = marks-blackened (keyed_of p) (keyed_of (record p { scripts = objects })) (keys_to_blacken p.scripts key) refl given;
    order = r.kept.order;
    linked = r.linked;
  }
    where
      n : (x : Name) × (name_at p.scripts key ≡ Some x)
      n = there-named p.scripts key there

      same : IsRemarked p.scripts objects
      same = subst (IsRemarked p.scripts) (sym given) (blackened-remarked (keys_to_blacken p.scripts key) p.scripts)

      r : AreRemarked p (record p { scripts = objects })
      r = heaps-remarked p l objects p.to_scan same (subst (HasRoom p.to_scan) (sym (remarked-length p.scripts objects same)) l.room)

-- NEW MARKS BY NAMES STAY where an exposure makes objects black
pub marking-raised : (v w : Keyed) (keys : List ℕ) → w.marking ≡ v.marking → w.scripts ≡ raised_among keys Black v.scripts → marks_of w ≡ marks_of v
marking-raised v w keys lists scripts = (λ i. option_map (new_marks_in (scripts i)) (lists i))
    ∙ ap (λ g. option_map g v.marking) (fun_ext (marks-renamed (raise_among keys) (KeepsObjects-raised keys).key (KeepsObjects-raised keys).name (new_mark-raised keys) v.scripts))
