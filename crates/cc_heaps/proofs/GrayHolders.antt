-- WHO HOLDS A GRAY SCRIPT OBJECT, by keys and by names alike.
use Rattle.std.proofs.Common.{◌≡◌, ℕ, zero, suc, ◌<◌, ◌≤◌, Bool, true, false, ◌||◌, List, [], ◌∷◌, ◌++◌, map, length, get_or, Option, Some, None, IsSome, is_some, option_map, refl, sym, ◌∙◌, ap, subst, inl, inr, arith, count_by}
use Rattle.std.specs.List.{filter, find, list_any}
use Rattle.std.specs.Option.{option_to_list}
use Rattle.std.proofs.lemmas.Bool.{true≢false}
use Rattle.std.proofs.lemmas.Simd.{map-map}
use Rattle.cc_lists.specs.Members.{Among}
use Rattle.cc_lists.proofs.Members.{Among-map, Among-filter, Among-filtered, Among-passes}
use Rattle.cc_lists.proofs.Filtering.{find-among, find-passes, filter-agree}
use Rattle.cc_lists.proofs.Searching.{find-some, filter-map}
use Rattle.cc_lists.proofs.ListWrites.{only-member, each-map}
use Rattle.cc_lists.proofs.Counting.{count_by-map}
use Rattle.cc_names.specs.declared.name.Name.{Name}
use Rattle.cc_names.specs.declared.name.Name.TheVariants as name
use Rattle.cc_names.specs.Names.{native, same_name, is_native}
use Rattle.cc_names.proofs.NameTests.{same_name-true, same_name-refl}
use Rattle.cc_model.specs.Slots.{Slots, contents}
use Rattle.cc_model.specs.Heap.{Heap, HeapNative, HeapScript, native_at, is_gray_colour, is_gray_in}
use Rattle.cc_model.specs.WellFormed.{IsWellFormed}
use Rattle.cc_model.specs.Units.{holds_gray}
use Rattle.cc_laws_heap.proofs.Face.{IsRising-distinct, native_at-member}
use Rattle.cc_counted.specs.Counts.{Counts, references_of}
use Rattle.cc_counted.specs.Counts as counts
use Rattle.cc_counted.specs.Owning.{HasKeys}
use Rattle.cc_script.specs.Objects.{Object, object_at}
use Rattle.cc_heaps.specs.Keyed.{named_object}
use Rattle.cc_heaps.specs.Holders.{holder_numbers}
use Rattle.cc_heaps.specs.GrayHeld.{IsHeldIn, is_gray_held, is_gray_if_there, is_holder, numbers_in}
use Rattle.cc_heaps.specs.Named.{own_name, named_native, IsHeldThere}
use Rattle.cc_heaps.specs.Fields.{heap_of, IsLinked}
use Rattle.cc_heaps.specs.Roots.{references_in}
use Rattle.cc_heaps.specs.declared.heaps.Heaps.TheInside.{Inside}
use Rattle.cc_heaps.proofs.Reaching.{object_at-found, same-tests}
use Rattle.cc_heaps.proofs.Naming.{name_in}
use Rattle.cc_heaps.proofs.References.{native-found, references-found}
use Rattle.cc_heaps.proofs.ReferenceNames.{references-there, contents-named}

-- References walked

-- one that passes is one of some
pub any-some : {X : Type 0} (p : X → Bool) (xs : List X) (d : X) (k : ℕ) → k < length xs → p (get_or xs k d) ≡ true → list_any p xs ≡ true
any-some p [] d k l e = absurd (omega (arith, l))
any-some p (x ∷ xs) d zero l e = rw e refl
any-some p (x ∷ xs) d (suc k) l e = go (any-some p xs d k (omega (arith, l)) e) (p x)
  where
    go : list_any p xs ≡ true → (b : Bool) → (b || list_any p xs) ≡ true
    go ih true = refl
    go ih false = ih

-- where none passes, none does
pub any-none : {X : Type 0} (p : X → Bool) (xs : List X) (d : X) → ((k : ℕ) → k < length xs → p (get_or xs k d) ≡ false) → list_any p xs ≡ false
any-none p [] d h = refl
any-none p (x ∷ xs) d h = ap (λ b. b || list_any p xs) (h 0 (omega arith)) ∙ any-none p xs d (λ k l. h (suc k) (omega (arith, l)))

-- whether native k of a counted heap holds a gray script object
abbrev pub holds_found : List Object → Counts → Option HeapNative → Bool
holds_found objects c None = false
holds_found objects c (Some n) = list_any (is_gray_held objects) (references_in c n)

abbrev pub holds : List Object → Counts → ℕ → Bool
holds objects c k = holds_found objects c (native_at (counts.heap_of c) k)

-- Gray by name

module _ (h : Heap) (one_name : (x : Name) → count_by (λ (o : HeapScript). same_name o.name x) h.scripts ≤ 1) where
  -- what is gray by name is the one object of that name
  gray-found : (o : HeapScript) → Among o h.scripts → is_gray_in h o.name ≡ is_gray_colour o.colour
  gray-found o m = same-tests (is_gray_in h o.name) (is_gray_colour o.colour) there back
    where
      of_name : List HeapScript
      of_name = filter (λ p. same_name p.name o.name) h.scripts

      there : is_gray_in h o.name ≡ true → is_gray_colour o.colour ≡ true
      there e = go (find (λ p. is_gray_colour p.colour) of_name) refl e
        where
          go : (f : Option HeapScript) → find (λ p. is_gray_colour p.colour) of_name ≡ f → is_some f ≡ true → is_gray_colour o.colour ≡ true
          go None f t = absurd (true≢false (sym t))
          go (Some p) f t =
              let i : Among p of_name = find-among (λ p. is_gray_colour p.colour) of_name p f in
              let same : p ≡ o = only-member (λ p. same_name p.name o.name) h.scripts p o (one_name o.name)
              (Among-filtered (λ p. same_name p.name o.name) p h.scripts i) (Among-passes (λ p. same_name p.name o.name) p h.scripts i)
              m (same_name-refl o.name) in
              ap (λ (q : HeapScript). is_gray_colour q.colour) (sym same) ∙ find-passes (λ p. is_gray_colour p.colour) of_name p f

      back : is_gray_colour o.colour ≡ true → is_gray_in h o.name ≡ true
      back e = let f = find-some (λ p. is_gray_colour p.colour) of_name o (Among-filter (λ p. same_name p.name o.name) o h.scripts m (same_name-refl o.name)) e in ap is_some f.1

  -- what is no script object is not gray
  gray-none : (x : Name) → ((o : HeapScript) → Among o h.scripts → o.name ≡ x → ⊥) → is_gray_in h x ≡ false
  gray-none x none = go (find (λ o. is_gray_colour o.colour) (filter (λ o. same_name o.name x) h.scripts)) refl
    where
      go : (f : Option HeapScript) → find (λ o. is_gray_colour o.colour) (filter (λ o. same_name o.name x) h.scripts) ≡ f → is_some f ≡ false
      go None f = refl
      go (Some o) f =
          let i : Among o (filter (λ o. same_name o.name x) h.scripts) = find-among (λ o. is_gray_colour o.colour) (filter (λ o. same_name o.name x) h.scripts) o f in
          absurd (none o (Among-filtered (λ o. same_name o.name x) o h.scripts i) (same_name-true o.name x (Among-passes (λ o. same_name o.name x) o h.scripts i)))

module _ (p : Inside) (l : IsLinked p) where
  abbrev h : Heap
  h = heap_of p

  one_name-named : (x : Name) → count_by (λ (o : HeapScript). same_name o.name x) h.scripts ≤ 1
  one_name-named x = subst (λ n. n ≤ 1) (sym (count_by-map (λ (o : HeapScript). same_name o.name x) (named_object p.scripts) p.scripts)) (l.one_name x)

  no_script : (k : ℕ) (o : HeapScript) → Among o h.scripts → o.name ≡ native k → ⊥
  no_script k = each-map (λ o. o.name ≡ native k → ⊥) (named_object p.scripts) p.scripts
      (λ o m e. true≢false (sym (ap is_native e) ∙ l.script_names o m))

  -- what a native refers to is gray by key as it is by name
  gray-alike : (x : Name) → IsHeldThere p.scripts x →
      (y : Name) × (own_name p.scripts x ≡ Some y) × (is_gray_in h y ≡ is_gray_held p.scripts (Some x))
  gray-alike (name.Native k) t = (name.Native k, refl, gray-none h one_name-named (name.Native k) (no_script k.0))
  gray-alike (name.Script k) t = go (object_at p.scripts k.0) refl t
    where
      go : (f : Option Object) → object_at p.scripts k.0 ≡ f → is_some f ≡ true →
          (y : Name) × (option_map (λ (o : Object). o.name) f ≡ Some y) × (is_gray_in h y ≡ is_gray_if_there (option_map (λ (o : Object). o.colour) f))
      go None f e = absurd (true≢false (sym e))
      go (Some o) f e = (
        o.name,
        refl,
        gray-found h one_name-named (named_object p.scripts o) (Among-map (named_object p.scripts) o p.scripts (object_at-found p.scripts k.0 o f).0),
      )
  gray-alike (name.Reflector k) t = absurd t

  -- so is one of some references
  references-alike : (xs : Slots) → ((x : Name) → Among x (contents xs) → IsHeldThere p.scripts x) →
      list_any (is_gray_in h) (contents (map (name_in p.scripts) xs)) ≡ list_any (is_gray_held p.scripts) xs
  references-alike [] t = refl
  references-alike (None ∷ xs) t = references-alike xs t
  references-alike (Some x ∷ xs) t =
      let g = gray-alike x (t x (inl refl)) in
      subst (λ (o : Option Name). list_any (is_gray_in h) (option_to_list o ++ contents (map (name_in p.scripts) xs)) ≡ list_any (is_gray_held p.scripts) (Some x ∷ xs)) (sym g.1)
      (λ i. g.2 i || references-alike xs (λ y m. t y (inr m)) i)

  module _ (k : HasKeys p.counted) where
    -- what a native refers to is there, as far as it is a script object
    pub held-in : (key : ℕ) → IsSome (counts.number_at p.counted key) → (i : ℕ) → IsHeldIn p.scripts (get_or (references_of p.counted key) i None)
    held-in key live i =
        let f = native-found p.counted k key live in
        subst (λ xs. IsHeldIn p.scripts (get_or xs i None)) (sym (references-found p.counted k key f.0 f.1 f.2))
        (at (references_in p.counted f.0) i (λ x j. references-there p l k f.0 x f.1 j))
      where
        at : (xs : Slots) (i : ℕ) → ((x : Name) → Among x (contents xs) → IsHeldThere p.scripts x) → IsHeldIn p.scripts (get_or xs i None)
        at [] i t = tt
        at (None ∷ xs) zero t = tt
        at (Some x ∷ xs) zero t = t x (inl refl)
        at (None ∷ xs) (suc i) t = at xs i t
        at (Some x ∷ xs) (suc i) t = at xs i (λ y m. t y (inr m))

    native_at-own : (n : HeapNative) → Among n p.counted.natives → native_at (counts.heap_of p.counted) n.number ≡ Some n
    native_at-own n m = native_at-member (counts.heap_of p.counted) (IsRising-distinct (counts.heap_of p.counted) k.rising) n m

    -- a native holds a gray one by its key as it does by its number
    pub holder-numbered : (key : ℕ) → IsSome (counts.number_at p.counted key) → is_holder p.scripts p.counted key ≡ holds p.scripts p.counted (counts.the_number p.counted key)
    holder-numbered key live =
        let f = native-found p.counted k key live in
        ap (list_any (is_gray_held p.scripts)) (references-found p.counted k key f.0 f.1 f.2)
        ∙ ap (holds_found p.scripts p.counted) (sym (ap (λ o. native_at (counts.heap_of p.counted) (counts.number_or_none o)) f.2 ∙ native_at-own f.0 f.1))

    module _ (w : IsWellFormed h) where
      -- and by names
      holder-alike : (n : HeapNative) → Among n p.counted.natives → holds_gray h (named_native p.scripts n) ≡ holds p.scripts p.counted n.number
      holder-alike n m =
          ap (list_any (is_gray_in h)) (sym (contents-named p l k w n m))
          ∙ (references-alike (references_in p.counted n) (λ x i. references-there p l k n x m i)
          ∙ ap (holds_found p.scripts p.counted) (sym (native_at-own n m)))

      -- THE HOLDERS are the same.
      pub holder_numbers-is : holder_numbers h ≡ filter (holds p.scripts p.counted) (numbers_in p.counted)
      holder_numbers-is =
          ap (map number) (filter-map (holds_gray h) (named_native p.scripts) p.counted.natives)
          ∙ (map-map number (named_native p.scripts) (filter (λ n. holds_gray h (named_native p.scripts n)) p.counted.natives)
          ∙ (ap (map number) (filter-agree (λ n. holds_gray h (named_native p.scripts n)) (λ n. holds p.scripts p.counted n.number) p.counted.natives holder-alike)
          ∙ sym (filter-map (holds p.scripts p.counted) number p.counted.natives)))
        where
          number : HeapNative → ℕ
          number n = n.number
