-- A WALK OVER SCRIPT OBJECTS BY KEYS goes by their names.
use Rattle.std.proofs.Common.{◌≡◌, ℕ, ◌+◌, ◌≤◌, Bool, true, false, cond, [], List, ◌∷◌, ◌++◌, map, count_by, Option, Some, None, option_map, refl, sym, ◌∙◌, ap, subst, inl, inr, arith}
use Rattle.std.specs.Prelude.{IfSome, IsTrue}
use Rattle.std.specs.List.{filter}
use Rattle.std.specs.Option.{option_to_list}
use Rattle.std.proofs.lemmas.List.{map-append}
use Rattle.std.proofs.lemmas.Simd.{map-map}
use Rattle.cc_lists.specs.Members.{Among}
use Rattle.cc_lists.specs.Walks.{HasDistinctKeys, first_of, first_key, left_at, next_key}
use Rattle.cc_lists.proofs.Counting.{count_by-append, count_by-cons}
use Rattle.cc_lists.proofs.CountsOf.{count_by-none_passes}
use Rattle.cc_lists.proofs.Members.{Among-right}
use Rattle.cc_lists.proofs.Walks.{among-between, left-first, left-next, next-between, others-around}
use Rattle.cc_names.specs.declared.name.Name.{Name}
use Rattle.cc_names.specs.declared.name.Name.TheVariants as name
use Rattle.cc_names.specs.declared.number.SKey.{SKey}
use Rattle.cc_names.specs.Names.{native, same_name}
use Rattle.cc_names.proofs.NameTests.{same_name-refl}
use Rattle.cc_model.specs.Given.{is_living}
use Rattle.cc_model.specs.Heap.{HeapNative, HeapScript}
use Rattle.cc_model.specs.WellFormed.{script_names}
use Rattle.cc_laws_heap.proofs.Face.{is_some-found, native-no_script}
use Rattle.cc_script.specs.Objects.{Object, key_after, name_at}
use Rattle.cc_script.specs.Objects as objects
use Rattle.cc_heaps.specs.Keyed.{Keyed, IsInOrder, named_object}
use Rattle.cc_heaps.specs.Changes.{IsScriptThere, script_name}
use Rattle.cc_heaps.proofs.EntryNames.{one_name-order}
use Rattle.cc_heaps.proofs.Keys.{name-in}
use Rattle.cc_heaps.proofs.Reaching.{name_at-found, name_at-own, object_at-found}
use Rattle.cc_host.specs.Walks.{behind, objects_in}
use Rattle.cc_host.proofs.WalksLists.{behind-here, behind-past}

abbrev pub key_in : Object → ℕ
key_in o = o.key

abbrev pub name_in : Object → Name
name_in o = o.name

-- a key as a number
abbrev pub number_of_key : Option SKey → Option ℕ
number_of_key at = option_map (λ (k : SKey). k.0) at

-- a script object's name is not that of a native
apart-native : (x : Name) (k : ℕ) → ((j : ℕ) → x ≡ native j → ⊥) → same_name (native k) x ≡ false
apart-native (name.Native j) k other = absurd (other j.0 refl)
apart-native (name.Script j) k other = refl
apart-native (name.Reflector j) k other = refl

module _ (v : Keyed) (o : IsInOrder [] v) where
  pub script_names-objects : script_names v.heap ≡ map name_in v.scripts
  script_names-objects = ap (map (λ (s : HeapScript). s.name)) o.named ∙ map-map (λ (s : HeapScript). s.name) (named_object v.scripts) v.scripts

  -- the key of the first of some objects has its name
  first-named : (rest : List Object) → ((p : Object) → Among p rest → Among p v.scripts) → (at : Option SKey) → number_of_key at ≡ first_key key_in rest →
      script_name v at ≡ first_of (map name_in rest)
  first-named [] all None e = refl
  first-named [] all (Some k) e = absurd (cc)
  first-named (p ∷ ps) all None e = absurd (cc)
  first-named (p ∷ ps) all (Some k) e =
      let same : k.0 ≡ p.key = cc in
      ap (name_at v.scripts) same ∙ name_at-own v.scripts o.one_key p (all p (inl refl))

  -- THE FIRST KEY has the first name,
  pub scripts-first : (os : List Object) → os ≡ v.scripts → (at : Option SKey) → number_of_key at ≡ objects.first_key os → script_name v at ≡ first_of (script_names v.heap)
  scripts-first os is at e =
      first-named v.scripts (λ p m. m) at (e ∙ ap objects.first_key is) ∙ ap first_of (sym script_names-objects)

  module _ (key : SKey) (x : Name) (named : name_at v.scripts key.0 ≡ Some x) where
    -- no native has its name
    no-native : (k : ℕ) → x ≡ native k → ⊥
    no-native k e = native-no_script v.heap k o.sound.well_formed
        (subst (λ y. Among y (script_names v.heap)) e
        (name-in v.heap v.scripts o.named key.0 x (subst (λ y. Among x (option_to_list y)) (sym named) (inl refl))))

    -- AND THE NEXT KEY the name behind.
    pub scripts-next : (os : List Object) → os ≡ v.scripts → (at : Option SKey) → number_of_key at ≡ key_after os key.0 → script_name v at ≡ behind x (objects_in v.heap)
    scripts-next os is at e =
        let f = name_at-found v.scripts key.0 x named in
        let b = among-between f.0 v.scripts f.1 in
        let keys = others-around key_in b.before f.0 b.behind (subst (HasDistinctKeys key_in) b.whole o.one_key) in
        let next : number_of_key at ≡ first_key key_in b.behind =
        e ∙ (ap (λ ps. key_after ps key.0) (is ∙ b.whole)
        ∙ (ap (key_after (b.before ++ f.0 ∷ b.behind)) (sym f.2) ∙ next-between key_in f.0 b.behind b.before keys.0)) in
        let all : (p : Object) → Among p b.behind → Among p v.scripts =
        λ p m. subst (Among p) (sym b.whole) (Among-right p b.before (f.0 ∷ b.behind) (inr m)) in
        first-named b.behind all at next ∙ sym (passed f.0 b.before b.behind b.whole f.1 f.3)
      where
        passed : (p : Object) (before rest : List Object) → v.scripts ≡ before ++ p ∷ rest → Among p v.scripts → p.name ≡ x →
            behind x (objects_in v.heap) ≡ first_of (map name_in rest)
        passed p before rest whole m is_x =
            behind-past (λ (n : HeapNative). native n.number) x (filter is_living v.heap.natives) (script_names v.heap) (λ n i. apart-native x n.number no-native)
            ∙ (ap (behind x) (script_names-objects ∙ (ap (map name_in) whole ∙ map-append name_in before (p ∷ rest)))
            ∙ (behind-past name_in x before (p.name ∷ map name_in rest) apart
            ∙ behind-here x p.name (map name_in rest) (subst (λ y. same_name y x ≡ true) (sym is_x) (same_name-refl x))))
          where
            test : Object → Bool
            test q = same_name q.name x

            here : test p ≡ true
            here = subst (λ y. same_name y x ≡ true) (sym is_x) (same_name-refl x)

            counted : count_by test before + (1 + count_by test rest) ≤ 1
            counted = subst (λ n. n ≤ 1)
                (ap (count_by test) whole ∙ (count_by-append test before (p ∷ rest)
                ∙ ap (λ n. count_by test before + n) (count_by-cons test p rest ∙ ap (λ b. cond b 1 0 + count_by test rest) here)))
                (one_name-order [] v o x)

            apart : (q : Object) → Among q before → same_name q.name x ≡ false
            apart q i = count_by-none_passes test before q (omega (arith, counted)) i

-- what is left where a walk stands at a key
abbrev pub scripts_from : Keyed → Option SKey → List Object
scripts_from v at = left_at key_in v.scripts (number_of_key at)

module _ (v : Keyed) (o : IsInOrder [] v) where
  -- what is there of the script heap is there
  pub script-there : (os : List Object) → os ≡ v.scripts → (at : Option SKey) → IfSome at (λ (key : SKey). IsTrue (objects.is_there os key.0)) → IsScriptThere v at
  script-there os is None live = tt
  script-there os is (Some key) live = subst (λ (ps : List Object). IsTrue (objects.is_there ps key.0)) is live

  -- at the first key all are left
  pub scripts-all : (os : List Object) → os ≡ v.scripts → (at : Option SKey) → number_of_key at ≡ objects.first_key os → scripts_from v at ≡ v.scripts
  scripts-all os is at e = ap (left_at key_in v.scripts) (e ∙ ap objects.first_key is) ∙ left-first key_in v.scripts

  module _ (key : SKey) (there : IsScriptThere v (Some key)) where
    found : (p : Object) × (objects.object_at v.scripts key.0 ≡ Some p)
    found = is_some-found (objects.object_at v.scripts key.0) there

    -- AT A KEY ITS OBJECT IS LEFT, and those behind it,
    pub scripts-at : (p : Object) × (rest : List Object) × (objects.object_at v.scripts key.0 ≡ Some p) × (scripts_from v (Some key) ≡ p ∷ rest)
    scripts-at =
        let m = object_at-found v.scripts key.0 found.0 found.1 in (
          found.0,
          left_at key_in v.scripts (next_key key_in v.scripts found.0.key),
          found.1,
          ap (λ k. left_at key_in v.scripts (Some k)) (sym m.1) ∙ left-next key_in v.scripts found.0 o.one_key m.0,
        )

    -- which are left at the next.
    pub scripts-left : (os : List Object) → os ≡ v.scripts → (next : Option SKey) → number_of_key next ≡ key_after os key.0 →
        (p : Object) × (objects.object_at v.scripts key.0 ≡ Some p) × (scripts_from v (Some key) ≡ p ∷ scripts_from v next)
    scripts-left os is next e =
        let m = object_at-found v.scripts key.0 found.0 found.1 in (
          found.0,
          found.1,
          ap (λ k. left_at key_in v.scripts (Some k)) (sym m.1)
              ∙ (left-next key_in v.scripts found.0 o.one_key m.0
              ∙ ap (λ k. found.0 ∷ left_at key_in v.scripts k) (ap (key_after v.scripts) m.1 ∙ (ap (λ ps. key_after ps key.0) (sym is) ∙ sym e))),
        )
