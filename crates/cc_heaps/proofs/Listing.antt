-- NATIVES LISTED one after the other, and then script objects: those listed so far, and those that are left.
use Rattle.cc_heaps.proofs.Registers.{none-by}
use Rattle.cc_laws_heap.proofs.Face.{is_some-found}
use Rattle.std.proofs.Common.{◌≡◌, ℕ, ◌+◌, ◌<◌, ◌≤◌, true, List, [], ◌∷◌, ◌++◌, map, length, Option, Some, None, IfSome, option_map, refl, sym, ◌∙◌, ap, subst, arith, append-nil, length-append, nat_lt}
use Rattle.std.specs.Prelude.{IsTrue}
use Rattle.std.specs.List.{filter}
use Rattle.std.specs.Option.{is_some, option_and_then}
use Rattle.std.proofs.lemmas.List.{length-map, map-append, append_assoc}
use Rattle.std.proofs.lemmas.Simd.{map-map}
use Rattle.cc_lists.specs.Members.{Among}
use Rattle.cc_lists.specs.Walks.{HasDistinctKeys, first_key, left_at, next_key}
use Rattle.cc_lists.proofs.Rising.{rising-distinct}
use Rattle.cc_lists.proofs.RisingWalks.{next-above}
use Rattle.cc_lists.proofs.Walks.{StandsAt, first-stands, left-first, left-next, next-stands, stands-at}
use Rattle.cc_lists.proofs.ListWrites.{map-kept}
use Rattle.cc_names.specs.declared.name.Name.{Name}
use Rattle.cc_names.specs.declared.number.NKey.{NKey}
use Rattle.cc_names.specs.declared.number.SKey.{SKey}
use Rattle.cc_names.specs.Names.{native}
use Rattle.cc_model.specs.declared.item.Item.{Item}
use Rattle.cc_model.specs.declared.item.Item.TheVariants.{Listed}
use Rattle.cc_model.specs.Telling.{Telling, Tells}
use Rattle.cc_model.specs.Heap.{HeapNative, HeapScript}
use Rattle.cc_model.specs.WellFormed.{IsRising, native_names, script_names}
use Rattle.cc_model.proofs.Tellings.{Tells-nil, Tells-trans}
use Rattle.cc_counted.specs.Counts.{Counts, number_at, the_number, number_or_none, first_number, number_after}
use Rattle.cc_script.specs.Objects.{Object, is_there, name_at, first_key as first_object, key_after}
use Rattle.cc_heaps.specs.Keyed.{IsInOrder, named_object}
use Rattle.cc_heaps.specs.Named.{named_native}
use Rattle.cc_heaps.specs.Fields.{heap_of, keyed_of}
use Rattle.cc_heaps.specs.declared.heaps.Heaps.TheInside.{Inside}
use Rattle.cc_heaps.proofs.Limited.{natives-limited, scripts-limited}
use Rattle.cc_heaps.proofs.Reaching.{HasOneKey, name_at-own}

-- What is told

-- the items of some names
abbrev pub listing : List Name → List Item
listing names = map Listed names

-- some names listed, and then others
pub told-both : (a b c : Telling) (xs ys : List Name) → Tells a b (listing xs) → Tells b c (listing ys) → Tells a c (listing (xs ++ ys))
told-both a b c xs ys s t = subst (Tells a c) (sym (map-append Listed xs ys)) (Tells-trans a b c (listing xs) (listing ys) s t)

-- one more
told-last : (a b c : Telling) (xs : List Name) (y : Name) → Tells a b (listing xs) → Tells b c (Listed y ∷ []) → Tells a c (listing (xs ++ y ∷ []))
told-last a b c xs y s t = told-both a b c xs (y ∷ []) s t

-- The members of a list told one after the other

-- the names told so far, and those that are left where the walk stands
pub record AreTold (X : Type 0) (name : X → Name) (key : X → ℕ) (all : List X) (at : Option ℕ) (count : ℕ) (before after : Telling) : Type 0 where
  pub listed : List Name
  pub stands : first_key key (left_at key all at) ≡ at
  pub whole : listed ++ map name (left_at key all at) ≡ map name all
  pub told : Tells before after (listing listed)
  pub counted : count ≡ length listed

-- all are told, so many at most
pub record AreAllTold (most : ℕ) (names : List Name) (count : ℕ) (before after : Telling) : Type 0 where
  pub told : Tells before after (listing names)
  pub counted : count ≡ length names
  pub few : count ≤ most

module _ {X : Type 0} (name : X → Name) (key : X → ℕ) (all : List X) where
  pub none-told : (at : Option ℕ) (before : Telling) → at ≡ first_key key all → AreTold X name key all at 0 before before
  none-told at before e = record {
    listed = [];
    stands = subst (λ o. first_key key (left_at key all o) ≡ o) (sym e) (first-stands key all);
    whole = ap (map name) (ap (left_at key all) e ∙ left-first key all);
    told = Tells-nil before;
    counted = refl;
  }

  module _ (count : ℕ) (before after : Telling) where
    module _ (j : ℕ) (k : AreTold X name key all (Some j) count before after) where
      -- the member at which the walk stands
      s : StandsAt key all j
      s = stands-at key all j k.stands

      -- at a key one is left
      pub told-few : count < length all
      told-few = omega (
        arith,
        k.counted,
        ap length (sym (ap (λ xs. k.listed ++ map name xs) s.left) ∙ k.whole),
        length-append k.listed (map name (s.this ∷ s.behind)),
        length-map all name,
      )

      -- one more told
      pub told-next : HasDistinctKeys key all → (next : Option ℕ) (later : Telling) →
          ((x : X) → Among x all → key x ≡ j → (next ≡ next_key key all (key x)) × Tells after later (Listed (name x) ∷ [])) →
          AreTold X name key all next (count + 1) before later
      told-next once next later step =
          let x = s.this in
          let t = step x s.there s.here in
          let rest : left_at key all (Some j) ≡ x ∷ left_at key all next =
          ap (λ i. left_at key all (Some i)) (sym s.here) ∙ (left-next key all x once s.there ∙ ap (λ o. x ∷ left_at key all o) (sym t.0)) in
          record {
            listed = k.listed ++ name x ∷ [];
            stands = subst (λ o. first_key key (left_at key all o) ≡ o) (sym t.0) (next-stands key all x once s.there);
            whole = append_assoc k.listed (name x ∷ []) (map name (left_at key all next)) ∙ (ap (λ xs. k.listed ++ map name xs) (sym rest) ∙ k.whole);
            told = told-last before after later k.listed (name x) k.told t.1;
            counted = ap (λ i. i + 1) k.counted ∙ sym (length-append k.listed (name x ∷ []));
          }

    -- none is left
    pub told-all : AreTold X name key all None count before after → (names : List Name) → names ≡ map name all → (most : ℕ) → length names ≤ most → AreAllTold most names count before after
    told-all k names same most few =
        let whole : k.listed ≡ names = sym (append-nil k.listed) ∙ (k.whole ∙ sym same) in
        let counted : count ≡ length names = k.counted ∙ ap length whole in
        record { told = subst (λ xs. Tells before after (listing xs)) whole k.told; counted = counted; few = omega (arith, counted, few) }

-- Natives

abbrev pub names_of_natives : List HeapNative → List Name
names_of_natives ns = map (λ n. native n.number) ns

abbrev pub numbers_of_natives : List HeapNative → List ℕ
numbers_of_natives ns = map (λ n. n.number) ns

-- the number of the native at a key, where there is one
abbrev pub number_of : Counts → Option NKey → Option ℕ
number_of c at = option_and_then (λ (key : NKey). number_at c key.0) at

-- the key of the first native that is left
abbrev pub IsNext : Counts → Option NKey → Option ℕ → Type 0
IsNext c at k = number_of c at ≡ k

abbrev pub IsLiveKey : Counts → Option NKey → Type 0
IsLiveKey c at = IfSome at (λ (key : NKey). is_some (number_at c key.0) ≡ true)

-- those before the key are listed and counted
abbrev pub AreNativesTold : Counts → Option ℕ → ℕ → Telling → Telling → Type 0
AreNativesTold c at count before after = AreTold HeapNative (λ n. native n.number) (λ n. n.number) c.natives at count before after

pub record NativesListed (c : Counts) (at : Option NKey) (count : ℕ) (before after : Telling) : Type 0 where
  pub walk : AreNativesTold c (number_of c at) count before after
  pub there : IsLiveKey c at

-- the number of the first native is its key in this walk
first_number-key : (ns : List HeapNative) → first_number ns ≡ first_key (λ (n : HeapNative). n.number) ns
first_number-key ns = grind arith

pub no_natives-listed : (c : Counts) (at : Option NKey) (before : Telling) → IsNext c at (first_number c.natives) → IsLiveKey c at → NativesListed c at 0 before before
no_natives-listed c at before first there = grind (arith, none-told, first_number-key)

module _ (c : Counts) {at : Option NKey} {count : ℕ} {before after : Telling} where
  -- at a key one is left
  pub natives-few : (key : NKey) → at ≡ Some key → NativesListed c at count before after → count < length c.natives
  natives-few key e k =
      let f = is_some-found (number_at c key.0) (subst (IsLiveKey c) e k.there) in
      told-few (λ (n : HeapNative). native n.number) (λ (n : HeapNative). n.number) c.natives count before after f.0
      (subst (λ a. AreNativesTold c a count before after) (ap (number_of c) e ∙ f.1) k.walk)

  -- one more listed
  pub natives-next : IsRising (numbers_of_natives c.natives) → (key : NKey) → at ≡ Some key → NativesListed c at count before after → (j : ℕ) → number_at c key.0 ≡ Some j →
      {next : Option NKey} → IsNext c next (number_after c (the_number c key.0)) → IsLiveKey c next → {later : Telling} → Tells after later (Listed (native j) ∷ []) →
      NativesListed c next (count + 1) before later
  natives-next rising key e k j f {next} first there {later} told = record {
    walk = told-next (λ (n : HeapNative). native n.number) (λ (n : HeapNative). n.number) c.natives count before after j
        (subst (λ a. AreNativesTold c a count before after) (ap (number_of c) e ∙ f) k.walk)
        (rising-distinct (λ (n : HeapNative). n.number) c.natives rising) (number_of c next) later (λ n m here. (
          first
              ∙ (first_number-key (filter (λ p. nat_lt (the_number c key.0) p.number) c.natives)
              ∙ (ap (λ i. first_key (λ (p : HeapNative). p.number) (filter (λ p. nat_lt i p.number) c.natives)) (ap number_or_none f ∙ sym here)
              ∙ sym (next-above (λ (p : HeapNative). p.number) c.natives rising n m))),
          subst (λ i. Tells after later (Listed (native i) ∷ [])) (sym here) told,
        ));
    there = there;
  }

-- Script objects

abbrev pub names_of_objects : List Object → List Name
names_of_objects os = map (λ o. o.name) os

-- the key of the first object that is left
abbrev pub IsNextObject : Option SKey → Option ℕ → Type 0
IsNextObject at k = option_map (λ (key : SKey). key.0) at ≡ k

abbrev pub IsObjectThere : List Object → Option SKey → Type 0
IsObjectThere os at = IfSome at (λ (key : SKey). IsTrue (is_there os key.0))

-- those before the key are listed and counted
abbrev pub AreObjectsTold : List Object → Option ℕ → ℕ → Telling → Telling → Type 0
AreObjectsTold os at count before after = AreTold Object (λ o. o.name) (λ o. o.key) os at count before after

pub record ObjectsListed (os : List Object) (at : Option SKey) (count : ℕ) (before after : Telling) : Type 0 where
  pub walk : AreObjectsTold os (option_map (λ (key : SKey). key.0) at) count before after
  pub there : IsObjectThere os at

pub no_objects-listed : (os : List Object) (at : Option SKey) (before : Telling) → IsNextObject at (first_object os) → IsObjectThere os at → ObjectsListed os at 0 before before
no_objects-listed os at before first there = grind (arith, none-told)

module _ (os : List Object) {at : Option SKey} {count : ℕ} {before after : Telling} where
  -- at a key one is left
  pub objects-few : (key : SKey) → at ≡ Some key → ObjectsListed os at count before after → count < length os
  objects-few key e k = told-few (λ (o : Object). o.name) (λ (o : Object). o.key) os count before after key.0
      (subst (λ a. AreObjectsTold os (option_map (λ (key : SKey). key.0) a) count before after) e k.walk)

  -- one more listed
  pub objects-next : HasOneKey os → (key : SKey) → at ≡ Some key → ObjectsListed os at count before after → (x : Name) → name_at os key.0 ≡ Some x →
      {next : Option SKey} → IsNextObject next (key_after os key.0) → IsObjectThere os next → {later : Telling} → Tells after later (Listed x ∷ []) →
      ObjectsListed os next (count + 1) before later
  objects-next one key e k x f {next} first there {later} told = record {
    walk = told-next (λ (o : Object). o.name) (λ (o : Object). o.key) os count before after key.0
        (subst (λ a. AreObjectsTold os (option_map (λ (key : SKey). key.0) a) count before after) e k.walk)
        one (option_map (λ (key : SKey). key.0) next) later (λ o m here.
        let named : Some x ≡ Some o.name = sym f ∙ (ap (name_at os) (sym here) ∙ name_at-own os one o m) in
        let is : x ≡ o.name = cc in
        (first ∙ ap (key_after os) (sym here), subst (λ y. Tells after later (Listed y ∷ [])) is told));
    there = there;
  }

-- In the parts

-- what is not something is nothing
pub none-left : {X : Type 0} (o : Option X) → ((x : X) → o ≡ Some x → ⊥) → o ≡ None
none-left o n = none-by (λ x. o ≡ x) n o refl

module _ (p : Inside) where
  pub native_names-counted : native_names (heap_of p) ≡ names_of_natives p.counted.natives
  native_names-counted = map-map (λ (n : HeapNative). native n.number) (named_native p.scripts) p.counted.natives

  pub script_names-objects : script_names (heap_of p) ≡ names_of_objects p.scripts
  script_names-objects = map-map (λ (o : HeapScript). o.name) (named_object p.scripts) p.scripts

  pub rising-counted : (owned : List ℕ) → IsInOrder owned (keyed_of p) → IsRising (numbers_of_natives p.counted.natives)
  rising-counted owned o = subst IsRising (map-kept (λ n. n.number) (named_native p.scripts) p.counted.natives (λ n. refl)) o.sound.well_formed.rising

  pub natives-limited_to : (owned : List ℕ) → IsInOrder owned (keyed_of p) → length p.counted.natives ≤ 1000000
  natives-limited_to owned o = omega (arith, natives-limited owned (keyed_of p) o, length-map p.counted.natives (named_native p.scripts))

  pub native_names-limited : (owned : List ℕ) → IsInOrder owned (keyed_of p) → length (native_names (heap_of p)) ≤ 1000000
  native_names-limited owned o = omega (arith, natives-limited owned (keyed_of p) o, length-map (heap_of p).natives (λ (n : HeapNative). native n.number))

  pub scripts-limited_to : (owned : List ℕ) → IsInOrder owned (keyed_of p) → length p.scripts ≤ 2000000
  scripts-limited_to owned o = omega (arith, scripts-limited owned (keyed_of p) o, ap length script_names-objects, length-map p.scripts (λ (o : Object). o.name))

  module _ (owned : List ℕ) (order : IsInOrder owned (keyed_of p)) {count : ℕ} {before after : Telling} where
    -- no key is left: all natives are listed
    pub natives-all : {at : Option NKey} → ((key : NKey) → at ≡ Some key → ⊥) → NativesListed p.counted at count before after → AreAllTold 1000000 (native_names (heap_of p)) count before after
    natives-all {at} none k = told-all (λ (n : HeapNative). native n.number) (λ (n : HeapNative). n.number) p.counted.natives count before after
        (subst (λ a. AreNativesTold p.counted (number_of p.counted a) count before after) (none-left at none) k.walk)
        (native_names (heap_of p)) native_names-counted 1000000 (native_names-limited owned order)

    -- and so are all script objects
    pub objects-all : {at : Option SKey} → ((key : SKey) → at ≡ Some key → ⊥) → ObjectsListed p.scripts at count before after → AreAllTold 2000000 (script_names (heap_of p)) count before after
    objects-all {at} none k = told-all (λ (o : Object). o.name) (λ (o : Object). o.key) p.scripts count before after
        (subst (λ a. AreObjectsTold p.scripts (option_map (λ (key : SKey). key.0) a) count before after) (none-left at none) k.walk)
        (script_names (heap_of p)) script_names-objects 2000000 (scripts-limited owned (keyed_of p) order)
