-- SCRIPT OBJECTS WITH OTHER NEW MARKS: all else of them stays.
use Rattle.std.proofs.Common.{arith, ◌≡◌, ℕ, ◌≤◌, Bool, true, false, List, map, length, Option, Some, None, option_map, refl, sym, ◌∙◌, ap, subst, ◌==◌, if◌then◌else◌}
use Rattle.std.specs.Prelude.{IsTrue}
use Rattle.std.specs.Option.{is_some, option_and_then}
use Rattle.std.proofs.lemmas.Bool.{true≢false, eqb-true}
use Rattle.std.proofs.lemmas.List.{length-map, map-id}
use Rattle.std.proofs.lemmas.Simd.{map-map}
use Rattle.cc_lists.proofs.ListWrites.{count_by-kept_map, map-agree}
use Rattle.cc_names.specs.declared.kind.Colour.{Colour}
use Rattle.cc_script.specs.Objects.{Object, change_object, is_there, new_mark_at, object_at, delegate_at, name_at, places_at, places_or_none, slots_at, slots_or_none, with_new_mark}
use Rattle.cc_script.proofs.Keys.{object_at-map, object_at-key}
use Rattle.cc_names.specs.declared.name.Name.{Name}
use Rattle.cc_names.specs.Names.{object, same_name}
use Rattle.cc_heaps.specs.Keyed.{name_held, the_name_at}
use Rattle.cc_heaps.specs.ToScan.{Lists, HasRoom, HasSameRoom}
use Rattle.cc_heaps.specs.NewMarks.{IsRemarked}
use Rattle.cc_heaps.proofs.Reaching.{HasOneKey, HasOneName}
use Rattle.cc_heaps.proofs.ScriptWrites.{KeepsObjects, name_at-written, one_key-written}

-- each has the new mark that is said
abbrev pub remarked : (Object → Colour) → Object → Object
remarked marks o = with_new_mark (marks o) o

pub KeepsObjects-remarked : (marks : Object → Colour) → KeepsObjects (remarked marks)
KeepsObjects-remarked marks = record { key = λ o. refl; name = λ o. refl; kind = λ o. refl; native = λ o. refl; delegate = λ o. refl }

-- one has another new mark
abbrev pub mark_at_key : ℕ → Colour → Object → Colour
mark_at_key key to o = if o.key == key then to else o.new_mark

pub remarked-at : (objects : List Object) (key : ℕ) (to : Colour) → change_object objects key (with_new_mark to) ≡ map (remarked (mark_at_key key to)) objects
remarked-at objects key to = map-agree (λ o. if o.key == key then with_new_mark to o else o) (remarked (mark_at_key key to)) objects (λ o m. go o (o.key == key))
  where
    go : (o : Object) (b : Bool) → (if b then with_new_mark to o else o) ≡ with_new_mark (if b then to else o.new_mark) o
    go o true = refl
    go o false = refl

-- Nothing is changed, or one thing after another.

pub remarked-same : (objects : List Object) → IsRemarked objects objects
remarked-same objects = (λ o. o.new_mark, sym (map-same objects))
  where
    map-same : (os : List Object) → map (λ o. with_new_mark o.new_mark o) os ≡ os
    map-same os = map-agree (λ o. with_new_mark o.new_mark o) (λ o. o) os (λ o m. refl) ∙ map-id os

pub remarked-then : (os ps qs : List Object) → IsRemarked os ps → IsRemarked ps qs → IsRemarked os qs
remarked-then os ps qs a b = (λ o. b.0 (remarked a.0 o), b.1 ∙ (ap (map (remarked b.0)) a.1 ∙ map-map (remarked b.0) (remarked a.0) os))

-- What stands at a key

module _ (os ps : List Object) (same : IsRemarked os ps) where
  -- is there as before
  pub remarked-there : (key : ℕ) → is_there ps key ≡ is_there os key
  remarked-there key = ap (λ qs. is_there qs key) same.1 ∙ (ap is_some (object_at-map (remarked same.0) (λ o. refl) os key) ∙ go (object_at os key))
    where
      go : (o : Option Object) → is_some (option_map (remarked same.0) o) ≡ is_some o
      go None = refl
      go (Some o) = refl

  -- and holds what it held
  pub remarked-places : (key : ℕ) → places_at ps key ≡ places_at os key
  remarked-places key = ap (λ qs. places_at qs key) same.1 ∙ (ap places_or_none (object_at-map (remarked same.0) (λ o. refl) os key) ∙ go (object_at os key))
    where
      go : (o : Option Object) → places_or_none (option_map (remarked same.0) o) ≡ places_or_none o
      go None = refl
      go (Some o) = refl

  pub remarked-length : length ps ≡ length os
  remarked-length = ap length same.1 ∙ length-map os (remarked same.0)

  -- and has the name that it had
  pub remarked-named : (key : ℕ) → name_at ps key ≡ name_at os key
  remarked-named key = ap (λ qs. name_at qs key) same.1 ∙ name_at-written (remarked same.0) (KeepsObjects-remarked same.0) os key

  pub remarked-name : (key : ℕ) → the_name_at ps key ≡ the_name_at os key
  remarked-name key = ap (λ (x : Option Name). elim x [ None ↦ object 0 | Some y ↦ y ]) (remarked-named key)

  pub remarked-held : (x : Option ℕ) → name_held ps x ≡ name_held os x
  remarked-held None = refl
  remarked-held (Some key) = remarked-named key

  pub remarked-slots : (key : ℕ) → slots_at ps key ≡ slots_at os key
  remarked-slots key = ap (λ qs. slots_at qs key) same.1 ∙ (ap slots_or_none (object_at-map (remarked same.0) (λ o. refl) os key) ∙ go (object_at os key))
    where
      go : (o : Option Object) → slots_or_none (option_map (remarked same.0) o) ≡ slots_or_none o
      go None = refl
      go (Some o) = refl

  pub remarked-delegate : (key : ℕ) → delegate_at ps key ≡ delegate_at os key
  remarked-delegate key = ap (λ qs. delegate_at qs key) same.1 ∙ (ap (option_and_then (λ (o : Object). o.delegate)) (object_at-map (remarked same.0) (λ o. refl) os key) ∙ go (object_at os key))
    where
      go : (o : Option Object) → option_and_then (λ (p : Object). p.delegate) (option_map (remarked same.0) o) ≡ option_and_then (λ (p : Object). p.delegate) o
      go None = refl
      go (Some o) = refl

-- No two have one key, or one name, still.
pub one_key-remarked : (os ps : List Object) → IsRemarked os ps → HasOneKey os → HasOneKey ps
one_key-remarked os ps same one = subst HasOneKey (sym same.1) (one_key-written (remarked same.0) (KeepsObjects-remarked same.0) os one)

pub one_name-remarked : (os ps : List Object) → IsRemarked os ps → HasOneName os → HasOneName ps
one_name-remarked os ps same one = subst HasOneName (sym same.1)
    (λ x. subst (λ n. n ≤ 1) (sym (count_by-kept_map (λ (o : Object). same_name o.name x) (remarked same.0) os (λ o. refl))) (one x))

-- There is room for as many.
pub room-same : (l r : Lists) (count again : ℕ) → HasSameRoom l r → again ≡ count → HasRoom l count → HasRoom r again
room-same l r count again same e room = (omega (arith, room.0, same.0), omega (arith, room.1, same.1))

-- THE NEW MARK AT A KEY once one object was given another
pub new_mark-given : (objects : List Object) (key : ℕ) (to : Colour) → IsTrue (is_there objects key) →
    (k : ℕ) → new_mark_at (change_object objects key (with_new_mark to)) k ≡ (if k == key then Some to else new_mark_at objects k)
new_mark-given objects key to there k = ap (λ os. new_mark_at os k) (remarked-at objects key to)
    ∙ (ap (option_map (λ (o : Object). o.new_mark)) (object_at-map (remarked (mark_at_key key to)) (λ o. refl) objects k)
    ∙ go (object_at objects k) refl (k == key) refl)
  where
    go : (o : Option Object) → object_at objects k ≡ o → (b : Bool) → (k == key) ≡ b →
        option_map (λ (p : Object). p.new_mark) (option_map (remarked (mark_at_key key to)) o) ≡ (if b then Some to else option_map (λ (p : Object). p.new_mark) o)
    go None e true s =
        let is : k ≡ key = eqb-true k key s in
        let none : is_there objects key ≡ false = ap (is_there objects) (sym is) ∙ ap is_some e in
        absurd (true≢false (sym there ∙ none))
    go None e false s = refl
    go (Some o) e b s = ap (λ t. Some (if t then to else o.new_mark)) (ap (λ j. j == key) (object_at-key objects k o e) ∙ s) ∙ at b
      where
        at : (b : Bool) → Some (if b then to else o.new_mark) ≡ (if b then Some to else Some o.new_mark)
        at true = refl
        at false = refl
