-- HOW OBJECTS STAND IN THE WALK once one of them stands otherwise. Nothing else is changed by that.
use Rattle.std.proofs.Common.{◌≡◌, ◌≢◌, ℕ, zero, suc, ◌+◌, ◌<◌, Bool, true, false, not, List, [], ◌∷◌, map, length, get_or, Option, Some, None, is_some, option_map, refl, sym, ◌∙◌, ap, subst, inl, inr, ◌⊎◌, ⊎_elim, ◌==◌, if◌then◌else◌, arith, count_by}
use Rattle.std.specs.Prelude.{IsSome, IsTrue, slice_set}
use Rattle.std.specs.Option.{option_and_then}
use Rattle.std.proofs.lemmas.Bool.{ne_eqb}
use Rattle.std.proofs.lemmas.Bool.Decides.{eqb_tells}
use Rattle.std.proofs.lemmas.List.{get_or-set_other, get_or-set_same}
use Rattle.cc_lists.proofs.Filtering.{find-among, find-passes}
use Rattle.cc_lists.proofs.Held.{find-renamed}
use Rattle.cc_lists.proofs.ListWrites.{count_by-kept_map, map-kept}
use Rattle.cc_names.specs.declared.name.Name.{Name}
use Rattle.cc_names.specs.declared.kind.Walked.{Walked}
use Rattle.cc_names.specs.declared.kind.Walked.TheVariants.{Out, Waiting, Given}
use Rattle.cc_names.specs.Names.{native}
use Rattle.cc_model.specs.Checks.{slots_or_none}
use Rattle.cc_model.specs.Places.{places_in}
use Rattle.cc_walk.specs.Walks.{entered, is_walked}
use Rattle.cc_counted.specs.Counts as counts
use Rattle.cc_counted.specs.Counts.{held_of_native, none_walked}
use Rattle.cc_counted.specs.declared.held.Held.{Held}
use Rattle.cc_counted.specs.declared.held.Held.TheVariants as held
use Rattle.cc_script.specs.Objects.{Object, change_object, is_there, name_at, object_at, walked_at, with_walked}
use Rattle.cc_script.specs.Objects as objects
use Rattle.cc_heaps.specs.Keyed.{Keyed, number_at}
use Rattle.cc_heaps.specs.Changes.{IsThere, held_name}
use Rattle.cc_heaps.specs.Places.{places_at}
use Rattle.cc_heaps.specs.Walking.{restated, state_in, state_or_out, unwalked, with_state_in}
use Rattle.cc_heaps.proofs.Reaching.{object_at-found}
use Rattle.cc_heaps.proofs.Walking.{at_key, stated, stated-at, state-changed, walked-changed}
use Rattle.cc_skip.specs.Walked.{is_given, left_to_give}
use Rattle.cc_skip.proofs.Written.{map-written, count-written, count-less, count-fewer}

-- States

pub entered-walked : (s : Walked) → is_walked (entered s) ≡ true
entered-walked Out = refl
entered-walked Waiting = refl
entered-walked Given = refl

pub entered-given : (s : Walked) → is_given (entered s) ≡ is_given s
entered-given Out = refl
entered-given Waiting = refl
entered-given Given = refl

-- a member that does not wait was given
pub given-or_waits : (s : Walked) → is_walked s ≡ true → s ≢ Waiting → is_given s ≡ true
given-or_waits Out t n = t
given-or_waits Waiting t n = absurd (n refl)
given-or_waits Given t n = refl

-- Nothing else is changed

-- the heaps without the walk are as they were
pub rest-stated : (v : Keyed) (x : Held) (change : Walked → Walked) → unwalked (with_state_in v x change) ≡ unwalked v
rest-stated v (held.Native key) change =
    ap (λ walks. record v { walks = walks; scripts = objects.unwalked v.scripts }) (map-written Out v.walks key.0 (change (counts.state_in v.walks key.0)))
rest-stated v (held.Script key) change =
    ap (λ os. record v { walks = none_walked v.walks; scripts = os })
    (ap (λ os. map (with_walked Out) os) (stated-at v.scripts key.0 change)
    ∙ map-kept (with_walked Out) (stated (at_key key.0 change)) v.scripts (λ o. refl))

-- none is in the walk twice over
pub unwalked-again : (v : Keyed) → unwalked (unwalked v) ≡ unwalked v
unwalked-again v = λ i. record v {
  walks = map-kept (λ (s : Walked). Out) (λ (s : Walked). Out) v.walks (λ s. refl) i;
  scripts = map-kept (with_walked Out) (with_walked Out) v.scripts (λ o. refl) i;
}

-- names are read without the walk
name_at-unwalked : (os : List Object) (key : ℕ) → name_at (objects.unwalked os) key ≡ name_at os key
name_at-unwalked os key = find-renamed (with_walked Out) (λ o. o.key == key) (λ o. o.key == key) (λ o. o.name) (λ o. o.name) (λ o. refl) (λ o. refl) os

pub named-rest : (v w : Keyed) → unwalked w ≡ unwalked v → (content : Option Held) → held_name w content ≡ held_name v content
named-rest v w e None = refl
named-rest v w e (Some (held.Native key)) = ap (λ (u : Keyed). option_map native (number_at u key.0)) e
named-rest v w e (Some (held.Script key)) =
    sym (name_at-unwalked w.scripts key.0) ∙ (ap (λ (u : Keyed). name_at u.scripts key.0) e ∙ name_at-unwalked v.scripts key.0)

-- whether something is there, by its name
is_there-named : (os : List Object) (key : ℕ) → is_there os key ≡ is_some (name_at os key)
is_there-named os key = go (object_at os key)
  where
    go : (o : Option Object) → is_some o ≡ is_some (option_map (λ (p : Object). p.name) o)
    go None = refl
    go (Some o) = refl

pub there-rest : (v w : Keyed) → unwalked w ≡ unwalked v → (content : Option Held) → IsThere v content → IsThere w content
there-rest v w e None t = t
there-rest v w e (Some (held.Native key)) t = subst (λ (u : Keyed). IsSome (number_at u key.0)) (sym e) t
there-rest v w e (Some (held.Script key)) t =
    is_there-named w.scripts key.0 ∙ (ap is_some (named-rest v w e (Some (held.Script key))) ∙ (sym (is_there-named v.scripts key.0) ∙ t))

pub places-rest : (v w : Keyed) → unwalked w ≡ unwalked v → (x : Held) → places_at w x ≡ places_at v x
places-rest v w e x =
    λ i. slots_or_none (option_and_then (places_in (ap (λ (u : Keyed). u.heap) e i)) (named-rest v w e (Some x) i))

-- what is there has a name
pub there-named : (v : Keyed) (x : Held) → IsThere v (Some x) → (z : Name) × (held_name v (Some x) ≡ Some z)
there-named v (held.Native key) t = go (number_at v key.0) t
  where
    go : (o : Option ℕ) → IsSome o → (z : Name) × (option_map native o ≡ Some z)
    go None k = absurd (cc)
    go (Some n) k = (native n, refl)
there-named v (held.Script key) t = go (object_at v.scripts key.0) t
  where
    go : (o : Option Object) → IsTrue (is_some o) → (z : Name) × (option_map (λ (p : Object). p.name) o ≡ Some z)
    go None k = absurd (cc)
    go (Some p) k = (p.name, refl)

-- How each stands

-- an object is the one that was changed: it has its name, and stands as that one does
pub record IsOne (v w : Keyed) (x y : Held) : Type 0 where
  pub name : held_name v (Some y) ≡ held_name v (Some x)
  pub was : state_in v y ≡ state_in v x
  pub is : state_in w y ≡ state_in w x

-- EACH OBJECT stands as it did, or is the one that was changed
pub stated-cases : (v : Keyed) (x y : Held) (change : Walked → Walked) →
    (state_in (with_state_in v x change) y ≡ state_in v y) ⊎ IsOne v (with_state_in v x change) x y
stated-cases v (held.Native key) (held.Native other) change = ⊎_elim
    (λ t. inr (record {
      name = ap (λ k. option_map native (number_at v k)) t.1;
      was = ap (λ k. counts.state_in v.walks k) t.1;
      is = ap (λ k. counts.state_in (slice_set v.walks key.0 (change (counts.state_in v.walks key.0))) k) t.1;
    }))
    (λ t. inl (get_or-set_other v.walks key.0 other.0 (change (counts.state_in v.walks key.0)) Out t.1))
    (eqb_tells other.0 key.0)
stated-cases v (held.Native key) (held.Script other) change = inl refl
stated-cases v (held.Script key) (held.Native other) change = inl refl
stated-cases v (held.Script key) (held.Script other) change = ⊎_elim
    (λ t. inr (record {
      name = ap (λ k. name_at v.scripts k) t.1;
      was = ap (λ k. state_or_out (walked_at v.scripts k)) t.1;
      is = ap (λ k. state_or_out (walked_at (change_object v.scripts key.0 (restated change)) k)) t.1;
    }))
    (λ t. inl (ap state_or_out (walked-changed v.scripts key.0 change other.0) ∙ kept (object_at v.scripts other.0) refl t.1))
    (eqb_tells other.0 key.0)
  where
    kept : (o : Option Object) → object_at v.scripts other.0 ≡ o → other.0 ≢ key.0 →
        state_or_out (option_map (at_key key.0 change) o) ≡ state_or_out (option_map (λ (p : Object). p.walked) o)
    kept None e n = refl
    kept (Some o) e n =
        let f = object_at-found v.scripts other.0 o e in
        ap (λ b. if b then change o.walked else o.walked) (ne_eqb o.key key.0 (λ s. n (sym f.1 ∙ s)))

-- a native that waits has a key among those of the walk
waiting-within : (walks : List Walked) (key : ℕ) → get_or walks key Out ≡ Waiting → key < length walks
waiting-within [] key e = absurd (cc)
waiting-within (s ∷ ss) zero e = omega arith
waiting-within (s ∷ ss) (suc key) e = omega (arith, waiting-within ss key e)

-- what waits and is given stands so
pub given-stands : (v : Keyed) (x : Held) → state_in v x ≡ Waiting → IsThere v (Some x) → state_in (with_state_in v x (λ s. Given)) x ≡ Given
given-stands v (held.Native key) e t = get_or-set_same v.walks key.0 Given Out (waiting-within v.walks key.0 e)
given-stands v (held.Script key) e t = state-changed v.scripts key.0 (λ s. Given) t

-- How many are left

abbrev waits_still : Walked → Bool
waits_still s = not (is_given s)

-- as many, where none is given by the change
pub left-kept : (v : Keyed) (x : Held) (change : Walked → Walked) → ((s : Walked) → is_given (change s) ≡ is_given s) → left_to_give (with_state_in v x change) ≡ left_to_give v
left-kept v (held.Native key) change same =
    ap (λ n. n + count_by (λ (o : Object). waits_still o.walked) v.scripts)
    (count-written waits_still v.walks key.0 Out (change (counts.state_in v.walks key.0)) (ap not (same (counts.state_in v.walks key.0))))
left-kept v (held.Script key) change same =
    ap (λ n. count_by waits_still v.walks + n)
    (ap (λ os. count_by (λ (o : Object). waits_still o.walked) os) (stated-at v.scripts key.0 change)
    ∙ count_by-kept_map (λ (o : Object). waits_still o.walked) (stated (at_key key.0 change)) v.scripts (λ o. go o (o.key == key.0)))
  where
    go : (o : Object) (b : Bool) → waits_still (if b then change o.walked else o.walked) ≡ waits_still o.walked
    go o true = ap not (same o.walked)
    go o false = refl

-- fewer, where one that waits is given
pub left-fewer : (v : Keyed) (x : Held) → state_in v x ≡ Waiting → left_to_give (with_state_in v x (λ s. Given)) < left_to_give v
left-fewer v (held.Native key) e =
    let fewer : count_by waits_still (slice_set v.walks key.0 Given) < count_by waits_still v.walks =
    count-less waits_still v.walks key.0 Out Given (waiting-within v.walks key.0 e) (ap waits_still e) refl in
    omega (arith, fewer)
left-fewer v (held.Script key) e = go (object_at v.scripts key.0) refl e
  where
    waits : Object → Bool
    waits o = waits_still o.walked

    at : Object → Object
    at o = stated (at_key key.0 (λ s. Given)) o

    fewer : (o : Object) → object_at v.scripts key.0 ≡ Some o → o.walked ≡ Waiting → count_by waits (map at v.scripts) < count_by waits v.scripts
    fewer o f w =
        let here : (o.key == key.0) ≡ true = find-passes (λ (p : Object). p.key == key.0) v.scripts o f in
        count-fewer waits at v.scripts o (λ p t. weaker p (p.key == key.0) t) (find-among (λ (p : Object). p.key == key.0) v.scripts o f)
        (ap (λ b. waits_still (if b then Given else o.walked)) here) (ap waits_still w)
      where
        weaker : (p : Object) (b : Bool) → waits_still (if b then Given else p.walked) ≡ true → waits_still p.walked ≡ true
        weaker p true t = absurd (cc)
        weaker p false t = t

    go : (o : Option Object) → object_at v.scripts key.0 ≡ o → state_or_out (option_map (λ (p : Object). p.walked) o) ≡ Waiting →
        left_to_give (with_state_in v (held.Script key) (λ s. Given)) < left_to_give v
    go None f w = absurd (cc)
    go (Some o) f w =
        let same : count_by waits (change_object v.scripts key.0 (restated (λ s. Given))) ≡ count_by waits (map at v.scripts) = ap (λ os. count_by waits os) (stated-at v.scripts key.0 (λ s. Given)) in
        omega (arith, same, fewer o f w)
