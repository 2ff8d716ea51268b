-- MARKS TAKEN AS THE WALK GOES ON: each native that was given so far has lost its mark, and nothing else is changed but the walk.
use Rattle.std.proofs.Common.{◌≡◌, ℕ, ◌+◌, ◌<◌, ◌≤◌, true, List, [], ◌∷◌, map, length, Option, Some, None, option_map, refl, sym, ◌∙◌, ap, subst, inl, inr, ◌⊎◌, ⊎_elim, arith}
use Rattle.std.specs.Prelude.{IsSome}
use Rattle.cc_lists.specs.Members.{Among, has}
use Rattle.cc_lists.proofs.Members.{has-among, has-there}
use Rattle.cc_names.specs.declared.name.Name.{Name}
use Rattle.cc_names.specs.Names.{native, same_name}
use Rattle.cc_names.proofs.NameTests.{same_name-exact}
use Rattle.cc_model.specs.Heap.{Heap, Buffered}
use Rattle.cc_model.specs.Skipping.{IsSkippable, forgotten, skippable_names, unmarked_among, without_mark}
use Rattle.cc_model.specs.Slots.{contents}
use Rattle.cc_model.specs.View.{view}
use Rattle.cc_model.specs.WellFormed.{native_names, script_names}
use Rattle.cc_laws_snapshot.proofs.Face.{skippable-decided, skippable-reached}
use Rattle.cc_counted.specs.Counts.{number_or_none}
use Rattle.cc_counted.specs.declared.held.Held.{Held}
use Rattle.cc_counted.specs.declared.held.Held.TheVariants as held
use Rattle.cc_heaps.specs.Keyed.{Keyed, IsInOrder, Reflects, changed_to, number_at, the_number}
use Rattle.cc_heaps.specs.Changes.{IsThere, held_name}
use Rattle.cc_heaps.specs.Keeping.{KeepsAll, KeepsAllIfReached}
use Rattle.cc_heaps.specs.Places.{places_at}
use Rattle.cc_heaps.specs.Standing.{IsReached}
use Rattle.cc_heaps.specs.Walking.{NothingWaits, state_in, unwalked}
use Rattle.cc_heaps.proofs.Kept.{KeepsAll-reached}
use Rattle.cc_heaps.proofs.Reaching.{name_at-found, same-tests}
use Rattle.cc_skip.specs.Forgetting.{unmarked_object}
use Rattle.cc_skip.specs.Walked.{Enters, IsInWalk, is_given, left_to_give}
use Rattle.cc_skip.proofs.Buffers.{purple-few, purple-length, purple_in, unmarked-more, unmarked-nothing, unmarked-same}
use Rattle.cc_skip.proofs.Entering.{kept-over, kept-walked}
use Rattle.cc_skip.proofs.Marks.{buffer-few}
use Rattle.cc_skip.proofs.States.{given-or_waits, named-rest, there-named, there-rest}
use Rattle.cc_skip.proofs.Walks.{IsGivenNext, IsWalking, begun, begun-none, in-it, next-rest, none-waits, walked-exactly, walking-fewer, walking-given, walking-next, walking-stays}

-- the heaps with another buffer
abbrev with_buffer : Heap → List Buffered → Heap
with_buffer h bs = record h { buffer = bs }

-- SO FAR `names` are the natives that were given, and `taken` marks were taken
pub record IsTaking (start now : Keyed) (taken : ℕ) : Type 0 where
  pub names : List Name
  pub walking : IsWalking (unwalked now) now
  pub only : unwalked now ≡ changed_to start (with_buffer start.heap (map (unmarked_among names) start.heap.buffer))
  pub in_it : (x : Name) → Among x names → IsInWalk now x
  pub given : (o : Held) (k : ℕ) → is_given (state_in now o) ≡ true → held_name now (Some o) ≡ Some (native k) → Among (native k) names
  pub counted : taken + purple_in now.heap.buffer ≡ purple_in start.heap.buffer
  pub kept : KeepsAll start now

-- THE BEGIN: none was given
pub taking-none : (start now : Keyed) → start ≡ unwalked start → Enters start now (view start.heap).registers → IsTaking start now 0
taking-none start now e both = record {
  names = [];
  walking = subst (λ (s : Keyed). IsWalking s now) (sym w.rest) w;
  only = w.rest ∙ ap (λ bs. changed_to start (with_buffer start.heap bs)) (sym (unmarked-nothing start.heap.buffer));
  in_it = λ x m. absurd m;
  given = λ o k given named. absurd (begun-none start now e both o given);
  counted = omega (arith, same);
  kept = both.kept;
}
  where
    w : IsWalking start now
    w = begun start now e both

    same : purple_in now.heap.buffer ≡ purple_in start.heap.buffer
    same = ap (λ (u : Keyed). purple_in u.heap.buffer) w.rest

-- ONE LOSES ITS MARK, where it is a native

abbrev names_after : Keyed → Held → List Name → List Name
names_after v (held.Native key) names = native (the_number v key.0) ∷ names
names_after v (held.Script key) names = names

-- the walk is as it was over any other buffer
walking-over : (v : Keyed) (bs : List Buffered) → IsWalking (unwalked v) v → IsWalking (unwalked (changed_to v (with_buffer v.heap bs))) (changed_to v (with_buffer v.heap bs))
walking-over v bs w = record { rest = refl; skippable = w.skippable; registers = w.registers; closed = w.closed }

walking-unmarked : (v : Keyed) (x : Held) → IsWalking (unwalked v) v → IsWalking (unwalked (changed_to v (unmarked_object v x))) (changed_to v (unmarked_object v x))
walking-unmarked v (held.Native key) w = walking-over v (map (without_mark (the_number v key.0)) v.heap.buffer) w
walking-unmarked v (held.Script key) w = w

in_walk-unmarked : (v : Keyed) (x : Held) (y : Name) → IsInWalk v y → IsInWalk (changed_to v (unmarked_object v x)) y
in_walk-unmarked v (held.Native key) y m = m
in_walk-unmarked v (held.Script key) y m = m

state-unmarked : (v : Keyed) (x o : Held) → state_in (changed_to v (unmarked_object v x)) o ≡ state_in v o
state-unmarked v (held.Native key) (held.Native other) = refl
state-unmarked v (held.Native key) (held.Script other) = refl
state-unmarked v (held.Script key) o = refl

named-unmarked : (v : Keyed) (x o : Held) → held_name (changed_to v (unmarked_object v x)) (Some o) ≡ held_name v (Some o)
named-unmarked v (held.Native key) (held.Native other) = refl
named-unmarked v (held.Native key) (held.Script other) = refl
named-unmarked v (held.Script key) o = refl

natives-unmarked : (v : Keyed) (x : Held) → native_names (unmarked_object v x) ≡ native_names v.heap
natives-unmarked v (held.Native key) = refl
natives-unmarked v (held.Script key) = refl

scripts-unmarked : (v : Keyed) (x : Held) → script_names (unmarked_object v x) ≡ script_names v.heap
scripts-unmarked v (held.Native key) = refl
scripts-unmarked v (held.Script key) = refl

-- nothing but marks of one name more
only-unmarked : (start v : Keyed) (x : Held) (names : List Name) → unwalked v ≡ changed_to start (with_buffer start.heap (map (unmarked_among names) start.heap.buffer)) →
    unwalked (changed_to v (unmarked_object v x)) ≡ changed_to start (with_buffer start.heap (map (unmarked_among (names_after v x names)) start.heap.buffer))
only-unmarked start v (held.Native key) names e =
    ap (λ (u : Keyed). changed_to u (with_buffer u.heap (map (without_mark (the_number v key.0)) u.heap.buffer))) e
    ∙ ap (λ bs. changed_to start (with_buffer start.heap bs)) (unmarked-more (the_number v key.0) names start.heap.buffer)
only-unmarked start v (held.Script key) names e = e

-- a script object has not the name of a native, and a native has that of its number
named-number : (v : Keyed) (owned : List ℕ) → IsInOrder owned v → (x : Held) (k : ℕ) (names : List Name) → held_name v (Some x) ≡ Some (native k) →
    Among (native k) (names_after v x names)
named-number v owned order (held.Native key) k names named = go (number_at v key.0) refl named
  where
    go : (n : Option ℕ) → number_at v key.0 ≡ n → option_map native n ≡ Some (native k) → Among (native k) (native (the_number v key.0) ∷ names)
    go None at e = absurd (cc)
    go (Some n) at e =
        let same : native n ≡ native k = cc in
        inl (ap (λ o. native (number_or_none o)) at ∙ same)
named-number v owned order (held.Script key) k names named =
    let f = name_at-found v.scripts key.0 (native k) named in
    absurd (subst (λ x. Reflects v x f.0.native) f.3 (order.reflecting f.0 f.1))

-- names stay among those after
stays-among : (v : Keyed) (x : Held) (names : List Name) (y : Name) → Among y names → Among y (names_after v x names)
stays-among v (held.Native key) names y m = inr m
stays-among v (held.Script key) names y m = m

-- each of those after was among them, or is the name of the object
among-after : (v : Keyed) (x : Held) (names : List Name) → IsThere v (Some x) → (y : Name) → Among y (names_after v x names) → Among y names ⊎ (held_name v (Some x) ≡ Some y)
among-after v (held.Native key) names there y m = ⊎_elim
    (λ (e : native (the_number v key.0) ≡ y). inr (go (number_at v key.0) refl there ∙ ap Some e))
    (λ t. inl t)
    m
  where
    go : (n : Option ℕ) → number_at v key.0 ≡ n → IsSome n → option_map native n ≡ Some (native (the_number v key.0))
    go None at t = absurd (cc)
    go (Some n) at t = ap (λ o. Some (native (number_or_none o))) (sym at)
among-after v (held.Script key) names there y m = inl m

-- ONE IS GIVEN, what it refers to comes in, and it loses its mark
module _ (start now mid entered next : Keyed) (owned : List ℕ) (order : IsInOrder owned start) (taken : ℕ) (i : IsTaking start now taken) (x : Held) (g : IsGivenNext now mid x)
    (e : Enters mid entered (contents (places_at mid x))) (is : next ≡ changed_to entered (unmarked_object entered x)) where
  order-now : IsInOrder owned now
  order-now = i.kept.order owned order

  same : unwalked entered ≡ unwalked now
  same = e.rest ∙ next-rest now mid x g

  w : IsWalking (unwalked now) entered
  w = walking-next (unwalked now) now mid entered order-now.sound.well_formed i.walking x g e

  w-own : IsWalking (unwalked entered) entered
  w-own = subst (λ (s : Keyed). IsWalking s entered) (sym same) w

  there-entered : IsThere entered (Some x)
  there-entered = there-rest now entered same (Some x) g.2

  stays : (y : Name) → IsInWalk now y → IsInWalk next y
  stays y m = subst (λ (u : Keyed). IsInWalk u y) (sym is)
      (in_walk-unmarked entered x y (walking-stays (unwalked now) now mid entered order-now.sound.well_formed i.walking x g e y m))

  pub taking-fewer : left_to_give next < left_to_give now
  taking-fewer = subst (λ n. n < left_to_give now) (sym (ap left_to_give is ∙ left x)) (walking-fewer (unwalked now) now mid entered order-now.sound.well_formed i.walking x g e)
    where
      left : (x : Held) → left_to_give (changed_to entered (unmarked_object entered x)) ≡ left_to_give entered
      left (held.Native key) = refl
      left (held.Script key) = refl

  -- it is reached
  pub reached-one : IsReached entered.heap (held_name entered (Some x))
  reached-one = go (there-named entered x there-entered)
    where
      go : ((z : Name) × (held_name entered (Some x) ≡ Some z)) → IsReached entered.heap (held_name entered (Some x))
      go f = subst (IsReached entered.heap) (sym f.1)
          (skippable-reached entered.heap f.0 (subst (λ (u : Keyed). IsSkippable u.heap f.0) (sym same)
          (i.walking.skippable f.0 (in-it (unwalked now) now i.walking order-now.sound.well_formed x g.0 g.2 f.0 (sym (named-rest now entered same (Some x)) ∙ f.1)))))

  module _ (result : ℕ) (count : result + length (view next.heap).purple ≡ length (view entered.heap).purple) where
    counts : taken + result + purple_in next.heap.buffer ≡ purple_in start.heap.buffer
    counts =
        let before : purple_in entered.heap.buffer ≡ purple_in now.heap.buffer = ap (λ (u : Keyed). purple_in u.heap.buffer) same in
        omega (arith, count, before, i.counted, purple-length next.heap.buffer, purple-length entered.heap.buffer)

    -- so many marks fit their type
    pub taking-fits : taken + result ≤ 1000001
    taking-fits = omega (arith, counts, purple-few start.heap.buffer, buffer-few owned start order)

    pub taking-next : KeepsAll now mid → KeepsAllIfReached (IsReached entered.heap (held_name entered (Some x))) entered next → IsTaking start next (taken + result)
    taking-next given unmarked = record {
      names = names_after entered x i.names;
      walking = subst (λ (u : Keyed). IsWalking (unwalked u) u) (sym is) (walking-unmarked entered x w-own);
      only = ap unwalked is ∙ only-unmarked start entered x i.names (same ∙ i.only);
      in_it = λ y m. ⊎_elim
          (λ old. stays y (i.in_it y old))
          (λ one. stays y (in-it (unwalked now) now i.walking order-now.sound.well_formed x g.0 g.2 y (sym (named-rest now entered same (Some x)) ∙ one)))
          (among-after entered x i.names there-entered y m);
      given = λ o k was named.
          let here : held_name entered (Some o) ≡ Some (native k) = sym (named-unmarked entered x o) ∙ (ap (λ (u : Keyed). held_name u (Some o)) (sym is) ∙ named) in
          let before : held_name now (Some o) ≡ Some (native k) = sym (named-rest now entered same (Some o)) ∙ here in
          ⊎_elim
          (λ old. stays-among entered x i.names (native k) (i.given o k old before))
          (λ one. named-number entered owned order-entered x k i.names (named-rest now entered same (Some x) ∙ (sym one ∙ before)))
          (walking-given (unwalked now) now mid entered order-now.sound.well_formed i.walking x g e o (sym (ap is_given (state-unmarked entered x o)) ∙ (ap (λ (u : Keyed). is_given (state_in u o)) (sym is) ∙ was)));
      counted = counts;
      kept = kept-over start entered next (ap (λ (u : Keyed). native_names u.heap) is ∙ natives-unmarked entered x) (ap (λ (u : Keyed). script_names u.heap) is ∙ scripts-unmarked entered x)
          kept-entered (KeepsAll-reached unmarked reached-one);
    }
      where
        kept-entered : KeepsAll start entered
        kept-entered = kept-walked start mid entered e.rest (kept-walked start now mid (next-rest now mid x g) i.kept given) e.kept

        order-entered : IsInOrder owned entered
        order-entered = kept-entered.order owned order

-- AT THE END all have lost their marks that can be skipped
module _ (start now last : Keyed) (taken : ℕ) (i : IsTaking start now taken) (none : NothingWaits now × (last ≡ now)) where
  heap-now : now.heap ≡ with_buffer start.heap (map (unmarked_among i.names) start.heap.buffer)
  heap-now = ap (λ (u : Keyed). u.heap) i.only

  agree : (k : ℕ) → has same_name i.names (native k) ≡ has same_name (skippable_names start.heap) (native k)
  agree k = same-tests (has same_name i.names (native k)) (has same_name (skippable_names start.heap) (native k))
      (λ t. (skippable-decided start.heap (native k)).1
      (subst (λ (h : Heap). IsSkippable h (native k)) heap-now (i.walking.skippable (native k) (i.in_it (native k) (has-among same_name same_name-exact i.names (native k) t)))))
      (λ t. given_one ((walked-exactly (unwalked now) now i.walking none.0 (native k)).1
      (subst (λ (h : Heap). IsSkippable h (native k)) (sym heap-now) ((skippable-decided start.heap (native k)).0 t))))
    where
      given_one : IsInWalk now (native k) → has same_name i.names (native k) ≡ true
      given_one m = has-there same_name same_name-exact i.names (native k)
          (i.given m.0 k (given-or_waits (state_in now m.0) m.2 (none-waits now none.0 m.0)) m.1)

  pub taken-all : unwalked last ≡ changed_to start (forgotten start.heap)
  unfolding forgotten
  taken-all = ap unwalked none.1 ∙ (i.only
      ∙ ap (λ bs. changed_to start (with_buffer start.heap bs)) (unmarked-same i.names (skippable_names start.heap) agree start.heap.buffer))

  pub taken-count : taken + length (view last.heap).purple ≡ length (view start.heap).purple
  taken-count =
      let here : purple_in last.heap.buffer ≡ purple_in now.heap.buffer = ap (λ (u : Keyed). purple_in u.heap.buffer) none.1 in
      omega (arith, here, i.counted, purple-length last.heap.buffer, purple-length start.heap.buffer)
