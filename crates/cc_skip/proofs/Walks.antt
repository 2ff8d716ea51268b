-- THE WALK: what is in it can be skipped, what the registers hold is in it, and so is what an object refers to that was given.
use Rattle.std.proofs.Common.{◌≡◌, ◌≢◌, ℕ, ◌<◌, true, List, [], map, get_or, Option, Some, None, option_map, refl, sym, ◌∙◌, ap, subst, inl, inr, ◌⊎◌, ⊎_elim, ◌==◌}
use Rattle.std.specs.Prelude.{◌↔◌}
use Rattle.std.proofs.lemmas.Bool.{false≢true}
use Rattle.std.proofs.Math.ListN.{get_or-map}
use Rattle.cc_lists.specs.Members.{Among}
use Rattle.cc_lists.proofs.Filtering.{find-among}
use Rattle.cc_lists.proofs.Held.{find-renamed}
use Rattle.cc_lists.proofs.Least.{derive-root, derive-along, derived-within}
use Rattle.cc_names.specs.declared.name.Name.{Name}
use Rattle.cc_names.specs.declared.kind.Walked.{Walked}
use Rattle.cc_names.specs.declared.kind.Walked.TheVariants.{Out, Waiting, Given}
use Rattle.cc_model.specs.Heap.{Heap}
use Rattle.cc_model.specs.Skipping.{IsSkippable}
use Rattle.cc_model.specs.Slots.{contents}
use Rattle.cc_model.specs.View.{view}
use Rattle.cc_model.specs.WellFormed.{IsWellFormed}
use Rattle.cc_walk.specs.Walks.{is_walked}
use Rattle.cc_counted.specs.declared.held.Held.{Held}
use Rattle.cc_counted.specs.declared.held.Held.TheVariants as held
use Rattle.cc_script.specs.Objects.{Object, object_at, walked_at, with_walked}
use Rattle.cc_script.specs.Objects as objects
use Rattle.cc_heaps.specs.Keyed.{Keyed}
use Rattle.cc_heaps.specs.Changes.{IsThere, held_name}
use Rattle.cc_heaps.specs.Places.{places_at}
use Rattle.cc_heaps.specs.Walking.{NothingWaits, state_in, state_or_out, unwalked, with_state_in}
use Rattle.cc_skip.specs.Walked.{Enters, IsInWalk, is_given, left_to_give}
use Rattle.cc_skip.proofs.States.{IsOne, given-or_waits, given-stands, left-fewer, named-rest, rest-stated, stated-cases, there-named, there-rest}
use Rattle.cc_skip.proofs.Entering.{Enters-then, in_walk-named}
use Rattle.cc_skip.proofs.Edges.{held-to, to-held}

pub record IsWalking (start now : Keyed) : Type 0 where
  pub rest : unwalked now ≡ start
  pub skippable : (x : Name) → IsInWalk now x → IsSkippable start.heap x
  pub registers : (x : Name) → Among x (view start.heap).registers → IsInWalk now x
  -- what an object refers to that was given
  pub closed : (o : Held) (x y : Name) → is_given (state_in now o) ≡ true → held_name now (Some o) ≡ Some x → Among (x, y) (view start.heap).edges → IsInWalk now y

-- THE BEGIN

-- where none is in the walk, none is
out-of_it : (v : Keyed) → v ≡ unwalked v → (o : Held) → state_in v o ≡ Out
out-of_it v e o = ap (λ u. state_in u o) e ∙ none o
  where
    natives : (walks : List Walked) (key : ℕ) → get_or (map (λ (s : Walked). Out) walks) key Out ≡ Out
    natives walks key = get_or-map (λ (s : Walked). Out) walks key Out

    scripts : (os : List Object) (key : ℕ) → state_or_out (walked_at (objects.unwalked os) key) ≡ Out
    scripts os key = ap state_or_out (find-renamed (with_walked Out) (λ (p : Object). p.key == key) (λ (p : Object). p.key == key) (λ (p : Object). p.walked) (λ (p : Object). Out) (λ p. refl) (λ p. refl) os) ∙ go (object_at os key)
      where
        go : (p : Option Object) → state_or_out (option_map (λ (q : Object). Out) p) ≡ Out
        go None = refl
        go (Some p) = refl

    none : (x : Held) → state_in (unwalked v) x ≡ Out
    none (held.Native key) = natives v.walks key.0
    none (held.Script key) = scripts v.scripts key.0

-- what the registers hold came into it
pub entered-both : (start mid now : Keyed) → Enters start mid (contents start.heap.native_registers) → Enters mid now (contents mid.heap.script_registers) →
    Enters start now (view start.heap).registers
entered-both start mid now natives scripts =
    Enters-then start mid now (contents start.heap.native_registers) (contents start.heap.script_registers) natives
    (subst (λ (h : Heap). Enters mid now (contents h.script_registers)) (ap (λ (u : Keyed). u.heap) natives.rest) scripts)

-- and none was given
pub begun-none : (start now : Keyed) → start ≡ unwalked start → Enters start now (view start.heap).registers → (o : Held) → ¬ (is_given (state_in now o) ≡ true)
begun-none start now e both o given = false≢true (sym (both.given o ∙ ap is_given (out-of_it start e o)) ∙ given)

pub begun : (start now : Keyed) → start ≡ unwalked start → Enters start now (view start.heap).registers → IsWalking start now
begun start now e both = record {
  rest = both.rest ∙ sym e;
  skippable = λ x i. ⊎_elim
      (λ old. absurd (false≢true (sym (ap is_walked (out-of_it start e old.0)) ∙ old.2)))
      (λ m. derive-root (view start.heap).registers (view start.heap).edges [] x m)
      (both.came x i);
  registers = both.in_it;
  closed = λ o x y given named m. absurd (begun-none start now e both o given);
}

-- ONE IS GIVEN, and what it refers to comes in
module _ (start now : Keyed) (i : IsWalking start now) (well : IsWellFormed start.heap) (x : Held) (waits : state_in now x ≡ Waiting) (there : IsThere now (Some x)) where
  abbrev given : Keyed
  given = with_state_in now x (λ s. Given)

  rest-given : unwalked given ≡ unwalked now
  rest-given = rest-stated now x (λ s. Given)

  pub given-rest : unwalked given ≡ start
  given-rest = rest-given ∙ i.rest

  heap-given : given.heap ≡ start.heap
  heap-given = ap (λ (u : Keyed). u.heap) given-rest

  pub in-given : (y : Name) → IsInWalk now y → IsInWalk given y
  in-given y m = in_walk-named now given rest-given y m.0 m.1 (⊎_elim
      (λ s. ap is_walked s ∙ m.2)
      (λ one. ap is_walked (one.is ∙ given-stands now x waits there))
      (stated-cases now x m.0 (λ s. Given)))

  given-in : (y : Name) → IsInWalk given y → IsInWalk now y
  given-in y m = (
    m.0,
    sym (named-rest now given rest-given (Some m.0)) ∙ m.1,
    ⊎_elim
        (λ s. ap is_walked (sym s) ∙ m.2)
        (λ one. ap is_walked (one.was ∙ waits))
        (stated-cases now x m.0 (λ s. Given)),
  )

  -- the one that is given is in it
  pub in-it : (z : Name) → held_name now (Some x) ≡ Some z → IsInWalk now z
  in-it z named = (x, named, ap is_walked waits)

  pub gone_on : (next : Keyed) → Enters given next (contents (places_at given x)) → IsWalking start next
  gone_on next e = record {
    rest = e.rest ∙ given-rest;
    skippable = λ y m. ⊎_elim
        (λ old. i.skippable y (given-in y old))
        (λ new. referred y new (there-named given x (there-rest now given rest-given (Some x) there)))
        (e.came y m);
    registers = λ y m. e.stays y (in-given y (i.registers y m));
    closed = λ o z y is named m. closed_at o z y (sym (e.given o) ∙ is) (sym (named-rest given next e.rest (Some o)) ∙ named) m (stated-cases now x o (λ s. Given));
  }
    where
      sound : IsWellFormed given.heap
      sound = subst IsWellFormed (sym heap-given) well

      referred : (y : Name) → Among y (contents (places_at given x)) → ((z : Name) × (held_name given (Some x) ≡ Some z)) → IsSkippable start.heap y
      referred y m n =
          let edge : Among (n.0, y) (view start.heap).edges = subst (λ h. Among (n.0, y) (view h).edges) heap-given (held-to given sound x n.0 n.1 y m) in
          derive-along (view start.heap).registers (view start.heap).edges [] n.0 y edge (i.skippable n.0 (in-it n.0 (sym (named-rest now given rest-given (Some x)) ∙ n.1)))

      closed_at : (o : Held) (z y : Name) → is_given (state_in given o) ≡ true → held_name given (Some o) ≡ Some z → Among (z, y) (view start.heap).edges →
          (state_in given o ≡ state_in now o) ⊎ IsOne now given x o → IsInWalk next y
      closed_at o z y is named m c = ⊎_elim
          (λ s. e.stays y (in-given y (i.closed o z y (ap is_given (sym s) ∙ is) (sym (named-rest now given rest-given (Some o)) ∙ named) m)))
          (λ one. e.in_it y (to-held given sound x z (named-rest now given rest-given (Some x) ∙ (sym one.name ∙ (sym (named-rest now given rest-given (Some o)) ∙ named))) y
          (subst (λ h. Among (z, y) (view h).edges) (sym heap-given) m)))
          c

  pub fewer-left : (next : Keyed) (names : List Name) → Enters given next names → left_to_give next < left_to_give now
  fewer-left next names e = subst (λ n. n < left_to_give now) (sym e.left) (left-fewer now x waits)

-- the object that is given, and what it refers to comes in
abbrev pub IsGivenNext : Keyed → Keyed → Held → Type 0
IsGivenNext now mid x = (state_in now x ≡ Waiting) × (mid ≡ with_state_in now x (λ s. Given)) × IsThere now (Some x)

pub next-rest : (now mid : Keyed) (x : Held) → IsGivenNext now mid x → unwalked mid ≡ unwalked now
next-rest now mid x g = ap unwalked g.1 ∙ rest-stated now x (λ s. Given)

module _ (start now mid next : Keyed) (well : IsWellFormed start.heap) (i : IsWalking start now) (x : Held) (g : IsGivenNext now mid x) (e : Enters mid next (contents (places_at mid x))) where
  pub walking-next : IsWalking start next
  walking-next = gone_on start now i well x g.0 g.2 next (subst (λ m. Enters m next (contents (places_at m x))) g.1 e)

  pub walking-fewer : left_to_give next < left_to_give now
  walking-fewer = fewer-left start now i well x g.0 g.2 next (contents (places_at mid x)) (subst (λ m. Enters m next (contents (places_at mid x))) g.1 e)

  -- what was in the walk is in it still
  pub walking-stays : (y : Name) → IsInWalk now y → IsInWalk next y
  walking-stays y m = e.stays y (subst (λ u. IsInWalk u y) (sym g.1) (in-given start now i well x g.0 g.2 y m))

  -- what is given by now was given, or is the one that is given next
  pub walking-given : (o : Held) → is_given (state_in next o) ≡ true → (is_given (state_in now o) ≡ true) ⊎ (held_name now (Some o) ≡ held_name now (Some x))
  walking-given o is = ⊎_elim
      (λ s. inl (ap is_given (sym s) ∙ there))
      (λ one. inr one.name)
      (stated-cases now x o (λ s. Given))
    where
      there : is_given (state_in (with_state_in now x (λ s. Given)) o) ≡ true
      there = ap (λ u. is_given (state_in u o)) (sym g.1) ∙ (sym (e.given o) ∙ is)

-- THE END

-- where none waits, each that is in the walk was given
pub none-waits : (v : Keyed) → NothingWaits v → (o : Held) → state_in v o ≢ Waiting
none-waits v n (held.Native key) e = n.0 key.0 e
none-waits v n (held.Script key) e = go (object_at v.scripts key.0) refl e
  where
    go : (o : Option Object) → object_at v.scripts key.0 ≡ o → state_or_out (option_map (λ (p : Object). p.walked) o) ≢ Waiting
    go None f w = absurd (cc)
    go (Some o) f w = n.1 o (find-among (λ (p : Object). p.key == key.0) v.scripts o f) w

-- EXACTLY what can be skipped is in it
pub walked-exactly : (start now : Keyed) → IsWalking start now → NothingWaits now → (x : Name) → IsInWalk now x ↔ IsSkippable start.heap x
walked-exactly start now i none x = (
  i.skippable x,
  derived-within (view start.heap).registers (view start.heap).edges [] (IsInWalk now) i.registers
      (λ y z m j. i.closed j.0 y z (given-or_waits (state_in now j.0) j.2 (none-waits now none j.0)) j.1 m)
      (λ ps z m. absurd m) x,
)
