-- UNITS ONE AFTER THE OTHER make slices and collections, for one list of memory's answers.
use Rattle.std.proofs.Common.{◌≡◌, ◌≢◌, ℕ, zero, suc, ◌+◌, ◌<◌, ◌-◌, Bool, true, false, List, [], ◌∷◌, ◌++◌, Option, Some, None, is_some, refl, sym, ap, ◌∙◌, subst, arith, zero-add}
use Rattle.std.proofs.lemmas.List.{append_assoc}
use Rattle.cc_names.specs.declared.name.Name.{Name}
use Rattle.cc_model.specs.declared.item.Event.{Event}
use Rattle.cc_model.specs.Snapshot.{Snapshot}
use Rattle.cc_model.specs.Units.{first_untraversed}
use Rattle.cc_model.specs.End.{Progress, went_on, at_end, refused, UnitDone, unit, may_be_refused, granted, node_or_end}
use Rattle.cc_model.specs.Collecting.{Machine, UnitsDone, no_units, one_unit, units_done, next_answer, slice_cycles, collect_cycles, to_the_end, enough_units, finish_running, units_came}
use Rattle.cc_model.proofs.UnitsEnd.{units_done-done, units_done-to_the_end}
use Rattle.cc_laws_run.specs.Memory.{with_memory}
use Rattle.cc_laws_run.proofs.Face.{unit-cases}
use Rattle.cc_collector.specs.Collected.{counted_one, units_counted}
use Rattle.cc_collector.specs.Units.{IsUnit, HasGoneOn, HasStopped}

-- One unit

-- the answers that a unit asks, before others
abbrev by_asks : Bool → Bool → List Bool → List Bool
by_asks asks answer rest = elim asks [ true ↦ answer ∷ rest | false ↦ rest ]

abbrev answers_for : Machine → Bool → List Bool → List Bool
answers_for m answer rest = by_asks (may_be_refused m.heap m.snapshot) answer rest

-- a first unit, and what it leads to
unit-first : (old new : Machine) (events : List Event) (progress : Progress) (u : IsUnit old new events progress) (rest : List Bool) →
    one_unit (with_memory old (answers_for old u.memory rest)) [] ≡ units_came (with_memory new rest) events progress
unfolding unit
unit-first old new events progress u rest = grind arith

-- a unit that goes on tells nothing
pub IsUnit-silent : (old new : Machine) (events : List Event) (progress : Progress) → IsUnit old new events progress → progress ≡ went_on → events ≡ []
IsUnit-silent old new events progress u e =
    sym (ap (λ (d : UnitDone). d.events) u.is)
    ∙ unit-cases old.heap old.snapshot u.memory (λ d. d.progress ≡ went_on → d.events ≡ []) (λ f. cc) (silent old.snapshot) (ap (λ (d : UnitDone). d.progress) u.is ∙ e)
  where
    silent : (s : Option Snapshot) → (granted old.heap s).progress ≡ went_on → (granted old.heap s).events ≡ []
    silent None f = refl
    silent (Some s) f = go (first_untraversed s.nodes) f
      where
        go : (x : Option Name) → (node_or_end old.heap s x).progress ≡ went_on → (node_or_end old.heap s x).events ≡ []
        go None f = cc
        go (Some x) f = refl

-- Units that stopped

-- and counts none
units_counted-at_end : (n : ℕ) (m : Machine) (events : List Event) (p : Progress) → p ≢ went_on → units_counted n (units_came m events p) ≡ 0
units_counted-at_end zero m events p stopped = refl
units_counted-at_end (suc n) m events went_on stopped = absurd (stopped refl)
units_counted-at_end (suc n) m events at_end stopped = refl
units_counted-at_end (suc n) m events refused stopped = refl

-- units after units
units_done-more : (n k : ℕ) (m : Machine) (events : List Event) (p : Progress) → units_done (n + k) (units_came m events p) ≡ units_done k (units_done n (units_came m events p))
unfolding units_done
units_done-more zero k m events p = rw zero-add refl
units_done-more (suc n) k m events went_on =
    let more : suc n + k ≡ suc (n + k) = omega arith in
    let d = one_unit m events in
    subst (λ (j : ℕ). units_done j (units_came m events went_on) ≡ units_done k (units_done n d)) (sym more) (units_done-more n k d.machine d.events d.progress)
units_done-more (suc n) k m events at_end = units_done-done (suc n + k) (units_came m events at_end) (λ e. cc) ∙ sym (units_done-done k (units_came m events at_end) (λ e. cc))
units_done-more (suc n) k m events refused = units_done-done (suc n + k) (units_came m events refused) (λ e. cc) ∙ sym (units_done-done k (units_came m events refused) (λ e. cc))

-- Units that go on

pub HasGoneOn-none : (m : Machine) → HasGoneOn 0 m m
HasGoneOn-none m = record {
  memory = λ rest. rest;
  later = λ rest n. rw zero-add refl;
  counted = λ rest n. rw zero-add (rw zero-add refl);
}

-- one more unit than before
one_more : (n k : ℕ) → n + 1 + k ≡ n + suc k
one_more n k = omega arith

pub HasGoneOn-more : (k : ℕ) (before mid now : Machine) (events : List Event) → HasGoneOn k before mid → IsUnit mid now events went_on → HasGoneOn (k + 1) before now
unfolding units_done
HasGoneOn-more k before mid now events g u = record {
  memory = λ rest. g.memory (answers_for mid u.memory rest);
  later = λ rest n.
      let start = no_units (with_memory before (g.memory (answers_for mid u.memory rest))) in
      subst (λ (j : ℕ). units_done j start ≡ units_done n (no_units (with_memory now rest))) (sym (one_more k n))
      (g.later (answers_for mid u.memory rest) (suc n) ∙ ap (units_done n) (led rest));
  counted = λ rest n.
      let start = no_units (with_memory before (g.memory (answers_for mid u.memory rest))) in
      let c = units_counted n (no_units (with_memory now rest)) in
      let sum : k + (1 + c) ≡ k + 1 + c = omega arith in
      subst (λ (j : ℕ). units_counted j start ≡ k + 1 + c) (sym (one_more k n))
      (g.counted (answers_for mid u.memory rest) (suc n) ∙ (ap (λ (d : UnitsDone). k + (counted_one d.progress + units_counted n d)) (led rest) ∙ sum));
}
  where
    led : (rest : List Bool) → one_unit (with_memory mid (answers_for mid u.memory rest)) [] ≡ no_units (with_memory now rest)
    led rest = unit-first mid now events went_on u rest ∙ ap (λ es. units_came (with_memory now rest) es went_on) (IsUnit-silent mid now events went_on u refl)

-- THE LAST UNIT ended the collection or was refused
pub HasStopped-from : (k : ℕ) (before mid now : Machine) (events : List Event) (p : Progress) → HasGoneOn k before mid → IsUnit mid now events p → p ≢ went_on → HasStopped before now events p
unfolding units_done
HasStopped-from k before mid now events p g u stopped = record {
  units = k + 1;
  memory = λ rest. g.memory (answers_for mid u.memory rest);
  come = λ rest. g.later (answers_for mid u.memory rest) 1 ∙ unit-first mid now events p u rest;
  stopped = stopped;
}

-- Slices

-- for some answers of memory so many units come to this, and so many of them count
pub record ComeTo (n : ℕ) (before now : Machine) (events : List Event) (p : Progress) (counted : ℕ) : Type 0 where
  pub memory : List Bool
  pub is : slice_cycles n (with_memory before memory) ≡ units_came (with_memory now []) events p
  pub counts : units_counted n (no_units (with_memory before memory)) ≡ counted

-- all of them went on
pub ComeTo-went_on : (n : ℕ) (before now : Machine) → HasGoneOn n before now → ComeTo n before now [] went_on n
unfolding slice_cycles units_done
ComeTo-went_on n before now g = record {
  memory = g.memory [];
  is = subst (λ (j : ℕ). units_done j (no_units (with_memory before (g.memory []))) ≡ no_units (with_memory now [])) all (g.later [] 0);
  counts = subst (λ (j : ℕ). units_counted j (no_units (with_memory before (g.memory []))) ≡ n) all (g.counted [] 0 ∙ all);
}
  where
    all : n + 0 ≡ n
    all = omega arith

-- one of them stopped
pub ComeTo-stopped : (n k : ℕ) (before mid now : Machine) (events : List Event) (p : Progress) → HasGoneOn k before mid → IsUnit mid now events p → p ≢ went_on → k < n →
    ComeTo n before now events p (k + counted_one p)
unfolding slice_cycles units_done
ComeTo-stopped n k before mid now events p g u stopped less = record {
  memory = memory;
  is = subst (λ (j : ℕ). units_done j (no_units (with_memory before memory)) ≡ units_came (with_memory now []) events p) all
      (g.later answers (suc left) ∙ (ap (units_done left) led ∙ units_done-done left (units_came (with_memory now []) events p) stopped));
  counts = subst (λ (j : ℕ). units_counted j (no_units (with_memory before memory)) ≡ k + counted_one p) all
      (g.counted answers (suc left) ∙ (ap (λ (d : UnitsDone). k + (counted_one d.progress + units_counted left d)) led
      ∙ (ap (λ (c : ℕ). k + (counted_one p + c)) (units_counted-at_end left (with_memory now []) events p stopped) ∙ none)));
}
  where
    left : ℕ
    left = n - (k + 1)

    all : k + suc left ≡ n
    all = omega (arith, less)

    answers : List Bool
    answers = answers_for mid u.memory []

    memory : List Bool
    memory = g.memory answers

    led : one_unit (with_memory mid answers) [] ≡ units_came (with_memory now []) events p
    led = unit-first mid now events p u []

    none : k + (counted_one p + 0) ≡ k + counted_one p
    none = omega arith

-- Collections

-- units to the end come to the same
to_the_end-stopped : (before now : Machine) (events : List Event) (p : Progress) (s : HasStopped before now events p) (rest : List Bool) →
    to_the_end (no_units (with_memory before (s.memory rest))) ≡ units_came (with_memory now rest) events p
to_the_end-stopped before now events p s rest =
    sym (units_done-to_the_end (s.units + enough_units start) start (omega arith))
    ∙ (units_done-more s.units (enough_units start) start [] went_on
    ∙ (ap (units_done (enough_units start)) (s.come rest) ∙ units_done-done (enough_units start) (units_came (with_memory now rest) events p) s.stopped))
  where
    start : Machine
    start = with_memory before (s.memory rest)

-- what was told before units is told before what they tell
abbrev earlier : List Event → UnitsDone → UnitsDone
earlier es d = record d { events = es ++ d.events }

units_done-earlier : (n : ℕ) (es : List Event) (m : Machine) (fs : List Event) (p : Progress) → units_done n (units_came m (es ++ fs) p) ≡ earlier es (units_done n (units_came m fs p))
unfolding units_done
units_done-earlier zero es m fs p = refl
units_done-earlier (suc n) es m fs went_on =
    let u = unit m.heap m.snapshot (next_answer m.memory) in
    let d = one_unit m fs in
    ap (λ (l : List Event). units_done n (units_came d.machine l d.progress)) (append_assoc es fs u.events) ∙ units_done-earlier n es d.machine d.events d.progress
units_done-earlier (suc n) es m fs at_end = refl
units_done-earlier (suc n) es m fs refused = refl

-- after something was told
to_the_end-later : (before now : Machine) (es events : List Event) (p : Progress) (s : HasStopped before now events p) (rest : List Bool) →
    to_the_end (units_came (with_memory before (s.memory rest)) es went_on) ≡ units_came (with_memory now rest) (es ++ events) p
to_the_end-later before now es events p s rest =
    let start = with_memory before (s.memory rest) in
    ap (λ (l : List Event). units_done (enough_units start) (units_came start l went_on)) (sym (append-nothing es))
    ∙ (units_done-earlier (enough_units start) es start [] went_on ∙ ap (earlier es) (to_the_end-stopped before now events p s rest))
  where
    append-nothing : (l : List Event) → l ++ [] ≡ l
    append-nothing [] = refl
    append-nothing (x ∷ xs) = ap (λ ys. x ∷ ys) (append-nothing xs)

-- where no collection runs, none is ended
pub finish-none : (m : Machine) → m.snapshot ≡ None → finish_running m ≡ no_units m
finish-none m e = ap (λ (o : Option Snapshot). elim (is_some o) [ true ↦ to_the_end (no_units m) | false ↦ no_units m ]) e

-- a running one is
finish-running : (m : Machine) → is_some m.snapshot ≡ true → finish_running m ≡ to_the_end (no_units m)
finish-running m e = ap (λ (b : Bool). elim b [ true ↦ to_the_end (no_units m) | false ↦ no_units m ]) e

-- and comes to the same
pub finish-stopped : (before now : Machine) (events : List Event) (p : Progress) (s : HasStopped before now events p) (rest : List Bool) → is_some before.snapshot ≡ true →
    finish_running (with_memory before (s.memory rest)) ≡ units_came (with_memory now rest) events p
finish-stopped before now events p s rest runs = finish-running (with_memory before (s.memory rest)) runs ∙ to_the_end-stopped before now events p s rest

-- A COLLECTION where none runs
pub collect-alone : (before now : Machine) (events : List Event) (p : Progress) (s : HasStopped before now events p) → before.snapshot ≡ None →
    collect_cycles (with_memory before (s.memory [])) ≡ units_came (with_memory now []) events p
unfolding collect_cycles
collect-alone before now events p s none = search (finish-none, to_the_end-stopped)

-- where ending the running one is refused, no other begins
pub collect-refused : (before now : Machine) (events : List Event) (s : HasStopped before now events refused) → is_some before.snapshot ≡ true →
    collect_cycles (with_memory before (s.memory [])) ≡ units_came (with_memory now []) events refused
unfolding collect_cycles
collect-refused before now events s runs = search (finish-running, to_the_end-stopped)

-- after a running one
pub collect-both : (before mid now : Machine) (first second : List Event) (p : Progress) (s : HasStopped before mid first at_end) (t : HasStopped mid now second p) →
    is_some before.snapshot ≡ true → collect_cycles (with_memory before (s.memory (t.memory []))) ≡ units_came (with_memory now []) (first ++ second) p
unfolding collect_cycles
collect-both before mid now first second p s t runs = search (finish-running, to_the_end-stopped, to_the_end-later)
