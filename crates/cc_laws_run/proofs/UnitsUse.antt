-- WHAT UNITS USE of memory's answers: a front of them, with one `no` where the last unit is refused; what stands behind it does not matter.
use Rattle.std.proofs.Common.{◌≡◌, ℕ, suc, ◌+◌, Bool, true, false, not, ◌&&◌, List, [], ◌∷◌, ◌++◌, Option, is_some, refl, sym, ◌∙◌, ap, subst, arith}
use Rattle.std.proofs.lemmas.List.{append_assoc}
use Rattle.cc_lists.proofs.Counting.{count_by-append, count_by-cons}
use Rattle.cc_model.specs.declared.item.Event.{Event}
use Rattle.cc_model.specs.Heap.{Heap}
use Rattle.cc_model.specs.Sweep.{collect_scripts}
use Rattle.cc_model.specs.Snapshot.{Snapshot}
use Rattle.cc_model.specs.End.{Progress, went_on, at_end, refused, UnitDone, unit, may_be_refused, abandoned, granted}
use Rattle.cc_model.specs.Collecting.{Machine, next_answer, later_answers, UnitsDone, no_units, one_unit, units_done, enough_units, to_the_end, finish_running, slice_cycles, unless_stopped, collect_cycles, then_scripts, without_marking, gc, units_came}
use Rattle.cc_laws_run.specs.Memory.{with_memory, noes}
use Rattle.cc_laws_run.proofs.Unabandoned.{abandonments, TellsNone, abandonments-append, take_away-none, collect_scripts-none}

-- the same units done, with other answers of memory to come
abbrev pub done_with : UnitsDone → List Bool → UnitsDone
done_with d memory = record d { machine = with_memory d.machine memory }

-- how often progress says that memory was refused
abbrev pub refusals : Progress → ℕ
refusals refused = 1
refusals _ = 0

-- Units lead from d to r, and with other answers of memory as f says: they use a front of these, which says no once for each refusal.
pub record UnitsUse (f : List Bool → UnitsDone) (d r : UnitsDone) : Type 0 where
  pub used : List Bool
  pub any : (more : List Bool) → f (used ++ more) ≡ done_with r more
  pub said_no : noes used + refusals d.progress ≡ refusals r.progress
  pub told : abandonments r.events + refusals d.progress ≡ abandonments d.events + refusals r.progress
  -- where memory never says no, it is as good as memory at every place
  pub ample : noes d.machine.memory ≡ 0 → refusals d.progress ≡ 0 → (f [] ≡ done_with r []) × (noes r.machine.memory ≡ 0) × (refusals r.progress ≡ 0)

-- the noes of two lists add up
pub noes-append : (xs ys : List Bool) → noes (xs ++ ys) ≡ noes xs + noes ys
noes-append xs ys = count_by-append (λ b. not b) xs ys

-- memory that never says no says yes first
pub ample-next : (memory : List Bool) → noes memory ≡ 0 → next_answer memory ≡ true
ample-next (false ∷ bs) e = absurd (omega (arith, e, count_by-cons (λ b. not b) false bs))
ample-next _ e = refl

-- and never does so later
pub ample-later : (memory : List Bool) → noes memory ≡ 0 → noes (later_answers memory) ≡ 0
ample-later [] e = refl
ample-later (b ∷ bs) e = omega (arith, e, count_by-cons (λ c. not c) b bs)

-- where nothing is done, nothing is used
uses-nothing : (d : UnitsDone) → UnitsUse (done_with d) d d
uses-nothing d = grind arith

-- what is done one after the other uses one front, and then the other
uses-then : (f : List Bool → UnitsDone) (g : UnitsDone → UnitsDone) (d r s : UnitsDone) → UnitsUse f d r → UnitsUse (λ memory. g (done_with r memory)) r s →
    UnitsUse (λ memory. g (f memory)) d s
uses-then f g d r s u v = record {
  used = u.used ++ v.used;
  any = λ more. ap (λ memory. g (f memory)) (append_assoc u.used v.used more) ∙ (ap g (u.any (v.used ++ more)) ∙ v.any more);
  said_no = omega (arith, noes-append u.used v.used, u.said_no, v.said_no);
  told = omega (arith, u.told, v.told);
  ample = λ e none. let w = u.ample e none in let x = v.ample w.1 w.2 in (ap g w.0 ∙ x.0, x.1, x.2);
}

-- One unit

-- a unit that has its memory is not refused
pub granted-refusals : (h : Heap) (s : Option Snapshot) → refusals (granted h s).progress ≡ 0
granted-refusals h s = grind arith

-- and tells no abandonment
granted-none : (h : Heap) (s : Option Snapshot) → TellsNone (granted h s).events
granted-none h s = grind (arith, take_away-none)

-- a unit by whether it is refused
abbrev unit_by : Heap → Option Snapshot → Bool → UnitDone
unit_by h s b = elim b [ true ↦ abandoned h s | false ↦ granted h s ]

-- a unit tells an abandonment where it is refused
unit_by-told : (h : Heap) (s : Option Snapshot) (b : Bool) → abandonments (unit_by h s b).events ≡ refusals (unit_by h s b).progress
unit_by-told h s b = grind (arith, granted-none, granted-refusals)

-- and is refused where memory says no
unit_by-refusals : (h : Heap) (s : Option Snapshot) (answer : Bool) → noes (answer ∷ []) ≡ refusals (unit_by h s (not answer)).progress
unit_by-refusals h s answer = grind (arith, granted-refusals)

-- A unit uses one answer of memory where it may be refused, and none elsewhere.
unit-use : (m : Machine) (es : List Event) →
    UnitsUse (λ memory. one_unit (with_memory m memory) es) (units_came m es went_on) (one_unit m es)
unfolding unit
unit-use m es = go (may_be_refused m.heap m.snapshot)
  where
    done : UnitDone → List Bool → UnitsDone
    done u memory = units_came (record m { heap = u.heap; snapshot = u.snapshot; memory = memory }) (es ++ u.events) u.progress

    done_by : Bool → List Bool → UnitsDone
    done_by b memory = done (unit_by m.heap m.snapshot (b && not (next_answer memory))) (elim b [ true ↦ later_answers memory | false ↦ memory ])

    told : (b : Bool) → abandonments (es ++ (unit_by m.heap m.snapshot b).events) + 0 ≡ abandonments es + refusals (unit_by m.heap m.snapshot b).progress
    told b = omega (arith, abandonments-append es (unit_by m.heap m.snapshot b).events, unit_by-told m.heap m.snapshot b)

    go : (b : Bool) → UnitsUse (done_by b) (units_came m es went_on) (done_by b m.memory)
    go true = record {
      used = next_answer m.memory ∷ [];
      any = λ more. refl;
      said_no = omega (arith, unit_by-refusals m.heap m.snapshot (next_answer m.memory));
      told = told (not (next_answer m.memory));
      ample = λ e none. let yes : true ≡ next_answer m.memory = sym (ample-next m.memory e) in (
        ap (λ b. done (unit_by m.heap m.snapshot (not b)) []) yes,
        ample-later m.memory e,
        subst (λ b. refusals (unit_by m.heap m.snapshot (not b)).progress ≡ 0) yes (granted-refusals m.heap m.snapshot),
      );
    }
    go false = record {
      used = [];
      any = λ more. refl;
      said_no = sym (granted-refusals m.heap m.snapshot);
      told = told false;
      ample = λ e none. (refl, e, granted-refusals m.heap m.snapshot);
    }

-- Units in a row

-- units in a row, what was done before them by its parts
units_from-use : (n : ℕ) (m : Machine) (es : List Event) (p : Progress) →
    UnitsUse (λ memory. units_done n (units_came (with_memory m memory) es p))
    (units_came m es p) (units_done n (units_came m es p))
unfolding units_done
units_from-use (suc n) m es went_on =
    let d = one_unit m es in
    uses-then (λ memory. one_unit (with_memory m memory) es) (units_done n) (units_came m es went_on)
    d (units_done n d) (unit-use m es) (units_from-use n d.machine d.events d.progress)
units_from-use _ m es x = uses-nothing (units_came m es x)

-- UNITS USE A FRONT OF MEMORY'S ANSWERS.
pub units-use : (n : ℕ) (d : UnitsDone) → UnitsUse (λ memory. units_done n (done_with d memory)) d (units_done n d)
units-use n d = units_from-use n d.machine d.events d.progress

-- so do those of a slice
pub slice_cycles-use : (n : ℕ) (m : Machine) → UnitsUse (λ memory. slice_cycles n (with_memory m memory)) (no_units m) (slice_cycles n m)
unfolding slice_cycles
slice_cycles-use n m = units-use n (no_units m)

-- those until the collection ends
to_the_end-use : (d : UnitsDone) → UnitsUse (λ memory. to_the_end (done_with d memory)) d (to_the_end d)
to_the_end-use d = units-use (enough_units d.machine) d

-- those of a running collection
pub finish_running-use : (m : Machine) → UnitsUse (λ memory. finish_running (with_memory m memory)) (no_units m) (finish_running m)
finish_running-use m = go (is_some m.snapshot)
  where
    go : (b : Bool) → UnitsUse (λ memory. elim b [ true ↦ to_the_end (no_units (with_memory m memory)) | false ↦ no_units (with_memory m memory) ])
        (no_units m) (elim b [ true ↦ to_the_end (no_units m) | false ↦ no_units m ])
    go true = to_the_end-use (no_units m)
    go false = uses-nothing (no_units m)

-- those of a collection that begins after it, where that was not refused
unless_stopped-use : (m : Machine) (es : List Event) (p : Progress) →
    UnitsUse (λ memory. unless_stopped (units_came (with_memory m memory) es p))
    (units_came m es p) (unless_stopped (units_came m es p))
unless_stopped-use m es refused = uses-nothing (units_came m es refused)
unless_stopped-use m es went_on = to_the_end-use (units_came m es went_on)
unless_stopped-use m es at_end =
    let u = to_the_end-use (units_came m es went_on) in
    record { used = u.used; any = u.any; said_no = u.said_no; told = u.told; ample = u.ample }

-- those of a whole collection
pub collect_cycles-use : (m : Machine) → UnitsUse (λ memory. collect_cycles (with_memory m memory)) (no_units m) (collect_cycles m)
unfolding collect_cycles
collect_cycles-use m =
    let d = finish_running m in
    uses-then (λ memory. finish_running (with_memory m memory)) unless_stopped (no_units m) d (unless_stopped d)
    (finish_running-use m) (unless_stopped-use d.machine d.events d.progress)

-- the units of `gc`: its script collection uses none
pub gc-use : (m : Machine) → UnitsUse (λ memory. gc (with_memory m memory)) (no_units m) (gc m)
unfolding gc
gc-use m =
    let u = finish_running-use (without_marking m) in
    let d = finish_running (without_marking m) in
    record {
      used = u.used;
      any = λ more. ap then_scripts (u.any more);
      said_no = u.said_no;
      told = omega (arith, u.told, abandonments-append d.events (collect_scripts d.machine.heap).events, collect_scripts-none d.machine.heap);
      ample = λ e none. let w = u.ample e none in (ap then_scripts w.0, w.1, w.2);
    }
