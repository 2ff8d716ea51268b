-- UNITS OF COLLECTIONS LEAVE WHAT STANDS BESIDE THE HEAPS: the weak registers, and the script marking that goes on.
use Rattle.std.proofs.Common.{◌≡◌, ℕ, zero, suc, Bool, true, false, List, Option, None, Some, refl, sym, ◌∙◌, subst}
use Rattle.cc_model.specs.declared.item.Event.{Event}
use Rattle.cc_model.specs.Mutating.{Running, so_many, whole}
use Rattle.cc_model.specs.Marking.{NewMarks, begun_marks, is_scanned, scanned, ended_marks}
use Rattle.cc_model.specs.End.{Progress, went_on, at_end}
use Rattle.cc_model.specs.Collecting.{Machine, UnitsDone, no_units, units_came, units_done, enough_units, finish_running, slice_cycles, starting_anew, collect_cycles, with_outcome, one_marked, units_marked, without_marking, finish_marking, slice, collect, gc, mark}
use Rattle.cc_model.specs.Run.{run_units}
use Rattle.cc_laws_run.proofs.Finishing.{finishing-leaves}
use Rattle.cc_laws_run.proofs.HoldingUnits.{units_done-keep, unless_stopped-cases, finish-cases, run_cycles, run_units-behind}

-- what stands beside the heaps of the second machine is as in the first
pub record StandsBeside (m n : Machine) : Type 0 where
  pub weak : n.weak ≡ m.weak
  pub marking : n.marking ≡ m.marking

-- several units
pub units_done-beside : (n : ℕ) (d : UnitsDone) → StandsBeside d.machine (units_done n d).machine
units_done-beside n d = units_done-keep (λ e. StandsBeside d.machine e.machine) (λ e on b. record { weak = b.weak; marking = b.marking }) n d
    (record { weak = refl; marking = refl })

-- units of a slice
pub slice_cycles-beside : (n : ℕ) (m : Machine) → StandsBeside m (slice_cycles n m).machine
unfolding slice_cycles
slice_cycles-beside n m = units_done-beside n (no_units m)

-- a running collection is brought to its end
pub finish-beside : (m : Machine) → StandsBeside m (finish_running m).machine
finish-beside m = finish-cases m (λ d. StandsBeside m d.machine) (units_done-beside (enough_units m) (no_units m)) (λ e. record { weak = refl; marking = refl })

-- units of a whole collection
pub collect_cycles-beside : (m : Machine) → StandsBeside m (collect_cycles m).machine
unfolding collect_cycles
collect_cycles-beside m =
    let d : UnitsDone = finish_running m in
    let f : StandsBeside m d.machine = finish-beside m in
    unless_stopped-cases d (λ e. StandsBeside m e.machine) (λ e. f)
    (λ e. let b = units_done-beside (enough_units d.machine) (starting_anew d) in record { weak = b.weak ∙ f.weak; marking = b.marking ∙ f.marking })

-- both
pub run_cycles-beside : (u : Running) (m : Machine) → StandsBeside m (run_cycles m u).machine
run_cycles-beside (so_many n) m = slice_cycles-beside n m
run_cycles-beside whole m = collect_cycles-beside m

-- WEAK REGISTERS STAY, AND NO MARKING GOES ON in the second machine.
pub record StandsUnmarked (m n : Machine) : Type 0 where
  pub weak : n.weak ≡ m.weak
  pub marking : n.marking ≡ None

-- UNITS, so many or those of a whole collection
pub run_units-beside : (u : Running) (m : Machine) → StandsUnmarked m (run_units m u).machine
run_units-beside u m =
    let f = finishing-leaves m in
    let b = run_cycles-beside u (finish_marking m).machine in
    subst (λ (d : UnitsDone). StandsUnmarked m d.machine) (sym (run_units-behind u m)) (record { weak = b.weak ∙ f.weak; marking = b.marking ∙ f.marking })

-- A SLICE
pub slice-beside : (n : ℕ) (m : Machine) → StandsUnmarked m (slice n m).machine
slice-beside n m = run_units-beside (so_many n) m

-- A WHOLE COLLECTION
pub collect-beside : (m : Machine) → StandsUnmarked m (collect m).machine
collect-beside m = run_units-beside whole m

-- A SCRIPT COLLECTION
pub gc-beside : (m : Machine) → StandsUnmarked m (gc m).machine
unfolding gc
gc-beside m = let f = finish-beside (without_marking m) in record { weak = f.weak; marking = f.marking }

-- UNITS OF A MARKING leave weak registers, the snapshot and the answers of memory.
pub record StandsMarking (m n : Machine) : Type 0 where
  pub weak : n.weak ≡ m.weak
  pub snapshot : n.snapshot ≡ m.snapshot
  pub memory : n.memory ≡ m.memory

pub one_marked-beside : (m : Machine) (events : List Event) → StandsMarking m (one_marked m events).machine
one_marked-beside m events = by_marking m.marking
  where
    ended_by : NewMarks → Bool → UnitsDone
    ended_by marks true = with_outcome (units_came (record m { marking = None }) events at_end) (ended_marks m.heap marks)
    ended_by marks false = units_came (record m { marking = Some (scanned m.heap marks) }) events went_on

    by_scanned : (marks : NewMarks) (b : Bool) → StandsMarking m (ended_by marks b).machine
    by_scanned marks true = record { weak = refl; snapshot = refl; memory = refl }
    by_scanned marks false = record { weak = refl; snapshot = refl; memory = refl }

    marked_by : Option NewMarks → UnitsDone
    marked_by None = units_came (record m { marking = Some (begun_marks m.heap) }) events went_on
    marked_by (Some marks) = ended_by marks (is_scanned marks)

    by_marking : (o : Option NewMarks) → StandsMarking m (marked_by o).machine
    by_marking None = record { weak = refl; snapshot = refl; memory = refl }
    by_marking (Some marks) = by_scanned marks (is_scanned marks)

-- WHAT A UNIT OF A MARKING KEEPS, UNITS KEEP.
abbrev marked_by : ℕ → UnitsDone → Progress → UnitsDone
marked_by n d went_on = units_marked n (one_marked d.machine d.events)
marked_by n d _ = d

pub units_marked-keep : (Q : UnitsDone → Type 0) → ((d : UnitsDone) → d.progress ≡ went_on → Q d → Q (one_marked d.machine d.events)) →
    (n : ℕ) (d : UnitsDone) → Q d → Q (units_marked n d)
units_marked-keep Q step zero d q = q
units_marked-keep Q step (suc n) d q = go (units_marked-keep Q step n (one_marked d.machine d.events)) d.progress refl
  where
    go : (Q (one_marked d.machine d.events) → Q (units_marked n (one_marked d.machine d.events))) → (p : Progress) → d.progress ≡ p → Q (marked_by n d p)
    go ih went_on e = ih (step d e q)
    go ih _ e = q

pub units_marked-beside : (n : ℕ) (d : UnitsDone) → StandsMarking d.machine (units_marked n d).machine
units_marked-beside n d = units_marked-keep (λ e. StandsMarking d.machine e.machine)
    (λ e on b. let one = one_marked-beside e.machine e.events in record { weak = one.weak ∙ b.weak; snapshot = one.snapshot ∙ b.snapshot; memory = one.memory ∙ b.memory })
    n d (record { weak = refl; snapshot = refl; memory = refl })

-- A MARKING leaves weak registers.
pub mark-beside : (n : ℕ) (m : Machine) → (mark n m).machine.weak ≡ m.weak
unfolding mark
mark-beside n m = (units_marked-beside n (starting_anew (finish_running m))).weak ∙ (finish-beside m).weak
