-- THE FINISHING OF A MARKING uses no answer of memory, tells no abandonment, and leaves the running collection; so `slice` and `collect`
-- use what their units of collections use.
use Rattle.std.proofs.Common.{◌≡◌, ℕ, suc, Bool, List, [], ◌++◌, Option, Some, None, refl, ◌∙◌, ap, arith}
use Rattle.cc_model.specs.Mutating.{Running, so_many, whole}
use Rattle.cc_model.specs.Marking.{NewMarks, scans_left}
use Rattle.cc_model.specs.Collecting.{Machine, UnitsDone, no_units, units_marked, finish_marking, behind, slice_cycles, collect_cycles, slice, collect}
use Rattle.cc_model.specs.Run.{run_units}
use Rattle.cc_laws_run.specs.Memory.{with_memory, noes}
use Rattle.cc_laws_run.proofs.Unabandoned.{TellsNone, abandonments-append}
use Rattle.cc_laws_run.proofs.UnitsUse.{done_with, UnitsUse, slice_cycles-use, collect_cycles-use}
use Rattle.cc_laws_run.proofs.Finishing.{finishing-leaves}
use Rattle.cc_laws_run.proofs.MarkedUnits.{units_marked-with, units_marked-told}

-- Whatever holds where no marking goes on, and of any units of one, holds of what is finished.
finish_marking-cases : (m : Machine) (P : UnitsDone → Type 0) → P (no_units m) → ((n : ℕ) → P (units_marked n (no_units m))) → P (finish_marking m)
unfolding finish_marking
finish_marking-cases m P none ended = go m.marking
  where
    go : (o : Option NewMarks) → P (elim o [ None ↦ no_units m | Some marks ↦ units_marked (suc (scans_left marks)) (no_units m) ])
    go None = none
    go (Some marks) = ended (suc (scans_left marks))

-- it tells no abandonment
finish_marking-told : (m : Machine) → TellsNone (finish_marking m).events
finish_marking-told m = finish_marking-cases m (λ d. TellsNone d.events) refl (λ n. units_marked-told n (no_units m))

-- with other answers of memory to come it is the same
finish_marking-with : (m : Machine) (memory : List Bool) → finish_marking (with_memory m memory) ≡ done_with (finish_marking m) memory
unfolding finish_marking
finish_marking-with m memory = go m.marking
  where
    finished : Option NewMarks → Machine → UnitsDone
    finished o n = elim o [ None ↦ no_units n | Some marks ↦ units_marked (suc (scans_left marks)) (no_units n) ]

    go : (o : Option NewMarks) → finished o (with_memory m memory) ≡ done_with (finished o m) memory
    go None = refl
    go (Some marks) = units_marked-with (suc (scans_left marks)) (no_units m) memory

-- what comes behind it uses what it would use alone
behind-use : (m : Machine) (g : Machine → UnitsDone) → let n = (finish_marking m).machine in
    UnitsUse (λ memory. g (with_memory n memory)) (no_units n) (g n) →
    UnitsUse (λ memory. let d = finish_marking (with_memory m memory) in behind d (g d.machine)) (no_units m) (behind (finish_marking m) (g n))
behind-use m g u =
    let d : UnitsDone = finish_marking m in
    let n : Machine = d.machine in
    record {
      used = u.used;
      any = λ more. ap (λ (e : UnitsDone). behind e (g e.machine)) (finish_marking-with m (u.used ++ more)) ∙ ap (behind d) (u.any more);
      said_no = u.said_no;
      told = omega (arith, u.told, abandonments-append d.events (g n).events, finish_marking-told m);
      ample = λ e none.
          let w = u.ample (ap noes (finishing-leaves m).memory ∙ e) none in
          (ap (λ (f : UnitsDone). behind f (g f.machine)) (finish_marking-with m []) ∙ ap (behind d) w.0, w.1, w.2);
    }

-- a slice
slice-use : (n : ℕ) (m : Machine) → UnitsUse (λ memory. slice n (with_memory m memory)) (no_units m) (slice n m)
unfolding slice
slice-use n m = behind-use m (slice_cycles n) (slice_cycles-use n (finish_marking m).machine)

-- a whole collection
collect-use : (m : Machine) → UnitsUse (λ memory. collect (with_memory m memory)) (no_units m) (collect m)
unfolding collect
collect-use m = behind-use m collect_cycles (collect_cycles-use (finish_marking m).machine)

-- either
pub run_units-use : (u : Running) (m : Machine) → UnitsUse (λ memory. run_units (with_memory m memory) u) (no_units m) (run_units m u)
run_units-use (so_many n) m = slice-use n m
run_units-use whole m = collect-use m
