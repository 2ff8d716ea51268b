-- WHERE NO SCRIPT MARKING GOES ON a slice and a collection are their units, and `gc` drops none. So it is while a collection runs.
use Rattle.std.proofs.Common.{◌≡◌, ℕ, Option, Some, None, refl, sym, ap, subst}
use Rattle.cc_model.specs.Heap.{Heap}
use Rattle.cc_model.specs.Snapshot.{Snapshot}
use Rattle.cc_model.specs.Marking.{NewMarks}
use Rattle.cc_model.specs.Lawful.{State}
use Rattle.cc_model.specs.Collecting.{Machine, UnitsDone, no_units, units_done, to_the_end, finish_running, finish_marking, behind, slice_cycles, slice, collect_cycles, collect, without_marking, then_scripts, gc}
use Rattle.cc_laws_run.specs.Running.{IsMarkingNow, IsRunning}
use Rattle.cc_laws_run.proofs.Finishing.{finish_marking-none}

-- A collection that runs

-- where a collection runs no marking goes on
pub unmarked-some : (h : Heap) (marking : Option NewMarks) (t : Snapshot) → IsMarkingNow h marking (Some t) → marking ≡ None
unmarked-some h None t i = refl
unmarked-some h (Some marks) t i = let alone = i.alone in absurd (cc)

-- so it is in a machine that runs
pub running-unmarked : (m : Machine) (s : State) (t : Snapshot) → IsRunning m s → m.snapshot ≡ Some t → m.marking ≡ None
running-unmarked m s t r e = unmarked-some m.heap m.marking t (subst (IsMarkingNow m.heap m.marking) e r.marking)

-- Where none goes on

module _ (m : Machine) (none : m.marking ≡ None) where
  -- units stand behind no end of a marking
  pub behind-unmarked : (f : Machine → UnitsDone) → behind (finish_marking m) (f (finish_marking m).machine) ≡ f m
  behind-unmarked f = ap (λ (d : UnitsDone). behind d (f d.machine)) (finish_marking-none m none)

  -- a slice
  pub slice-unmarked : (n : ℕ) → slice n m ≡ units_done n (no_units m)
  unfolding slice slice_cycles
  slice-unmarked n = behind-unmarked (slice_cycles n)

  -- a whole collection
  pub collect-unmarked : collect m ≡ collect_cycles m
  unfolding collect
  collect-unmarked = behind-unmarked collect_cycles

  -- the first collection of it
  pub first-unmarked : behind (finish_marking m) (to_the_end (no_units (finish_marking m).machine)) ≡ to_the_end (no_units m)
  first-unmarked = behind-unmarked (λ n. to_the_end (no_units n))

  -- nothing is dropped
  pub dropped-unmarked : without_marking m ≡ m
  dropped-unmarked = ap (λ (o : Option NewMarks). record m { marking = o }) (sym none)

  -- a script collection
  pub gc-drops_none : gc m ≡ then_scripts (finish_running m)
  unfolding gc
  gc-drops_none = ap (λ (n : Machine). then_scripts (finish_running n)) dropped-unmarked
