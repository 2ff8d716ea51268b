-- UNITS ONE AFTER THE OTHER KEEP WHAT EACH OF THEM KEEPS, of a machine that runs beside a graph.
use Rattle.std.proofs.Common.{arith, ◌≡◌, ℕ, zero, suc, Bool, List, ◌++◌, Option, refl, sym, ◌∙◌, ap, None, ◌≢◌, subst}
use Rattle.std.proofs.lemmas.List.{append-nil, append_assoc}
use Rattle.cc_names.specs.declared.name.Name.{Name}
use Rattle.cc_model.specs.declared.command.Command.TheVariants.{Collect}
use Rattle.cc_model.specs.declared.item.Event.{Event}
use Rattle.cc_model.specs.Mutating.{Running, so_many, whole}
use Rattle.cc_model.specs.Graph.{Graph}
use Rattle.cc_model.specs.WellMade.{IsWellMade}
use Rattle.cc_model.specs.Heap.{Heap}
use Rattle.cc_model.specs.Snapshot.{Snapshot}
use Rattle.cc_model.specs.End.{Progress, went_on, refused, unit}
use Rattle.cc_model.specs.Listed.{after_events}
use Rattle.cc_model.specs.Collecting.{Machine, UnitsDone, next_answer, no_units, one_unit, units_done, enough_units, to_the_end, finish_running, starting_anew, unless_stopped, slice_cycles, collect_cycles, behind, finish_marking, slice, collect}
use Rattle.cc_model.specs.Run.{run_units}
use Rattle.cc_laws_run.proofs.Finishing.{finish_marking-none}
use Rattle.cc_laws_run.proofs.UnitLawful.{RunsOn, UnitIsLawful, unit-lawful}

-- the units that are left, by what the last one came to
abbrev units_by : ℕ → UnitsDone → Progress → UnitsDone
units_by n d went_on = units_done n (one_unit d.machine d.events)
units_by n d _ = d

-- WHAT A UNIT KEEPS, UNITS KEEP.
pub units_done-keep : (Q : UnitsDone → Type 0) → ((d : UnitsDone) → d.progress ≡ went_on → Q d → Q (one_unit d.machine d.events)) →
    (n : ℕ) (d : UnitsDone) → Q d → Q (units_done n d)
unfolding units_done
units_done-keep Q step zero d q = q
units_done-keep Q step (suc n) d q = go (units_done-keep Q step n (one_unit d.machine d.events)) d.progress refl
  where
    go : (Q (one_unit d.machine d.events) → Q (units_done n (one_unit d.machine d.events))) → (p : Progress) → d.progress ≡ p → Q (units_by n d p)
    go ih went_on e = ih (step d e q)
    go ih _ e = q

-- Whatever holds of a running collection that is brought to its end, and of no units where none runs, holds of what is finished.
pub finish-cases : (m : Machine) (P : UnitsDone → Type 0) → P (to_the_end (no_units m)) → (m.snapshot ≡ None → P (no_units m)) → P (finish_running m)
finish-cases m P ended none = grind arith

-- Whatever holds of units that were refused, and of a collection that begins after others, holds of what `collect` makes of them.
pub unless_stopped-cases : (d : UnitsDone) (P : UnitsDone → Type 0) → (d.progress ≡ refused → P d) →
    (d.progress ≢ refused → P (to_the_end (starting_anew d))) → P (unless_stopped d)
unless_stopped-cases d P stopped more = grind arith

-- Units, without the marking that is finished first

-- so many, or those of a whole collection
abbrev pub run_cycles : Machine → Running → UnitsDone
run_cycles m (so_many n) = slice_cycles n m
run_cycles m whole = collect_cycles m

-- UNITS come behind the finishing of a marking that goes on.
pub run_units-behind : (u : Running) (m : Machine) → run_units m u ≡ behind (finish_marking m) (run_cycles (finish_marking m).machine u)
unfolding slice collect
run_units-behind (so_many n) m = refl
run_units-behind whole m = refl

-- where no marking goes on they come at once
pub run_units-none : (u : Running) (m : Machine) → m.marking ≡ None → run_units m u ≡ run_cycles m u
run_units-none u m e = run_units-behind u m ∙ ap (λ (f : UnitsDone). behind f (run_cycles f.machine u)) (finish_marking-none m e)

-- Machines that run

-- what a collection is like, by its heaps, its snapshot, what was told, and what the last unit came to
abbrev pub Manner : Type 1
Manner = Heap → Option Snapshot → List Event → Progress → Type 0

-- each unit of machines that run keeps the manner
abbrev pub EachKeeps : Graph → Manner → Type 0
EachKeeps g P = (names : List Name) (h : Heap) (o : Option Snapshot) (answer : Bool) (es : List Event) → RunsOn g names h o → P h o es went_on →
    P (unit h o answer).heap (unit h o answer).snapshot (es ++ (unit h o answer).events) (unit h o answer).progress

-- a machine that runs beside a graph, in this manner
pub record HoldsOn (g : Graph) (P : Manner) (d : UnitsDone) : Type 0 where
  pub names : List Name
  pub runs : RunsOn g names d.machine.heap d.machine.snapshot
  pub holds : P d.machine.heap d.machine.snapshot d.events d.progress

module _ (g : Graph) (well : IsWellMade g) (P : Manner) (step : EachKeeps g P) where
  -- one unit leaves such a machine
  one_unit-holds : (d : UnitsDone) → d.progress ≡ went_on → HoldsOn g P d → HoldsOn g P (one_unit d.machine d.events)
  one_unit-holds d e t =
      let h : Heap = d.machine.heap in
      let answer : Bool = next_answer d.machine.memory in
      let lawful : UnitIsLawful g t.names Collect (unit h d.machine.snapshot answer) = unit-lawful g well Collect refl t.names h d.machine.snapshot answer t.runs in
      record {
        names = after_events t.names (unit h d.machine.snapshot answer).events;
        runs = lawful.still;
        holds = step t.names h d.machine.snapshot answer d.events t.runs (subst (P h d.machine.snapshot d.events) e t.holds);
      }

  -- so do several
  pub units_done-holds : (n : ℕ) (d : UnitsDone) → HoldsOn g P d → HoldsOn g P (units_done n d)
  units_done-holds n d t = units_done-keep (HoldsOn g P) one_unit-holds n d t

  -- those of a slice, but for the marking that is finished first
  slice_cycles-holds : (n : ℕ) (m : Machine) → HoldsOn g P (no_units m) → HoldsOn g P (slice_cycles n m)
  unfolding slice_cycles
  slice_cycles-holds n m t = units_done-holds n (no_units m) t

  -- those that bring a running collection to its end
  pub finish-holds : (m : Machine) → HoldsOn g P (no_units m) → HoldsOn g P (finish_running m)
  finish-holds m t = finish-cases m (HoldsOn g P) (units_done-holds (enough_units m) (no_units m) t) (λ e. t)

  -- those of a whole collection, where it does not matter what the last unit came to
  collect_cycles-holds : ((h : Heap) (o : Option Snapshot) (es : List Event) (p : Progress) → P h o es p → P h o es went_on) →
      (m : Machine) → HoldsOn g P (no_units m) → HoldsOn g P (collect_cycles m)
  unfolding collect_cycles
  collect_cycles-holds anew m t =
      let d : UnitsDone = finish_running m in
      let first : HoldsOn g P d = finish-holds m t in
      unless_stopped-cases d (HoldsOn g P) (λ e. first)
      (λ e. units_done-holds (enough_units d.machine) (starting_anew d) (record { names = first.names; runs = first.runs; holds = anew d.machine.heap d.machine.snapshot d.events d.progress first.holds }))

  -- those of a number of units, or of a whole collection
  pub run_cycles-holds : ((h : Heap) (o : Option Snapshot) (es : List Event) (p : Progress) → P h o es p → P h o es went_on) →
      (u : Running) (m : Machine) → HoldsOn g P (no_units m) → HoldsOn g P (run_cycles m u)
  run_cycles-holds anew (so_many n) m t = slice_cycles-holds n m t
  run_cycles-holds anew whole m t = collect_cycles-holds anew m t

-- the manner of events that come behind others
abbrev pub Behind : List Event → Manner → Manner
Behind before P h o es p = P h o (before ++ es) p

module _ (g : Graph) (well : IsWellMade g) (P : Manner) (step : EachKeeps g P) where
  -- each unit keeps it, too
  behind-keeps : (before : List Event) → EachKeeps g (Behind before P)
  behind-keeps before names h o answer es r t = subst (λ fs. P (unit h o answer).heap (unit h o answer).snapshot fs (unit h o answer).progress)
      (append_assoc before es (unit h o answer).events) (step names h o answer (before ++ es) r t)

  -- UNITS BEHIND THE FINISHING OF A MARKING, where that leaves a machine in this manner
  pub run_units-holds : ((h : Heap) (o : Option Snapshot) (es : List Event) (p : Progress) → P h o es p → P h o es went_on) →
      (u : Running) (m : Machine) → HoldsOn g P (starting_anew (finish_marking m)) → HoldsOn g P (run_units m u)
  run_units-holds anew u m t = subst (HoldsOn g P) (sym (run_units-behind u m)) (record { names = rest.names; runs = rest.runs; holds = rest.holds })
    where
      f : UnitsDone
      f = finish_marking m

      rest : HoldsOn g (Behind f.events P) (run_cycles f.machine u)
      rest = run_cycles-holds g well (Behind f.events P) (behind-keeps f.events) (λ h o es p. anew h o (f.events ++ es) p) u f.machine
          (record { names = t.names; runs = t.runs; holds = subst (λ es. P f.machine.heap f.machine.snapshot es went_on) (sym (append-nil f.events)) t.holds })
