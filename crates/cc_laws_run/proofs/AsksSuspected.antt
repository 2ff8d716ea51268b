-- NO ASK FORGETS AN UNREACHED NATIVE: commands, units of collections, `gc`, and units of a marking.
use Rattle.std.specs.Prelude.{IsTrue}
use Rattle.std.proofs.Common.{◌≡◌, ℕ, [], None, refl, sym, subst}
use Rattle.cc_model.specs.declared.command.Command.{Command}
use Rattle.cc_model.specs.Mutating.{Class, so_many, whole, says, does, forgets, reads_weak, runs, collects_scripts, class_of}
use Rattle.cc_model.specs.Asks.{Ask, taken}
use Rattle.cc_model.specs.Ranges.{in_range}
use Rattle.cc_model.specs.View.{view}
use Rattle.cc_model.specs.Suspected.{IsSuspected}
use Rattle.cc_model.specs.End.{went_on}
use Rattle.cc_model.specs.Lawful.{State}
use Rattle.cc_model.specs.Heap.{Heap}
use Rattle.cc_model.specs.Marking.{NewMarks, ended_marks}
use Rattle.cc_model.specs.Collecting.{Machine, UnitsDone, no_units, finish_running, finish_marking, slice_cycles, collect_cycles, slice, collect, gc, one_marked, mark, enough_units, starting_anew}
use Rattle.cc_model.specs.Run.{Turn, mutate, do_ask, do_class}
use Rattle.cc_laws_heap.specs.Sound.{IsSound}
use Rattle.cc_laws_run.specs.Doomed.{candidates_now, IsSuspectedNow}
use Rattle.cc_laws_run.specs.Running.{IsRunning, IsFreshNow, IsMarking, IsMarkingNow, ask_in_range}
use Rattle.cc_laws_snapshot.proofs.CommandsSuspected.{effects-suspected}
use Rattle.cc_laws_snapshot.proofs.Unmarking.{forgotten-suspected}
use Rattle.cc_laws_snapshot.proofs.SweepLoses.{collect_scripts-suspected}
use Rattle.cc_laws_heap.proofs.MarkingEnded.{ended-sound, ended-invariant}
use Rattle.cc_laws_marking.proofs.EndSuspected.{ended-suspected}
use Rattle.cc_laws_run.proofs.Finishing.{finish-by}
use Rattle.cc_laws_run.proofs.MarkingOn.{IsMarkingOn, one_marked-going}
use Rattle.cc_laws_run.proofs.MarkLawful.{finished-marking}
use Rattle.cc_laws_run.proofs.MarkedUnits.{units_marked-keep}
use Rattle.cc_laws_run.proofs.ReadingWeak.{weak-suspected}
use Rattle.cc_laws_run.proofs.CommandCases.{mutate-cases, say-leaves}
use Rattle.cc_laws_run.proofs.HoldingUnits.{unless_stopped-cases}
use Rattle.cc_laws_run.proofs.QuietUnits.{IsGoing, units-going, IsGoingOn, gc-collects, finish_running-going, running-going}

-- Commands of the mutator

-- a command forgets none, whether it is done, is refused, or wants memory
mutate-suspected : (m : Machine) (c : Command) → IsSound [] m.heap → IsTrue (in_range c) → IsSuspectedNow m → IsSuspectedNow (mutate m c).machine
mutate-suspected m c s i suspected = mutate-cases m c (λ (u : Turn). IsSuspectedNow u.machine)
    (λ refusal e. suspected)
    (λ e f. suspected)
    (λ e memory. effects-suspected m.heap c (candidates_now m.snapshot) s i e suspected)

-- Units

-- the end of a marking that goes on as it should forgets none: no collection runs then
ended-going : (m : Machine) (marks : NewMarks) → IsGoing m.heap m.snapshot went_on → IsMarking m.heap marks m.snapshot →
    IsGoing (ended_marks m.heap marks).heap m.snapshot went_on
ended-going m marks g t =
    let k : Heap = (ended_marks m.heap marks).heap in
    record {
      sound = ended-sound m.heap marks g.sound t.under;
      colours = ended-invariant m.heap marks g.sound t.under;
      fresh = subst (IsFreshNow k) (sym t.alone) tt;
      suspected = subst (λ o. IsSuspected (view k) (candidates_now o)) (sym t.alone)
          (ended-suspected m.heap marks g.sound t.under (subst (λ o. IsSuspected (view m.heap) (candidates_now o)) t.alone g.suspected));
      stopped = λ n. absurd (n refl);
    }

-- so it is where a marking that goes on is finished
finished-going : (m : Machine) → IsGoing m.heap m.snapshot went_on → IsMarkingNow m.heap m.marking m.snapshot →
    let n = (finish_marking m).machine in IsGoing n.heap n.snapshot went_on
finished-going m g t = finish-by m (λ d. IsGoing d.machine.heap d.machine.snapshot went_on) g.sound t (λ e. g) (λ marks on over. ended-going m marks g on)

-- the units of a slice forget none
slice_cycles-suspected : (n : ℕ) (m : Machine) → IsGoing m.heap m.snapshot went_on → IsSuspectedNow (slice_cycles n m).machine
unfolding slice_cycles
slice_cycles-suspected n m g = (units-going n (no_units m) g).suspected

-- nor do those of a whole collection
collect_cycles-suspected : (m : Machine) → IsGoing m.heap m.snapshot went_on → IsSuspectedNow (collect_cycles m).machine
unfolding collect_cycles
collect_cycles-suspected m g =
    let d : UnitsDone = finish_running m in
    let f : IsGoingOn d = (finish_running-going m g).0 in
    unless_stopped-cases d (λ u. IsSuspectedNow u.machine) (λ e. f.suspected) (λ e. (units-going (enough_units d.machine) (starting_anew d)
    (record { sound = f.sound; colours = f.colours; fresh = f.fresh; suspected = f.suspected; stopped = λ n. absurd (n refl) })).suspected)

-- Units of a marking

-- the machine forgot none, no collection runs, and a marking goes on as it should
record MarksOn (d : UnitsDone) : Type 0 where
  going : IsGoing d.machine.heap d.machine.snapshot went_on
  marking : IsMarkingOn d
  alone : d.machine.snapshot ≡ None

-- one unit leaves such a machine
one_marked-on : (d : UnitsDone) → MarksOn d → MarksOn (one_marked d.machine d.events)
one_marked-on d t = one_marked-going d.machine d.events MarksOn t.going.sound t.marking t.alone
    (λ marks on. record { going = t.going; marking = on; alone = t.alone })
    (λ marks on. record { going = ended-going d.machine marks t.going on; marking = tt; alone = t.alone })

-- UNITS OF A MARKING FORGET NONE.
mark-suspected : (n : ℕ) (m : Machine) → IsGoing m.heap m.snapshot went_on → IsMarkingNow m.heap m.marking m.snapshot → IsSuspectedNow (mark n m).machine
unfolding mark
mark-suspected n m g t =
    let d : UnitsDone = starting_anew (finish_running m) in
    let f = finish_running-going m g in
    (units_marked-keep MarksOn one_marked-on n d (record {
      going = record { sound = f.0.sound; colours = f.0.colours; fresh = f.0.fresh; suspected = f.0.suspected; stopped = λ n. absurd (n refl) };
      marking = finished-marking m t;
      alone = f.1;
    })).going.suspected

-- Asks

module _ (m : Machine) (s : State) (r : IsRunning m s) (suspected : IsSuspectedNow m) where
  -- the collection goes on
  going : IsGoing m.heap m.snapshot went_on
  going = running-going m s r suspected

  -- so it does where a marking was finished
  finished : let n = (finish_marking m).machine in IsGoing n.heap n.snapshot went_on
  finished = finished-going m going r.marking

  -- the units of a slice forget none
  slice-suspected : (n : ℕ) → IsSuspectedNow (slice n m).machine
  unfolding slice
  slice-suspected n = slice_cycles-suspected n (finish_marking m).machine finished

  -- nor do those of a whole collection
  collect-suspected : IsSuspectedNow (collect m).machine
  unfolding collect
  collect-suspected = collect_cycles-suspected (finish_marking m).machine finished

  -- `gc` forgets none: its script collection finds no collection running
  gc-suspected : IsSuspectedNow (gc m).machine
  gc-suspected =
      let f = gc-collects m going in
      subst (λ o. IsSuspected (view (gc m).machine.heap) (candidates_now o)) (sym f.4)
      (subst (λ h. IsSuspected (view h) []) (sym f.3) (collect_scripts-suspected f.0 f.1 f.2))

  -- no class of commands forgets one
  class-suspected : (c : Command) → IsTrue (in_range c) → (k : Class) → class_of c ≡ k → IsSuspectedNow (do_class m c k).machine
  class-suspected c i (says q) e = say-leaves m q IsSuspectedNow (λ memory. suspected)
  class-suspected c i does e = mutate-suspected m c r.sound i suspected
  class-suspected c i (runs (so_many n)) e = slice-suspected n
  class-suspected c i (runs whole) e = collect-suspected
  class-suspected c i (collects_scripts whole) e = gc-suspected
  class-suspected c i (collects_scripts (so_many n)) e = mark-suspected n m going r.marking
  class-suspected c i forgets e = forgotten-suspected m.heap (candidates_now m.snapshot) r.sound.well_formed suspected
  class-suspected c i (reads_weak d w) e = weak-suspected m s c d w r i e suspected

-- NO ASK FORGETS AN UNREACHED NATIVE.
pub ask-suspected : (m : Machine) (s : State) (ask : Ask) → IsRunning m s → IsTrue (ask_in_range ask) → IsSuspectedNow m → IsSuspectedNow (do_ask m ask).machine
unfolding do_ask
ask-suspected m s (taken c) r i t = class-suspected m s r t c i (class_of c) refl
ask-suspected m s _ r i t = t
