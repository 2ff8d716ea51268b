-- SUSPECTS FORGOTTEN: the machine runs on, what is doomed stays doomed, what is spent stays spent, and the answer is lawful.
use Rattle.std.proofs.Common.{◌≡◌, List, Option, Some, None, refl, sym, ap, subst}
use Rattle.cc_lists.specs.Members.{Among}
use Rattle.cc_names.specs.declared.name.Name.{Name}
use Rattle.cc_model.specs.declared.command.Command.{Command}
use Rattle.cc_model.specs.Mutating.{forgets, class_of, is_deed, is_mutator}
use Rattle.cc_model.specs.Asks.{taken}
use Rattle.cc_model.specs.Heap.{Heap}
use Rattle.cc_model.specs.View.{view}
use Rattle.cc_model.specs.Skipping.{forgotten}
use Rattle.cc_model.specs.Snapshot.{Snapshot}
use Rattle.cc_model.specs.Marking.{NewMarks}
use Rattle.cc_model.specs.Lawful.{State, next, AnswersClass}
use Rattle.cc_model.specs.Collecting.{Machine}
use Rattle.cc_model.specs.Run.{forget_suspects}
use Rattle.cc_laws_snapshot.proofs.Unmarking.{forgotten-fresh, forgotten-sound, forgotten-stands, forgotten-colours, forgotten-names}
use Rattle.cc_laws_marking.proofs.Beside.{forgotten-keeps}
use Rattle.cc_laws_run.specs.Running.{IsRunning, IsFreshNow, IsMarkingNow, moves_none}
use Rattle.cc_laws_run.specs.Doomed.{IsDoomed, IsDoomedNow}
use Rattle.cc_laws_run.specs.Spent.{IsSpent}
use Rattle.cc_laws_run.proofs.CommandCases.{next-no_deed}
use Rattle.cc_laws_run.proofs.Answered.{said-done}

-- The machine

-- the snapshot of the running collection stays fresh
forgotten-fresh_now : (h : Heap) (snapshot : Option Snapshot) → IsFreshNow h snapshot → IsFreshNow (forgotten h) snapshot
unfolding forgotten
forgotten-fresh_now h None f = tt
forgotten-fresh_now h (Some s) f = forgotten-fresh h s f

-- a marking that goes on does so as it should
forgotten-marking_now : (h : Heap) (marking : Option NewMarks) (snapshot : Option Snapshot) → IsMarkingNow h marking snapshot → IsMarkingNow (forgotten h) marking snapshot
forgotten-marking_now h None snapshot is = tt
forgotten-marking_now h (Some marks) snapshot is =
    let keeps = forgotten-keeps h in
    record { under = keeps.under marks is.under; so_far = keeps.so_far marks is.so_far; alone = is.alone }

-- the graph and the listed names stay, and so does a machine that runs beside them
forgotten-runs : (m : Machine) (s : State) → IsRunning m s → IsRunning (forget_suspects m).machine s
unfolding forgotten
forgotten-runs m s r = record {
  sound = forgotten-sound m.heap r.sound;
  colours = forgotten-colours m.heap r.colours;
  fresh = forgotten-fresh_now m.heap m.snapshot r.fresh;
  well_made = r.well_made;
  marking = forgotten-marking_now m.heap m.marking m.snapshot r.marking;
  stands = forgotten-stands m.heap s.graph r.stands;
  listed = r.listed;
  weak = r.weak;
  ended = r.ended;
  ended_made = r.ended_made;
}

-- SUSPECTS FORGOTTEN leave a machine that runs.
pub forget-runs : (m : Machine) (s : State) (c : Command) → IsRunning m s → class_of c ≡ forgets →
    IsRunning (forget_suspects m).machine (next s (taken c) (forget_suspects m).answer)
forget-runs m s c r e = subst (IsRunning (forget_suspects m).machine) (sym (next-no_deed s c (forget_suspects m).answer (ap is_deed e) (ap is_mutator e) refl)) (forgotten-runs m s r)

-- THE ANSWER IS LAWFUL: nothing is told, and it is done.
pub forget-answers : (m : Machine) (s : State) (c : Command) → class_of c ≡ forgets → AnswersClass s c (forget_suspects m).answer forgets
forget-answers m s c e = (refl, refl, said-done s c (ap is_deed e) (ap is_mutator e) (ap moves_none e))

-- What is doomed, and what is spent

-- a doomed name stands in no buffer, and the buffer's names stay
forgotten-doomed : (h : Heap) (s : Snapshot) (ds : List Name) → IsDoomed (view h) s ds → IsDoomed (view (forgotten h)) s ds
unfolding forgotten
forgotten-doomed h s ds d = record {
  natives = d.natives;
  scripts = d.scripts;
  unregistered = d.unregistered;
  unbuffered = λ x m b. d.unbuffered x m (subst (Among x) (forgotten-names h) b);
  unmarked = d.unmarked;
  holder = d.holder;
  joint = d.joint;
  noted_held = d.noted_held;
  mapping_held = d.mapping_held;
  covered = d.covered;
}

-- WHAT IS DOOMED STAYS DOOMED when suspects are forgotten.
pub forget-follows : (m : Machine) (ds : List Name) → IsDoomedNow m ds → IsDoomedNow (forget_suspects m).machine ds
forget-follows m ds d = (d.0, d.1, forgotten-doomed m.heap d.0 ds d.2)

-- WHAT IS SPENT STAYS SPENT when suspects are forgotten: no mark is asked of it.
pub forget-spends : (h : Heap) (ds : List Name) → IsSpent h ds → IsSpent (forgotten h) ds
unfolding forgotten
forget-spends h ds d = record {
  natives_made = d.natives_made;
  scripts_made = d.scripts_made;
  unregistered = d.unregistered;
  holder = d.holder;
  joint = d.joint;
  empty = d.empty;
  unlinked = d.unlinked;
}
