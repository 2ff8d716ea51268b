-- WHAT FREES OBJECTS THAT NO ROOT REACHES, and nothing else: a script collection, the end of a marking, and so the finishing of one.
use Rattle.std.proofs.Common.{List, [], sym, subst}
use Rattle.cc_lists.specs.Members.{Among}
use Rattle.cc_names.specs.declared.name.Name.{Name}
use Rattle.cc_model.specs.declared.item.Event.TheVariants.{Freed}
use Rattle.cc_model.specs.Graph.{Graph}
use Rattle.cc_model.specs.Reached.{Reached}
use Rattle.cc_model.specs.WellMade.{IsWellMade}
use Rattle.cc_model.specs.Heap.{Heap, Outcome, silently}
use Rattle.cc_model.specs.View.{view}
use Rattle.cc_model.specs.Colours.{HasColourInvariant, coloured_by}
use Rattle.cc_model.specs.StandsFor.{StandsFor}
use Rattle.cc_model.specs.Sweep.{collect_scripts}
use Rattle.cc_model.specs.Marking.{NewMarks, blacks_by_mark, marks_by_mark, ended_marks}
use Rattle.cc_model.specs.Collecting.{Machine, UnitsDone, finish_marking}
use Rattle.cc_laws_heap.specs.Sound.{IsSound}
use Rattle.cc_laws_heap.specs.Rounds.{FreesNames}
use Rattle.cc_laws_heap.specs.UnderMarking.{IsUnderMarking}
use Rattle.cc_laws_heap.proofs.CollectedColours.{collect_scripts-sound, collect_scripts-invariant, collect_scripts-frees}
use Rattle.cc_laws_heap.proofs.RoundsStand.{collect_scripts-stands, collect_scripts-unreached}
use Rattle.cc_laws_heap.proofs.FreedNames.{FreesNames-silently}
use Rattle.cc_laws_heap.proofs.MarkingKeeps.{IsSound-coloured}
use Rattle.cc_laws_heap.proofs.MarkingEnded.{ended-sound, ended-invariant, ended-frees, ended-stands, ended-unreached}
use Rattle.cc_laws_heap.proofs.UnlinkedKept.{KeepUnlinked, KeepUnlinked-refl, sweep-unlinked, collect_scripts-unlinked}
use Rattle.cc_laws_run.specs.Running.{IsMarkingNow, IsFreshNow}
use Rattle.cc_laws_run.proofs.Finishing.{finish-by}

-- only what no root reaches is freed; the others stay, with what the heaps stand for
pub record IsSwept (h : Heap) (o : Outcome) : Type 0 where
  pub sound : IsSound [] o.heap
  pub colours : HasColourInvariant (view o.heap)
  pub names : List Name
  pub frees : FreesNames h names o
  pub stands : (g : Graph) → IsWellMade g → StandsFor h g → StandsFor o.heap g
  pub unreached : (g : Graph) (x : Name) → IsWellMade g → StandsFor h g → Among (Freed x) o.events → ¬ (Reached g x)
  pub unlinked : KeepUnlinked h o.heap

-- where nothing is done
silently-swept : (h : Heap) → IsSound [] h → HasColourInvariant (view h) → IsSwept h (silently h)
silently-swept h s c = record {
  sound = s;
  colours = c;
  names = [];
  frees = FreesNames-silently h;
  stands = λ g made t. t;
  unreached = λ g x made t i. absurd i;
  unlinked = KeepUnlinked-refl h;
}

-- A SCRIPT COLLECTION
pub collect_scripts-swept : (h : Heap) → IsSound [] h → IsSwept h (collect_scripts h)
collect_scripts-swept h s = record {
  sound = collect_scripts-sound h s;
  colours = collect_scripts-invariant h s;
  names = (collect_scripts-frees h s).0;
  frees = (collect_scripts-frees h s).1;
  stands = λ g made t. collect_scripts-stands h g s made t;
  unreached = λ g x made t i. collect_scripts-unreached h g x s made t i;
  unlinked = collect_scripts-unlinked h s;
}

-- THE END OF A MARKING
ended-unlinked : (h : Heap) (marks : NewMarks) → IsSound [] h → KeepUnlinked h (ended_marks h marks).heap
unfolding ended_marks
ended-unlinked h marks s = sweep-unlinked (coloured_by (blacks_by_mark h marks) (marks_by_mark h marks) h) (IsSound-coloured (blacks_by_mark h marks) (marks_by_mark h marks) h s)

pub ended_marks-swept : (h : Heap) (marks : NewMarks) → IsSound [] h → IsUnderMarking h marks → IsSwept h (ended_marks h marks)
ended_marks-swept h marks s u = record {
  sound = ended-sound h marks s u;
  colours = ended-invariant h marks s u;
  names = (ended-frees h marks s u).0;
  frees = (ended-frees h marks s u).1;
  stands = λ g made t. ended-stands h marks s u g made t;
  unreached = λ g x made t i. ended-unreached h marks s u g made t x i;
  unlinked = ended-unlinked h marks s;
}

-- what units leave of the heaps, and what they told
abbrev pub outcome_of : UnitsDone → Outcome
outcome_of d = record { heap = d.machine.heap; events = d.events }

module _ (m : Machine) (s : IsSound [] m.heap) (c : HasColourInvariant (view m.heap)) (t : IsMarkingNow m.heap m.marking m.snapshot) where
  -- THE FINISHING OF A MARKING
  pub finishing-swept : IsSwept m.heap (outcome_of (finish_marking m))
  finishing-swept = finish-by m (λ d. IsSwept m.heap (outcome_of d)) s t (λ e. silently-swept m.heap s c) (λ marks t e. ended_marks-swept m.heap marks s t.under)

  -- the snapshot stays fresh
  pub finishing-fresh : IsFreshNow m.heap m.snapshot → IsFreshNow (finish_marking m).machine.heap (finish_marking m).machine.snapshot
  finishing-fresh f = finish-by m (λ d. IsFreshNow d.machine.heap d.machine.snapshot) s t (λ e. f)
      (λ marks t e. subst (IsFreshNow (ended_marks m.heap marks).heap) (sym t.alone) tt)
