-- UNITS AND SCRIPT COLLECTIONS are answered lawfully and leave a machine that runs.
use Rattle.std.specs.Prelude.{IsTrue, nat_le}
use Rattle.std.proofs.Common.{arith, ◌≡◌, true, false, not, ◌&&◌, List, Some, None, refl, sym, ◌∙◌, subst, ap, inl}
use Rattle.std.proofs.lemmas.Bool.{false≢true, le-leb, or_left}
use Rattle.cc_names.specs.declared.name.Name.{Name}
use Rattle.cc_model.specs.declared.command.Command.{Command}
use Rattle.cc_model.specs.declared.item.Event.{Event}
use Rattle.cc_model.specs.declared.item.Reply.TheVariants.{Done}
use Rattle.cc_model.specs.Mutating.{Running, so_many, whole, runs as runs_some, collects_scripts, class_of, is_deed, is_mutator, is_units, is_script_collection}
use Rattle.cc_model.specs.Asks.{taken}
use Rattle.cc_model.specs.Checks.{refusal_of}
use Rattle.cc_model.specs.Graph.{Graph, objects_of}
use Rattle.cc_model.specs.WellMade.{IsWellMade}
use Rattle.cc_model.specs.End.{Progress}
use Rattle.cc_model.specs.Collecting.{Machine, UnitsDone, gc, mark, run_scripts, reply_to_units}
use Rattle.cc_model.specs.Listed.{census_order, after_events, ended_after}
use Rattle.cc_model.specs.StandsFor.{StandsFor}
use Rattle.cc_model.specs.Run.{run_units, after_units, after_gc}
use Rattle.cc_model.specs.Lawful.{State, AnswersClass, step_with, reply_with, class_may_want_memory, runs_in, next, AnswersCommand, RepliesWith, EachMayBe, graph_after, may_want_memory, is_refused, is_abandoning, is_gc, runs_units, runs, runs_allowed, unlinked_numbers, has_abandonment_in_place}
use Rattle.cc_model.proofs.NoDeeds.{no_deed-allowed, no_deed-replies, no_deed-steps, no_deed-graph, no_deed-lists}
use Rattle.cc_laws_run.specs.Running.{IsRunning, IsMarkingNow}
use Rattle.cc_laws_run.proofs.BesideUnits.{run_units-beside, gc-beside, mark-beside}
use Rattle.cc_laws_run.proofs.EndedAfter.{EndedIn}
use Rattle.cc_laws_run.proofs.EndedUnits.{units-end, gc-end, mark-end}
use Rattle.cc_laws_run.proofs.UnitLawful.{RunsOn}
use Rattle.cc_laws_run.proofs.UnitsLawful.{IsPlaced, IsLawfulRow, units-lawful}
use Rattle.cc_laws_run.proofs.ScriptsLawful.{GcIsLawful, gc-lawful}
use Rattle.cc_laws_run.proofs.MarkLawful.{mark-runs, mark-lawful}

-- what a machine that runs has
pub running-on : (m : Machine) (s : State) → IsRunning m s → RunsOn s.graph s.listed m.heap m.snapshot
running-on m s r = record { sound = r.sound; colours = r.colours; fresh = r.fresh; stands = r.stands; listed = r.listed }

-- a machine whose heaps run beside a graph runs beside it
runs-from : (m : Machine) (s : State) (g : Graph) (names : List Name) → IsWellMade g → RunsOn g names m.heap m.snapshot → IsMarkingNow m.heap m.marking m.snapshot →
    m.weak ≡ g.weak_registers → EndedIn m.heap s.ended → s.graph ≡ g → s.listed ≡ names → IsRunning m s
runs-from m s g names well r marking weak ended graph names_are = record {
  sound = r.sound;
  colours = r.colours;
  fresh = r.fresh;
  well_made = subst IsWellMade (sym graph) well;
  marking = marking;
  stands = subst (StandsFor m.heap) (sym graph) r.stands;
  listed = r.listed ∙ ap census_order (sym names_are);
  weak = weak ∙ ap (λ (h : Graph). h.weak_registers) (sym graph);
  ended = ended.agrees;
  ended_made = ended.made;
}

-- where no marking goes on it does so as it should
none-marking : (m : Machine) → m.marking ≡ None → IsMarkingNow m.heap m.marking m.snapshot
none-marking m e = subst (λ o. IsMarkingNow m.heap o m.snapshot) (sym e) tt

-- Units

-- what commands that run units have in common: they are not refused, they are done, and they leave the graph
pub record MovesUnits (s : State) (c : Command) : Type 0 where
  pub units : runs_units c ≡ true
  pub no_gc : is_gc c ≡ false
  pub may : IsTrue (may_want_memory s c)
  pub taken : refusal_of (objects_of s.graph) c ≡ None
  pub reply : Done ≡ reply_with s.ended s.graph c
  pub left : step_with s.ended s.graph c ≡ s.graph

-- commands that run units have it, by their class
units-move : (s : State) (c : Command) (u : Running) → class_of c ≡ runs_some u → MovesUnits s c
units-move s c u e = record {
  units = ap is_units e;
  no_gc = ap is_script_collection e;
  may = ap (class_may_want_memory s c) e;
  taken = no_deed-allowed c none (objects_of s.graph);
  reply = sym (no_deed-replies c none (ap is_mutator e) s.ended s.graph);
  left = no_deed-steps c none (ap is_mutator e) s.ended s.graph;
}
  where
    none : is_deed (class_of c) ≡ false
    none = ap is_deed e

module _ (s : State) (c : Command) (t : MovesUnits s c) where
  -- the graph stays as it is
  graph-left : (p : Progress) → graph_after s.ended s.graph c (Some (reply_to_units p)) ≡ s.graph
  graph-left p = grind arith

  -- it is done, or refused memory
  replies : (p : Progress) → RepliesWith s c (reply_to_units p)
  replies p = grind arith

  -- where it is refused, it is want of memory
  never-quiet : (p : Progress) → (is_refused (reply_to_units p) && not (is_abandoning c (reply_to_units p))) ≡ false
  never-quiet p = grind arith

  -- an abandonment is in place
  is-placed : (p : Progress) (es : List Event) → IsPlaced p es → has_abandonment_in_place c (reply_to_units p) es ≡ true
  is-placed p es placed = grind arith

  -- ALL FIVE CLAUSES
  row-answers : (d : UnitsDone) → IsLawfulRow s.graph s.listed c (runs_allowed c) d → AnswersCommand s c (reply_to_units d.progress) d.events
  row-answers d r = grind (arith, never-quiet, graph-left, le-leb, is-placed)

module _ (m : Machine) (s : State) (c : Command) (u : Running) (r : IsRunning m s) (is : class_of c ≡ runs_some u) where
  -- what they tell and come to
  row : IsLawfulRow s.graph s.listed c (runs_allowed c) (run_units m u)
  row = subst (λ n. IsLawfulRow s.graph s.listed c n (run_units m u)) (sym (ap runs_in is))
      (units-lawful s.graph r.well_made c (or_left (runs_units c) (is_gc c) (ap is_units is)) s.listed u m (running-on m s r) r.marking)

  -- UNITS are answered lawfully.
  pub units-answers : AnswersClass s c (after_units (run_units m u)).answer (runs_some u)
  units-answers = (refl, refl, row-answers s c (units-move s c u is) (run_units m u) row)

  -- THEY LEAVE A MACHINE that runs.
  pub units-runs : IsRunning (after_units (run_units m u)).machine (next s (taken c) (after_units (run_units m u)).answer)
  units-runs = runs-from (run_units m u).machine (next s (taken c) (after_units (run_units m u)).answer)
      s.graph (after_events s.listed (run_units m u).events) r.well_made row.still
      (none-marking (run_units m u).machine (run_units-beside u m).marking) ((run_units-beside u m).weak ∙ r.weak)
      (units-end s.graph r.well_made s.ended u m s.listed (running-on m s r) r.marking (record { agrees = r.ended; made = r.ended_made }))
      (graph-left s c (units-move s c u is) (run_units m u).progress)
      (no_deed-lists c (ap is_deed is) (after_events s.listed (run_units m u).events) (Some (reply_to_units (run_units m u).progress)))

-- Script collections

-- what `gc` and `mark` have in common: they are done, and they leave the graph
module _ (m : Machine) (s : State) (c : Command) (u : Running) (r : IsRunning m s) (is : class_of c ≡ collects_scripts u) (d : UnitsDone)
    (lawful : GcIsLawful s.graph s.listed c d) where
  none : is_deed (class_of c) ≡ false
  none = ap is_deed is

  -- an abandonment stands first
  begins-placed : has_abandonment_in_place c Done d.events ≡ true
  begins-placed = grind (arith, lawful.begins, ap is_script_collection is)

  -- they are answered lawfully
  scripts-answers : AnswersClass s c (after_gc d).answer (collects_scripts u)
  scripts-answers = (
    refl,
    refl,
    record {
      replies = inl (sym (no_deed-replies c none (ap is_mutator is) s.ended s.graph));
      quiet = λ q. absurd (false≢true q);
      each = subst (λ g. EachMayBe g s.listed c d.events) (sym (no_deed-steps c none (ap is_mutator is) s.ended s.graph)) lawful.each;
      rising = subst (λ n. IsTrue (nat_le (runs (unlinked_numbers d.events)) n)) (sym (ap runs_in is))
          (le-leb (runs (unlinked_numbers d.events)) 1 lawful.few);
      abandonment = begins-placed;
    },
  )

  -- and leave a machine that runs
  scripts-runs : IsMarkingNow d.machine.heap d.machine.marking d.machine.snapshot → d.machine.weak ≡ s.graph.weak_registers →
      EndedIn d.machine.heap (ended_after s.ended d.events) → IsRunning (after_gc d).machine (next s (taken c) (after_gc d).answer)
  scripts-runs marking weak ended = runs-from d.machine (next s (taken c) (after_gc d).answer) s.graph (after_events s.listed d.events) r.well_made
      lawful.still marking weak ended
      (no_deed-graph c none (ap is_mutator is) s.ended s.graph (Some Done)) (no_deed-lists c none (after_events s.listed d.events) (Some Done))

-- what `gc` comes to is lawful, and what a marking comes to
scripts-lawful : (m : Machine) (s : State) (c : Command) (u : Running) → IsRunning m s → class_of c ≡ collects_scripts u → GcIsLawful s.graph s.listed c (run_scripts m u)
scripts-lawful m s c whole r is = gc-lawful s.graph r.well_made c (ap is_script_collection is) s.listed m (running-on m s r)
scripts-lawful m s c (so_many n) r is = mark-lawful s.graph r.well_made c (ap is_script_collection is) s.listed n m (running-on m s r) r.marking

-- `gc` AND `mark` are answered lawfully.
pub collects-answers : (m : Machine) (s : State) (c : Command) (u : Running) → IsRunning m s → class_of c ≡ collects_scripts u →
    AnswersClass s c (after_gc (run_scripts m u)).answer (collects_scripts u)
collects-answers m s c u r is = scripts-answers m s c u r is (run_scripts m u) (scripts-lawful m s c u r is)

-- THEY LEAVE A MACHINE that runs.
pub collects-runs : (m : Machine) (s : State) (c : Command) (u : Running) → IsRunning m s → class_of c ≡ collects_scripts u →
    IsRunning (after_gc (run_scripts m u)).machine (next s (taken c) (after_gc (run_scripts m u)).answer)
collects-runs m s c whole r is = scripts-runs m s c whole r is (gc m) (scripts-lawful m s c whole r is)
    (none-marking (gc m).machine (gc-beside m).marking) ((gc-beside m).weak ∙ r.weak)
    (gc-end s.graph r.well_made s.ended m s.listed (running-on m s r) (record { agrees = r.ended; made = r.ended_made }))
collects-runs m s c (so_many n) r is = scripts-runs m s c (so_many n) r is (mark n m) (scripts-lawful m s c (so_many n) r is)
    (mark-runs s.graph r.well_made c (ap is_script_collection is) s.listed n m (running-on m s r) r.marking).marking (mark-beside n m ∙ r.weak)
    (mark-end s.graph r.well_made s.ended n m s.listed (running-on m s r) r.marking (record { agrees = r.ended; made = r.ended_made }))
