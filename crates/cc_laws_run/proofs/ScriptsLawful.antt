-- `gc` IS LAWFUL: a running collection is finished, and a script collection frees what no register reaches.
use Rattle.std.proofs.Common.{◌≡◌, ◌≤◌, true, List, [], ◌++◌, Option, None, refl, sym, ◌∙◌, ap, subst, arith, ◌||◌}
use Rattle.std.proofs.lemmas.Bool.{or_right}
use Rattle.std.proofs.lemmas.List.{append-nil}
use Rattle.std.proofs.lemmas.Grind.{flat_map-append}
use Rattle.cc_names.specs.declared.name.Name.{Name}
use Rattle.cc_model.specs.declared.command.Command.{Command}
use Rattle.cc_model.specs.declared.item.Event.{Event}
use Rattle.cc_model.specs.Graph.{Graph}
use Rattle.cc_model.specs.WellMade.{IsWellMade}
use Rattle.cc_model.specs.Heap.{Heap, Outcome}
use Rattle.cc_model.specs.Snapshot.{Snapshot}
use Rattle.cc_model.specs.Sweep.{collect_scripts}
use Rattle.cc_model.specs.End.{Progress}
use Rattle.cc_model.specs.Collecting.{Machine, UnitsDone, finish_running, without_marking, gc}
use Rattle.cc_model.specs.Listed.{after_events}
use Rattle.cc_model.specs.Lawful.{EachMayBe, has_none, begins_with_at_most_one, runs, unlinked_in, unlinked_numbers, is_gc, runs_units}
use Rattle.cc_laws_run.proofs.EachNamed.{after_events-append, each-append}
use Rattle.cc_laws_run.proofs.RunsOfNumbers.{has_none-append, begins-none}
use Rattle.cc_laws_run.proofs.Swept.{IsSwept, collect_scripts-swept}
use Rattle.cc_laws_run.proofs.SweptLawful.{swept-unlinks_none, swept-has_none, swept-runs, swept-each}
use Rattle.cc_laws_run.proofs.UnitLawful.{RunsOn, TellsOnly}
use Rattle.cc_laws_run.proofs.UnitsLawful.{UnitsAreLawful, IsLawfulRow, row-lawful, finish-lawful, finish-drops}

-- a script collection is lawful
pub record GcIsLawful (g : Graph) (names : List Name) (c : Command) (d : UnitsDone) : Type 0 where
  pub still : RunsOn g (after_events names d.events) d.machine.heap d.machine.snapshot
  pub each : EachMayBe g names c d.events
  pub few : runs (unlinked_numbers d.events) ≤ 1
  pub begins : begins_with_at_most_one d.events ≡ true

-- after units, free lines leave an abandonment first
pub begins-units : (p : Progress) (es fs : List Event) → TellsOnly p es → has_none fs ≡ true → begins_with_at_most_one (es ++ fs) ≡ true
begins-units p es fs o n = grind (arith, begins-none, has_none-append)

module _ (g : Graph) (well : IsWellMade g) (c : Command) (collects : is_gc c ≡ true) where
  -- it may unlink natives, too
  moves : (runs_units c || is_gc c) ≡ true
  moves = or_right (runs_units c) (is_gc c) collects

  -- A SCRIPT COLLECTION
  scripts-lawful : (names : List Name) (h : Heap) (s : Option Snapshot) → RunsOn g names h s →
      RunsOn g (after_events names (collect_scripts h).events) (collect_scripts h).heap None × EachMayBe g names c (collect_scripts h).events
  scripts-lawful names h s r =
      let w = collect_scripts-swept h r.sound in (
        swept-runs g well c moves names h s r (collect_scripts h) w None tt,
        swept-each g well c moves names h s r (collect_scripts h) w,
      )

  -- GC
  pub gc-lawful : (names : List Name) (m : Machine) → RunsOn g names m.heap m.snapshot → GcIsLawful g names c (gc m)
  unfolding gc
  gc-lawful names m r = record {
    still = subst (λ l. RunsOn g l o.heap d.machine.snapshot) (sym (after_events-append d.events o.events names))
        (subst (RunsOn g (after_events (after_events names d.events) o.events) o.heap) (sym (finish-drops g well c moves names (without_marking m) r)) scripts.0);
    each = each-append g c d.events o.events names first.each scripts.1;
    few = subst (λ ks. runs ks ≤ 1) (sym unlinked) row.few;
    begins = subst (λ es. begins_with_at_most_one (es ++ o.events) ≡ true) (sym first.told) (begins-units d.progress first.later o.events first.only none);
  }
    where
      d : UnitsDone
      d = finish_running (without_marking m)

      first : UnitsAreLawful g names c [] d
      first = finish-lawful g well c moves names (without_marking m) r

      row : IsLawfulRow g names c 1 d
      row = row-lawful g names c 0 [] d first refl (omega arith)

      o : Outcome
      o = collect_scripts d.machine.heap

      scripts : RunsOn g (after_events (after_events names d.events) o.events) o.heap None × EachMayBe g (after_events names d.events) c o.events
      scripts = scripts-lawful (after_events names d.events) d.machine.heap d.machine.snapshot first.still

      w : IsSwept d.machine.heap o
      w = collect_scripts-swept d.machine.heap first.still.sound

      none : has_none o.events ≡ true
      none = swept-has_none d.machine.heap o w

      unlinked : unlinked_numbers (d.events ++ o.events) ≡ unlinked_numbers d.events
      unlinked =
          flat_map-append unlinked_in d.events o.events
          ∙ (ap (λ ks. unlinked_numbers d.events ++ ks) (swept-unlinks_none d.machine.heap o w) ∙ append-nil (unlinked_numbers d.events))
