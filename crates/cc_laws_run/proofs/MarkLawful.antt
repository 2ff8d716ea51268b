-- UNITS OF A MARKING ARE LAWFUL: a begin and a scan leave the heaps, and an end frees what no root reaches. So `mark` is lawful, behind the
-- running collection that it finishes first.
use Rattle.std.proofs.Common.{◌≡◌, ℕ, ◌≤◌, Bool, true, false, ◌||◌, List, [], ◌++◌, map, Option, Some, None, refl, sym, ◌∙◌, ap, subst, arith}
use Rattle.std.proofs.lemmas.Bool.{or_right}
use Rattle.std.proofs.lemmas.List.{append-nil, append_assoc, map-append}
use Rattle.std.proofs.lemmas.Grind.{flat_map-append}
use Rattle.cc_names.specs.declared.name.Name.{Name}
use Rattle.cc_model.specs.declared.command.Command.{Command}
use Rattle.cc_model.specs.declared.item.Event.{Event}
use Rattle.cc_model.specs.declared.item.Event.TheVariants.{Freed}
use Rattle.cc_model.specs.Graph.{Graph}
use Rattle.cc_model.specs.WellMade.{IsWellMade}
use Rattle.cc_model.specs.Heap.{Heap, Outcome}
use Rattle.cc_model.specs.Marking.{NewMarks, begun_marks, is_scanned, scanned, ended_marks}
use Rattle.cc_model.specs.End.{went_on, at_end}
use Rattle.cc_model.specs.Collecting.{Machine, UnitsDone, no_units, units_came, with_outcome, finish_running, starting_anew, one_marked, units_marked, mark}
use Rattle.cc_model.specs.Listed.{after_events}
use Rattle.cc_model.specs.Lawful.{EachMayBe, begins_with_at_most_one, runs, unlinked_in, unlinked_numbers, is_gc, runs_units}
use Rattle.cc_laws_heap.specs.Sound.{IsSound}
use Rattle.cc_laws_heap.specs.UnderMarking.{IsUnderMarking}
use Rattle.cc_laws_heap.proofs.MarkingBegun.{IsUnderMarking-begun, IsScannedSoFar-begun}
use Rattle.cc_laws_run.specs.Running.{IsMarking, IsMarkingNow}
use Rattle.cc_laws_run.proofs.EachNamed.{after_events-append, each-append}
use Rattle.cc_laws_run.proofs.RunsOfNumbers.{has_none-freed, unlinked-freed}
use Rattle.cc_laws_run.proofs.Finishing.{scanned-on}
use Rattle.cc_laws_run.proofs.Swept.{IsSwept, ended_marks-swept}
use Rattle.cc_laws_run.proofs.SweptLawful.{swept-runs, swept-each}
use Rattle.cc_laws_run.proofs.BesideUnits.{finish-beside, units_marked-keep}
use Rattle.cc_laws_run.proofs.UnitLawful.{RunsOn}
use Rattle.cc_laws_run.proofs.UnitsLawful.{UnitsAreLawful, IsLawfulRow, row-lawful, finish-lawful, finish-drops}
use Rattle.cc_laws_run.proofs.ScriptsLawful.{GcIsLawful, begins-units}

-- what holds of the heaps and of what was told
abbrev pub HeapManner : Type 1
HeapManner = Heap → List Event → Type 0

-- the end of a marking keeps it
abbrev pub EndsKeep : HeapManner → Type 0
EndsKeep P = (h : Heap) (marks : NewMarks) (es : List Event) → IsSound [] h → IsUnderMarking h marks → P h es →
    P (ended_marks h marks).heap (es ++ (ended_marks h marks).events)

-- a machine that runs beside a graph without a collection, in this manner: `before` was told, and then free lines alone
pub record MarkedOn (g : Graph) (names : List Name) (c : Command) (before : List Event) (P : HeapManner) (d : UnitsDone) : Type 0 where
  pub still : RunsOn g (after_events names d.events) d.machine.heap d.machine.snapshot
  pub none : d.machine.snapshot ≡ None
  pub marking : IsMarkingNow d.machine.heap d.machine.marking d.machine.snapshot
  pub each : EachMayBe g names c d.events
  pub freed : List Name
  pub told : d.events ≡ before ++ map Freed freed
  pub holds : P d.machine.heap d.events

module _ (g : Graph) (well : IsWellMade g) (c : Command) (moves : (runs_units c || is_gc c) ≡ true) (names : List Name) (before : List Event) (P : HeapManner)
    (keep : EndsKeep P) where
  -- ONE UNIT OF A MARKING
  one_marked-on : (d : UnitsDone) → MarkedOn g names c before P d → MarkedOn g names c before P (one_marked d.machine d.events)
  one_marked-on d t = by_marking m.marking t.marking
    where
      m : Machine
      m = d.machine

      es : List Event
      es = d.events

      ended_by : NewMarks → Bool → UnitsDone
      ended_by marks true = with_outcome (units_came (record m { marking = None }) es at_end) (ended_marks m.heap marks)
      ended_by marks false = units_came (record m { marking = Some (scanned m.heap marks) }) es went_on

      marked_by : Option NewMarks → UnitsDone
      marked_by None = units_came (record m { marking = Some (begun_marks m.heap) }) es went_on
      marked_by (Some marks) = ended_by marks (is_scanned marks)

      begun : IsMarking m.heap (begun_marks m.heap) m.snapshot
      begun = record { under = IsUnderMarking-begun m.heap; so_far = IsScannedSoFar-begun m.heap t.still.sound; alone = t.none }

      by_scanned : (marks : NewMarks) → IsMarking m.heap marks m.snapshot → (b : Bool) → MarkedOn g names c before P (ended_by marks b)
      by_scanned marks is true =
          let o : Outcome = ended_marks m.heap marks in
          let w : IsSwept m.heap o = ended_marks-swept m.heap marks t.still.sound is.under in
          record {
            still = subst (λ l. RunsOn g l o.heap m.snapshot) (sym (after_events-append es o.events names))
                (subst (RunsOn g (after_events (after_events names es) o.events) o.heap) (sym t.none)
                (swept-runs g well c moves (after_events names es) m.heap m.snapshot t.still o w None tt));
            none = t.none;
            marking = tt;
            each = each-append g c es o.events names t.each (swept-each g well c moves (after_events names es) m.heap m.snapshot t.still o w);
            freed = t.freed ++ w.names;
            told = ap (λ fs. fs ++ o.events) t.told ∙ (append_assoc before (map Freed t.freed) o.events
                ∙ ap (λ fs. before ++ fs) (ap (λ fs. map Freed t.freed ++ fs) w.frees.told ∙ sym (map-append Freed t.freed w.names)));
            holds = keep m.heap marks es t.still.sound is.under t.holds;
          }
      by_scanned marks is false = record {
        still = t.still;
        none = t.none;
        marking = scanned-on m.heap m.snapshot t.still.sound marks is;
        each = t.each;
        freed = t.freed;
        told = t.told;
        holds = t.holds;
      }

      by_marking : (o : Option NewMarks) → IsMarkingNow m.heap o m.snapshot → MarkedOn g names c before P (marked_by o)
      by_marking None is = record { still = t.still; none = t.none; marking = begun; each = t.each; freed = t.freed; told = t.told; holds = t.holds }
      by_marking (Some marks) is = by_scanned marks is (is_scanned marks)

  -- SEVERAL
  pub units_marked-on : (n : ℕ) (d : UnitsDone) → MarkedOn g names c before P d → MarkedOn g names c before P (units_marked n d)
  units_marked-on n d t = units_marked-keep (MarkedOn g names c before P) (λ e on t. one_marked-on e t) n d t

-- where no collection runs none is finished
pub finish_running-none : (m : Machine) → m.snapshot ≡ None → finish_running m ≡ no_units m
finish_running-none m e = rw e refl

-- A running collection that is finished leaves a marking as it should be: the two do not run at once.
pub finished-marking : (m : Machine) → IsMarkingNow m.heap m.marking m.snapshot →
    IsMarkingNow (finish_running m).machine.heap (finish_running m).machine.marking (finish_running m).machine.snapshot
finished-marking m t = go m.marking refl t
  where
    d : UnitsDone
    d = finish_running m

    go : (o : Option NewMarks) → m.marking ≡ o → IsMarkingNow m.heap o m.snapshot → IsMarkingNow d.machine.heap d.machine.marking d.machine.snapshot
    go None e t = subst (λ o. IsMarkingNow d.machine.heap o d.machine.snapshot) (sym ((finish-beside m).marking ∙ e)) tt
    go (Some marks) e t = subst (λ (d : UnitsDone). IsMarkingNow d.machine.heap d.machine.marking d.machine.snapshot) (sym (finish_running-none m t.alone))
        (subst (λ o. IsMarkingNow m.heap o m.snapshot) (sym e) t)

module _ (g : Graph) (well : IsWellMade g) (c : Command) (collects : is_gc c ≡ true) (names : List Name) where
  -- it may unlink natives, too
  abbrev moves : (runs_units c || is_gc c) ≡ true
  moves = or_right (runs_units c) (is_gc c) collects

  module _ (P : HeapManner) (keep : EndsKeep P) (m : Machine) (r : RunsOn g names m.heap m.snapshot) (t : IsMarkingNow m.heap m.marking m.snapshot)
      (held : P (finish_running m).machine.heap (finish_running m).events) where
    -- A MARKING leaves a machine that runs, in any manner that finishing a collection and the end of a marking keep.
    pub mark-on : (n : ℕ) → MarkedOn g names c (finish_running m).events P (mark n m)
    unfolding mark
    mark-on n =
        let d : UnitsDone = finish_running m in
        let first : UnitsAreLawful g names c [] d = finish-lawful g well c moves names m r in
        units_marked-on g well c moves names d.events P keep n (starting_anew d)
        (record {
          still = first.still;
          none = finish-drops g well c moves names m r;
          marking = finished-marking m t;
          each = first.each;
          freed = [];
          told = sym (append-nil d.events);
          holds = held;
        })

  -- in no manner in particular
  pub mark-runs : (n : ℕ) (m : Machine) → RunsOn g names m.heap m.snapshot → IsMarkingNow m.heap m.marking m.snapshot →
      MarkedOn g names c (finish_running m).events (λ h es. Unit {0}) (mark n m)
  mark-runs n m r t = mark-on (λ h es. Unit {0}) (λ h marks es s u p. tt) m r t tt n

  -- MARK
  pub mark-lawful : (n : ℕ) (m : Machine) → RunsOn g names m.heap m.snapshot → IsMarkingNow m.heap m.marking m.snapshot → GcIsLawful g names c (mark n m)
  mark-lawful n m r t = record {
    still = on.still;
    each = on.each;
    few = subst (λ ks. runs ks ≤ 1) (sym unlinked) row.few;
    begins = subst (λ es. begins_with_at_most_one es ≡ true) (sym on.told)
        (subst (λ es. begins_with_at_most_one (es ++ map Freed on.freed) ≡ true) (sym first.told)
        (begins-units d.progress first.later (map Freed on.freed) first.only (has_none-freed on.freed)));
  }
    where
      d : UnitsDone
      d = finish_running m

      first : UnitsAreLawful g names c [] d
      first = finish-lawful g well c moves names m r

      row : IsLawfulRow g names c 1 d
      row = row-lawful g names c 0 [] d first refl (omega arith)

      on : MarkedOn g names c d.events (λ h es. Unit {0}) (mark n m)
      on = mark-runs n m r t

      unlinked : unlinked_numbers (mark n m).events ≡ unlinked_numbers d.events
      unlinked = ap unlinked_numbers on.told
          ∙ (flat_map-append unlinked_in d.events (map Freed on.freed)
          ∙ (ap (λ ks. unlinked_numbers d.events ++ ks) (unlinked-freed on.freed) ∙ append-nil (unlinked_numbers d.events)))
