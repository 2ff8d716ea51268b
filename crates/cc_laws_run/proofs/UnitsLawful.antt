-- UNITS ONE AFTER THE OTHER ARE LAWFUL: a slice, a whole collection, and what is left to finish before `gc`.
use Rattle.std.proofs.Common.{◌≡◌, ◌≢◌, ℕ, ◌+◌, ◌≤◌, true, ◌||◌, List, [], ◌∷◌, ◌++◌, map, Option, None, refl, sym, ◌∙◌, ap, subst, arith}
use Rattle.std.proofs.lemmas.Bool.{false≢true}
use Rattle.std.proofs.lemmas.List.{append-nil}
use Rattle.std.proofs.lemmas.Grind.{flat_map-append}
use Rattle.cc_names.specs.declared.name.Name.{Name}
use Rattle.cc_model.specs.declared.command.Command.{Command}
use Rattle.cc_model.specs.declared.item.Event.{Event}
use Rattle.cc_model.specs.declared.item.Event.TheVariants.{Freed}
use Rattle.cc_model.specs.Mutating.{Running, so_many, whole, runs as runs_some}
use Rattle.cc_model.specs.Graph.{Graph}
use Rattle.cc_model.specs.WellMade.{IsWellMade}
use Rattle.cc_model.specs.End.{Progress, went_on, at_end, refused, UnitDone, unit}
use Rattle.cc_model.specs.Heap.{Heap}
use Rattle.cc_model.specs.Snapshot.{Snapshot}
use Rattle.cc_model.specs.Collecting.{Machine, UnitsDone, next_answer, no_units, one_unit, units_done, enough_units, to_the_end, finish_running, slice_cycles, starting_anew, collect_cycles, behind, finish_marking, slice, collect}
use Rattle.cc_model.specs.Listed.{after_events}
use Rattle.cc_model.specs.Lawful.{EachMayBe, runs_units, is_gc, has_none, ends_with_one, runs, unlinked_in, unlinked_numbers, runs_in}
use Rattle.cc_model.specs.Run.{run_units}
use Rattle.cc_model.proofs.UnitsEnd.{to_the_end-stops}
use Rattle.cc_laws_run.proofs.EachNamed.{after_events-append, each-append}
use Rattle.cc_laws_run.proofs.RunsOfNumbers.{runs-append, has_none-append, has_none-freed, ends_with_one-append}
use Rattle.cc_laws_run.proofs.UnitLawful.{RunsOn, TellsOnly, DropsAt, UnitIsLawful, unit-lawful}
use Rattle.cc_laws_run.specs.Running.{IsMarkingNow}
use Rattle.cc_laws_run.proofs.Swept.{IsSwept, outcome_of, finishing-swept, finishing-fresh}
use Rattle.cc_laws_run.proofs.SweptLawful.{swept-unlinks_none, swept-runs, swept-each}
use Rattle.cc_laws_run.proofs.HoldingUnits.{units_done-keep, finish-cases, run_cycles, run_units-behind}

-- Several units

-- `before` was told before these units
pub record UnitsAreLawful (g : Graph) (names : List Name) (c : Command) (before : List Event) (d : UnitsDone) : Type 0 where
  pub still : RunsOn g (after_events names d.events) d.machine.heap d.machine.snapshot
  pub each : EachMayBe g names c d.events
  pub later : List Event
  pub told : d.events ≡ before ++ later
  pub only : TellsOnly d.progress later
  pub drops : DropsAt d.progress d.machine.snapshot

-- where an abandonment stands, by what the last unit came to
abbrev pub IsPlaced : Progress → List Event → Type 0
IsPlaced refused es = ends_with_one es ≡ true
IsPlaced _ es = has_none es ≡ true

-- a slice or a collection is lawful, with so many rising runs
pub record IsLawfulRow (g : Graph) (names : List Name) (c : Command) (most : ℕ) (d : UnitsDone) : Type 0 where
  pub still : RunsOn g (after_events names d.events) d.machine.heap d.machine.snapshot
  pub each : EachMayBe g names c d.events
  pub few : runs (unlinked_numbers d.events) ≤ most
  pub placed : IsPlaced d.progress d.events

-- units tell at most one rising run
only-few : (p : Progress) (es : List Event) → TellsOnly p es → runs (unlinked_numbers es) ≤ 1
only-few p es o = grind arith

-- an abandonment stands last, after events without one
only-placed : (p : Progress) (before later : List Event) → has_none before ≡ true → TellsOnly p later → IsPlaced p (before ++ later)
only-placed p before later n o = grind (arith, has_none-append, ends_with_one-append)

-- units after events without an abandonment add at most one rising run
pub row-lawful : (g : Graph) (names : List Name) (c : Command) (most : ℕ) (before : List Event) (d : UnitsDone) → UnitsAreLawful g names c before d →
    has_none before ≡ true → runs (unlinked_numbers before) ≤ most → IsLawfulRow g names c (most + 1) d
row-lawful g names c most before d l none few = grind (arith, flat_map-append, runs-append, only-few, only-placed)

module _ (g : Graph) (well : IsWellMade g) (c : Command) (moves : (runs_units c || is_gc c) ≡ true) (names : List Name) where
  -- no units at all
  no_units-lawful : (m : Machine) → RunsOn g names m.heap m.snapshot → UnitsAreLawful g names c [] (no_units m)
  no_units-lawful m r = record { still = r; each = tt; later = []; told = refl; only = refl; drops = tt }

  -- one more
  one_unit-lawful : (m : Machine) (before events : List Event) → events ≡ before → RunsOn g (after_events names events) m.heap m.snapshot →
      EachMayBe g names c events → UnitsAreLawful g names c before (one_unit m events)
  one_unit-lawful m before events e r each =
      let u : UnitDone = unit m.heap m.snapshot (next_answer m.memory) in
      let l : UnitIsLawful g (after_events names events) c u = unit-lawful g well c moves (after_events names events) m.heap m.snapshot (next_answer m.memory) r in
      record {
        still = subst (λ l. RunsOn g l u.heap u.snapshot) (sym (after_events-append events u.events names)) l.still;
        each = each-append g c events u.events names each l.each;
        later = u.events;
        told = ap (λ es. es ++ u.events) e;
        only = l.only;
        drops = l.drops;
      }

  -- SEVERAL
  units_done-lawful : (n : ℕ) (before : List Event) (d : UnitsDone) → UnitsAreLawful g names c before d → UnitsAreLawful g names c before (units_done n d)
  units_done-lawful n before d l = units_done-keep (UnitsAreLawful g names c before) step n d l
    where
      step : (d : UnitsDone) → d.progress ≡ went_on → UnitsAreLawful g names c before d → UnitsAreLawful g names c before (one_unit d.machine d.events)
      step d e l =
          let nothing : l.later ≡ [] = subst (λ p. TellsOnly p l.later) e l.only in
          one_unit-lawful d.machine before d.events (l.told ∙ (ap (λ es. before ++ es) nothing ∙ append-nil before)) l.still l.each

  -- units of a slice
  pub slice_cycles-lawful : (n : ℕ) (m : Machine) → RunsOn g names m.heap m.snapshot → IsLawfulRow g names c 1 (slice_cycles n m)
  unfolding slice_cycles
  slice_cycles-lawful n m r = row-lawful g names c 0 [] (units_done n (no_units m)) (units_done-lawful n [] (no_units m) (no_units-lawful m r)) refl (omega arith)

  -- a collection that was running is brought to its end
  pub finish-lawful : (m : Machine) → RunsOn g names m.heap m.snapshot → UnitsAreLawful g names c [] (finish_running m)
  finish-lawful m r = finish-cases m (UnitsAreLawful g names c [])
      (units_done-lawful (enough_units m) [] (no_units m) (no_units-lawful m r)) (λ e. no_units-lawful m r)

  -- and none runs then
  pub finish-drops : (m : Machine) → RunsOn g names m.heap m.snapshot → (finish_running m).machine.snapshot ≡ None
  finish-drops m r = finish-cases m (λ d. d.machine.snapshot ≡ None)
      (ended end.progress (to_the_end-stops m) (units_done-lawful (enough_units m) [] (no_units m) (no_units-lawful m r)).drops) (λ e. e)
    where
      end : UnitsDone
      end = to_the_end (no_units m)

      ended : (p : Progress) → p ≢ went_on → DropsAt p end.machine.snapshot → end.machine.snapshot ≡ None
      ended went_on stopped d = absurd (stopped refl)
      ended _ stopped d = d

  -- units of a whole collection
  pub collect_cycles-lawful : (m : Machine) → RunsOn g names m.heap m.snapshot → IsLawfulRow g names c 2 (collect_cycles m)
  unfolding collect_cycles
  collect_cycles-lawful m r = go (finish_running m).progress (row-lawful g names c 0 [] d (finish-lawful m r) refl (omega arith)).placed
    where
      d : UnitsDone
      d = finish_running m

      first : IsLawfulRow g names c 1 d
      first = row-lawful g names c 0 [] d (finish-lawful m r) refl (omega arith)

      anew : UnitsAreLawful g names c d.events (starting_anew d)
      anew = record { still = first.still; each = first.each; later = []; told = sym (append-nil d.events); only = refl; drops = tt }

      second : has_none d.events ≡ true → IsLawfulRow g names c 2 (to_the_end (starting_anew d))
      second none = row-lawful g names c 1 d.events (to_the_end (starting_anew d))
          (units_done-lawful (enough_units (starting_anew d).machine) d.events (starting_anew d) anew) none first.few

      stopped_by : Progress → UnitsDone
      stopped_by refused = d
      stopped_by _ = to_the_end (starting_anew d)

      go : (p : Progress) → IsPlaced p d.events → IsLawfulRow g names c 2 (stopped_by p)
      go refused placed = record { still = first.still; each = first.each; few = omega (arith, first.few); placed = first.placed }
      go _ placed = second placed

  -- both
  pub cycles-lawful : (u : Running) (m : Machine) → RunsOn g names m.heap m.snapshot → IsLawfulRow g names c (runs_in (runs_some u)) (run_cycles m u)
  cycles-lawful (so_many n) m r = slice_cycles-lawful n m r
  cycles-lawful whole m r = collect_cycles-lawful m r

-- Units behind the finishing of a marking

-- an abandonment that stands last stands so behind free lines
ends-behind : (xs : List Name) (es : List Event) → ends_with_one es ≡ true → ends_with_one (map Freed xs ++ es) ≡ true
ends-behind [] es o = o
ends-behind (x ∷ xs) es o = front (map Freed xs ++ es) (ends-behind xs es o)
  where
    front : (rest : List Event) → ends_with_one rest ≡ true → ends_with_one (Freed x ∷ rest) ≡ true
    front [] o = absurd (false≢true o)
    front (f ∷ fs) o = o

-- an abandonment that is in place is so behind free lines
placed-behind : (p : Progress) (xs : List Name) (es : List Event) → IsPlaced p es → IsPlaced p (map Freed xs ++ es)
placed-behind refused xs es o = ends-behind xs es o
placed-behind went_on xs es o = has_none-append (map Freed xs) es (has_none-freed xs) o
placed-behind at_end xs es o = has_none-append (map Freed xs) es (has_none-freed xs) o

module _ (g : Graph) (well : IsWellMade g) (c : Command) (moves : (runs_units c || is_gc c) ≡ true) (names : List Name) where
  -- a row behind what frees what no root reaches
  behind-lawful : (h : Heap) (s : Option Snapshot) → RunsOn g names h s → (b : UnitsDone) → IsSwept h (outcome_of b) → (most : ℕ) (d : UnitsDone) →
      IsLawfulRow g (after_events names b.events) c most d → IsLawfulRow g names c most (behind b d)
  behind-lawful h s r b w most d l = record {
    still = subst (λ ns. RunsOn g ns d.machine.heap d.machine.snapshot) (sym (after_events-append b.events d.events names)) l.still;
    each = each-append g c b.events d.events names (swept-each g well c moves names h s r (outcome_of b) w) l.each;
    few = subst (λ ks. runs ks ≤ most) (sym unlinked) l.few;
    placed = subst (λ es. IsPlaced d.progress (es ++ d.events)) (sym w.frees.told) (placed-behind d.progress w.names d.events l.placed);
  }
    where
      unlinked : unlinked_numbers (b.events ++ d.events) ≡ unlinked_numbers d.events
      unlinked = flat_map-append unlinked_in b.events d.events ∙ ap (λ ks. ks ++ unlinked_numbers d.events) (swept-unlinks_none h (outcome_of b) w)

  -- the finishing leaves a machine that runs
  pub finished-runs : (m : Machine) → RunsOn g names m.heap m.snapshot → IsMarkingNow m.heap m.marking m.snapshot →
      RunsOn g (after_events names (finish_marking m).events) (finish_marking m).machine.heap (finish_marking m).machine.snapshot
  finished-runs m r t = swept-runs g well c moves names m.heap m.snapshot r (outcome_of (finish_marking m)) (finishing-swept m r.sound r.colours t)
      (finish_marking m).machine.snapshot (finishing-fresh m r.sound r.colours t r.fresh)

  -- UNITS, so many or those of a whole collection
  pub units-lawful : (u : Running) (m : Machine) → RunsOn g names m.heap m.snapshot → IsMarkingNow m.heap m.marking m.snapshot →
      IsLawfulRow g names c (runs_in (runs_some u)) (run_units m u)
  units-lawful u m r t = subst (IsLawfulRow g names c (runs_in (runs_some u))) (sym (run_units-behind u m))
      (behind-lawful m.heap m.snapshot r b (finishing-swept m r.sound r.colours t) (runs_in (runs_some u)) (run_cycles b.machine u)
      (cycles-lawful g well c moves (after_events names b.events) u b.machine (finished-runs m r t)))
    where
      b : UnitsDone
      b = finish_marking m

  -- A SLICE
  pub slice-lawful : (n : ℕ) (m : Machine) → RunsOn g names m.heap m.snapshot → IsMarkingNow m.heap m.marking m.snapshot → IsLawfulRow g names c 1 (slice n m)
  slice-lawful n m r t = units-lawful (so_many n) m r t

  -- A COLLECTION
  pub collect-lawful : (m : Machine) → RunsOn g names m.heap m.snapshot → IsMarkingNow m.heap m.marking m.snapshot → IsLawfulRow g names c 2 (collect m)
  collect-lawful m r t = units-lawful whole m r t
