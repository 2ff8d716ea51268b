-- UNITS OF COLLECTIONS AND OF MARKINGS COME TO THE SAME, whatever weak registers note.
use Rattle.std.proofs.Common.{◌≡◌, ℕ, zero, suc, Bool, true, false, List, Option, Some, None, is_some, refl, ◌∙◌, ap}
use Rattle.cc_model.specs.declared.item.Event.{Event}
use Rattle.cc_model.specs.Slots.{Slots}
use Rattle.cc_model.specs.Marking.{NewMarks, begun_marks, is_scanned, scanned, ended_marks, scans_left}
use Rattle.cc_model.specs.End.{Progress, went_on, at_end, refused}
use Rattle.cc_model.specs.Collecting.{Machine, UnitsDone, units_came, no_units, one_unit, units_done, enough_units, to_the_end, finish_running, slice_cycles, starting_anew, unless_stopped, collect_cycles, with_outcome, one_marked, units_marked, finish_marking, behind, slice, collect, then_scripts, without_marking, gc, mark}

-- the same machine, whose weak registers note other names
abbrev pub with_weak : Slots → Machine → Machine
with_weak weak m = record m { weak = weak }

-- so it is where units led to it
abbrev pub done_beside : Slots → UnitsDone → UnitsDone
done_beside weak d = record d { machine = with_weak weak d.machine }

-- a unit of a marking, by whether nothing is left to scan
abbrev pub scanned_by : Machine → List Event → NewMarks → Bool → UnitsDone
scanned_by m events marks b = elim b [
  | true ↦ with_outcome (units_came (record m { marking = None }) events at_end) (ended_marks m.heap marks)
  | false ↦ units_came (record m { marking = Some (scanned m.heap marks) }) events went_on
]

-- and by the marking that goes on
abbrev pub marked_by : Machine → List Event → Option NewMarks → UnitsDone
marked_by m events o = elim o [
  | None ↦ units_came (record m { marking = Some (begun_marks m.heap) }) events went_on
  | Some marks ↦ scanned_by m events marks (is_scanned marks)
]

-- a marking brought to its end
abbrev pub finished_by : Machine → Option NewMarks → UnitsDone
finished_by m o = elim o [ None ↦ no_units m | Some marks ↦ units_marked (suc (scans_left marks)) (no_units m) ]

module _ (weak : Slots) where
  -- several units
  pub units_done-weak : (n : ℕ) (d : UnitsDone) → units_done n (done_beside weak d) ≡ done_beside weak (units_done n d)
  unfolding units_done
  units_done-weak zero d = refl
  units_done-weak (suc n) d = go (units_done-weak n (one_unit d.machine d.events)) d.progress
    where
      go : units_done n (done_beside weak (one_unit d.machine d.events)) ≡ done_beside weak (units_done n (one_unit d.machine d.events)) → (p : Progress) → elim p [ went_on ↦ units_done n (one_unit (with_weak weak d.machine) d.events) | at_end ↦ done_beside weak d | refused ↦ done_beside weak d ]
          ≡ done_beside weak (elim p [ went_on ↦ units_done n (one_unit d.machine d.events) | at_end ↦ d | refused ↦ d ])
      go more went_on = more
      go more at_end = refl
      go more refused = refl

  -- a unit of a marking
  one_marked-weak : (m : Machine) (events : List Event) → one_marked (with_weak weak m) events ≡ done_beside weak (one_marked m events)
  one_marked-weak m events = go m.marking
    where
      scan : (marks : NewMarks) (b : Bool) → scanned_by (with_weak weak m) events marks b ≡ done_beside weak (scanned_by m events marks b)
      scan marks true = refl
      scan marks false = refl

      go : (o : Option NewMarks) → marked_by (with_weak weak m) events o ≡ done_beside weak (marked_by m events o)
      go None = refl
      go (Some marks) = scan marks (is_scanned marks)

  -- several units of a marking
  units_marked-weak : (n : ℕ) (d : UnitsDone) → units_marked n (done_beside weak d) ≡ done_beside weak (units_marked n d)
  units_marked-weak zero d = refl
  units_marked-weak (suc n) d = go (ap (units_marked n) (one_marked-weak d.machine d.events) ∙ units_marked-weak n (one_marked d.machine d.events)) d.progress
    where
      go : units_marked n (one_marked (with_weak weak d.machine) d.events) ≡ done_beside weak (units_marked n (one_marked d.machine d.events)) → (p : Progress) →
          elim p [ went_on ↦ units_marked n (one_marked (with_weak weak d.machine) d.events) | at_end ↦ done_beside weak d | refused ↦ done_beside weak d ]
          ≡ done_beside weak (elim p [ went_on ↦ units_marked n (one_marked d.machine d.events) | at_end ↦ d | refused ↦ d ])
      go more went_on = more
      go more at_end = refl
      go more refused = refl

  -- a marking that goes on is brought to its end
  finish_marking-weak : (m : Machine) → finish_marking (with_weak weak m) ≡ done_beside weak (finish_marking m)
  unfolding finish_marking
  finish_marking-weak m = go m.marking
    where
      go : (o : Option NewMarks) → finished_by (with_weak weak m) o ≡ done_beside weak (finished_by m o)
      go None = refl
      go (Some marks) = units_marked-weak (suc (scans_left marks)) (no_units m)

  -- units of collections
  slice_cycles-weak : (n : ℕ) (m : Machine) → slice_cycles n (with_weak weak m) ≡ done_beside weak (slice_cycles n m)
  unfolding slice_cycles
  slice_cycles-weak n m = units_done-weak n (no_units m)

  -- A SLICE
  pub slice-weak : (n : ℕ) (m : Machine) → slice n (with_weak weak m) ≡ done_beside weak (slice n m)
  unfolding slice
  slice-weak n m = ap (λ (f : UnitsDone). behind f (slice_cycles n f.machine)) (finish_marking-weak m)
      ∙ ap (behind (finish_marking m)) (slice_cycles-weak n (finish_marking m).machine)

  -- a running collection is brought to its end
  pub finish-weak : (m : Machine) → finish_running (with_weak weak m) ≡ done_beside weak (finish_running m)
  finish-weak m = go (is_some m.snapshot)
    where
      go : (b : Bool) → elim b [ true ↦ to_the_end (no_units (with_weak weak m)) | false ↦ no_units (with_weak weak m) ]
          ≡ done_beside weak (elim b [ true ↦ to_the_end (no_units m) | false ↦ no_units m ])
      go true = units_done-weak (enough_units m) (no_units m)
      go false = refl

  -- a collection begins after it
  stopped-weak : (d : UnitsDone) → unless_stopped (done_beside weak d) ≡ done_beside weak (unless_stopped d)
  stopped-weak d = go d.progress
    where
      go : (p : Progress) → elim p [ refused ↦ done_beside weak d | went_on ↦ to_the_end (starting_anew (done_beside weak d)) | at_end ↦ to_the_end (starting_anew (done_beside weak d)) ]
          ≡ done_beside weak (elim p [ refused ↦ d | went_on ↦ to_the_end (starting_anew d) | at_end ↦ to_the_end (starting_anew d) ])
      go went_on = units_done-weak (enough_units d.machine) (starting_anew d)
      go at_end = units_done-weak (enough_units d.machine) (starting_anew d)
      go refused = refl

  -- a whole collection of cycles
  collect_cycles-weak : (m : Machine) → collect_cycles (with_weak weak m) ≡ done_beside weak (collect_cycles m)
  unfolding collect_cycles
  collect_cycles-weak m = ap unless_stopped (finish-weak m) ∙ stopped-weak (finish_running m)

  -- A WHOLE COLLECTION
  pub collect-weak : (m : Machine) → collect (with_weak weak m) ≡ done_beside weak (collect m)
  unfolding collect
  collect-weak m = ap (λ (f : UnitsDone). behind f (collect_cycles f.machine)) (finish_marking-weak m)
      ∙ ap (behind (finish_marking m)) (collect_cycles-weak (finish_marking m).machine)

  -- A SCRIPT COLLECTION
  pub gc-weak : (m : Machine) → gc (with_weak weak m) ≡ done_beside weak (gc m)
  unfolding gc
  gc-weak m = ap then_scripts (finish-weak (without_marking m))

  -- UNITS OF A MARKING
  pub mark-weak : (n : ℕ) (m : Machine) → mark n (with_weak weak m) ≡ done_beside weak (mark n m)
  unfolding mark
  mark-weak n m = ap (λ (d : UnitsDone). units_marked n (starting_anew d)) (finish-weak m) ∙ units_marked-weak n (starting_anew (finish_running m))
