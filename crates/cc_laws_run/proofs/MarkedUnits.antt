-- UNITS OF A SCRIPT MARKING use no answer of memory, tell no abandonment, and add to what was told before.
use Rattle.std.proofs.Common.{◌≡◌, ℕ, zero, suc, Bool, true, false, List, Option, Some, None, refl, ◌∙◌, ap, arith}
use Rattle.cc_model.specs.declared.item.Event.{Event}
use Rattle.cc_model.specs.Heap.{Heap}
use Rattle.cc_model.specs.Colours.{coloured_by}
use Rattle.cc_model.specs.Marking.{NewMarks, begun_marks, is_scanned, scanned, blacks_by_mark, marks_by_mark, ended_marks}
use Rattle.cc_model.specs.End.{Progress, went_on, at_end}
use Rattle.cc_model.specs.Collecting.{Machine, UnitsDone, units_came, with_outcome, one_marked, units_marked}
use Rattle.cc_laws_run.specs.Memory.{with_memory}
use Rattle.cc_laws_run.proofs.Unabandoned.{abandonments, TellsNone, abandonments-append, sweep-none}
use Rattle.cc_laws_run.proofs.UnitsUse.{done_with}

-- One unit

-- a unit by whether none is left to scan
abbrev pub marked_by : Machine → List Event → NewMarks → Bool → UnitsDone
marked_by m es marks true = with_outcome (units_came (record m { marking = None }) es at_end) (ended_marks m.heap marks)
marked_by m es marks false = units_came (record m { marking = Some (scanned m.heap marks) }) es went_on

-- a unit by the marking that goes on
abbrev pub marked_from : Machine → List Event → Option NewMarks → UnitsDone
marked_from m es None = units_came (record m { marking = Some (begun_marks m.heap) }) es went_on
marked_from m es (Some marks) = marked_by m es marks (is_scanned marks)

-- Whatever holds of other marks, where nothing else changes, and of the end of any, holds of a unit.
pub one_marked-cases : (m : Machine) (es : List Event) (P : UnitsDone → Type 0) →
    ((marking : Option NewMarks) → P (units_came (record m { marking = marking }) es went_on)) →
    ((marks : NewMarks) → P (with_outcome (units_came (record m { marking = None }) es at_end) (ended_marks m.heap marks))) → P (one_marked m es)
one_marked-cases m es P on ended = go m.marking
  where
    by_marks : (marks : NewMarks) (over : Bool) → P (marked_by m es marks over)
    by_marks marks true = ended marks
    by_marks marks false = on (Some (scanned m.heap marks))

    go : (marking : Option NewMarks) → P (marked_from m es marking)
    go None = on (Some (begun_marks m.heap))
    go (Some marks) = by_marks marks (is_scanned marks)

-- with other answers of memory to come it is the same unit
one_marked-with : (m : Machine) (es : List Event) (memory : List Bool) → one_marked (with_memory m memory) es ≡ done_with (one_marked m es) memory
one_marked-with m es memory = go m.marking
  where
    by_marks : (marks : NewMarks) (over : Bool) → marked_by (with_memory m memory) es marks over ≡ done_with (marked_by m es marks over) memory
    by_marks marks true = refl
    by_marks marks false = refl

    go : (marking : Option NewMarks) → marked_from (with_memory m memory) es marking ≡ done_with (marked_from m es marking) memory
    go None = refl
    go (Some marks) = by_marks marks (is_scanned marks)

-- Units in a row

-- the units that are left, by what the last one came to
abbrev marked_on : ℕ → UnitsDone → Progress → UnitsDone
marked_on n d went_on = units_marked n (one_marked d.machine d.events)
marked_on n d _ = d

-- WHAT A UNIT KEEPS, UNITS KEEP.
pub units_marked-keep : (Q : UnitsDone → Type 0) → ((d : UnitsDone) → Q d → Q (one_marked d.machine d.events)) → (n : ℕ) (d : UnitsDone) → Q d →
    Q (units_marked n d)
units_marked-keep Q step zero d q = q
units_marked-keep Q step (suc n) d q = go (units_marked-keep Q step n (one_marked d.machine d.events) (step d q)) d.progress
  where
    go : Q (units_marked n (one_marked d.machine d.events)) → (p : Progress) → Q (marked_on n d p)
    go more went_on = more
    go more _ = q

-- they leave the answers of memory
pub units_marked-memory : (n : ℕ) (d : UnitsDone) → (units_marked n d).machine.memory ≡ d.machine.memory
units_marked-memory n d = units_marked-keep (λ e. e.machine.memory ≡ d.machine.memory)
    (λ e q. one_marked-cases e.machine e.events (λ u. u.machine.memory ≡ d.machine.memory) (λ marking. q) (λ marks. q)) n d refl

-- so they are the same with others to come
pub units_marked-with : (n : ℕ) (d : UnitsDone) (memory : List Bool) → units_marked n (done_with d memory) ≡ done_with (units_marked n d) memory
units_marked-with zero d memory = refl
units_marked-with (suc n) d memory = go (units_marked-with n (one_marked d.machine d.events) memory) d.progress
  where
    go : units_marked n (done_with (one_marked d.machine d.events) memory) ≡ done_with (units_marked n (one_marked d.machine d.events)) memory →
        (p : Progress) → marked_on n (done_with d memory) p ≡ done_with (marked_on n d p) memory
    go more went_on = ap (units_marked n) (one_marked-with d.machine d.events memory) ∙ more
    go more _ = refl

-- an end tells no abandonment
ended_marks-none : (h : Heap) (marks : NewMarks) → TellsNone (ended_marks h marks).events
unfolding ended_marks
ended_marks-none h marks = sweep-none (coloured_by (blacks_by_mark h marks) (marks_by_mark h marks) h)

-- nor do units
pub units_marked-told : (n : ℕ) (d : UnitsDone) → abandonments (units_marked n d).events ≡ abandonments d.events
units_marked-told n d = units_marked-keep (λ e. abandonments e.events ≡ abandonments d.events)
    (λ e q. one_marked-cases e.machine e.events (λ u. abandonments u.events ≡ abandonments d.events) (λ marking. q)
    (λ marks. let told = (ended_marks e.machine.heap marks).events in
    omega (arith, q, abandonments-append e.events told, ended_marks-none e.machine.heap marks))) n d refl
