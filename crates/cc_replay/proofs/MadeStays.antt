-- UNITS OF COLLECTIONS AND OF MARKINGS MAKE NO NATIVE.
use Rattle.std.proofs.Common.{◌≡◌, ℕ, zero, suc, Bool, true, false, not, ◌&&◌, List, [], ◌∷◌, Option, Some, None, is_some, refl, ◌∙◌}
use Rattle.cc_names.specs.declared.name.Name.{Name}
use Rattle.cc_names.specs.declared.name.Name.TheVariants as name
use Rattle.cc_names.specs.Names.{native}
use Rattle.cc_model.specs.Slots.{Slots}
use Rattle.cc_model.specs.Heap.{Heap, Outcome, after, native_at, set_slot, silently, suspect}
use Rattle.cc_model.specs.Cascade.{add_ref, cascade}
use Rattle.cc_model.specs.Colours.{marked}
use Rattle.cc_model.specs.Sweep.{unmarked, without_dead_entries, without_script, sweep_one, sweep_each, sweep, sweeps, rounds, collect_scripts}
use Rattle.cc_model.specs.Snapshot.{Snapshot}
use Rattle.cc_model.specs.Units.{first_untraversed}
use Rattle.cc_model.specs.End.{root_each, empty_slot, empty_each, slots_now, unlink, unlink_each, unroot_each, take_away, give_back, Progress, went_on, at_end, refused, may_be_refused, heap_given_back, abandoned, node_or_end, granted, UnitDone, unit}
use Rattle.cc_model.specs.Marking.{NewMarks, is_scanned, ended_marks, scans_left}
use Rattle.cc_model.specs.declared.item.Event.{Event}
use Rattle.cc_model.specs.Collecting.{Machine, UnitsDone, no_units, one_unit, units_done, enough_units, to_the_end, finish_running, slice_cycles, starting_anew, unless_stopped, collect_cycles, one_marked, units_marked, finish_marking, slice, collect, without_marking, gc, mark}
use Rattle.cc_laws_heap.proofs.Face.{Leaves-let_go, Leaves-take_up}
use Rattle.cc_replay.proofs.BesideWeak.{finished_by, marked_by, scanned_by}

-- as many natives were made in the second heaps as in the first
abbrev pub MadeAsMany : Heap → Heap → Type 0
MadeAsMany h k = k.natives_made ≡ h.natives_made

-- The end of a collection

-- a reference given up, with all that is deleted then
cascade-made : (h : Heap) (k : ℕ) → MadeAsMany h (cascade h k).heap
cascade-made h k = (Leaves-let_go h (Some (native k))).beside.natives_made

-- references taken to some natives
root_each-made : (ks : List ℕ) (h : Heap) → MadeAsMany h (root_each ks h)
root_each-made [] h = refl
root_each-made (k ∷ ks) h = root_each-made ks (add_ref h k) ∙ (Leaves-take_up h (Some (native k))).beside.natives_made

-- slots emptied
empty_each-made : (k i : ℕ) (xs : Slots) (o : Outcome) → MadeAsMany o.heap (empty_each k i xs o).heap
empty_each-made k i [] o = refl
empty_each-made k i (x ∷ xs) o =
    empty_each-made k (suc i) xs (after o.events (empty_slot o.heap k i x)) ∙ (Leaves-let_go (set_slot o.heap (Some (native k)) i None) x).beside.natives_made

-- a native unlinked
unlink-made : (h : Heap) (k : ℕ) → MadeAsMany h (unlink h k).heap
unfolding unlink
unlink-made h k = empty_each-made k 0 (slots_now (native_at h k)) (silently h)

-- natives unlinked
unlink_each-made : (ks : List ℕ) (o : Outcome) → MadeAsMany o.heap (unlink_each ks o).heap
unlink_each-made [] o = refl
unlink_each-made (k ∷ ks) o = unlink_each-made ks (after o.events (unlink o.heap k)) ∙ unlink-made o.heap k

-- the references to them given up
unroot_each-made : (ks : List ℕ) (o : Outcome) → MadeAsMany o.heap (unroot_each ks o).heap
unroot_each-made [] o = refl
unroot_each-made (k ∷ ks) o = unroot_each-made ks (after o.events (cascade o.heap k)) ∙ cascade-made o.heap k

-- natives taken away
take_away-made : (ks : List ℕ) (h : Heap) → MadeAsMany h (take_away ks h).heap
unfolding take_away
take_away-made ks h =
    unroot_each-made ks (unlink_each ks (silently (root_each ks h))) ∙ (unlink_each-made ks (silently (root_each ks h)) ∙ root_each-made ks h)

-- candidates given back
give_back-made : (ks : List ℕ) (h : Heap) → MadeAsMany h (give_back ks h)
give_back-made [] h = refl
give_back-made (k ∷ ks) h = go (give_back-made ks (suspect h k)) (give_back-made ks h) (is_some (native_at h k))
  where
    go : MadeAsMany h (give_back ks (suspect h k)) → MadeAsMany h (give_back ks h) → (b : Bool) →
        MadeAsMany h (elim b [ true ↦ give_back ks (suspect h k) | false ↦ give_back ks h ])
    go back left true = back
    go back left false = left

-- a unit, by whether it is refused
abbrev unit_by : Heap → Option Snapshot → Bool → UnitDone
unit_by h s b = elim b [ true ↦ abandoned h s | false ↦ granted h s ]

-- A UNIT
unit-made : (h : Heap) (s : Option Snapshot) (memory : Bool) → MadeAsMany h (unit h s memory).heap
unfolding unit
unit-made h s memory = go (may_be_refused h s && not memory)
  where
    dropped : (s : Option Snapshot) → MadeAsMany h (heap_given_back h s)
    dropped None = refl
    dropped (Some s) = give_back-made s.candidates h

    walked : (s : Snapshot) (x : Option Name) → MadeAsMany h (node_or_end h s x).heap
    walked s None = take_away-made _ h
    walked s (Some x) = refl

    done : (s : Option Snapshot) → MadeAsMany h (granted h s).heap
    done None = refl
    done (Some s) = walked s (first_untraversed s.nodes)

    go : (b : Bool) → MadeAsMany h (unit_by h s b).heap
    go true = dropped s
    go false = done s

-- the units that are left, by what the last one came to
abbrev units_by : ℕ → UnitsDone → Progress → UnitsDone
units_by n d p = elim p [ went_on ↦ units_done n (one_unit d.machine d.events) | at_end ↦ d | refused ↦ d ]

-- several units
units_done-made : (n : ℕ) (d : UnitsDone) → MadeAsMany d.machine.heap (units_done n d).machine.heap
unfolding units_done
units_done-made zero d = refl
units_done-made (suc n) d = go (units_done-made n (one_unit d.machine d.events)) d.progress
  where
    go : MadeAsMany (one_unit d.machine d.events).machine.heap (units_done n (one_unit d.machine d.events)).machine.heap → (p : Progress) →
        MadeAsMany d.machine.heap (units_by n d p).machine.heap
    go more went_on = more ∙ unit-made d.machine.heap d.machine.snapshot _
    go more at_end = refl
    go more refused = refl

-- a collection brought to its end, where one runs
abbrev finish_by : Machine → Bool → UnitsDone
finish_by m b = elim b [ true ↦ to_the_end (no_units m) | false ↦ no_units m ]

-- a running collection brought to its end
finish-made : (m : Machine) → MadeAsMany m.heap (finish_running m).machine.heap
finish-made m = go (is_some m.snapshot)
  where
    go : (b : Bool) → MadeAsMany m.heap (finish_by m b).machine.heap
    go true = units_done-made (enough_units m) (no_units m)
    go false = refl

-- a collection begun after others, unless these were refused
abbrev stopped_by : UnitsDone → Progress → UnitsDone
stopped_by d p = elim p [ refused ↦ d | went_on ↦ to_the_end (starting_anew d) | at_end ↦ to_the_end (starting_anew d) ]

-- a collection begun after it
stopped-made : (d : UnitsDone) → MadeAsMany d.machine.heap (unless_stopped d).machine.heap
stopped-made d = go d.progress
  where
    go : (p : Progress) → MadeAsMany d.machine.heap (stopped_by d p).machine.heap
    go went_on = units_done-made (enough_units d.machine) (starting_anew d)
    go at_end = units_done-made (enough_units d.machine) (starting_anew d)
    go refused = refl

-- A script collection

-- an object swept
sweep_one-made : (h : Heap) (x : Name) → MadeAsMany h (sweep_one h x).heap
sweep_one-made h (name.Native k) = refl
sweep_one-made h (name.Script k) = refl
sweep_one-made h (name.Reflector k) = cascade-made (without_script h (name.Reflector k)) k.0

-- objects swept
sweep_each-made : (xs : List Name) (o : Outcome) → MadeAsMany o.heap (sweep_each xs o).heap
sweep_each-made [] o = refl
sweep_each-made (x ∷ xs) o = sweep_each-made xs (after o.events (sweep_one o.heap x)) ∙ sweep_one-made o.heap x

-- a sweep
sweep-made : (h : Heap) → MadeAsMany h (sweep h).heap
unfolding sweep
sweep-made h = sweep_each-made (unmarked h) (silently (without_dead_entries (unmarked h) h))

-- colours by marking
marked-made : (h : Heap) → MadeAsMany h (marked h)
unfolding marked
marked-made h = refl

-- the rounds that are left, by whether the last one swept something
abbrev rounds_by : ℕ → Outcome → Bool → Outcome
rounds_by n o b = elim b [ true ↦ rounds n (after o.events (sweep (marked o.heap))) | false ↦ after o.events (sweep (marked o.heap)) ]

-- rounds of marking and sweeping
rounds-made : (n : ℕ) (o : Outcome) → MadeAsMany o.heap (rounds n o).heap
unfolding rounds
rounds-made zero o = refl
rounds-made (suc n) o = go (rounds-made n (after o.events (sweep (marked o.heap)))) (sweeps (marked o.heap))
  where
    go : MadeAsMany (sweep (marked o.heap)).heap (rounds n (after o.events (sweep (marked o.heap)))).heap → (b : Bool) →
        MadeAsMany o.heap (rounds_by n o b).heap
    go more true = more ∙ (sweep-made (marked o.heap) ∙ marked-made o.heap)
    go more false = sweep-made (marked o.heap) ∙ marked-made o.heap

-- the end of a marking
ended-made : (h : Heap) (marks : NewMarks) → MadeAsMany h (ended_marks h marks).heap
unfolding ended_marks
ended-made h marks = sweep-made _

-- A marking in slices

-- a unit of it
one_marked-made : (m : Machine) (events : List Event) → MadeAsMany m.heap (one_marked m events).machine.heap
one_marked-made m events = go m.marking
  where
    scan : (marks : NewMarks) (b : Bool) → MadeAsMany m.heap (scanned_by m events marks b).machine.heap
    scan marks true = ended-made m.heap marks
    scan marks false = refl

    go : (o : Option NewMarks) → MadeAsMany m.heap (marked_by m events o).machine.heap
    go None = refl
    go (Some marks) = scan marks (is_scanned marks)

-- the units that are left, by what the last one came to
abbrev more_by : ℕ → UnitsDone → Progress → UnitsDone
more_by n d p = elim p [ went_on ↦ units_marked n (one_marked d.machine d.events) | at_end ↦ d | refused ↦ d ]

-- several units of it
units_marked-made : (n : ℕ) (d : UnitsDone) → MadeAsMany d.machine.heap (units_marked n d).machine.heap
units_marked-made zero d = refl
units_marked-made (suc n) d = go (units_marked-made n (one_marked d.machine d.events)) d.progress
  where
    go : MadeAsMany (one_marked d.machine d.events).machine.heap (units_marked n (one_marked d.machine d.events)).machine.heap → (p : Progress) →
        MadeAsMany d.machine.heap (more_by n d p).machine.heap
    go more went_on = more ∙ one_marked-made d.machine d.events
    go more at_end = refl
    go more refused = refl

-- one that goes on is brought to its end
finish_marking-made : (m : Machine) → MadeAsMany m.heap (finish_marking m).machine.heap
unfolding finish_marking
finish_marking-made m = go m.marking
  where
    go : (o : Option NewMarks) → MadeAsMany m.heap (finished_by m o).machine.heap
    go None = refl
    go (Some marks) = units_marked-made (suc (scans_left marks)) (no_units m)

-- What commands do

-- A SLICE
pub slice-made : (n : ℕ) (m : Machine) → MadeAsMany m.heap (slice n m).machine.heap
unfolding slice slice_cycles
slice-made n m = units_done-made n (no_units (finish_marking m).machine) ∙ finish_marking-made m

-- A WHOLE COLLECTION
pub collect-made : (m : Machine) → MadeAsMany m.heap (collect m).machine.heap
unfolding collect collect_cycles
collect-made m = stopped-made (finish_running (finish_marking m).machine) ∙ (finish-made (finish_marking m).machine ∙ finish_marking-made m)

-- `gc`
pub gc-made : (m : Machine) → MadeAsMany m.heap (gc m).machine.heap
unfolding gc collect_scripts
gc-made m = rounds-made _ (silently (finish_running (without_marking m)).machine.heap) ∙ finish-made (without_marking m)

-- UNITS OF A MARKING
pub mark-made : (n : ℕ) (m : Machine) → MadeAsMany m.heap (mark n m).machine.heap
unfolding mark
mark-made n m = units_marked-made n (starting_anew (finish_running m)) ∙ finish-made m
