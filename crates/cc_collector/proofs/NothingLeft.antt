-- A COLLECTION THAT IS REFUSED RIGHT AFTER `gc` takes nothing away, so a script collection would free nothing.
use Rattle.std.proofs.Common.{◌≡◌, ◌≢◌, Bool, List, [], Option, Some, None, refl, sym, ◌∙◌, ap, subst, inl, inr, ◌⊎◌, ⊎_elim, arith}
use Rattle.cc_lists.proofs.ListWrites.{map-unchanged}
use Rattle.cc_names.specs.declared.name.Name.{Name}
use Rattle.cc_model.specs.Telling.{Telling}
use Rattle.cc_model.specs.Heap.{Heap, Buffered, silently}
use Rattle.cc_model.specs.Colours.{marked, HasColours, HasColourInvariant}
use Rattle.cc_model.specs.View.{view}
use Rattle.cc_laws_heap.specs.Sound.{IsSound}
use Rattle.cc_laws_run.specs.Running.{IsFreshNow}
use Rattle.cc_model.specs.Sweep.{unmarked, without_dead_entries, sweep_each, sweep, rounds, collect_scripts}
use Rattle.cc_model.specs.Snapshot.{Snapshot}
use Rattle.cc_model.specs.Units.{first_untraversed}
use Rattle.cc_model.specs.End.{Progress, went_on, at_end, refused, abandoned, node_or_end, granted, unit}
use Rattle.cc_model.specs.Collecting.{Machine, UnitsDone, no_units, next_answer, one_unit, enough_units, to_the_end, finish_running, collect, without_marking, gc}
use Rattle.cc_laws_heap.proofs.Face.{as_marked, collect_scripts-colours, collect_scripts-unmarked, with_buffer}
use Rattle.cc_laws_snapshot.proofs.Face.{give_back-buffer, given_back}
use Rattle.cc_laws_run.specs.Memory.{with_memory}
use Rattle.cc_laws_run.proofs.Face.{collect-none, gc-unmarked, unit-cases, units_done-keep}
use Rattle.cc_heaps.specs.Keyed.{Keyed}
use Rattle.cc_collector.specs.Kept.{Kept, RunsIn, machine_of}
use Rattle.cc_collector.specs.Settled.{IsUnsettled}
use Rattle.cc_collector.proofs.Keeping.{RunsIn-fresh}
use Rattle.cc_collector.proofs.UnitsSpare.{finish-spare}

-- Script collections that free nothing

-- marking changes nothing where the colours are those of marking
marked-same : (h : Heap) → HasColours h → marked h ≡ h
unfolding marked
marked-same h c = grind (arith, map-unchanged, as_marked)

-- a sweep of nothing tells nothing
sweep-silent : (h : Heap) → unmarked h ≡ [] → (sweep h).events ≡ []
unfolding sweep
sweep-silent h none = ap (λ (dead : List Name). (sweep_each dead (silently (without_dead_entries dead h))).events) none

-- where the colours are those of marking and nothing is unmarked a script collection frees nothing
collected-silent : (h : Heap) → HasColours h → unmarked h ≡ [] → (collect_scripts h).events ≡ []
unfolding collect_scripts rounds
collected-silent h c none = grind (arith, marked-same, sweep-silent)

-- So it frees nothing where the buffer alone changed after a script collection.
silent-after : (h : Heap) (bs : List Buffered) → (collect_scripts (with_buffer (collect_scripts h).heap bs)).events ≡ []
silent-after h bs = collected-silent (with_buffer (collect_scripts h).heap bs) (λ o m. collect_scripts-colours h o m) (collect_scripts-unmarked h)

-- Units that do not end a collection

-- the buffer alone changed, or the collection has ended
abbrev IsWaiting : Heap → Heap → Progress → Type 0
IsWaiting h k p = ((bs : List Buffered) × (k ≡ with_buffer h bs)) ⊎ (p ≡ at_end)

-- what a unit came to is so
unit-waits : (h : Heap) (bs : List Buffered) (s : Option Snapshot) (memory : Bool) → let u = unit (with_buffer h bs) s memory in IsWaiting h u.heap u.progress
unit-waits h bs s memory = unit-cases (with_buffer h bs) s memory (λ u. IsWaiting h u.heap u.progress) (without s) (with_it s)
  where
    without : (s : Option Snapshot) → IsWaiting h (abandoned (with_buffer h bs) s).heap refused
    without None = inl (bs, refl)
    without (Some s) = inl (given_back s.candidates h bs, give_back-buffer s.candidates h bs)

    of_node : (s : Snapshot) (o : Option Name) → let u = node_or_end (with_buffer h bs) s o in IsWaiting h u.heap u.progress
    of_node s None = inr refl
    of_node s (Some x) = inl (bs, refl)

    with_it : (s : Option Snapshot) → let u = granted (with_buffer h bs) s in IsWaiting h u.heap u.progress
    with_it None = inl ([], refl)
    with_it (Some s) = of_node s (first_untraversed s.nodes)

-- so are several
units-wait : (m : Machine) → let d = to_the_end (no_units m) in IsWaiting m.heap d.machine.heap d.progress
units-wait m = units_done-keep (λ d. IsWaiting m.heap d.machine.heap d.progress) step (enough_units m) (no_units m) (inl (m.heap.buffer, refl))
  where
    step : (d : UnitsDone) → d.progress ≡ went_on → IsWaiting m.heap d.machine.heap d.progress →
        IsWaiting m.heap (one_unit d.machine d.events).machine.heap (one_unit d.machine d.events).progress
    step d e w = ⊎_elim
        (λ k. subst (λ h. let u = unit h d.machine.snapshot (next_answer d.machine.memory) in IsWaiting m.heap u.heap u.progress) (sym k.1)
        (unit-waits m.heap k.0 d.machine.snapshot (next_answer d.machine.memory)))
        (λ f. absurd (apart (sym e ∙ f)))
        w
      where
        apart : went_on ≢ at_end
        apart f = cc

-- A COLLECTION THAT IS REFUSED changes the buffer alone, where none ran.
collect-waits : (m : Machine) → m.snapshot ≡ None → m.marking ≡ None → (collect m).progress ≡ refused → (bs : List Buffered) × ((collect m).machine.heap ≡ with_buffer m.heap bs)
collect-waits m none unmarked = grind (arith, with_buffer, collect-none, units-wait)

-- `gc` is a script collection of what those units leave that end a running collection, and none runs then.
gc-swept : (m : Machine) → IsSound [] m.heap → HasColourInvariant (view m.heap) → IsFreshNow m.heap m.snapshot →
    (h : Heap) × ((gc m).machine.heap ≡ (collect_scripts h).heap) × ((gc m).machine.snapshot ≡ None)
unfolding gc
gc-swept m sound colours fresh = ((finish_running (without_marking m)).machine.heap, refl, (finish-spare (without_marking m) sound colours fresh).1)

-- RIGHT AFTER `gc` IT LEAVES NOTHING that a script collection would free.
pub unsettled-silent : (v : Keyed) (k : Kept) (new : Machine) (t t₁ : Telling) → RunsIn v k → IsUnsettled (machine_of v k) new t t₁ → (collect_scripts new.heap).events ≡ []
unsettled-silent v k new t t₁ r s =
    subst (λ h. (collect_scripts h).events ≡ [])
    (ap (λ h. with_buffer h waits.0) (sym swept.1 ∙ s.swept.led.same.heap) ∙ (sym waits.1 ∙ s.collected.led.same.heap))
    (silent-after swept.0 waits.0)
  where
    before : Machine
    before = with_memory (machine_of v k) s.swept.memory

    swept : (h : Heap) × ((gc before).machine.heap ≡ (collect_scripts h).heap) × ((gc before).machine.snapshot ≡ None)
    swept = gc-swept before r.order.sound r.colours (RunsIn-fresh v k r)

    waits : (bs : List Buffered) × ((collect (with_memory s.first s.collected.memory)).machine.heap ≡ with_buffer s.first.heap bs)
    waits = collect-waits (with_memory s.first s.collected.memory) (sym s.swept.led.same.snapshot ∙ swept.2)
        (sym s.swept.led.same.marking ∙ gc-unmarked before) s.collected.led.came_to
