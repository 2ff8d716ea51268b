-- UNITS OF A COLLECTION keep the heaps sound, snapshots fresh and natives suspected; one that begins right after a script
-- collection misses nothing.
use Rattle.std.proofs.Common.{◌≡◌, ◌≢◌, ℕ, Bool, true, false, List, [], Option, Some, None, is_some, refl, sym, ◌∙◌, ap, subst, arith}
use Rattle.cc_names.specs.declared.name.Name.{Name}
use Rattle.cc_model.specs.Heap.{Heap}
use Rattle.cc_model.specs.View.{view}
use Rattle.cc_model.specs.Colours.{HasColourInvariant}
use Rattle.cc_model.specs.Snapshot.{Snapshot}
use Rattle.cc_model.specs.Units.{begun, with_empty_buffer, first_untraversed, to_note, after_node}
use Rattle.cc_model.specs.End.{Progress, went_on, at_end, refused, UnitDone, abandoned, node_or_end, granted, unit, give_back}
use Rattle.cc_model.specs.Sweep.{collect_scripts}
use Rattle.cc_model.specs.Fresh.{IsFresh, IsTraversed}
use Rattle.cc_model.specs.Suspected.{IsSuspected}
use Rattle.cc_model.specs.Collecting.{Machine, UnitsDone, no_units, next_answer, one_unit, enough_units, to_the_end, finish_running, unless_stopped, collect_cycles, collect, then_scripts, without_marking, gc, units_done}
use Rattle.cc_model.proofs.UnitsEnd.{to_the_end-stops}
use Rattle.cc_laws_heap.specs.Sound.{IsSound}
use Rattle.cc_laws_heap.proofs.Kept.{IsBuffer}
use Rattle.cc_laws_heap.proofs.CollectedColours.{collect_scripts-sound, collect_scripts-invariant}
use Rattle.cc_laws_snapshot.proofs.Beginning.{begun-fresh}
use Rattle.cc_laws_snapshot.proofs.NodeUnit.{after_node-fresh}
use Rattle.cc_laws_snapshot.proofs.WhiteNatives.{taking_white-sound, taking_white-colours}
use Rattle.cc_laws_run.specs.Running.{IsFreshNow, IsRunning}
use Rattle.cc_laws_run.specs.Doomed.{IsDoomed, candidates_now, garbage, IsSuspectedNow}
use Rattle.cc_laws_snapshot.proofs.GivingBack.{begin-suspected, given_back, give_back-buffer, given_back-buffer, give_back-suspected}
use Rattle.cc_laws_snapshot.proofs.EndSuspected.{end-suspected}
use Rattle.cc_laws_run.proofs.DoomedNode.{after_node-doomed}
use Rattle.cc_laws_run.proofs.DoomedBegin.{garbage-there, collected-doomed}
use Rattle.cc_laws_snapshot.proofs.ReachedStays.{IsTidy}
use Rattle.cc_laws_run.proofs.QuietTaken.{end-tidy}
use Rattle.cc_laws_heap.proofs.BufferStands.{IsSound-buffer, HasColourInvariant-buffer}
use Rattle.cc_laws_run.proofs.UnitLawful.{unit-cases, traversed-none}
use Rattle.cc_laws_run.proofs.HoldingUnits.{units_done-keep, finish-cases}
use Rattle.cc_laws_run.proofs.BesideUnits.{gc-beside}
use Rattle.cc_laws_run.proofs.Unmarked.{collect-unmarked}
use Rattle.cc_model.specs.Lawful.{State}

-- Heaps with another buffer

-- the buffer of sound heaps
own-buffer : (h : Heap) → IsSound [] h → IsBuffer h h.buffer
own-buffer h s = record { there = s.well_formed.buffered; once = s.well_formed.buffered_once }

-- heaps with an empty buffer are sound
pub with_empty_buffer-sound : (h : Heap) → IsSound [] h → IsSound [] (with_empty_buffer h)
with_empty_buffer-sound h s = IsSound-buffer h [] s (record { there = λ b m. absurd m; once = λ k. omega arith })

-- natives that go back leave the heaps sound
give_back-sound : (h : Heap) (ks : List ℕ) → IsSound [] h → IsSound [] (give_back ks h)
give_back-sound h ks s = subst (IsSound []) (sym (give_back-buffer ks h h.buffer))
    (IsSound-buffer h (given_back ks h h.buffer) s (given_back-buffer h ks h.buffer (own-buffer h s)))

-- and keep the colour invariant
give_back-colours : (h : Heap) (ks : List ℕ) → HasColourInvariant (view h) → HasColourInvariant (view (give_back ks h))
give_back-colours h ks c = subst (λ k. HasColourInvariant (view k)) (sym (give_back-buffer ks h h.buffer))
    (HasColourInvariant-buffer h (given_back ks h h.buffer) c)

-- Any collection

-- the heaps are sound and coloured, their snapshot is fresh, and natives are suspected; none runs where units stopped
pub record IsGoing (h : Heap) (s : Option Snapshot) (p : Progress) : Type 0 where
  pub sound : IsSound [] h
  pub colours : HasColourInvariant (view h)
  pub fresh : IsFreshNow h s
  pub suspected : IsSuspected (view h) (candidates_now s)
  pub stopped : p ≢ went_on → s ≡ None

-- what a unit came to is such
abbrev GoesOn : UnitDone → Type 0
GoesOn u = IsGoing u.heap u.snapshot u.progress

-- an abandonment
abandoned-going : (h : Heap) (s : Option Snapshot) → IsGoing h s went_on → GoesOn (abandoned h s)
abandoned-going h None g = record { sound = g.sound; colours = g.colours; fresh = tt; suspected = g.suspected; stopped = λ d. refl }
abandoned-going h (Some s) g = record {
  sound = give_back-sound h s.candidates g.sound;
  colours = give_back-colours h s.candidates g.colours;
  fresh = tt;
  suspected = give_back-suspected h s.candidates g.sound g.suspected;
  stopped = λ d. refl;
}

-- a node traversed keeps the candidates
after_node-candidates : (h : Heap) (s : Snapshot) (x : Name) (o : Option (List Name)) → (after_node h s x o).candidates ≡ s.candidates
after_node-candidates h s x o = grind arith

-- the unit of a node, or the end
node_or_end-going : (h : Heap) (s : Snapshot) → IsGoing h (Some s) went_on → (o : Option Name) → first_untraversed s.nodes ≡ o → GoesOn (node_or_end h s o)
node_or_end-going h s g None e =
    let all : IsTraversed s = traversed-none s.nodes e in
    record {
      sound = taking_white-sound h s g.sound g.fresh all;
      colours = taking_white-colours h s g.sound g.fresh all;
      fresh = tt;
      suspected = end-suspected h s g.sound g.fresh all g.suspected;
      stopped = λ d. refl;
    }
node_or_end-going h s g (Some x) e = record {
  sound = g.sound;
  colours = g.colours;
  fresh = after_node-fresh h s x g.sound g.fresh e;
  suspected = subst (IsSuspected (view h)) (sym (after_node-candidates h s x (to_note h x))) g.suspected;
  stopped = λ d. absurd (d refl);
}

-- a unit that has its memory
granted-going : (h : Heap) (s : Option Snapshot) → IsGoing h s went_on → GoesOn (granted h s)
granted-going h None g = record {
  sound = with_empty_buffer-sound h g.sound;
  colours = HasColourInvariant-buffer h [] g.colours;
  fresh = begun-fresh h g.sound g.colours;
  suspected = begin-suspected h g.suspected;
  stopped = λ d. absurd (d refl);
}
granted-going h (Some s) g = node_or_end-going h s g (first_untraversed s.nodes) refl

-- any unit
unit-going : (h : Heap) (s : Option Snapshot) (memory : Bool) → IsGoing h s went_on → GoesOn (unit h s memory)
unit-going h s memory g = unit-cases h s memory GoesOn (abandoned-going h s g) (granted-going h s g)

-- a machine whose heaps and collection are such
abbrev pub IsGoingOn : UnitsDone → Type 0
IsGoingOn d = IsGoing d.machine.heap d.machine.snapshot d.progress

-- a machine that runs and forgot no unreached native is such
pub running-going : (m : Machine) (s : State) → IsRunning m s → IsSuspectedNow m → IsGoing m.heap m.snapshot went_on
running-going m s r suspected = record { sound = r.sound; colours = r.colours; fresh = r.fresh; suspected = suspected; stopped = λ d. absurd (d refl) }

-- units lead from one to another
pub units-going : (n : ℕ) (d : UnitsDone) → IsGoingOn d → IsGoingOn (units_done n d)
units-going = units_done-keep IsGoingOn
    (λ d e k. unit-going d.machine.heap d.machine.snapshot (next_answer d.machine.memory) (subst (IsGoing d.machine.heap d.machine.snapshot) e k))

-- a running collection brought to its end: the heaps are sound, natives are suspected without candidates, and none runs
pub finish_running-going : (m : Machine) → IsGoing m.heap m.snapshot went_on → IsGoingOn (finish_running m) × ((finish_running m).machine.snapshot ≡ None)
finish_running-going m g = finish-cases m (λ d. IsGoingOn d × (d.machine.snapshot ≡ None))
    (let k : IsGoingOn (to_the_end (no_units m)) = units-going (enough_units m) (no_units m) g in (k, k.stopped (to_the_end-stops m)))
    (λ e. (g, e))

-- A collection that misses nothing

module _ (g : Heap) (sound : IsSound [] g) (colours : HasColourInvariant (view g)) (doomed : IsDoomed (view (with_empty_buffer g)) (begun g) (garbage g)) where
  -- the heaps while it runs
  abbrev running : Heap
  running = with_empty_buffer g

  -- it has not begun, or its snapshot dooms all garbage
  abbrev IsUnderWay : Heap → Option Snapshot → Type 0
  IsUnderWay h None = h ≡ g
  IsUnderWay h (Some s) = (h ≡ running) × IsFresh running.natives_made (view running) s × IsDoomed (view running) s (garbage g)

  -- and once it has ended, each native that holds something is reached
  abbrev IsStage : Heap → Option Snapshot → Progress → Type 0
  IsStage h s went_on = IsUnderWay h s
  IsStage h s at_end = (s ≡ None) × IsSound [] h × IsTidy h
  IsStage h s refused = Unit {0}

  -- of what a unit came to
  abbrev HasStage : UnitDone → Type 0
  HasStage u = IsStage u.heap u.snapshot u.progress

  -- they are sound
  running-sound : IsSound [] running
  running-sound = with_empty_buffer-sound g sound

  -- the unit of a node, or the end
  node_or_end-stage : (s : Snapshot) → IsFresh running.natives_made (view running) s → IsDoomed (view running) s (garbage g) →
      (o : Option Name) → first_untraversed s.nodes ≡ o → HasStage (node_or_end running s o)
  node_or_end-stage s f d None e =
      let all : IsTraversed s = traversed-none s.nodes e in
      (refl, taking_white-sound running s running-sound f all, end-tidy running s (garbage g) running-sound f all d (garbage-there g))
  node_or_end-stage s f d (Some x) e = (refl, after_node-fresh running s x running-sound f e, after_node-doomed running s x (garbage g) running-sound.well_formed d)

  -- a unit that has its memory
  granted-stage : (h : Heap) (s : Option Snapshot) → IsUnderWay h s → HasStage (granted h s)
  granted-stage h None e = subst (λ k. HasStage (granted k None)) (sym e) (refl, begun-fresh g sound colours, doomed)
  granted-stage h (Some s) t = subst (λ k. HasStage (granted k (Some s))) (sym t.0) (node_or_end-stage s t.1 t.2 (first_untraversed s.nodes) refl)

  -- any unit
  unit-stage : (h : Heap) (s : Option Snapshot) (memory : Bool) → IsUnderWay h s → HasStage (unit h s memory)
  unit-stage h s memory t = unit-cases h s memory HasStage tt (granted-stage h s t)

  -- of what units came to
  abbrev AtStage : UnitsDone → Type 0
  AtStage d = IsStage d.machine.heap d.machine.snapshot d.progress

  -- a unit leads from stage to stage
  step : (d : UnitsDone) → d.progress ≡ went_on → AtStage d → AtStage (one_unit d.machine d.events)
  step d e t = unit-stage d.machine.heap d.machine.snapshot (next_answer d.machine.memory) (subst (IsStage d.machine.heap d.machine.snapshot) e t)

  -- a collection brought to its end that is not refused
  to_the_end-tidy : (m : Machine) → m.heap ≡ g → m.snapshot ≡ None → ¬ ((to_the_end (no_units m)).progress ≡ refused) →
      let d = to_the_end (no_units m) in (d.machine.snapshot ≡ None) × IsSound [] d.machine.heap × IsTidy d.machine.heap
  to_the_end-tidy m e n taken = go (to_the_end (no_units m)).progress refl
    where
      start : AtStage (no_units m)
      start = subst (IsUnderWay m.heap) (sym n) e

      last : AtStage (to_the_end (no_units m))
      last = units_done-keep AtStage step (enough_units m) (no_units m) start

      go : (p : Progress) → (to_the_end (no_units m)).progress ≡ p →
          let d = to_the_end (no_units m) in (d.machine.snapshot ≡ None) × IsSound [] d.machine.heap × IsTidy d.machine.heap
      go went_on f = absurd (to_the_end-stops m f)
      go at_end f = subst (IsStage (to_the_end (no_units m)).machine.heap (to_the_end (no_units m)).machine.snapshot) f last
      go refused f = absurd (taken f)

-- where no collection runs, units of a whole one begin one and bring it to its end
pub collect_cycles-none : (m : Machine) → m.snapshot ≡ None → collect_cycles m ≡ to_the_end (no_units m)
unfolding collect_cycles
collect_cycles-none m e = ap (λ (b : Bool). unless_stopped (elim b [ true ↦ to_the_end (no_units m) | false ↦ no_units m ])) (ap is_some e)

-- so does collect, where no marking goes on either
pub collect-none : (m : Machine) → m.snapshot ≡ None → m.marking ≡ None → collect m ≡ to_the_end (no_units m)
collect-none m e unmarked = collect-unmarked m unmarked ∙ collect_cycles-none m e

-- A COLLECTION RIGHT AFTER A SCRIPT COLLECTION, if it is not refused, leaves natives that hold something reached.
pub collect-tidy : (h : Heap) (m : Machine) → IsSound [] h → IsSuspected (view h) [] → m.heap ≡ (collect_scripts h).heap → m.snapshot ≡ None → m.marking ≡ None →
    ¬ ((collect m).progress ≡ refused) →
    ((collect m).machine.snapshot ≡ None) × IsSound [] (collect m).machine.heap × IsTidy (collect m).machine.heap
collect-tidy h m s suspected e n unmarked taken =
    let same : collect m ≡ to_the_end (no_units m) = collect-none m n unmarked in
    subst (λ (d : UnitsDone). (d.machine.snapshot ≡ None) × IsSound [] d.machine.heap × IsTidy d.machine.heap) (sym same)
    (to_the_end-tidy (collect_scripts h).heap (collect_scripts-sound h s) (collect_scripts-invariant h s) (collected-doomed h s suspected)
    m e n (λ f. taken (ap (λ (d : UnitsDone). d.progress) same ∙ f)))

-- where no collection runs, gc is a script collection
pub gc-none : (m : Machine) → m.snapshot ≡ None → (gc m).machine.heap ≡ (collect_scripts m.heap).heap
unfolding gc
gc-none m e =
    let n : Machine = without_marking m in
    ap (λ (b : Bool). (then_scripts (elim b [ true ↦ to_the_end (no_units n) | false ↦ no_units n ])).machine.heap) (ap is_some e)

-- after gc no marking goes on
pub gc-unmarked : (m : Machine) → (gc m).machine.marking ≡ None
gc-unmarked m = (gc-beside m).marking

-- GC IS A SCRIPT COLLECTION of sound heaps without a snapshot.
pub gc-collects : (m : Machine) → IsGoing m.heap m.snapshot went_on →
    (h : Heap) × IsSound [] h × IsSuspected (view h) [] × ((gc m).machine.heap ≡ (collect_scripts h).heap) × ((gc m).machine.snapshot ≡ None)
unfolding gc
gc-collects m g =
    let n : Machine = without_marking m in
    let f = finish_running-going n g in
    let h : Heap = (finish_running n).machine.heap in
    (h, f.0.sound, subst (λ s. IsSuspected (view h) (candidates_now s)) f.1 f.0.suspected, refl, f.1)
