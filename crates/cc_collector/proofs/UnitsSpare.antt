-- UNITS OF A COLLECTION SPARE WHAT IS REACHED: those of a slice, of a whole collection, and those that `gc` and `mark` end first.
use Rattle.std.proofs.Common.{◌≡◌, ◌≢◌, ℕ, Bool, true, false, List, [], ◌∷◌, Option, Some, None, is_some, refl, subst, arith}
use Rattle.std.proofs.lemmas.Bool.{true≢false}
use Rattle.cc_names.specs.declared.name.Name.{Name}
use Rattle.cc_model.specs.declared.item.Event.{Event}
use Rattle.cc_model.specs.declared.item.Event.TheVariants.{Abandoned}
use Rattle.cc_model.specs.Heap.{Heap, Buffered}
use Rattle.cc_model.specs.View.{view}
use Rattle.cc_model.specs.WellFormed.{IsWellFormed, names_there}
use Rattle.cc_model.specs.Colours.{HasColourInvariant}
use Rattle.cc_model.specs.StandsFor.{shape_at}
use Rattle.cc_model.specs.Snapshot.{Snapshot}
use Rattle.cc_model.specs.Units.{first_untraversed}
use Rattle.cc_model.specs.End.{Progress, went_on, at_end, refused, UnitDone, abandoned, node_or_end, granted, unit, give_back}
use Rattle.cc_model.specs.Collecting.{Machine, UnitsDone, no_units, units_came, next_answer, one_unit, units_done, enough_units, to_the_end, finish_running, slice_cycles, starting_anew, collect_cycles}
use Rattle.cc_model.proofs.UnitsEnd.{to_the_end-stops}
use Rattle.cc_laws_heap.specs.Sound.{IsSound}
use Rattle.cc_laws_heap.proofs.Face.{HasColourInvariant-buffer, IsBuffer, IsSound-buffer, with_buffer}
use Rattle.cc_laws_snapshot.proofs.Face.{after_node-fresh, begun-fresh, give_back-buffer, given_back, given_back-buffer, reached-there, taking_white-colours, taking_white-sound, white_natives-there, white_natives-unreached}
use Rattle.cc_laws_run.specs.Running.{IsFreshNow}
use Rattle.cc_laws_run.proofs.Face.{traversed-none, unit-cases, units_done-keep, with_empty_buffer-sound}
use Rattle.cc_laws_run.specs.Memory.{with_memory}
use Rattle.cc_heaps.specs.Keyed.{Keyed}
use Rattle.cc_builder.specs.Building.{Built}
use Rattle.cc_gc.specs.Sparing.{KeepsWhatIsReached, SparesWhatIsReached}
use Rattle.cc_gc.proofs.Sparing.{keeps-same, keeps-then, spares-nothing, spares-then}
use Rattle.cc_collector.specs.Kept.{RunsAlone, machine_with}
use Rattle.cc_collector.specs.Units.{HasSpared, Keeps}
use Rattle.cc_collector.proofs.Keeping.{RunsAlone-fresh}
use Rattle.cc_collector.proofs.EndSpares.{take_away-keeps_reached, take_away-spares}

-- Another buffer

-- the shape of an object does not read the buffer
shape-buffer : (h : Heap) (bs : List Buffered) (x : Name) → shape_at (with_buffer h bs) x ≡ shape_at h x
shape-buffer h bs x = search

-- nor does what is reached
keeps-buffer : (h : Heap) (bs : List Buffered) → IsWellFormed h → KeepsWhatIsReached h (with_buffer h bs)
keeps-buffer h bs w = record {
  native_registers = refl;
  script_registers = refl;
  alike = λ x. (λ r. r, λ r. r);
  there = λ x r. reached-there h w x r;
  shape = λ x r. shape-buffer h bs x;
  value = λ m k a b. refl;
}

-- natives that go back change the buffer alone
give_back-is : (h : Heap) (ks : List ℕ) → give_back ks h ≡ with_buffer h (given_back ks h h.buffer)
give_back-is h ks = give_back-buffer ks h h.buffer

-- An abandonment frees and unlinks nothing.
spares-abandoned : (h k : Heap) → names_there k ≡ names_there h → SparesWhatIsReached h k (Abandoned ∷ [])
spares-abandoned h k e = grind arith

-- One unit

-- the heaps stay sound and coloured and their snapshot fresh, no collection runs where units stopped, and what is reached is spared
pub record IsSparing (g h : Heap) (s : Option Snapshot) (events : List Event) (p : Progress) : Type 0 where
  pub sound : IsSound [] h
  pub colours : HasColourInvariant (view h)
  pub fresh : IsFreshNow h s
  pub stopped : p ≢ went_on → s ≡ None
  pub keeps : KeepsWhatIsReached g h
  pub spares : SparesWhatIsReached g h events

-- what a unit came to is such
abbrev UnitSpares : Heap → UnitDone → Type 0
UnitSpares g u = IsSparing g u.heap u.snapshot u.events u.progress

module _ (h : Heap) (sound : IsSound [] h) (colours : HasColourInvariant (view h)) where
  -- where the buffer alone changes
  with_buffer-sound : (bs : List Buffered) → IsBuffer h bs → IsSound [] (with_buffer h bs)
  with_buffer-sound bs b = IsSound-buffer h bs sound b

  -- the buffer with natives that went back
  given : (ks : List ℕ) → IsBuffer h (given_back ks h h.buffer)
  given ks = given_back-buffer h ks h.buffer (record { there = sound.well_formed.buffered; once = sound.well_formed.buffered_once })

  -- an abandonment
  abandoned-spares : (s : Option Snapshot) → UnitSpares h (abandoned h s)
  abandoned-spares None = grind (arith, keeps-same, spares-abandoned)
  abandoned-spares (Some s) = search (give_back-is, with_buffer-sound, given, HasColourInvariant-buffer, keeps-buffer, spares-abandoned)

  -- the unit of a node, or the end
  node_or_end-spares : (s : Snapshot) → IsFreshNow h (Some s) → (o : Option Name) → first_untraversed s.nodes ≡ o → UnitSpares h (node_or_end h s o)
  node_or_end-spares s fresh o e =
      grind (arith, traversed-none, white_natives-there, white_natives-unreached, taking_white-sound, taking_white-colours, take_away-keeps_reached, take_away-spares, after_node-fresh, keeps-same, spares-nothing)

  -- a unit that has its memory
  granted-spares : (s : Option Snapshot) → IsFreshNow h s → UnitSpares h (granted h s)
  granted-spares None fresh = record {
    sound = with_empty_buffer-sound h sound;
    colours = HasColourInvariant-buffer h [] colours;
    fresh = begun-fresh h sound colours;
    stopped = λ d. absurd (d refl);
    keeps = keeps-buffer h [] sound.well_formed;
    spares = spares-nothing h (with_buffer h []) refl;
  }
  granted-spares (Some s) fresh = node_or_end-spares s fresh (first_untraversed s.nodes) refl

  -- ANY UNIT
  unit-spares : (s : Option Snapshot) (memory : Bool) → IsFreshNow h s → UnitSpares h (unit h s memory)
  unit-spares s memory fresh = unit-cases h s memory (UnitSpares h) (abandoned-spares s) (granted-spares s fresh)

-- Several units

-- what units came to is such
abbrev pub UnitsSpare : Heap → UnitsDone → Type 0
UnitsSpare g d = IsSparing g d.machine.heap d.machine.snapshot d.events d.progress

-- one more
one_unit-spares : (g : Heap) (d : UnitsDone) → d.progress ≡ went_on → UnitsSpare g d → UnitsSpare g (one_unit d.machine d.events)
one_unit-spares g d e k =
    let h : Heap = d.machine.heap in
    let done : UnitDone = unit h d.machine.snapshot (next_answer d.machine.memory) in
    let u : UnitSpares h done = unit-spares h k.sound k.colours d.machine.snapshot (next_answer d.machine.memory) k.fresh in
    record {
      sound = u.sound;
      colours = u.colours;
      fresh = u.fresh;
      stopped = u.stopped;
      keeps = keeps-then g h done.heap k.keeps u.keeps;
      spares = spares-then g h done.heap d.events done.events k.keeps u.keeps k.spares u.spares;
    }

-- any number
units_done-spare : (g : Heap) (n : ℕ) (d : UnitsDone) → UnitsSpare g d → UnitsSpare g (units_done n d)
units_done-spare g = units_done-keep (UnitsSpare g) (one_unit-spares g)

module _ (m : Machine) (sound : IsSound [] m.heap) (colours : HasColourInvariant (view m.heap)) (fresh : IsFreshNow m.heap m.snapshot) where
  -- none
  no_units-spare : UnitsSpare m.heap (no_units m)
  no_units-spare = grind (arith, keeps-same, spares-nothing)

  -- THOSE OF A SLICE
  pub slice-spare : (n : ℕ) → UnitsSpare m.heap (slice_cycles n m)
  unfolding slice_cycles
  slice-spare n = units_done-spare m.heap n (no_units m) no_units-spare

  -- those that end a running collection, and none runs then
  pub finish-spare : UnitsSpare m.heap (finish_running m) × ((finish_running m).machine.snapshot ≡ None)
  finish-spare = go (is_some m.snapshot) refl
    where
      finished : Bool → UnitsDone
      finished true = to_the_end (no_units m)
      finished false = no_units m

      none : (s : Option Snapshot) → is_some s ≡ false → s ≡ None
      none None e = refl
      none (Some s) e = absurd (true≢false e)

      go : (b : Bool) → is_some m.snapshot ≡ b → UnitsSpare m.heap (finished b) × ((finished b).machine.snapshot ≡ None)
      go true e =
          let k : UnitsSpare m.heap (to_the_end (no_units m)) = units_done-spare m.heap (enough_units m) (no_units m) no_units-spare in
          (k, k.stopped (to_the_end-stops m))
      go false e = (no_units-spare, none m.snapshot e)

  -- THOSE OF A WHOLE COLLECTION
  pub collect-spare : UnitsSpare m.heap (collect_cycles m)
  unfolding collect_cycles
  collect-spare = go (finish_running m).progress
    where
      d : UnitsDone
      d = finish_running m

      first : UnitsSpare m.heap d
      first = finish-spare.0

      anew : UnitsSpare m.heap (starting_anew d)
      anew = record {
        sound = first.sound;
        colours = first.colours;
        fresh = first.fresh;
        stopped = λ e. absurd (e refl);
        keeps = first.keeps;
        spares = first.spares;
      }

      stopped_by : Progress → UnitsDone
      stopped_by refused = d
      stopped_by went_on = to_the_end (starting_anew d)
      stopped_by at_end = to_the_end (starting_anew d)

      go : (p : Progress) → UnitsSpare m.heap (stopped_by p)
      go refused = first
      go went_on = units_done-spare m.heap (enough_units (starting_anew d).machine) (starting_anew d) anew
      go at_end = units_done-spare m.heap (enough_units (starting_anew d).machine) (starting_anew d) anew

-- Collectors

module _ (v : Keyed) (c : Option Built) (r : RunsAlone v c) (memory : List Bool) where
  -- the units of a collector that runs
  abbrev start : Machine
  start = with_memory (machine_with v c) memory

  pub slice-units : (n : ℕ) → UnitsSpare v.heap (slice_cycles n (with_memory (machine_with v c) memory))
  slice-units n = slice-spare start r.order.sound r.colours (RunsAlone-fresh v c r) n

  pub collect-units : UnitsSpare v.heap (collect_cycles (with_memory (machine_with v c) memory))
  collect-units = collect-spare start r.order.sound r.colours (RunsAlone-fresh v c r)

  pub finish-units : UnitsSpare v.heap (finish_running (with_memory (machine_with v c) memory))
  finish-units = (finish-spare start r.order.sound r.colours (RunsAlone-fresh v c r)).0

-- what units led to spares what is reached, where the units do
pub spared-units : (v : Keyed) (c : Option Built) (w : Keyed) (d : Option Built) (u : UnitsDone) (memory : List Bool) (events : List Event) (p : Progress) →
    u ≡ units_came (with_memory (machine_with w d) memory) events p → UnitsSpare v.heap u → Keeps v c w d → HasSpared v c w d events
spared-units v c w d u memory events p is unit k = let s = subst (UnitsSpare v.heap) is unit in record {
  keeps = s.keeps;
  spares = s.spares;
  stands = k.stands;
  suspected = k.suspected;
  kept = k.kept;
}
