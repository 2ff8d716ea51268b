-- WHAT A COLLECTION CAN'T MISS IS TAKEN by the calls that bring it to its end; `gc` leaves what one that begins then can't miss. No script
-- marking goes on beside such a collection.
use Rattle.std.specs.Prelude.{OnOk, OnErr, IfSome, option_map}
use Rattle.std.proofs.Common.{Result, ◌≡◌, ◌≢◌, ℕ, zero, suc, ◌<◌, Bool, true, false, List, [], ◌∷◌, ◌++◌, Option, Some, None, is_some, refl, sym, ◌∙◌, ap, subst, inl, inr, ⊎_elim, arith}
use Rattle.std.proofs.lemmas.Bool.{not-true}
use Rattle.std.proofs.lemmas.List.{append_assoc, append-nil}
use Rattle.cc_lists.specs.Members.{Among}
use Rattle.cc_lists.proofs.Members.{Among-left}
use Rattle.cc_names.specs.declared.name.Name.{Name}
use Rattle.cc_names.specs.Names.{native}
use Rattle.cc_model.specs.declared.command.Command.TheVariants.{Slice, Collect, Gc, Mark}
use Rattle.cc_model.specs.declared.item.Event.{Event}
use Rattle.cc_model.specs.declared.item.Event.TheVariants.{Unlinked, Abandoned}
use Rattle.cc_model.specs.Asks.{taken}
use Rattle.cc_model.specs.Graph.{Graph}
use Rattle.cc_model.specs.Heap.{Heap}
use Rattle.cc_model.specs.View.{view}
use Rattle.cc_model.specs.WellFormed.{IsWellFormed, names_there}
use Rattle.cc_model.specs.Lawful.{State, state_of}
use Rattle.cc_model.specs.Snapshot.{Snapshot}
use Rattle.cc_model.specs.Suspected.{IsSuspected}
use Rattle.cc_model.specs.Colours.{HasColours}
use Rattle.cc_model.specs.Sweep.{collect_scripts, unmarked as unmarked_in}
use Rattle.cc_model.specs.Units.{begun, with_empty_buffer}
use Rattle.cc_model.specs.End.{Progress, went_on, at_end, refused, unit}
use Rattle.cc_model.specs.Collecting.{Machine, UnitsDone, behind, no_units, next_answer, units_done, enough_units, to_the_end, finish_marking, finish_running, one_marked, starting_anew, units_came, unless_stopped, with_outcome, without_marking, collect_cycles, slice, collect, gc, mark}
use Rattle.cc_model.specs.Listed.{census_order}
use Rattle.cc_model.specs.Marking.{NewMarks, begun_marks, ended_marks, is_scanned, scanned}
use Rattle.cc_model.specs.Run.{census_names, do_ask}
use Rattle.cc_model.specs.Telling.{Telling, TellsEvents}
use Rattle.cc_model.proofs.Tellings.{TellsEvents-trans}
use Rattle.cc_model.proofs.UnitsEnd.{to_the_end-stops}
use Rattle.cc_laws_run.specs.Running.{IsFreshNow, IsMarkingNow, IsRunning}
use Rattle.cc_laws_run.specs.Doomed.{IsDoomed, IsSuspectedNow, KeepsReflectors, candidates_now, garbage}
use Rattle.cc_laws_run.specs.Memory.{with_memory}
use Rattle.cc_laws_run.specs.Missing.{lost}
use Rattle.cc_laws_run.proofs.Face.{IsFollowed, ask-follows, begin-follows, collect-none, collect-unmarked, collected-doomed, filter-first, filter-second, finish_marking-none, gc-collects, lost-doomed, lost-keeps, units_done-keep, units_marked-keep}
use Rattle.cc_laws_heap.proofs.Face.{collect_scripts-colours, collect_scripts-unmarked, script_names-named}
use Rattle.cc_laws_snapshot.proofs.Face.{native-name_of}
use Rattle.cc_builder.specs.Building.{Built}
use Rattle.cc_heaps.specs.Keyed.{Keyed}
use Rattle.cc_heaps.specs.NewMarks.{marks_of, new_marks_with}
use Rattle.cc_heaps.specs.Standing.{StillStands}
use Rattle.cc_collector.specs.declared.collector.Ended.{Ended}
use Rattle.cc_collector.specs.Kept.{GoesOn, MarksIn, RunsIn, running_snapshot}
use Rattle.cc_collector.specs.Collected.{LedTo, IsSliced, IsCollected, IsMarkedOn, IsSwept}
use Rattle.cc_collector.specs.Settled.{IsSettled, IsUnsettled}
use Rattle.cc_host.specs.Hosted.{Hosted, IsKept, kept, machine}
use Rattle.cc_host.proofs.Beside.{ended-agrees, ended-made, ended_natives, unnoted, unnoted-made, unnoted-stands}
use Rattle.cc_host.proofs.NextLater.{doomed-lost, lost-dooms}
use Rattle.cc_host.specs.Missing.{WillTake, IsOfAGraph, CannotMiss, TakesGarbage, TellsUnlinked, TellsAbandoned, TakesBySlice, Takes}

-- what holds of each result holds
pub on_both : {T E P : Type 0} (r : Result T E) → OnOk r P → OnErr r P → P
on_both r p q = grind arith

-- an end is no refusal
at_end-unrefused : at_end ≢ refused
at_end-unrefused e = cc

-- What is told

-- what is told later changes nothing of what was told
unlinked-then : (ds : List Name) (t t₁ t₂ : Telling) (fs : List Event) → TellsUnlinked ds t t₁ → TellsEvents t₁ t₂ fs → TellsUnlinked ds t t₂
unfolding TellsUnlinked
unlinked-then ds t t₁ t₂ fs u more = (u.0 ++ fs, TellsEvents-trans t t₁ t₂ u.0 fs u.1 more, λ i m. Among-left (Unlinked (native i)) u.0 fs (u.2 i m))

abandoned-then : (t t₁ t₂ : Telling) (fs : List Event) → TellsAbandoned t t₁ → TellsEvents t₁ t₂ fs → TellsAbandoned t t₂
unfolding TellsAbandoned
abandoned-then t t₁ t₂ fs a more = (a.0 ++ fs, TellsEvents-trans t t₁ t₂ (Abandoned ∷ a.0) fs a.1 more)

Takes-then : (ds : List Name) (t t₁ t₂ : Telling) (fs : List Event) → Takes ds t t₁ → TellsEvents t₁ t₂ fs → Takes ds t t₂
unfolding Takes
Takes-then ds t t₁ t₂ fs a more = ⊎_elim (λ u. inl (unlinked-then ds t t₁ t₂ fs u more)) (λ b. inr (abandoned-then t t₁ t₂ fs b more)) a

-- the list begins with these events
abbrev BeginsWith : List Event → List Event → Type 0
BeginsWith es all = (rest : List Event) × (all ≡ es ++ rest)

-- what is told begins with what the units of the followed collection told
module _ (ds : List Name) (d : UnitsDone) (n : Machine) (all : List Event) (t t₁ : Telling) (b : BeginsWith d.events all) (told : TellsEvents t t₁ all) where
  -- it came to its end
  followed-unlinks : IsFollowed ds d.events at_end n → TellsUnlinked ds t t₁
  unfolding TellsUnlinked
  followed-unlinks f = (all, told, λ i m. subst (Among (Unlinked (native i))) (sym b.1) (Among-left (Unlinked (native i)) d.events b.0 (f.0 i m)))

  -- it was refused memory
  followed-abandons : IsFollowed ds d.events refused n → TellsAbandoned t t₁
  unfolding TellsAbandoned
  followed-abandons f = (b.0, subst (TellsEvents t t₁) (b.1 ∙ ap (λ l. l ++ b.0) f) told)

  -- either
  followed-takes : d.progress ≢ went_on → IsFollowed ds d.events d.progress n → Takes ds t t₁
  unfolding Takes
  followed-takes = go d.progress
    where
      go : (p : Progress) → p ≢ went_on → IsFollowed ds d.events p n → Takes ds t t₁
      go went_on s f = absurd (s refl)
      go at_end s f = inl (followed-unlinks f)
      go refused s f = inr (followed-abandons f)

  -- the first where it was not refused
  followed-done : d.progress ≢ went_on → d.progress ≢ refused → IsFollowed ds d.events d.progress n → TellsUnlinked ds t t₁
  followed-done = go d.progress
    where
      go : (p : Progress) → p ≢ went_on → p ≢ refused → IsFollowed ds d.events p n → TellsUnlinked ds t t₁
      go went_on s r f = absurd (s refl)
      go at_end s r f = followed-unlinks f
      go refused s r f = absurd (r refl)

-- by a slice
by_slice : (ds : List Name) (d : UnitsDone) (old : Machine) (new : Hosted) (p : Progress) (t t₁ : Telling) → KeepsReflectors ds → IsOfAGraph new →
    LedTo d old (machine new) p t t₁ → IsFollowed ds d.events p d.machine → TakesBySlice ds new p t t₁
unfolding TakesBySlice TellsUnlinked TellsAbandoned
by_slice ds d old new went_on t t₁ keeps graph led f = record {
  graph = graph;
  reflectors = keeps;
  doomed = (f.1.0, sym led.same.snapshot ∙ f.1.1, subst (λ (h : Heap). IsDoomed (view h) f.1.0 ds) led.same.heap f.1.2);
}
by_slice ds d old new at_end t t₁ keeps graph led f = (d.events, led.told, f.0)
by_slice ds d old new refused t t₁ keeps graph led f = ([], subst (TellsEvents t t₁) f led.told)

-- The plain run of collections

-- a running collection is brought to its end
finish-some : (m : Machine) (s : Snapshot) → m.snapshot ≡ Some s → finish_running m ≡ to_the_end (no_units m)
finish-some m s e = ap (λ (b : Bool). elim b [ true ↦ to_the_end (no_units m) | false ↦ no_units m ]) (ap is_some e)

-- units only add to what was told before
units-begin : (es : List Event) (n : ℕ) (d : UnitsDone) → BeginsWith es d.events → BeginsWith es (units_done n d).events
units-begin es n d b = units_done-keep (λ u. BeginsWith es u.events)
    (λ u e b. let fs : List Event = (unit u.machine.heap u.machine.snapshot (next_answer u.machine.memory)).events in
    (b.0 ++ fs, ap (λ l. l ++ fs) b.1 ∙ append_assoc es b.0 fs)) n d b

-- whatever holds of units, and of a collection that begins after them, holds of what `collect` makes of them
unless_stopped-cases : (d : UnitsDone) (P : UnitsDone → Type 0) → P d → P (to_the_end (starting_anew d)) → P (unless_stopped d)
unless_stopped-cases d P stopped more = grind arith

-- what whole collections tell begins with what the collection tells that they end
cycles-begin : (m : Machine) → BeginsWith (finish_running m).events (collect_cycles m).events
unfolding collect_cycles
cycles-begin m =
    let d : UnitsDone = finish_running m in
    let all : BeginsWith d.events d.events = ([], sym (append-nil d.events)) in
    unless_stopped-cases d (λ u. BeginsWith d.events u.events) all (units-begin d.events (enough_units d.machine) (starting_anew d) all)

-- and they are refused where that one was
cycles-refused : (m : Machine) → (finish_running m).progress ≡ refused → (collect_cycles m).progress ≡ refused
unfolding collect_cycles
cycles-refused m e = grind arith

-- so it is with `collect` where no marking goes on
module _ (m : Machine) (unmarked : m.marking ≡ None) where
  collect-begins : BeginsWith (finish_running m).events (collect m).events
  collect-begins = subst (λ (d : UnitsDone). BeginsWith (finish_running m).events d.events) (sym (collect-unmarked m unmarked)) (cycles-begin m)

  collect-refused : (finish_running m).progress ≡ refused → (collect m).progress ≡ refused
  collect-refused e = ap (λ (d : UnitsDone). d.progress) (collect-unmarked m unmarked) ∙ cycles-refused m e

  -- its first collection
  first-unmarked : behind (finish_marking m) (to_the_end (no_units (finish_marking m).machine)) ≡ to_the_end (no_units m)
  first-unmarked = ap (λ (d : UnitsDone). behind d (to_the_end (no_units d.machine))) (finish_marking-none m unmarked)

  unmarked-same : without_marking m ≡ m
  unmarked-same = ap (λ (o : Option NewMarks). record m { marking = o }) (sym unmarked)

-- what `gc` tells begins with it too
gc-begins : (m : Machine) → BeginsWith (finish_running (without_marking m)).events (gc m).events
unfolding gc
gc-begins m = ((collect_scripts (finish_running (without_marking m)).machine.heap).events, refl)

-- a unit of a marking only adds to what was told before
one_marked-begins : (es : List Event) (m : Machine) (told : List Event) → BeginsWith es told → BeginsWith es (one_marked m told).events
one_marked-begins es m told b = go m.marking
  where
    by_end : NewMarks → Bool → UnitsDone
    by_end marks true = with_outcome (units_came (record m { marking = None }) told at_end) (ended_marks m.heap marks)
    by_end marks false = units_came (record m { marking = Some (scanned m.heap marks) }) told went_on

    by_marking : Option NewMarks → UnitsDone
    by_marking None = units_came (record m { marking = Some (begun_marks m.heap) }) told went_on
    by_marking (Some marks) = by_end marks (is_scanned marks)

    go_end : (marks : NewMarks) (done : Bool) → BeginsWith es (by_end marks done).events
    go_end marks true = let more = (ended_marks m.heap marks).events in (b.0 ++ more, ap (λ l. l ++ more) b.1 ∙ append_assoc es b.0 more)
    go_end marks false = b

    go : (o : Option NewMarks) → BeginsWith es (by_marking o).events
    go None = b
    go (Some marks) = go_end marks (is_scanned marks)

-- and so do all units of `mark`
mark-begins : (units : ℕ) (m : Machine) → BeginsWith (finish_running m).events (mark units m).events
unfolding mark
mark-begins units m =
    let es : List Event = (finish_running m).events in
    units_marked-keep (λ (d : UnitsDone). BeginsWith es d.events) (λ d e b. one_marked-begins es d.machine d.events b) units (starting_anew (finish_running m))
    ([], sym (append-nil es))

-- A host's machine

-- what is there, natives and then script objects, is in census order
listed-there : (h : Heap) → IsWellFormed h → census_names h ≡ census_order (names_there h)
listed-there h w = grind (arith, filter-first, native-name_of, not-true, script_names-named, filter-second)

-- the snapshot of the running collection is fresh
fresh-now : (v : Keyed) (c : Option Built) → IfSome c (GoesOn v) → IsFreshNow v.heap (running_snapshot c)
fresh-now v None g = tt
fresh-now v (Some b) g = g.fresh

-- a marking that goes on does so as it should
marking-in : (v : Keyed) (c : Option Built) (marking : Bool) → MarksIn v c marking → IsMarkingNow v.heap (marks_of v) (running_snapshot c)
marking-in v c true t = subst (λ (o : Option NewMarks). IsMarkingNow v.heap o (running_snapshot c)) (sym t.0.has_marks)
    (record { under = t.0.under; so_far = t.0.so_far; alone = ap running_snapshot t.1 })
marking-in v c false t = subst (λ (o : Option NewMarks). IsMarkingNow v.heap o (running_snapshot c)) (sym (ap (option_map (new_marks_with v)) t)) tt

pub marking-now : (h : Hosted) → RunsIn h.heaps (kept h) → IsMarkingNow h.heaps.heap (machine h).marking (machine h).snapshot
marking-now h r = marking-in h.heaps h.running h.marking r.marks

-- none goes on while a collection runs
unmarked-in : (v : Keyed) (c : Option Built) (s : Snapshot) (marking : Bool) → MarksIn v c marking → running_snapshot c ≡ Some s → marks_of v ≡ None
unmarked-in v c s true t e = let none : None ≡ Some s = sym (ap running_snapshot t.1) ∙ e in absurd (cc)
unmarked-in v c s false t e = ap (option_map (new_marks_with v)) t

-- nor where the collector has none
unmarked-by : (v : Keyed) (c : Option Built) (marking : Bool) → MarksIn v c marking → marking ≡ false → marks_of v ≡ None
unmarked-by v c true t e = absurd (cc)
unmarked-by v c false t e = ap (option_map (new_marks_with v)) t

-- a collection that begins now dooms these names
pub record WouldDoom (h : Hosted) (ds : List Name) : Type 0 where
  pub graph : IsOfAGraph h
  pub reflectors : KeepsReflectors ds
  pub idle : h.running ≡ None
  pub unmarked : h.marking ≡ false
  pub dooms : IsDoomed (view (with_empty_buffer h.heaps.heap)) (begun h.heaps.heap) ds

module _ (h : Hosted) (r : RunsIn h.heaps (kept h)) (memory : List Bool) where
  -- as the plain run has it, with answers of memory
  abbrev pub plain : Machine
  plain = with_memory (machine h) memory

  -- beside a graph
  abbrev pub beside : Graph → State
  beside g = state_of (unnoted g) (names_there h.heaps.heap) (ended_natives h.heaps.heap)

  -- it runs beside each graph that its heaps stand for
  pub is-running : (g : IsOfAGraph h) → IsRunning plain (beside g.0)
  is-running g = record {
    sound = r.order.sound;
    colours = r.colours;
    fresh = fresh-now h.heaps h.running r.goes_on;
    well_made = unnoted-made g.0 g.1;
    marking = marking-now h r;
    stands = unnoted-stands h.heaps.heap g.0 r.order.sound.well_formed g.1 g.2;
    listed = listed-there h.heaps.heap r.order.sound.well_formed;
    weak = refl;
    ended = ended-agrees h.heaps.heap;
    ended_made = ended-made h.heaps.heap;
  }

  -- no marking goes on beside it
  unmarked : (ds : List Name) → CannotMiss h ds → plain.marking ≡ None
  unmarked ds c = unmarked-in h.heaps h.running c.doomed.0 h.marking r.marks c.doomed.1

  none-marked : (ds : List Name) → WouldDoom h ds → plain.marking ≡ None
  none-marked ds t = unmarked-by h.heaps h.running h.marking r.marks t.unmarked

  -- the running collection, by a slice
  slice-follows : (ds : List Name) → CannotMiss h ds → (units : ℕ) →
      let d = slice units plain in IsFollowed ds d.events d.progress d.machine
  unfolding do_ask
  slice-follows ds c units = ask-follows plain (beside c.graph.0) (taken (Slice units)) ds (is-running c.graph) refl c.reflectors c.doomed refl

  -- one that begins
  slice-begins : (ds : List Name) (units : ℕ) → 0 < units → WouldDoom h ds → let d = slice units plain in IsFollowed ds d.events d.progress d.machine
  unfolding do_ask
  slice-begins ds zero p t = absurd (omega (arith, p))
  slice-begins ds (suc n) p t = begin-follows plain (beside t.graph.0) ds (is-running t.graph) (ap running_snapshot t.idle) (none-marked ds t)
      t.dooms (taken (Slice (suc n))) refl

  -- the running collection, brought to its end
  finished : (ds : List Name) → CannotMiss h ds → finish_running plain ≡ to_the_end (no_units plain)
  finished ds c = finish-some plain c.doomed.0 c.doomed.1

  finish-stops : (ds : List Name) → CannotMiss h ds → (finish_running plain).progress ≢ went_on
  finish-stops ds c e = to_the_end-stops plain (sym (ap (λ (d : UnitsDone). d.progress) (finished ds c)) ∙ e)

  swept-stops : (ds : List Name) → CannotMiss h ds → (finish_running (without_marking plain)).progress ≢ went_on
  swept-stops ds c = subst (λ (m : Machine). (finish_running m).progress ≢ went_on) (sym (unmarked-same plain (unmarked ds c))) (finish-stops ds c)

  gc-follows : (ds : List Name) → CannotMiss h ds → let d = finish_running (without_marking plain) in IsFollowed ds d.events d.progress (do_ask plain (taken Gc)).machine
  gc-follows ds c = ask-follows plain (beside c.graph.0) (taken Gc) ds (is-running c.graph) refl c.reflectors c.doomed refl

  collect-follows : (ds : List Name) → CannotMiss h ds → let d = finish_running plain in IsFollowed ds d.events d.progress (do_ask plain (taken Collect)).machine
  collect-follows ds c = subst (λ (d : UnitsDone). IsFollowed ds d.events d.progress (do_ask plain (taken Collect)).machine)
      (first-unmarked plain (unmarked ds c) ∙ sym (finished ds c))
      (ask-follows plain (beside c.graph.0) (taken Collect) ds (is-running c.graph) refl c.reflectors c.doomed refl)

  mark-follows : (ds : List Name) → CannotMiss h ds → (units : ℕ) →
      let d = finish_running plain in IsFollowed ds d.events d.progress (do_ask plain (taken (Mark units))).machine
  mark-follows ds c units = ask-follows plain (beside c.graph.0) (taken (Mark units)) ds (is-running c.graph) refl c.reflectors c.doomed refl

  -- one that begins, brought to its end
  whole-begins : (ds : List Name) → WouldDoom h ds → let d = to_the_end (no_units plain) in IsFollowed ds d.events d.progress (do_ask plain (taken Collect)).machine
  whole-begins ds t = subst (λ (d : UnitsDone). IsFollowed ds d.events d.progress (do_ask plain (taken Collect)).machine)
      (first-unmarked plain (none-marked ds t)) (begin-follows plain (beside t.graph.0) ds (is-running t.graph) (ap running_snapshot t.idle) (none-marked ds t)
      t.dooms (taken Collect) refl)

-- THE CALLS

module _ (h : Hosted) (r : RunsIn h.heaps (kept h)) where
  -- a slice of the running collection
  pub slice-takes : (units steps steps_now : ℕ) (new : Hosted) (p : Progress) (t t₁ : Telling) → IsSliced units (machine h) (machine new) p steps steps_now t t₁ →
      StillStands h.heaps.heap new.heaps.heap → (ds : List Name) → CannotMiss h ds → TakesBySlice ds new p t t₁
  slice-takes units steps steps_now new p t t₁ s stands ds c =
      let d : UnitsDone = slice units (plain h r s.memory) in
      by_slice ds d (machine h) new p t t₁ c.reflectors (c.graph.0, c.graph.1, stands c.graph.0 c.graph.1 c.graph.2) s.led
      (subst (λ q. IsFollowed ds d.events q d.machine) s.led.came_to (slice-follows h r s.memory ds c units))

  -- of one that begins
  slice-takes_begun : (units steps steps_now : ℕ) (new : Hosted) (p : Progress) (t t₁ : Telling) → IsSliced units (machine h) (machine new) p steps steps_now t t₁ →
      StillStands h.heaps.heap new.heaps.heap → 0 < units → (ds : List Name) → WouldDoom h ds → TakesBySlice ds new p t t₁
  slice-takes_begun units steps steps_now new p t t₁ s stands some ds w =
      let d : UnitsDone = slice units (plain h r s.memory) in
      let g = w.graph in
      by_slice ds d (machine h) new p t t₁ w.reflectors (g.0, g.1, stands g.0 g.1 g.2) s.led
      (subst (λ q. IsFollowed ds d.events q d.machine) s.led.came_to (slice-begins h r s.memory ds units some w))

  -- it dooms what nothing reaches, right after `gc`
  garbage-dooms : IsOfAGraph h → TakesGarbage h → WouldDoom h (lost h.heaps.heap)
  garbage-dooms g t = record {
    graph = g;
    reflectors = lost-keeps h.heaps.heap r.order.sound;
    idle = t.idle;
    unmarked = t.unmarked;
    dooms = lost-doomed h.heaps.heap g.0 r.order.sound g.1 g.2 t.garbage_doomed;
  }

  -- and what is lost, whenever that is
  will-doom : IsSuspectedNow (machine h) → (ds : List Name) → WillTake h ds → WouldDoom h ds
  will-doom suspected ds t = record {
    graph = t.graph;
    reflectors = t.reflectors;
    idle = t.idle;
    unmarked = t.unmarked;
    dooms = lost-dooms h.heaps.heap ds t.lost r.order.sound r.colours
        (subst (λ (o : Option Built). IsSuspected (view h.heaps.heap) (candidates_now (running_snapshot o))) t.idle suspected);
  }

  pub slice-takes_lost : (units steps steps_now : ℕ) (new : Hosted) (p : Progress) (t t₁ : Telling) → IsSliced units (machine h) (machine new) p steps steps_now t t₁ →
      StillStands h.heaps.heap new.heaps.heap → 0 < units → IsOfAGraph h → TakesGarbage h → TakesBySlice (lost h.heaps.heap) new p t t₁
  slice-takes_lost units steps steps_now new p t t₁ s stands some g garbage =
      slice-takes_begun units steps steps_now new p t t₁ s stands some (lost h.heaps.heap) (garbage-dooms g garbage)

  pub slice-takes_later : (units steps steps_now : ℕ) (new : Hosted) (p : Progress) (t t₁ : Telling) → IsSliced units (machine h) (machine new) p steps steps_now t t₁ →
      StillStands h.heaps.heap new.heaps.heap → IsSuspectedNow (machine h) → 0 < units → (ds : List Name) → WillTake h ds → TakesBySlice ds new p t t₁
  slice-takes_later units steps steps_now new p t t₁ s stands suspected some ds w =
      slice-takes_begun units steps steps_now new p t t₁ s stands some ds (will-doom suspected ds w)

  -- a whole collection, whatever it came to
  pub collect-takes : (new : Machine) (p : Progress) (t t₁ : Telling) → IsCollected (machine h) new p t t₁ → (ds : List Name) → CannotMiss h ds → Takes ds t t₁
  collect-takes new p t t₁ s ds c =
      let m : Machine = plain h r s.memory in
      followed-takes ds (finish_running m) (do_ask m (taken Collect)).machine (collect m).events t t₁ (collect-begins m (unmarked h r s.memory ds c)) s.led.told
      (finish-stops h r s.memory ds c) (collect-follows h r s.memory ds c)

  -- that was done
  pub collect-unlinks : (new : Machine) (t t₁ : Telling) → IsCollected (machine h) new at_end t t₁ → (ds : List Name) → CannotMiss h ds → TellsUnlinked ds t t₁
  collect-unlinks new t t₁ s ds c =
      let m : Machine = plain h r s.memory in
      followed-done ds (finish_running m) (do_ask m (taken Collect)).machine (collect m).events t t₁ (collect-begins m (unmarked h r s.memory ds c)) s.led.told
      (finish-stops h r s.memory ds c) (λ e. at_end-unrefused (sym s.led.came_to ∙ collect-refused m (unmarked h r s.memory ds c) e)) (collect-follows h r s.memory ds c)

  -- that began
  collect-takes_begun : (new : Machine) (t t₁ : Telling) → IsCollected (machine h) new at_end t t₁ → (ds : List Name) → WouldDoom h ds → TellsUnlinked ds t t₁
  collect-takes_begun new t t₁ s ds w =
      let m : Machine = plain h r s.memory in
      let d : UnitsDone = to_the_end (no_units m) in
      let same : collect m ≡ d = collect-none m (ap running_snapshot w.idle) (none-marked h r s.memory ds w) in
      followed-done ds d (do_ask m (taken Collect)).machine (collect m).events t t₁
      ([], ap (λ (u : UnitsDone). u.events) same ∙ sym (append-nil d.events)) s.led.told
      (to_the_end-stops m) (λ e. at_end-unrefused (sym s.led.came_to ∙ (ap (λ (u : UnitsDone). u.progress) same ∙ e))) (whole-begins h r s.memory ds w)

  pub collect-takes_lost : (new : Machine) (t t₁ : Telling) → IsCollected (machine h) new at_end t t₁ → IsOfAGraph h → TakesGarbage h → TellsUnlinked (lost h.heaps.heap) t t₁
  collect-takes_lost new t t₁ s g garbage = collect-takes_begun new t t₁ s (lost h.heaps.heap) (garbage-dooms g garbage)

  pub collect-takes_later : (new : Machine) (t t₁ : Telling) → IsCollected (machine h) new at_end t t₁ → IsSuspectedNow (machine h) → (ds : List Name) → WillTake h ds → TellsUnlinked ds t t₁
  collect-takes_later new t t₁ s suspected ds w = collect-takes_begun new t t₁ s ds (will-doom suspected ds w)

  -- `gc`
  pub gc-takes : (new : Machine) (t t₁ : Telling) → IsSwept (machine h) new t t₁ → (ds : List Name) → CannotMiss h ds → Takes ds t t₁
  gc-takes new t t₁ s ds c =
      let m : Machine = plain h r s.memory in
      followed-takes ds (finish_running (without_marking m)) (do_ask m (taken Gc)).machine (gc m).events t t₁ (gc-begins m) s.led.told
      (swept-stops h r s.memory ds c) (gc-follows h r s.memory ds c)

  -- `mark`
  pub mark-takes : (units steps steps_now : ℕ) (new : Machine) (ended : Ended) (t t₁ : Telling) → IsMarkedOn units (machine h) new ended steps steps_now t t₁ →
      (ds : List Name) → CannotMiss h ds → Takes ds t t₁
  mark-takes units steps steps_now new ended t t₁ s ds c =
      let m : Machine = plain h r s.memory in
      followed-takes ds (finish_running m) (do_ask m (taken (Mark units))).machine (mark units m).events t t₁ (mark-begins units m) s.led.told
      (finish-stops h r s.memory ds c) (mark-follows h r s.memory ds c units)

  -- settling
  pub settle-takes : (new : Machine) (t t₁ : Telling) → IsSettled (machine h) new t t₁ → (ds : List Name) → CannotMiss h ds → Takes ds t t₁
  settle-takes new t t₁ s ds c =
      let k = s.collected in
      Takes-then ds t s.told_second t₁ _ (Takes-then ds t k.told_first s.told_second _ (gc-takes k.first t k.told_first k.swept ds c) k.collected.led.told) s.swept.led.told

  -- that was refused
  pub unsettled-takes : (new : Machine) (t t₁ : Telling) → IsUnsettled (machine h) new t t₁ → (ds : List Name) → CannotMiss h ds → Takes ds t t₁
  unsettled-takes new t t₁ s ds c = Takes-then ds t s.told_first t₁ _ (gc-takes s.first t s.told_first s.swept ds c) s.collected.led.told

-- AFTER `gc` a collection that begins takes all garbage.
pub gc-takes_garbage : (h new : Hosted) (t t₁ : Telling) → IsKept h → new.running ≡ None → new.marking ≡ false → IsSwept (machine h) (machine new) t t₁ → TakesGarbage new
gc-takes_garbage h new t t₁ k idle unmarked s =
    let m : Machine = with_memory (machine h) s.memory in
    let f = gc-collects m (record {
      sound = k.runs.order.sound;
      colours = k.runs.colours;
      fresh = fresh-now h.heaps h.running k.runs.goes_on;
      suspected = k.suspected;
      stopped = λ d. absurd (d refl);
    }) in
    record {
      idle = idle;
      unmarked = unmarked;
      garbage_doomed = subst (λ (g : Heap). IsDoomed (view (with_empty_buffer g)) (begun g) (garbage g)) (sym f.3 ∙ s.led.same.heap) (collected-doomed f.0 f.1 f.2);
    }

-- it leaves the colours of marking, and nothing unmarked
gc-colours : (m : Machine) → HasColours (gc m).machine.heap
unfolding gc
gc-colours m = collect_scripts-colours (finish_running (without_marking m)).machine.heap

gc-none_unmarked : (m : Machine) → unmarked_in (gc m).machine.heap ≡ []
unfolding gc
gc-none_unmarked m = collect_scripts-unmarked (finish_running (without_marking m)).machine.heap

-- AND LATER IT TAKES what is lost now.
pub gc-will_take : (h new : Hosted) (t t₁ : Telling) → IsKept h → IsKept new → new.running ≡ None → new.marking ≡ false → StillStands h.heaps.heap new.heaps.heap →
    IsSwept (machine h) (machine new) t t₁ → IsOfAGraph h → WillTake new (lost new.heaps.heap)
gc-will_take h new t t₁ k after idle unmarked stands s g =
    let m : Machine = with_memory (machine h) s.memory in
    let sound = after.runs.order.sound in
    let heap : Heap = new.heaps.heap in
    let garbage : TakesGarbage new = gc-takes_garbage h new t t₁ k idle unmarked s in
    let there = stands g.0 g.1 g.2 in
    record {
      graph = (g.0, g.1, there);
      reflectors = lost-keeps heap sound;
      idle = idle;
      unmarked = unmarked;
      lost = doomed-lost heap (lost heap) (lost-doomed heap g.0 sound g.1 there garbage.garbage_doomed)
          (subst HasColours s.led.same.heap (gc-colours m)) (subst (λ j. unmarked_in j ≡ []) s.led.same.heap (gc-none_unmarked m));
    }
