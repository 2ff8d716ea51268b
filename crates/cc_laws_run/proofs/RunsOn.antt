-- A MACHINE THAT RUNS GOES ON RUNNING after what is said and after each command of the mutator; the empty machine runs.
use Rattle.std.proofs.Common.{◌≡◌, Bool, List, [], Option, Some, None, option_map, refl, sym, ◌∙◌, subst, arith, ap}
use Rattle.std.specs.Prelude.{IsTrue}
use Rattle.cc_names.specs.Allowance.{Allowance}
use Rattle.cc_model.specs.declared.command.Command.{Command}
use Rattle.cc_model.specs.Mutating.{Saying, says, does, class_of, is_deed, is_mutator}
use Rattle.cc_model.specs.Asks.{taken}
use Rattle.cc_model.specs.Ranges.{in_range}
use Rattle.cc_model.specs.Checks.{refusal_of, reply_if_taken}
use Rattle.cc_model.specs.Deeds.{Deed, deed_of}
use Rattle.cc_model.specs.Graph as graph
use Rattle.cc_model.specs.Graph.{Graph, done_to, changed, unless_refused, step}
use Rattle.cc_model.specs.declared.item.Refusal.{Refusal}
use Rattle.cc_model.specs.WellMade.{IsWellMade}
use Rattle.cc_model.specs.StandsFor.{StandsFor}
use Rattle.cc_model.specs.Heap.{Heap, objects_of, empty_heap}
use Rattle.cc_model.specs.View.{view}
use Rattle.cc_model.specs.Colours.{HasColourInvariant}
use Rattle.cc_model.specs.WellFormed.{IsWellFormed, native_names, script_names}
use Rattle.cc_model.specs.Effects.{effects}
use Rattle.cc_model.specs.Slots.{Slots}
use Rattle.cc_model.specs.Marking.{NewMarks, marking_after}
use Rattle.cc_model.specs.Snapshot.{Snapshot}
use Rattle.cc_model.specs.Listed.{listed}
use Rattle.cc_model.specs.Lawful.{State, start, next}
use Rattle.cc_model.specs.Collecting.{Machine, empty_machine, later_answers}
use Rattle.cc_model.specs.Run.{Turn, weak_after, beside_deed, with_effects, mutate, say}
use Rattle.cc_laws_heap.specs.Sound.{IsSound}
use Rattle.cc_laws_heap.proofs.Taken.{IsTaken, IsTaken-from}
use Rattle.cc_laws_heap.proofs.CommandsSound.{effects-sound}
use Rattle.cc_laws_heap.proofs.Coloured.{AreColoured-from_view, HasColourInvariant-from}
use Rattle.cc_laws_heap.proofs.CommandsColours.{effects-coloured}
use Rattle.cc_laws_heap.proofs.CommandsMarking.{effects-marking}
use Rattle.cc_laws_heap.proofs.EdgesBut.{effects-scanned}
use Rattle.cc_laws_heap.proofs.GraphCommands.{step-well, empty-well}
use Rattle.cc_laws_heap.proofs.CommandsStand.{command-stands, empty-stands}
use Rattle.cc_laws_snapshot.proofs.CommandsGentle.{effects-fresh}
use Rattle.cc_laws_run.specs.Running.{IsRunning, IsFreshNow, IsMarkingNow}
use Rattle.cc_laws_heap.proofs.RepliesAlike.{deed_of-alike, objects-stand}
use Rattle.cc_laws_run.proofs.EndedAfter.{ended-after}
use Rattle.cc_laws_run.proofs.EndedDeeds.{effects-end}
use Rattle.cc_laws_run.proofs.Listing.{AreListed-census}
use Rattle.cc_laws_run.proofs.NamesAfter.{effects-names}
use Rattle.cc_laws_run.proofs.ListedAfter.{made-not_freed, effects-listed}
use Rattle.cc_laws_run.proofs.CommandCases.{mutate-cases, graph_after-taken, next-refused, next-unmet, say-leaves, say-silent, next-no_deed}
use Rattle.cc_laws_run.proofs.Answered.{refusals-agree, running-listed}

-- The empty machine

-- the empty heaps are well formed
empty-well_formed : (limits : Allowance) → IsWellFormed (empty_heap limits)
empty-well_formed limits = grind arith

-- and sound
empty-sound : (limits : Allowance) → IsSound [] (empty_heap limits)
empty-sound limits = grind (arith, empty-well_formed)

-- and keep the colours
empty-coloured : (limits : Allowance) → HasColourInvariant (view (empty_heap limits))
empty-coloured limits = grind arith

-- THE EMPTY MACHINE RUNS.
pub empty-runs : (limits : Allowance) (memory : List Bool) → IsRunning (empty_machine limits memory) (start limits)
empty-runs limits memory = record {
  sound = empty-sound limits;
  colours = empty-coloured limits;
  fresh = tt;
  well_made = empty-well limits;
  marking = tt;
  stands = empty-stands limits;
  listed = refl;
  weak = refl;
  ended = λ k one few. absurd (omega (arith, one, few));
  ended_made = λ k m. absurd m;
}

-- Commands

-- other answers of memory leave a machine that runs
with_memory-runs : (m : Machine) (s : State) (memory : List Bool) → IsRunning m s → IsRunning (record m { memory = memory }) s
with_memory-runs m s memory r = grind arith

-- the snapshot of the running collection stays fresh
effects-fresh_now : (h : Heap) (c : Command) (snapshot : Option Snapshot) → IsSound [] h → IsTrue (in_range c) → IsTaken (objects_of h) c →
    IsFreshNow h snapshot → IsFreshNow (effects h c).heap snapshot
effects-fresh_now h c None s r t f = tt
effects-fresh_now h c (Some snapshot) s r t f = effects-fresh h snapshot c s f r t

-- a marking that goes on does so as it should, with the marks after what the command exposes
effects-marking_now : (h : Heap) (c : Command) (marking : Option NewMarks) (snapshot : Option Snapshot) → IsSound [] h → IsTrue (in_range c) →
    IsTaken (objects_of h) c → IsMarkingNow h marking snapshot →
    IsMarkingNow (effects h c).heap (option_map (marking_after h (deed_of (objects_of h) c)) marking) snapshot
effects-marking_now h c None snapshot s r t is = tt
effects-marking_now h c (Some marks) snapshot s r t is = record {
  under = effects-marking h marks c s is.under r t;
  so_far = effects-scanned h marks c s is.under is.so_far r t;
  alone = is.alone;
}

-- the weak registers of the graph after a deed
weak-done : (g : Graph) (d : Deed) → (done_to g d).weak_registers ≡ weak_after g.weak_registers d
unfolding done_to
weak-done g d = grind arith

-- they note what those beside the heaps note
weak-steps : (m : Machine) (s : State) (c : Command) → IsRunning m s → refusal_of (objects_of m.heap) c ≡ None →
    weak_after m.weak (deed_of (objects_of m.heap) c) ≡ (step s.graph c).weak_registers
unfolding changed
weak-steps m s c r e =
    let same = deed_of-alike (objects_of m.heap) (graph.objects_of s.graph) (objects-stand m.heap s.graph r.stands) c in
    let taken : refusal_of (graph.objects_of s.graph) c ≡ None = refusals-agree m s c r ∙ e in
    ap (λ w. weak_after w (deed_of (objects_of m.heap) c)) r.weak
    ∙ (ap (weak_after s.graph.weak_registers) same
    ∙ (sym (weak-done s.graph (deed_of (graph.objects_of s.graph) c))
    ∙ ap (λ (o : Option Refusal). (unless_refused o s.graph (changed s.graph c)).weak_registers) (sym taken)))

-- a command that is done leaves a machine that runs, whatever stands beside the heaps
done-runs : (m : Machine) (s : State) (c : Command) (weak : Slots) (marking : Option NewMarks) (memory : List Bool) → IsRunning m s → IsTrue (in_range c) →
    refusal_of (objects_of m.heap) c ≡ None → class_of c ≡ does → weak ≡ (step s.graph c).weak_registers →
    IsMarkingNow (effects m.heap c).heap marking m.snapshot →
    IsRunning (record m { heap = (effects m.heap c).heap; weak = weak; marking = marking; memory = memory })
    (next s (taken c) (with_effects m (reply_if_taken (objects_of m.heap) c) (effects m.heap c)).answer)
done-runs m s c weak marking memory r i e d noted marked =
    let t : IsTaken (objects_of m.heap) c = IsTaken-from (objects_of m.heap) c e in
    let sound : IsSound [] (effects m.heap c).heap = effects-sound m.heap c r.sound i t in
    let names = effects-names m.heap c r.sound i t in
    let ends = ended-after m.heap (effects m.heap c).heap s.ended (effects m.heap c).events (effects-end m.heap c r.sound sound i t) (record { agrees = r.ended; made = r.ended_made }) in
    record {
      sound = sound;
      colours = HasColourInvariant-from (effects m.heap c).heap sound.well_formed
          (effects-coloured m.heap c r.sound (AreColoured-from_view m.heap r.sound.well_formed r.colours) i t);
      fresh = effects-fresh_now m.heap c m.snapshot r.sound i t r.fresh;
      marking = marked;
      well_made = subst (λ g. IsWellMade g) (sym (graph_after-taken s.ended s.graph (objects_of m.heap) c d)) (step-well s.graph r.well_made c i);
      stands = subst (λ g. StandsFor (effects m.heap c).heap g) (sym (graph_after-taken s.ended s.graph (objects_of m.heap) c d))
          (command-stands m.heap s.graph c r.sound r.well_made r.stands i e);
      listed = AreListed-census (listed s.listed c (effects m.heap c).events (Some (reply_if_taken (objects_of m.heap) c)))
          (native_names (effects m.heap c).heap) (script_names (effects m.heap c).heap)
          (effects-listed m.heap c s.listed names.0 names.1
          (made-not_freed m.heap s.graph c names.0 r.sound r.well_made r.stands i e names.1.told) (running-listed m s r));
      weak = noted ∙ ap (λ g. g.weak_registers) (sym (graph_after-taken s.ended s.graph (objects_of m.heap) c d));
      ended = ends.agrees;
      ended_made = ends.made;
    }

-- A COMMAND OF THE MUTATOR leaves a machine that runs.
pub mutate-runs : (m : Machine) (s : State) (c : Command) → IsRunning m s → IsTrue (in_range c) → class_of c ≡ does → IsRunning (mutate m c).machine (next s (taken c) (mutate m c).answer)
mutate-runs m s c r i d = mutate-cases m c (λ (u : Turn). IsRunning u.machine (next s (taken c) u.answer))
    (λ refusal e. subst (λ z. IsRunning m z) (sym (next-refused s c refusal d (refusals-agree m s c r ∙ e))) r)
    (λ e f. subst (λ z. IsRunning (record m { memory = later_answers m.memory }) z) (sym (next-unmet s c)) (with_memory-runs m s (later_answers m.memory) r))
    (λ e memory. let beside : Machine = beside_deed m (deed_of (objects_of m.heap) c) in done-runs m s c beside.weak beside.marking memory r i e d (weak-steps m s c r e)
    (effects-marking_now m.heap c m.marking m.snapshot r.sound i (IsTaken-from (objects_of m.heap) c e) r.marking))

-- WHAT IS SAID leaves a machine that runs.
pub say-runs : (m : Machine) (s : State) (c : Command) (q : Saying) → IsRunning m s → class_of c ≡ says q →
    IsRunning (say m q).machine (next s (taken c) (say m q).answer)
say-runs m s c q r e = subst (λ z. IsRunning (say m q).machine z) (sym (next-no_deed s c (say m q).answer (ap is_deed e) (ap is_mutator e) (say-silent m q)))
    (say-leaves m q (λ n. IsRunning n s) (λ memory. with_memory-runs m s memory r))
