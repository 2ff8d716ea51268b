use Rattle.std.proofs.Common.{ℕ, List, get_or, Some, None, IsSome, sym, subst, ap, ◌∙◌}
use Rattle.cc_names.specs.Names.{native}
use Rattle.cc_model.specs.Graph as graph
use Rattle.cc_model.specs.Heap.{Heap, Outcome}
use Rattle.cc_model.specs.Telling.{TellsEvents}
use Rattle.cc_model.specs.WellFormed.{IsWellFormed}
use Rattle.cc_heaps.specs.Changes.{slot_held}
use Rattle.cc_heaps.specs.Keyed.{IsInOrder, the_number}
use Rattle.cc_heaps.specs.Standing.{StandsAfter}
use Rattle.cc_heaps.proofs.FewCounts.{few-owned}
use Rattle.cc_heaps.proofs.Following.{Follows, Remembers, within-named}
use Rattle.cc_heaps.proofs.Moving.{Moves, moved-heap, moved-is, moved-kept, moved-keys, moved-marks, moved-tells, moved_in-follows, moved_in-remembers, moved_in-stands, within-taken}
use Rattle.cc_heaps.specs.NewMarks.{marks_of}
use Rattle.cc_heaps.proofs.heaps.Heaps.move_slot.Given as given
use Rattle.cc_heaps.proofs.heaps.Heaps.move_slot.Goals as goal

pub replace_slot-held-requires-clause-order : goal.replace_slot-held-requires-clause-order
replace_slot-held-requires-clause-order g c = let f = c.requires.order in (f.0, c.take_out-content.ensures.order f.0 f.1)

pub replace_slot-held-requires-clause-live : goal.replace_slot-held-requires-clause-live
replace_slot-held-requires-clause-live g c = subst (λ ks. IsSome (get_or ks c.args.to.0 None)) (sym c.take_out-content.ensures.natives) c.requires.to_live

pub replace_slot-held-requires-clause-within : goal.replace_slot-held-requires-clause-within
replace_slot-held-requires-clause-within g c =
    let e = c.take_out-content.ensures in
    within-taken c.args.self.now c.take_out-content.new.self c.args.to.0 c.args.i (the_number c.args.self.now c.args.from.0) c.args.j e.natives e.heap c.requires.to_within

pub let_go-requires-clause-order : goal.let_go-requires-clause-order
let_go-requires-clause-order g c =
    let f = c.requires.order in
    (f.0, c.replace_slot-held.ensures.order f.0 (c.take_out-content.ensures.order f.0 f.1))

moves : (g : given.Over) (c : goal.After-let_go g) →
    Moves c.args.self.now c.take_out-content.new.self c.replace_slot-held.new.self c.let_go.new.self c.args.to.0 c.args.from.0 c.args.i c.args.j c.take_out-content.result c.replace_slot-held.result
moves g c =
    let e = c.take_out-content.ensures in
    record {
      taken = e.heap;
      keys = e.natives;
      kept = e.keys;
      name = e.name;
      put_is = c.replace_slot-held.ensures.heap;
      held_is = c.replace_slot-held.ensures.held;
      left = c.let_go.ensures.heap;
    }

in_order : (g : given.Over) (c : goal.After-let_go g) (owned : List ℕ) → IsInOrder owned c.args.self.now → IsInOrder owned c.let_go.new.self
in_order g c owned o = c.let_go.ensures.order owned (c.replace_slot-held.ensures.order owned (c.take_out-content.ensures.order owned o))

pub returns-clause-heap : goal.returns-clause-heap
returns-clause-heap g c = moved-heap (moves g c)

pub returns-clause-natives : goal.returns-clause-natives
returns-clause-natives g c = moved-keys (moves g c)

pub returns-clause-told : goal.returns-clause-told
returns-clause-told g c =
    subst (λ (o : Outcome). TellsEvents (g.N.Notices.telling c.args.out.now) (g.N.Notices.telling c.let_go.new.out) o.events) (moved-is (moves g c)) c.let_go.ensures.told

pub returns-clause-tells : goal.returns-clause-tells
returns-clause-tells g c =
    let f = c.requires.order in
    moved-tells (moves g c) f.1 (c.replace_slot-held.ensures.order f.0 (c.take_out-content.ensures.order f.0 f.1)).sound (in_order g c f.0 f.1)
    (g.N.Notices.telling c.args.out.now) (g.N.Notices.telling c.let_go.new.out) c.let_go.ensures.told

follows : (g : given.Over) (c : goal.After-let_go g) → Follows c.args.self.now.heap c.let_go.new.self.heap
follows g c =
    let v = c.args.self.now in
    subst (Follows v.heap) (sym (returns-clause-heap g c))
    (moved_in-follows v.heap (the_number v c.args.to.0) c.args.i (the_number v c.args.from.0) c.args.j (within-named v c.args.to.0 c.args.i c.requires.to_within)
    (within-named v c.args.from.0 c.args.j c.requires.from_within) c.requires.order.1.sound)

pub returns-clause-kept : goal.returns-clause-kept
returns-clause-kept g c =
    let v = c.args.self.now in
    record {
      keys = moved-kept (moves g c) c.requires.order.1;
      order = in_order g c;
      counts = few-owned _;
      colours = (follows g c).colours;
      fresh = (follows g c).fresh;
      suspected = λ reached. subst (Remembers v.heap) (sym (returns-clause-heap g c))
          (moved_in-remembers v.heap (the_number v c.args.to.0) c.args.i (the_number v c.args.from.0) c.args.j (within-named v c.args.to.0 c.args.i c.requires.to_within)
          (within-named v c.args.from.0 c.args.j c.requires.from_within) c.requires.order.1.sound reached);
      marks = moved-marks (moves g c) c.take_out-content.ensures.marks;
    }

pub returns-clause-stands : goal.returns-clause-stands
returns-clause-stands g c to_reached from_reached =
    let v = c.args.self.now in
    let f = c.requires.order in
    let k = the_number v c.args.to.0 in
    let m = the_number v c.args.from.0 in
    subst (λ (h : Heap). StandsAfter v.heap h (λ g. graph.move_slot g (Some (native k)) c.args.i (Some (native m)) c.args.j (slot_held v.heap m c.args.j))) (sym (returns-clause-heap g c))
    (moved_in-stands v.heap (the_number v c.args.to.0) c.args.i (the_number v c.args.from.0) c.args.j (within-named v c.args.to.0 c.args.i c.requires.to_within)
    (within-named v c.args.from.0 c.args.j c.requires.from_within) f.1.sound
    (subst IsWellFormed (returns-clause-heap g c) (in_order g c f.0 f.1).sound.well_formed) to_reached from_reached)

pub returns-clause-marking : goal.returns-clause-marking
returns-clause-marking g c = ap marks_of (moves g c).left ∙ (ap marks_of (moves g c).put_is ∙ c.take_out-content.ensures.marking)
