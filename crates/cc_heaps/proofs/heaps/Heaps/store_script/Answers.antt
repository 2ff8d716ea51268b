use Rattle.cc_heaps.specs.Standing.{KeepsColours, KeepsFresh, KeepsSuspected}
use Rattle.std.proofs.Common.{option_map, refl, sym, subst}
use Rattle.cc_names.specs.declared.number.SKey.{SKey}
use Rattle.cc_heaps.proofs.ScriptCalls.{becomes-slot}
use Rattle.cc_model.specs.Heap.{set_slot}
use Rattle.cc_script.specs.Objects.{name_at}
use Rattle.cc_heaps.specs.Changes.{script_name}
use Rattle.cc_heaps.specs.Fields.{keyed_of}
use Rattle.cc_heaps.proofs.ScriptsChanged.{with_objects}
use Rattle.cc_heaps.proofs.ScriptWrites.{KeepsObjects-slot, new_mark-slot, marks-written, write_slot}
use Rattle.cc_heaps.proofs.FewCounts.{few-owned}
use Rattle.cc_heaps.proofs.Following.{Keeps, object_slot-keeps}
use Rattle.cc_heaps.proofs.StandingAfter.{script_slot-stands}
use Rattle.cc_heaps.proofs.MarksKept.{marks-go_on}
use Rattle.cc_heaps.proofs.heaps.Heaps.store_script.Goals as goal

pub returns-clause-heap : goal.returns-clause-heap
returns-clause-heap c =
    rw (← c.self.view_is) ((becomes-slot c.self.inside c.self.invariant (rw (← c.self.view_is) at c.requires.order).1 c.args.key.0 c.args.i c.args.content (rw (← c.self.view_is) at c.requires.live) (rw (← c.self.view_is) at c.requires.there) c.set_slot.new.self c.set_slot.ensures).heap)

pub invariant_of-self : goal.invariant_of-self
invariant_of-self c = (becomes-slot c.self.inside c.self.invariant (rw (← c.self.view_is) at c.requires.order).1 c.args.key.0 c.args.i c.args.content (rw (← c.self.view_is) at c.requires.live) (rw (← c.self.view_is) at c.requires.there) c.set_slot.new.self c.set_slot.ensures).linked

keeps : (c : goal.After-set_slot) →
    Keeps c.args.self.now.heap (set_slot c.args.self.now.heap (name_at c.args.self.now.scripts c.args.key.0) c.args.i (script_name c.args.self.now c.args.content))
keeps c = object_slot-keeps c.args.self.now c.requires.order.1 c.args.key.0 c.args.i c.args.content c.requires.live c.requires.black

pub returns-clause-marks : goal.returns-clause-marks
returns-clause-marks c =
    let item = option_map (λ (k : SKey). k.0) c.args.content in
    rw (← c.self.view_is) (marks-written (keyed_of c.self.inside) (keyed_of (with_objects c.self.inside c.set_slot.new.self c.self.inside.scripts_made))
    (write_slot c.args.key.0 c.args.i item) (KeepsObjects-slot c.args.key.0 c.args.i item) (new_mark-slot c.args.key.0 c.args.i item) refl c.set_slot.ensures)

pub returns-clause-kept : goal.returns-clause-kept
returns-clause-kept c = record {
  keys = rw (← c.self.view_is) ((becomes-slot c.self.inside c.self.invariant (rw (← c.self.view_is) at c.requires.order).1 c.args.key.0 c.args.i c.args.content (rw (← c.self.view_is) at c.requires.live) (rw (← c.self.view_is) at c.requires.there) c.set_slot.new.self c.set_slot.ensures).keys);
  order = λ owned. (rw (← c.self.view_is)
      (λ o. (becomes-slot c.self.inside c.self.invariant o c.args.key.0 c.args.i c.args.content (rw (← c.self.view_is) at c.requires.live) (rw (← c.self.view_is) at c.requires.there) c.set_slot.new.self c.set_slot.ensures).order));
  counts = few-owned _;
  colours = subst (KeepsColours c.args.self.now.heap) (sym (returns-clause-heap c)) ((keeps c).follows.colours);
  fresh = subst (KeepsFresh c.args.self.now.heap) (sym (returns-clause-heap c)) ((keeps c).follows.fresh);
  suspected = subst (KeepsSuspected c.args.self.now.heap) (sym (returns-clause-heap c)) ((keeps c).suspected);
  marks = marks-go_on (returns-clause-marks c);
}

pub returns-clause-stands : goal.returns-clause-stands
returns-clause-stands c =
    let f = c.requires.order in
    script_slot-stands c.args.self.now _ f.1 ((returns-clause-kept c).order f.0 f.1) c.args.key.0 c.args.i c.args.content c.requires.live (returns-clause-heap c)
