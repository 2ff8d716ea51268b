use Rattle.std.proofs.Common.{Some, sym, subst}
use Rattle.cc_names.specs.Names.{reflector}
use Rattle.cc_model.specs.Graph as graph
use Rattle.cc_laws_heap.proofs.Face.{has_reflector-there}
use Rattle.cc_heaps.specs.Keyed.{IsInOrder, Keyed, the_number}
use Rattle.cc_heaps.specs.Fields.{keyed_of}
use Rattle.cc_heaps.specs.Standing.{KeepsColours, KeepsFresh, KeepsSuspected, StandsAfter}
use Rattle.cc_heaps.proofs.KeysKept.{KeepsKeys-changed}
use Rattle.cc_heaps.proofs.Calls.{changed-keyed, changed-linked, preserve-changes}
use Rattle.cc_heaps.proofs.FewCounts.{few-owned}
use Rattle.cc_heaps.proofs.Ordered.{IsInOrder-preserved}
use Rattle.cc_heaps.proofs.ReflectingPreserved.{preserved-colours, preserved-fresh, preserved-stands, preserved-suspected}
use Rattle.cc_heaps.proofs.MarksKept.{marks-changed, marks-stay-changed}
use Rattle.cc_heaps.proofs.heaps.Heaps.set_preserved.Goals as goal

pub invariant_of-self : goal.invariant_of-self
invariant_of-self c = changed-linked (preserve-changes c.self.inside c.self.invariant (the_number (keyed_of c.self.inside) c.args.key.0) c.set_preserved.ensures.heap)

pub returns-clause-heap : goal.returns-clause-heap
returns-clause-heap c =
    rw (← c.self.view_is) (changed-keyed (preserve-changes c.self.inside c.self.invariant (the_number (keyed_of c.self.inside) c.args.key.0) c.set_preserved.ensures.heap))

-- What the laws make of it

pub returns-clause-stands : goal.returns-clause-stands
returns-clause-stands c reached =
    let v = c.args.self.now in
    let k = the_number v c.args.key.0 in
    subst (λ (w : Keyed). StandsAfter v.heap w.heap (λ g. graph.preserve g (Some (reflector k)))) (sym (returns-clause-heap c))
    (preserved-stands v.heap k c.requires.order.1.sound (has_reflector-there v.heap k c.requires.has) reached)

pub returns-clause-kept : goal.returns-clause-kept
returns-clause-kept c = record {
  keys = KeepsKeys-changed c.args.self.now _ _ (returns-clause-heap c);
  order = λ owned o. (let v = c.args.self.now in
      let k = the_number v c.args.key.0 in
      subst (IsInOrder owned) (sym (returns-clause-heap c)) (IsInOrder-preserved owned v k (has_reflector-there v.heap k c.requires.has) o));
  counts = few-owned _;
  colours = (let v = c.args.self.now in
      let k = the_number v c.args.key.0 in
      subst (λ (w : Keyed). KeepsColours v.heap w.heap) (sym (returns-clause-heap c))
      (preserved-colours v.heap k c.requires.order.1.sound (has_reflector-there v.heap k c.requires.has)));
  fresh = λ not_gray. (let v = c.args.self.now in
      let k = the_number v c.args.key.0 in
      subst (λ (w : Keyed). KeepsFresh v.heap w.heap) (sym (returns-clause-heap c))
      (preserved-fresh v.heap k c.requires.order.1.sound (has_reflector-there v.heap k c.requires.has) not_gray));
  suspected = (let v = c.args.self.now in
      let k = the_number v c.args.key.0 in
      subst (λ (w : Keyed). KeepsSuspected v.heap w.heap) (sym (returns-clause-heap c))
      (preserved-suspected v.heap k c.requires.order.1.sound (has_reflector-there v.heap k c.requires.has)));
  marks = marks-changed c.args.self.now _ _ (returns-clause-heap c);
}

pub returns-clause-marks : goal.returns-clause-marks
returns-clause-marks c = marks-stay-changed c.args.self.now _ _ (returns-clause-heap c)
