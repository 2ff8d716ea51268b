use Rattle.std.proofs.Common.{sym, ◌∙◌, ap}
use Rattle.cc_model.specs.Heap.{preserve}
use Rattle.cc_heaps.specs.Keyed.{changed_to, the_number}
use Rattle.cc_heaps.proofs.EntriesSet.{native-read, no_native-preserved, reflector-there}
use Rattle.cc_heaps.proofs.heaps.Heaps.preserve.Goals as goal

pub set_preserved-requires-clause-live : goal.set_preserved-requires-clause-live
set_preserved-requires-clause-live c =
    (native-read c.requires.order.0 c.args.self.now c.requires.order.1 c.args.key.0 c.requires.live c.self.inside c.self.view_is c.native_of.result c.in-Some.native c.in-Some.is c.native_of.ensures.native).0

pub set_preserved-requires-clause-has : goal.set_preserved-requires-clause-has
set_preserved-requires-clause-has c =
    let v = c.args.self.now in
    let read = native-read c.requires.order.0 v c.requires.order.1 c.args.key.0 c.requires.live c.self.inside c.self.view_is c.native_of.result c.in-Some.native c.in-Some.is c.native_of.ensures.native in
    reflector-there c.requires.order.0 v c.requires.order.1 c.args.key.0 c.requires.live (the_number v c.in-Some.native.0) read.1

pub returns-in-Some-clause-heap : goal.returns-in-Some-clause-heap
returns-in-Some-clause-heap c =
    let v = c.args.self.now in
    let read = native-read c.requires.order.0 v c.requires.order.1 c.args.key.0 c.requires.live c.self.inside c.self.view_is c.native_of.result c.in-Some.native c.in-Some.is c.native_of.ensures.native in
    c.set_preserved.ensures.heap ∙ ap (λ x. changed_to v (preserve v.heap x)) (sym read.1)

pub returns-in_default-clause-heap : goal.returns-in_default-clause-heap
returns-in_default-clause-heap c =
    let v = c.args.self.now in
    ap (changed_to v)
    (sym (no_native-preserved c.requires.order.0 v c.requires.order.1 c.args.key.0 c.requires.live c.self.inside c.self.view_is c.native_of.result c.in_default.is c.native_of.ensures.native v.heap))

pub returns-in-Some-clause-order : goal.returns-in-Some-clause-order
returns-in-Some-clause-order c = c.set_preserved.ensures.kept.order

pub returns-in_default-clause-order : goal.returns-in_default-clause-order
returns-in_default-clause-order c owned o = o
