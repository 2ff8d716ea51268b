use Rattle.std.proofs.Common.{[], sym, ◌∙◌, ap}
use Rattle.cc_model.specs.Heap.{suspect}
use Rattle.cc_heaps.specs.Keyed.{the_number, changed_to}
use Rattle.cc_builder.specs.Building.{vertex_name}
use Rattle.cc_builder.proofs.GivingBack.{give_back-there, give_back-gone, AreSame-buffer, AreHeld-same, IsBuilt-same}
use Rattle.cc_builder.proofs.build.Build.give_back.Goals as goal

pub returns-in-Some-clause-heap : goal.returns-in-Some-clause-heap
returns-in-Some-clause-heap c =
    let v = c.args.heaps.now in
    let x = vertex_name c.args.self.now.graph.nodes c.args.node in
    c.give_back.ensures.heap ∙ ap (changed_to v) (sym (give_back-there v c.in-Some.key.0 x c.requires.order c.in-Some.ensures.there))

pub returns-in-Some-clause-built : goal.returns-in-Some-clause-built
returns-in-Some-clause-built c =
    let v = c.args.heaps.now in
    IsBuilt-same c.args.self.now v c.give_back.new.self (AreSame-buffer v c.give_back.new.self (suspect v.heap (the_number v c.in-Some.key.0)).buffer c.give_back.ensures.heap) c.requires.built

pub returns-in-Some-clause-held : goal.returns-in-Some-clause-held
returns-in-Some-clause-held c =
    let v = c.args.heaps.now in
    AreHeld-same c.args.self.now.graph v c.give_back.new.self (AreSame-buffer v c.give_back.new.self (suspect v.heap (the_number v c.in-Some.key.0)).buffer c.give_back.ensures.heap) c.requires.held

pub returns-in-Some-clause-order : goal.returns-in-Some-clause-order
returns-in-Some-clause-order c = c.give_back.ensures.kept.order [] c.requires.order

pub returns-in_default-clause-heap : goal.returns-in_default-clause-heap
returns-in_default-clause-heap c =
    let v = c.args.heaps.now in
    let x = vertex_name c.args.self.now.graph.nodes c.args.node in
    ap (changed_to v) (sym (give_back-gone v.heap x (c.native_of.ensures.gone c.in_default.is)))
