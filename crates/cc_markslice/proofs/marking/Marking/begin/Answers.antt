use Rattle.cc_markslice.proofs.Going.{well-begun}
use Rattle.cc_markslice.proofs.marking.Marking.begin.Goals as goal

pub returns-clause-well : goal.returns-clause-well
returns-clause-well c =
    let e = c.begin_new.ensures in
    well-begun c.args.heaps.now c.begin_new.new.self c.requires.order.1.sound e.heap e.marks e.listed
