use Rattle.cc_model.specs.View.{view}
use Rattle.cc_repair.specs.Touched.{is_touched}
use Rattle.cc_graph.proofs.MarkedNodes.{AreMarked}
use Rattle.cc_repair.proofs.touched.mark_touched.Given as goal

abbrev pub invariant-loop-i : goal.invariant-loop-i
invariant-loop-i l = AreMarked (λ i v. is_touched (view l.heaps.heap) v.name) l.fn.graph l.graph l.i
