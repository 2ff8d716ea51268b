use Rattle.cc_graph.specs.Shown.{edges_to}
use Rattle.cc_scan.specs.Scanning.{exceeds}
use Rattle.cc_graph.proofs.MarkedNodes.{AreMarked}
use Rattle.cc_scan.proofs.scanning.blacken_held_elsewhere.Given as goal

abbrev pub invariant-loop-i : goal.invariant-loop-i
invariant-loop-i l = AreMarked (λ i v. exceeds (edges_to l.fn.graph.edges i) v.sampled) l.fn.graph l.graph l.i
