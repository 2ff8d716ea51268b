use Rattle.std.proofs.Common.{◌+◌, ◌≤◌, length}
use Rattle.cc_unlink.specs.Passes.{native_nodes, nodes_behind, number_in}
use Rattle.cc_unlink.proofs.Passing.{whites_from}
use Rattle.cc_unlink.proofs.Rooting.{IsRooting}
use Rattle.cc_unlink.proofs.ends.root_whites.Given as goal

abbrev pub invariant-loop-next : goal.invariant-loop-next
invariant-loop-next g l = record {
  steps : IsRooting l.graph l.fn.heaps l.heaps l.next;
  looked : l.steps + nodes_behind l.graph (number_in l.next) ≤ l.fn.steps + length (native_nodes l.graph);
}

abbrev pub decreases-loop-next : goal.decreases-loop-next
decreases-loop-next g l = length (whites_from l.graph l.heaps l.next)
