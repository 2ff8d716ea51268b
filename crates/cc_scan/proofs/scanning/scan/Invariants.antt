use Rattle.std.proofs.Common.{◌-◌, length}
use Rattle.cc_scan.proofs.Scanned.{IsScanned}
use Rattle.cc_scan.proofs.scanning.scan.Given as goal

abbrev pub invariant-loop-node : goal.invariant-loop-node
invariant-loop-node g l = IsScanned l.fn.graph l.graph l.place l.fn.steps l.steps

abbrev pub decreases-loop-node : goal.decreases-loop-node
decreases-loop-node g l = length l.fn.graph.nodes - l.place
