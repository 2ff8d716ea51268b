use Rattle.std.proofs.Common.{ℕ, ◌+◌, ◌≤◌, option_map}
use Rattle.cc_names.specs.declared.number.NativeNo.{NativeNo}
use Rattle.cc_unlink.specs.Passes.{nodes_above, nodes_behind}
use Rattle.cc_unlink.proofs.NextWhite.{IsWalking, count_left}
use Rattle.cc_unlink.proofs.ends.next_white.Given as goal

abbrev pub invariant-loop-next : goal.invariant-loop-next
invariant-loop-next g l = record {
  walking : IsWalking l.graph l.heaps.heap (option_map (λ (k : NativeNo). k.0) l.fn.after) l.next;
  looked : l.steps + nodes_behind l.graph (option_map (λ (r : NativeNo × ℕ). r.0.0) l.next)
      ≤ l.fn.steps + nodes_above l.graph (option_map (λ (k : NativeNo). k.0) l.fn.after);
}

abbrev pub decreases-loop-next : goal.decreases-loop-next
decreases-loop-next g l = count_left l.next
