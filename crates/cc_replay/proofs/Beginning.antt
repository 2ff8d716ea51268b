-- THE HEAPS AND THE COLLECTOR AT THE START: nothing is there, no collection runs, and no marking goes on.
use Rattle.std.proofs.Common.{◌≡◌, false, List, [], Option, None, option_map, arith}
use Rattle.cc_model.specs.Heap.{empty_heap}
use Rattle.cc_model.specs.Collecting.{empty_machine}
use Rattle.cc_heaps.specs.Few.{AreFew}
use Rattle.cc_heaps.specs.Keyed.{Keyed, IsInOrder}
use Rattle.cc_heaps.specs.NewMarks.{new_marks_with}
use Rattle.cc_heaps.proofs.FewCounts.{few-alone}
use Rattle.cc_names.specs.Sizes.{weak_length}
use Rattle.cc_model.specs.Slots.{empty_slots}
use Rattle.cc_weakrefs.specs.declared.noted.Noted.{Noted}
use Rattle.cc_weakrefs.specs.Noting.{names_noted}
use Rattle.cc_collector.specs.Kept.{Kept, RunsIn, running_snapshot}
use Rattle.cc_replay.specs.Beside.{machine_beside}

-- what a collector keeps that was just made
abbrev pub kept_at_start : Kept
kept_at_start = record { running = None; marking = false }

-- with empty heaps a new collector runs
pub runs-empty : (v : Keyed) (k : Kept) → IsInOrder [] v → v.heap ≡ empty_heap v.heap.limits → v.marking ≡ None → k ≡ kept_at_start → RunsIn v k
runs-empty v k order empty idle start = grind arith

-- with empty weak registers it is the empty machine
pub machine-empty : (v : Keyed) (k : Kept) (weak : List (Option Noted)) → v.heap ≡ empty_heap v.heap.limits → v.marking ≡ None → k ≡ kept_at_start →
    names_noted weak ≡ empty_slots weak_length → machine_beside v k weak ≡ empty_machine v.heap.limits []
machine-empty v k weak empty idle start unnoted = λ i. record {
  heap = empty i;
  weak = unnoted i;
  marking = option_map (new_marks_with v) (idle i);
  snapshot = running_snapshot (start i).running;
  memory = [];
}

-- no count is greater than all references there can be
pub counts_few : (v : Keyed) (k : Kept) → RunsIn v k → AreFew v.heap
counts_few v k runs = few-alone v runs.order
