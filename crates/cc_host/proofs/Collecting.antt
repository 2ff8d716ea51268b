-- A COLLECTION KEEPS WHAT A HOST KEEPS: registers hold what they held, the host's own too.
use Rattle.std.proofs.Common.{ℕ, None, get_or, ◌∙◌, ap}
use Rattle.cc_model.specs.Slots.{Slots}
use Rattle.cc_gc.specs.Sparing.{KeepsWhatIsReached}
use Rattle.cc_heaps.specs.Keyed.{Keyed}
use Rattle.cc_collector.specs.Kept.{ForgetsNothing, Kept, RunsIn, machine_of}
use Rattle.cc_host.specs.Hosted.{IsKept, spare}
use Rattle.cc_host.proofs.Keeping.{hosted}

pub collected-keeps : (v w : Keyed) (c d : Kept) (m : ℕ) → KeepsWhatIsReached v.heap w.heap → ForgetsNothing (machine_of v c) (machine_of w d) → RunsIn w d →
    IsKept (hosted v c m) → IsKept (hosted w d m)
collected-keeps v w c d m keeps suspected runs k = record {
  runs = runs;
  suspected = suspected k.suspected;
  spared = ap (λ (rs : Slots). get_or rs spare None) keeps.native_registers ∙ k.spared;
}
