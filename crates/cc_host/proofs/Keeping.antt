-- A STEP KEEPS WHAT A HOST KEEPS, and is what a call comes to.
use Rattle.std.proofs.Common.{ℕ, [], refl, ◌∙◌}
use Rattle.cc_model.specs.Graph.{Graph}
use Rattle.cc_laws_run.specs.Doomed.{candidates_now}
use Rattle.cc_heaps.specs.Keeping.{KeepsAll}
use Rattle.cc_heaps.specs.Keyed.{Keyed}
use Rattle.cc_markslice.specs.Going.{IsMarkingWell}
use Rattle.cc_collector.specs.Kept.{Kept, RunsIn, running_snapshot}
use Rattle.cc_collector.proofs.GoingOn.{RunsIn-between}
use Rattle.cc_host.specs.Hosted.{Hosted, IsKept}
use Rattle.cc_host.specs.Changes.{IsChange, IsTried}
use Rattle.cc_host.specs.Calls.{Tries}

-- the collector runs on over heaps that kept all, where a script marking that goes on does so as it should
runs-on : (v w : Keyed) (k : Kept) → RunsIn v k → KeepsAll v w → (IsMarkingWell v → IsMarkingWell w) → RunsIn w k
runs-on v w k r kept marks = RunsIn-between v w k r (record {
  order = kept.order [] r.order;
  colours = kept.colours r.colours;
  fresh = kept.fresh;
  keys = kept.keys;
  marks = marks;
  unmarked = λ e. kept.marks.lists ∙ e;
})

-- the host of these heaps, whose collector keeps this
abbrev pub hosted : Keyed → Kept → ℕ → Hosted
hosted v k m = record { heaps = v; running = k.running; marking = k.marking; mark = m }

module _ {premise : Type 0} {change : Graph → Graph} (v w : Keyed) (c : Kept) (m : ℕ) (t : IsChange premise change v w) (marks : IsMarkingWell v → IsMarkingWell w) where
  pub change-keeps : IsKept (hosted v c m) → IsKept (hosted w c m)
  change-keeps k = record {
    runs = runs-on v w c k.runs t.kept marks;
    suspected = t.kept.suspected (candidates_now (running_snapshot c.running)) k.suspected;
    spared = t.spared;
  }

module _ {premise : Type 0} (v w : Keyed) (c : Kept) (m : ℕ) (t : IsTried premise v w) where
  pub tried-keeps : (IsMarkingWell v → IsMarkingWell w) → IsKept (hosted v c m) → IsKept (hosted w c m)
  tried-keeps marks k = record {
    runs = runs-on v w c k.runs t.kept marks;
    suspected = t.kept.suspected (candidates_now (running_snapshot c.running)) k.suspected;
    spared = t.spared;
  }

  pub tried-does : Tries premise (hosted v c m) (hosted w c m)
  tried-does = record { stands = t.stands; doomed = t.doomed; keys = t.kept.keys; running = refl; marking = refl; mark = refl }
