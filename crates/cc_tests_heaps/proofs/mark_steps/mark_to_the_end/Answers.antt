use Rattle.std.proofs.Common.{◌≡◌, [], refl}
use Rattle.cc_markslice.specs.declared.marking.MarkStep.{MarkStep}
use Rattle.cc_markslice.specs.declared.marking.MarkStep.TheVariants.{Scanned, Ended}
use Rattle.cc_tests_heaps.proofs.mark_steps.mark_to_the_end.Goals as goal

-- a step that scanned nothing ended the marking
ended : (s : MarkStep) → ¬ (s ≡ Scanned) → s ≡ Ended
ended Scanned d = absurd (d refl)
ended Ended d = refl

pub steps-init : goal.steps-init
steps-init c = record { order = c.begin-marking.ensures.kept.order [] c.requires.order; well = c.begin-marking.ensures.well }

pub steps-preserved : goal.steps-preserved
steps-preserved c = record { order = c.step.ensures.kept.order [] c.steps.invariant.order; well = c.step.ensures.well c.in-Scanned.is }

pub returns-clause-order : goal.returns-clause-order
returns-clause-order c = c.step.ensures.kept.order [] c.steps.invariant.order

pub returns-clause-idle : goal.returns-clause-idle
returns-clause-idle c = c.step.ensures.over (ended c.step.result c.in_default.not-Scanned)
