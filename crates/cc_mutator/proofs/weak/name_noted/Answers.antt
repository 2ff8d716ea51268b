use Rattle.std.proofs.Common.{ap, ◌∙◌}
use Rattle.cc_model.specs.Checks.{named_or_nothing}
use Rattle.cc_mutator.proofs.Carrying.{named-not_refused, weak-still}
use Rattle.cc_mutator.proofs.weak.name_noted.Goals as goal

pub returns : goal.returns
returns c = λ t. weak-still c.args.w _ _ c.args.heaps.now c.naming_native.result t (c.naming_native.ensures ∙ ap named_or_nothing c.native_reg.ensures.name) (named-not_refused _ _)
