use Rattle.std.proofs.Common.{◌∙◌, ap}
use Rattle.cc_model.specs.Checks.{native_of}
use Rattle.cc_mutator.proofs.reads.native_behind.Goals as goal

pub returns-clause-name : goal.returns-clause-name
returns-clause-name c = c.unwrap_of.ensures.name ∙ ap native_of c.in_ok-object.ensures.name
