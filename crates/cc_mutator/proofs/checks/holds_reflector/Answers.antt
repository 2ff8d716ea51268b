use Rattle.std.proofs.Common.{◌∙◌}
use Rattle.cc_mutator.proofs.Reflecting.{reflector-there}
use Rattle.cc_mutator.proofs.checks.holds_reflector.Goals as goal

pub returns : goal.returns
returns c = let e = c.native_behind.ensures in c.is_some.ensures ∙ reflector-there c.args.heaps.now c.native_behind.result _ e.name e.there
