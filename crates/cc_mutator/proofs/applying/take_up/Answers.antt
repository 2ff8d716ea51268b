use Rattle.std.proofs.Common.{ap}
use Rattle.cc_model.specs.Mutating.{is_deed}
use Rattle.cc_mutator.proofs.WeakRead.{applied-deed}
use Rattle.cc_mutator.proofs.applying.take_up.Goals as goal

pub carry_out-requires-clause-deed : goal.carry_out-requires-clause-deed
carry_out-requires-clause-deed g c = ap is_deed (applied-deed c.args.command.now c.requires.applied c.in_default.not-Deref)
