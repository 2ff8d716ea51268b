use Rattle.std.proofs.Common.{arith}
use Rattle.std.proofs.lemmas.Result.{IfOk-weaker}
use Rattle.cc_replay.proofs.words.make_command.Goals as goal

pub returns : goal.returns
returns c = grind (arith, IfOk-weaker, c.in_ok-arg.ensures.shape)
