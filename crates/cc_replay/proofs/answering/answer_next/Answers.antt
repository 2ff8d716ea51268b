use Rattle.std.proofs.Common.{arith}
use Rattle.cc_replay.proofs.Asks.{answered-long}
use Rattle.cc_replay.proofs.answering.answer_next.Goals as goal

pub returns-in-TooLong-clause-answered : goal.returns-in-TooLong-clause-answered
returns-in-TooLong-clause-answered g c = grind (arith, answered-long, c.in_ok-next.ensures.long)
