use Rattle.std.proofs.Common.{arith}
use Rattle.cc_reader.proofs.Given.{HasGiven-none}
use Rattle.cc_reader.proofs.lines.Lines.new.Goals as goal

pub returns-clause-given : goal.returns-clause-given
returns-clause-given g c = grind (arith, HasGiven-none, g.S.Source.left)
