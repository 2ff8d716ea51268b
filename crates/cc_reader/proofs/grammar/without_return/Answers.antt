use Rattle.std.proofs.Common.{arith}
use Rattle.std.proofs.lemmas.Grind.{common_steps}
use Rattle.cc_reader.proofs.Returns.{without_return-last, without_return-other}
use Rattle.cc_reader.proofs.grammar.without_return.Goals as goal

pub returns-then-line-last-eq13 : goal.returns-then-line-last-eq13
returns-then-line-last-eq13 c = grind (arith, common_steps, without_return-last)

pub returns-else-line-last-eq13 : goal.returns-else-line-last-eq13
returns-else-line-last-eq13 c = grind (arith, common_steps, without_return-other)
