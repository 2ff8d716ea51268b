use Rattle.std.proofs.Common.{sym, ◌∙◌}
use Rattle.cc_purple.proofs.Marks.{absent-purple}
use Rattle.cc_purple.proofs.buffer.Buffer.purple.Goals as goal

pub returns-else-holds : goal.returns-else-holds
returns-else-holds g c ms b = c.if-holds.false ∙ sym (absent-purple ms _ (sym (c.holds.ensures ms b) ∙ c.if-holds.false))
