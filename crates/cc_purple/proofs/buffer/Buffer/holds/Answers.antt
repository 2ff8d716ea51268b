use Rattle.std.proofs.Common.{sym, ◌∙◌}
use Rattle.cc_purple.specs.Marks.{keys_of}
use Rattle.cc_purple.proofs.Marks.{holds-has}
use Rattle.cc_purple.proofs.buffer.Buffer.holds.Goals as goal

pub returns : goal.returns
returns g c ms b = c.holds.ensures.keys (keys_of ms) b.keys ∙ sym (holds-has ms _)
