use Rattle.std.proofs.Common.{sym, ◌∙◌}
use Rattle.cc_purple.specs.Marks.{keys_of}
use Rattle.cc_purple.proofs.Marks.{after-keys}
use Rattle.cc_purple.proofs.buffer.Buffer.next.Goals as goal

pub returns-in_err-next : goal.returns-in_err-next
returns-in_err-next g c ms b = rw (c.from_residual.ensures) (c.in_err-next.ensures (keys_of ms) b.keys ∙ sym (after-keys ms _))

pub returns : goal.returns
returns g c ms b = c.in_ok-next.ensures (keys_of ms) b.keys ∙ sym (after-keys ms _)
