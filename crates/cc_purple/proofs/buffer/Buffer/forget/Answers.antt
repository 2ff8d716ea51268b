use Rattle.cc_purple.specs.Marks.{keys_of}
use Rattle.cc_purple.proofs.Buffers.{buffer-absent, buffer-forget}
use Rattle.cc_purple.proofs.buffer.Buffer.forget.Goals as goal

pub returns-then-holds-clause-marks : goal.returns-then-holds-clause-marks
returns-then-holds-clause-marks g c ms b =
    buffer-forget _ _ _ ms b c.args.key.0 _ _ _ (c.unlink_at.ensures.keys (keys_of ms) b.keys) (g.met.T.MarkStore.marks_in_rest _ _ c.unlink_at.ensures.rest)

pub returns-else-holds-clause-marks : goal.returns-else-holds-clause-marks
returns-else-holds-clause-marks g c ms b = buffer-absent _ _ _ ms b c.args.key.0 (c.if-holds.ensures.keys (keys_of ms) b.keys)
