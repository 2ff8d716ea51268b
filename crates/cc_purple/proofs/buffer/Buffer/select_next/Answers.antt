use Rattle.cc_purple.specs.Marks.{keys_of}
use Rattle.cc_purple.proofs.Buffers.{buffer-front}
use Rattle.cc_purple.proofs.buffer.Buffer.select_next.Goals as goal

pub returns-clause-marks : goal.returns-clause-marks
returns-clause-marks g c ms b =
    buffer-front _ _ _ ms b _ _ _ (c.pop_front.ensures.keys (keys_of ms) b.keys) (g.met.T.MarkStore.marks_in_rest _ _ c.pop_front.ensures.rest)
