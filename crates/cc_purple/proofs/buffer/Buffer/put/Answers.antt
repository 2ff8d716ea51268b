use Rattle.cc_purple.specs.Marks.{keys_of}
use Rattle.cc_purple.proofs.Buffers.{buffer-put}
use Rattle.cc_purple.proofs.buffer.Buffer.put.Goals as goal

pub returns-clause-marks : goal.returns-clause-marks
returns-clause-marks g c ms b =
    buffer-put _ _ _ ms b c.args.purple c.args.key.0 _ _ _ _ _ (c.enter.ensures.keys (keys_of ms) b.keys) c.set_mark.ensures.links
    (g.met.T.MarkStore.marks_in_rest _ _ c.enter.ensures.rest) c.set_mark.ensures.marks
