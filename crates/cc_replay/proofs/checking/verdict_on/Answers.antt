use Rattle.std.proofs.Common.{arith}
use Rattle.cc_replay.proofs.Judging.{ReadsScript-same, judged-behind, passed-behind}
use Rattle.cc_replay.proofs.checking.verdict_on.Goals as goal

pub returns-clause-verdict : goal.returns-clause-verdict
returns-clause-verdict g c =
    let left = g.S.Source.left in
    let reads = g.S.Source.reads in
    judged-behind c.args.limits c.args.script (left c.args.source.now) (left c.read_script.new.source) (left c.check.new.source)
    (reads c.args.source.now) (reads c.read_script.new.source) (reads c.check.new.source) c.as_slice-2.result.now
    (ReadsScript-same c.args.script c.bytes.result c.args.limits.bytes _ _ _ _ c.in_ok-bytes.bytes.items c.as_slice-2.result.now c.bytes.ensures.same c.as_slice-2.ensures.value
    c.in_ok-bytes.ensures.script)
    (omega arith) c.check.result c.check.ensures.lawful c.check.ensures.unlawful

pub returns-clause-over : goal.returns-clause-over
returns-clause-over g c = λ over.
    let left = g.S.Source.left in
    let reads = g.S.Source.reads in
    passed-behind c.args.limits c.args.script (left c.args.source.now) (left c.read_script.new.source) (left c.check.new.source)
    (reads c.args.source.now) (reads c.read_script.new.source) (reads c.check.new.source) c.as_slice-2.result.now
    (ReadsScript-same c.args.script c.bytes.result c.args.limits.bytes _ _ _ _ c.in_ok-bytes.bytes.items c.as_slice-2.result.now c.bytes.ensures.same c.as_slice-2.ensures.value
    c.in_ok-bytes.ensures.script)
    (omega arith) (c.check.ensures.over over)
