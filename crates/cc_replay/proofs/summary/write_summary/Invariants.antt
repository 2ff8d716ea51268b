use Rattle.std.proofs.Common.{◌≡◌, ◌≤◌, length, map, take, flat_map, All}
use Rattle.std.specs.Io.KnownBytes.{Appends}
use Rattle.cc_replay.specs.Summaries.{line_of, summary_lines}
use Rattle.cc_replay.proofs.summary.write_summary.Given as goal

abbrev pub invariant-lines : goal.invariant-lines
invariant-lines g l = record {
  lines : map (λ l. (l.0.now, l.1)) l.line-items ≡ summary_lines l.sums;
  short : All (λ l. length l.0.now ≤ 9) l.line-items;
  grown : Appends (g.K.Sink.written l.fn.sink) (g.K.Sink.written l.sink) (flat_map (λ l. line_of (l.0.now, l.1)) (take l.line-index l.line-items));
  calm : g.K.Sink.faults l.sink ≡ g.K.Sink.faults l.fn.sink;
}
