use Rattle.std.proofs.Common.{◌≡◌, ◌≤◌, ◌+◌, ℕ, List, length}
use Rattle.cc_reader.specs.Pending.{weight}
use Rattle.cc_reader.specs.HasRead.{ReadsOn}
use Rattle.cc_reader.specs.Used.{Begins, IsKept}
use Rattle.cc_reader.proofs.lines.next_line.Given as goal

abbrev pub invariant-bytes : goal.invariant-bytes
invariant-bytes g l =
    let left = g.S.Source.left in
    let faults = g.S.Source.faults in
    let reads = g.S.Source.reads in
    record {
      line : (line : List ℕ) × IsKept l.is_long l.text line
          × Begins (left l.fn.source) (left l.source) l.fn.window l.window line
          × (weight l.window + length line ≤ weight l.fn.window);
      fits : length l.text ≤ 120;
      calm : faults l.source ≡ faults l.fn.source;
      limit : l.window.limit ≡ l.fn.window.limit;
      reads : ReadsOn (reads l.fn.source) (reads l.source) l.fn.window l.window;
    }

abbrev pub decreases-bytes : goal.decreases-bytes
decreases-bytes g l = weight l.window
