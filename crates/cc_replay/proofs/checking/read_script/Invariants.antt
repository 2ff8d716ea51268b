use Rattle.std.proofs.Common.{◌≡◌, ◌≤◌, ◌-◌, length}
use Rattle.std.specs.Io.KnownBytes.{Consumes}
use Rattle.cc_reader.specs.HasRead.{ReadsBytes}
use Rattle.cc_replay.proofs.checking.read_script.Given as goal

abbrev pub invariant-pieces : goal.invariant-pieces
invariant-pieces g l =
    let left = g.S.Source.left in
    let faults = g.S.Source.faults in
    let reads = g.S.Source.reads in
    record {
      within : length l.script.items ≤ l.wanted;
      consumed : Consumes (left l.fn.source) (left l.source) l.script.items;
      reads : ReadsBytes (reads l.fn.source) (reads l.source) (length l.script.items);
      calm : faults l.source ≡ faults l.fn.source;
    }

abbrev pub decreases-pieces : goal.decreases-pieces
decreases-pieces g l = l.wanted - length l.script.items
