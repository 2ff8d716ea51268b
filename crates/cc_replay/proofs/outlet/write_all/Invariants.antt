use Rattle.std.proofs.Common.{◌≡◌, ◌≤◌, ◌-◌, length, take}
use Rattle.std.specs.Io.KnownBytes.{Appends}
use Rattle.cc_replay.proofs.outlet.write_all.Given as goal

abbrev pub invariant-pieces : goal.invariant-pieces
invariant-pieces g l =
    let written = g.K.Sink.written in
    let faults = g.K.Sink.faults in
    record {
      within : l.done ≤ length l.bytes;
      grown : Appends (written l.fn.sink) (written l.sink) (take l.done l.bytes);
      calm : faults l.sink ≡ faults l.fn.sink;
    }

abbrev pub decreases-pieces : goal.decreases-pieces
decreases-pieces g l = length l.bytes - l.done
