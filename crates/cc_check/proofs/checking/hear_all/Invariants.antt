use Rattle.std.proofs.Common.{◌≡◌, ◌≤◌, ◌+◌, ◌*◌, false}
use Rattle.cc_reader.specs.Pending.{weight}
use Rattle.cc_reader.specs.HasRead.{ReadsOn}
use Rattle.cc_reader.specs.Given.{HasGiven}
use Rattle.cc_check.specs.Tried.{GoesOnTrying, IsReady, moment}
use Rattle.cc_check.proofs.checking.hear_all.Given as goal

abbrev pub invariant-lines : goal.invariant-lines
invariant-lines g l =
    let left = g.S.Source.left in
    let faults = g.S.Source.faults in
    let reads = g.S.Source.reads in
    record {
      tried : GoesOnTrying HasGiven (moment (left l.fn.lines.source.now) l.fn.lines.window l.fn.trial) (moment (left l.lines.source.now) l.lines.window l.trial);
      going : l.lines.stopped ≡ false;
      ready : IsReady l.trial;
      bytes : l.trial.bytes + 121 * weight l.lines.window ≤ l.fn.trial.bytes + 121 * weight l.fn.lines.window;
      counted : l.trial.lines + weight l.lines.window ≤ l.fn.trial.lines + weight l.fn.lines.window;
      limit : l.lines.window.limit ≡ l.fn.lines.window.limit;
      reads : ReadsOn (reads l.fn.lines.source.now) (reads l.lines.source.now) l.fn.lines.window l.lines.window;
      same : l.lines.source.ghost_name ≡ l.fn.lines.source.ghost_name;
      calm : faults l.lines.source.now ≡ faults l.fn.lines.source.now;
    }

abbrev pub decreases-lines : goal.decreases-lines
decreases-lines g l = weight l.lines.window
