use Rattle.std.proofs.Common.{◌≡◌, false}
use Rattle.cc_reader.specs.Pending.{weight}
use Rattle.cc_reader.specs.HasRead.{ReadsOn}
use Rattle.cc_reader.specs.Given.{HasGiven}
use Rattle.cc_collector.specs.Kept.{RunsIn}
use Rattle.cc_weakrefs.specs.Noting.{HoldKeys}
use Rattle.cc_replay.specs.Beside.{machine_beside}
use Rattle.cc_replay.specs.Answering.{Answers, moment}
use Rattle.cc_replay.proofs.answering.answer_all.Given as goal

abbrev pub invariant-lines : goal.invariant-lines
invariant-lines g l =
    let left = g.S.Source.left in
    let faults = g.S.Source.faults in
    let reads = g.S.Source.reads in
    let telling = g.N.Notices.telling in
    record {
      lines : Answers HasGiven (moment (left l.fn.lines.source.now) l.fn.lines.window l.fn.dialect (machine_beside l.fn.heaps l.fn.collector l.fn.weak) (telling l.fn.out))
          (moment (left l.lines.source.now) l.lines.window l.dialect (machine_beside l.heaps l.collector l.weak) (telling l.out));
      runs : RunsIn l.heaps l.collector;
      keys : HoldKeys l.weak l.heaps;
      going : l.lines.stopped ≡ false;
      limit : l.lines.window.limit ≡ l.fn.lines.window.limit;
      reads : ReadsOn (reads l.fn.lines.source.now) (reads l.lines.source.now) l.fn.lines.window l.lines.window;
      whole : (telling l.out).broken ≡ false;
      calm : faults l.lines.source.now ≡ faults l.fn.lines.source.now;
      written : (telling l.out).faults ≡ (telling l.fn.out).faults;
      source : l.lines.source.ghost_name ≡ l.fn.lines.source.ghost_name;
      sink : (telling l.out).sink ≡ (telling l.fn.out).sink;
    }

abbrev pub decreases-lines : goal.decreases-lines
decreases-lines g l = weight l.lines.window
