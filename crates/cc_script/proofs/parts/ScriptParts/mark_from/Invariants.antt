use Rattle.cc_script.specs.Objects.{AreWhole}
use Rattle.cc_script.specs.Marking.{to_do}
use Rattle.cc_script.specs.Parts.{shows, marking_of, IsBegun}
use Rattle.cc_script.proofs.Walks.{IsWalk, Reached}
use Rattle.cc_script.proofs.parts.ScriptParts.mark_from.Given as goal

abbrev pub invariant-loop-to : goal.invariant-loop-to
invariant-loop-to l = record {
  walk : IsWalk (shows l.fn.self) l.to (Reached (shows l.fn.self) l.fn.key.0) l.fn.key.0 (marking_of l.self);
  begun : IsBegun l.to l.self;
  whole : AreWhole (shows l.self);
}

abbrev pub decreases-loop-to : goal.decreases-loop-to
decreases-loop-to l = to_do l.to (marking_of l.self)
