use Rattle.std.proofs.Common.{sym, subst}
use Rattle.cc_script.specs.Objects.{name_at}
use Rattle.cc_heaps.specs.Standing.{StillStands}
use Rattle.cc_heaps.proofs.FewCounts.{few-owned}
use Rattle.cc_heaps.proofs.Following.{Keeps, exposed-keeps}
use Rattle.cc_heaps.proofs.StandingStill.{exposed-still}
use Rattle.cc_heaps.proofs.heaps.Heaps.expose.Goals as goal

keeps : (c : goal.After-expose_content) → Keeps c.args.self.now.heap c.expose_content.new.self.heap
keeps c =
    let v = c.args.self.now in
    subst (Keeps v.heap) (sym c.expose_content.ensures.heap) (exposed-keeps v.heap (name_at v.scripts c.args.key.0) c.requires.order.1.sound)

pub returns-clause-kept : goal.returns-clause-kept
returns-clause-kept c = record {
  keys = c.expose_content.ensures.keys;
  order = c.expose_content.ensures.order;
  counts = few-owned _;
  colours = (keeps c).follows.colours;
  fresh = (keeps c).follows.fresh;
  suspected = (keeps c).suspected;
  marks = c.expose_content.ensures.marks;
}

pub returns-clause-stands : goal.returns-clause-stands
returns-clause-stands c =
    let v = c.args.self.now in
    subst (StillStands v.heap) (sym c.expose_content.ensures.heap) (exposed-still v.heap (name_at v.scripts c.args.key.0) c.requires.order.1.sound)

pub returns-clause-marking : goal.returns-clause-marking
returns-clause-marking c = c.expose_content.ensures.marking
