use Rattle.std.proofs.Common.{arith}
use Rattle.cc_pages.proofs.Places.{added-more}
use Rattle.cc_pages.proofs.group.reach.Goals as goal

pub loop-preserved : goal.loop-preserved
loop-preserved g c = record {
  added = added-more c.reserve.new.self.items c.loop.lists.items c.add_empty.new.lists.items c.loop.invariant.added c.add_empty.ensures.added;
  longer = omega (arith, c.add_empty.ensures.longer, c.loop.invariant.longer);
  room = omega (arith, c.add_empty.ensures.longer, c.add_empty.ensures.capacity, c.loop.invariant.room, c.loop-test.true);
}
