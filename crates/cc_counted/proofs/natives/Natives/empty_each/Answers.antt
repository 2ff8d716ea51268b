use Rattle.std.proofs.Common.{◌<◌, length, ap, arith}
use Rattle.cc_counted.specs.Lists.{slots_placed}
use Rattle.cc_counted.proofs.Unlinking.{EmptiesSoFar-more, EmptiesSoFar-done}
use Rattle.cc_counted.proofs.natives.Natives.empty_each.Goals as goal

pub loop-i-preserved : goal.loop-i-preserved
loop-i-preserved g c =
    let s = c.loop-i.invariant.so_far in
    let within : c.loop-i.i < length s.was.slots = omega (arith, c.loop-i-test.true, c.requires.slots, ap (λ o. length (slots_placed o)) s.was_there) in
    record {
      so_far = EmptiesSoFar-more c.args.self.now.lists c.loop-i.self.lists c.empty_slot.new.self.lists c.args.key.0 c.loop-i.i
          (g.N.Notices.telling c.args.out.now) (g.N.Notices.telling c.loop-i.out) (g.N.Notices.telling c.empty_slot.new.out) s within c.empty_slot.ensures.empties;
      at_rest = c.empty_slot.ensures.at_rest;
    }

pub returns-clause-empties : goal.returns-clause-empties
returns-clause-empties g c =
    let s = c.loop-i.invariant.so_far in
    EmptiesSoFar-done c.args.self.now.lists c.loop-i.self.lists c.args.key.0 c.loop-i.i (g.N.Notices.telling c.args.out.now) (g.N.Notices.telling c.loop-i.out) s
    (omega (arith, c.loop-i-test.false, c.requires.slots, ap (λ o. length (slots_placed o)) s.was_there))
