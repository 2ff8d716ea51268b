use Rattle.std.proofs.Common.{arith, ap}
use Rattle.cc_host.specs.Hosts.{State, most_told}
use Rattle.cc_host.proofs.HasRoom.{after_making, none-where_refused, HasRoom-reserved}
use Rattle.cc_host.proofs.Booked.{booked-kept}
use Rattle.cc_host.proofs.Quietly.{one-comes, quietly-told}
use Rattle.cc_host.proofs.host.Host.new_plain.Goals as goal

pub invariant_of-self-2 : goal.invariant_of-self-2
invariant_of-self-2 c =
    let h = c.self.inside.runtime in
    let d = c.new_plain-made in
    let q = c.in_ok-reserve.ensures in
    let most = ap (λ (s : State). most_told s.host) c.self.view_is in
    let room = HasRoom-reserved h c.self.inside.told c.reserve.new.self c.self.invariant.0 q.items q.broken
    (omega (arith, q.ok c.self.invariant.0.whole, c.in_ok-room.ensures, c.most_told.ensures, most)) in
    (after_making d.result h d.new.self c.reserve.new.self c.keeps.ensures room d.ensures.came (none-where_refused d.result h d.new.self d.ensures.same), c.self.invariant.1, booked-kept c.self.inside.runtime d.new.self c.self.inside.book d.ensures.places c.self.invariant.2)

pub returns-clause-quiet : goal.returns-clause-quiet
returns-clause-quiet c = quietly-told _ _ c.new_plain-made.new.self c.self.view_is c.reserve.new.self.items c.reserve.new.self.room c.in_ok-reserve.ensures.items c.new_plain-made.ensures.none_left c.new_plain-made.ensures.places

pub returns-clause-came : goal.returns-clause-came
returns-clause-came c = one-comes _ _ c.new_plain-made.new.self c.self.view_is c.new_plain-made.result c.new_plain-made.ensures.came
