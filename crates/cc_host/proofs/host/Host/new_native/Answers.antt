use Rattle.std.proofs.Common.{arith, ap, sym, subst}
use Rattle.cc_heaps.proofs.Leaving.{nothing-told}
use Rattle.cc_heaps.specs.Leaving.{TellsWhatIsFreed}
use Rattle.cc_host.specs.Calls.{TellsFreed}
use Rattle.cc_host.specs.Queues.{told_all}
use Rattle.cc_host.specs.Hosts.{State, most_told}
use Rattle.cc_host.proofs.HasRoom.{after_making_freed, none-where_refused, told_making, HasRoom-reserved}
use Rattle.cc_host.proofs.Booked.{booked-kept}
use Rattle.cc_host.proofs.Quietly.{one-comes}
use Rattle.cc_host.proofs.host.Host.new_native.Goals as goal

pub invariant_of-self-2 : goal.invariant_of-self-2
invariant_of-self-2 c =
    let h = c.self.inside.runtime in
    let d = c.new_native-made in
    let q = c.in_ok-reserve.ensures in
    let most = ap (λ (s : State). most_told s.host) c.self.view_is in
    let room = HasRoom-reserved h c.self.inside.told c.reserve.new.self c.self.invariant.0 q.items q.broken
    (omega (arith, q.ok c.self.invariant.0.whole, c.in_ok-room.ensures, c.most_told.ensures, most)) in
    (after_making_freed d.result h d.new.self c.reserve.new.self c.keeps-2.ensures room d.ensures.came (none-where_refused d.result h d.new.self d.ensures.same) d.new.out c.keeps.ensures d.ensures.tells, c.self.invariant.1, booked-kept c.self.inside.runtime d.new.self c.self.inside.book d.ensures.places c.self.invariant.2)

pub returns-in_err-reserve-clause-tells : goal.returns-in_err-reserve-clause-tells
returns-in_err-reserve-clause-tells c =
    let h = c.self.inside.runtime.heaps.heap in
    subst (λ (s : State). TellsWhatIsFreed s.host.heaps.heap h (told_all s.told) (told_all c.reserve.new.self.items)) c.self.view_is
    (subst (λ items. TellsWhatIsFreed h h (told_all c.self.inside.told.items) (told_all items)) (sym c.in_err-reserve.ensures.items)
    (nothing-told h h (told_all c.self.inside.told.items) (λ x i. i)))

pub returns-clause-tells : goal.returns-clause-tells
returns-clause-tells c =
    let h = c.self.inside.runtime in
    let d = c.new_native-made in
    let q = c.in_ok-reserve.ensures in
    let most = ap (λ (s : State). most_told s.host) c.self.view_is in
    let room = HasRoom-reserved h c.self.inside.told c.reserve.new.self c.self.invariant.0 q.items q.broken
    (omega (arith, q.ok c.self.invariant.0.whole, c.in_ok-room.ensures, c.most_told.ensures, most)) in
    subst (λ (s : State). TellsFreed s.host d.new.self (told_all s.told) (told_all d.new.out.items)) c.self.view_is
    (told_making d.result h d.new.self c.reserve.new.self c.keeps-2.ensures room d.ensures.came (none-where_refused d.result h d.new.self d.ensures.same) d.new.out c.keeps.ensures d.ensures.tells c.self.inside.told q.items)

pub returns-clause-came : goal.returns-clause-came
returns-clause-came c = one-comes _ _ c.new_native-made.new.self c.self.view_is c.new_native-made.result c.new_native-made.ensures.came
