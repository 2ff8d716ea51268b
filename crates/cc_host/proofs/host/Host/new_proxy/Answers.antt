use Rattle.std.proofs.Common.{arith, ap, subst, sym, ◌≡◌, Err, Some}
use Rattle.cc_host.specs.Hosts.{State, most_told}
use Rattle.cc_host.proofs.HasRoom.{after_making, HasRoom-reserved}
use Rattle.cc_host.proofs.Booked.{booked-kept}
use Rattle.cc_host.specs.Stops.{IsStoppedOrRefused, first, stop_proxy, stop_root, stop_script}
use Rattle.cc_host.proofs.FirstCause.{failed-first, first-cause}
use Rattle.cc_host.proofs.Placing.{stopped-wants}
use Rattle.cc_host.proofs.Quietly.{none-comes-refused, one-comes, quietly-told}
use Rattle.cc_host.proofs.host.Host.new_proxy.Goals as goal

pub invariant_of-self-2 : goal.invariant_of-self-2
invariant_of-self-2 c =
    let h = c.self.inside.runtime in
    let d = c.new_proxy-made in
    let q = c.in_ok-reserve.ensures in
    let most = ap (λ (s : State). most_told s.host) c.self.view_is in
    let room = HasRoom-reserved h c.self.inside.told c.reserve.new.self c.self.invariant.0 q.items q.broken
    (omega (arith, q.ok c.self.invariant.0.whole, c.in_ok-room.ensures, c.most_told.ensures, most)) in
    (after_making d.result h d.new.self c.reserve.new.self c.keeps.ensures room d.ensures.came d.ensures.none_came, c.self.invariant.1, booked-kept c.self.inside.runtime d.new.self c.self.inside.book d.ensures.places c.self.invariant.2)

pub returns-clause-stops : goal.returns-clause-stops
returns-clause-stops c = stopped-wants (stop_proxy c.args.self.now.host c.args.delegate c.args.r) c.new_proxy-made.result
    (subst (λ (s : State). IsStoppedOrRefused (stop_proxy s.host c.args.delegate c.args.r) c.new_proxy-made.result) c.self.view_is c.new_proxy-made.ensures.stops)

pub returns-clause-quiet : goal.returns-clause-quiet
returns-clause-quiet c = quietly-told _ _ c.new_proxy-made.new.self c.self.view_is c.reserve.new.self.items c.reserve.new.self.room c.in_ok-reserve.ensures.items c.new_proxy-made.ensures.none_left c.new_proxy-made.ensures.places

pub returns-clause-came : goal.returns-clause-came
returns-clause-came c = one-comes _ _ c.new_proxy-made.new.self c.self.view_is c.new_proxy-made.result c.new_proxy-made.ensures.came

pub returns-clause-none_came : goal.returns-clause-none_came
returns-clause-none_came c = none-comes-refused _ _ c.new_proxy-made.new.self c.self.view_is c.new_proxy-made.result c.new_proxy-made.ensures.none_came

pub returns-in_err-kind-clause-index : goal.returns-in_err-kind-clause-index
returns-in_err-kind-clause-index c s f =
    let is : c.from_residual.result ≡ Err c.in_err-kind.field-0.0 = grind arith in
    failed-first _ _ _ (stop_root c.args.r) c.in_err-kind.field-0.0 s c.from_residual.result is c.in_err-kind.ensures.stops
    (subst (λ (s₁ : State). first (stop_script s₁.host c.args.delegate) (stop_root c.args.r) ≡ Some s) (sym c.self.view_is) f)

pub returns-clause-index : goal.returns-clause-index
returns-clause-index c s f = first-cause _ (stop_root c.args.r) _ c.new_proxy-made.result s c.new_proxy-made.ensures.stops
    (subst (λ (s₁ : State). first (stop_script s₁.host c.args.delegate) (stop_root c.args.r) ≡ Some s) (sym c.self.view_is) f)
