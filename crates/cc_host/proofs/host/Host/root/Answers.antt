use Rattle.std.proofs.Common.{subst, sym, arith, refl, Err, ◌∙◌}
use Rattle.cc_heaps.proofs.Leaving.{nothing-told}
use Rattle.cc_heaps.specs.Leaving.{TellsWhatIsFreed}
use Rattle.cc_host.specs.Calls.{NoneComes, TellsFreed}
use Rattle.cc_host.specs.Queues.{told_all}
use Rattle.cc_host.specs.Hosts.{State}
use Rattle.cc_host.proofs.HasRoom.{after_freeing, told_freed}
use Rattle.cc_host.proofs.Booked.{booked-entered}
use Rattle.cc_host.proofs.Placing.{full-no_memory, no-place, passed, placed-within}
use Rattle.cc_host.proofs.BookedBack.{booked-back}
use Rattle.cc_host.proofs.host.Host.root.Goals as goal

pub returns-in_err-index-clause-tells : goal.returns-in_err-index-clause-tells
returns-in_err-index-clause-tells c =
    let h = c.self.inside.runtime.heaps.heap in
    let told = told_all c.self.inside.told.items in
    subst (λ (s : State). TellsWhatIsFreed s.host.heaps.heap h (told_all s.told) told) c.self.view_is (nothing-told h h told (λ x i. i))

-- the place is within: the heaps refuse it for want of memory alone
pub returns-in-Err-clause-full : goal.returns-in-Err-clause-full
returns-in-Err-clause-full c full =
    let past = no-place c.self.inside.runtime c.in_ok-index.index c.args.x c.root_at-done.result c.in-Err.stop (passed _ _ c.in_ok-slots.ensures.stops) c.root_at-done.ensures.stops c.in-Err.is
    (λ e. full-no_memory (Err c.without_place.result) c.without_place.result refl full (c.without_place.ensures.full e)) in
    absurd (omega (arith, past, c.in_ok-index.ensures.within))

pub invariant_of-self-2 : goal.invariant_of-self-2
invariant_of-self-2 c =
    let d = c.root_at-done in
    let h = c.self.inside.runtime in (
      after_freeing h d.new.self c.self.inside.told c.keeps-2.ensures d.ensures.none_came c.self.invariant.0 d.new.out c.keeps.ensures d.ensures.tells,
      c.self.invariant.1,
      booked-entered h d.new.self c.self.inside.book c.enter.new.self c.in_ok-index.index c.in_ok-index.serial c.args.x.name
          (placed-within h c.in_ok-index.index c.args.x _ c.in_default.ensures.stops (passed _ _ c.in_ok-slots.ensures.stops)) c.self.invariant.2
          c.in_ok-index.ensures.free c.in_ok-index.ensures.entered c.in_ok-index.ensures.serial
          (c.in_ok-index.ensures.last ∙ sym c.in_ok-index.ensures.serial) c.in_default.ensures.takes,
    )

pub returns-clause-none_came : goal.returns-clause-none_came
returns-clause-none_came c = subst (λ (s : State). NoneComes s.host c.root_at-done.new.self) c.self.view_is c.root_at-done.ensures.none_came

pub returns-clause-tells : goal.returns-clause-tells
returns-clause-tells c =
    let d = c.root_at-done in
    subst (λ (s : State). TellsFreed s.host d.new.self (told_all s.told) (told_all d.new.out.items)) c.self.view_is
    (told_freed c.self.inside.runtime d.new.self c.self.inside.told c.keeps-2.ensures d.ensures.none_came c.self.invariant.0 d.new.out c.keeps.ensures d.ensures.tells)

pub invariant_of-self-in-Err : goal.invariant_of-self-in-Err
invariant_of-self-in-Err c =
    let d = c.root_at-done in
    let h = c.self.inside.runtime in (
      after_freeing h d.new.self c.self.inside.told c.keeps-2.ensures d.ensures.none_came c.self.invariant.0 d.new.out c.keeps.ensures d.ensures.tells,
      c.self.invariant.1,
      booked-back h d.new.self c.self.inside.book c.enter.new.self c.leave.new.self c.in_ok-index.index c.in_ok-index.serial c.in-Err.ensures.same c.self.invariant.2
          c.in_ok-index.ensures.free c.in_ok-index.ensures.entered c.leave.ensures.left (omega (arith, c.in_ok-index.ensures.last, c.leave.ensures.last)),
    )
