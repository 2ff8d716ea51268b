use Rattle.std.proofs.Common.{subst, sym}
use Rattle.cc_host.specs.Calls.{NoneComes, TellsFreed}
use Rattle.cc_host.specs.Queues.{told_all}
use Rattle.cc_host.specs.Hosts.{State}
use Rattle.cc_host.proofs.HasRoom.{after_freeing, told_freed}
use Rattle.cc_host.proofs.Booked.{booked-left}
use Rattle.cc_host.proofs.Placing.{went_well}
use Rattle.cc_host.proofs.host.Host.release.Goals as goal

pub invariant_of-self : goal.invariant_of-self
invariant_of-self c =
    let d = c.unroot_at-done in
    let h = c.self.inside.runtime in (
      after_freeing h d.new.self c.self.inside.told c.keeps-2.ensures d.ensures.none_came c.self.invariant.0 d.new.out c.keeps.ensures d.ensures.tells,
      c.self.invariant.1,
      booked-left h d.new.self c.self.inside.book c.leave.new.self c.args.root.index c.self.invariant.2 c.leave.ensures.left c.leave.ensures.last
          (went_well d.result (sym c.if-is_err.ensures.value) d.ensures.empty) d.ensures.others,
    )

pub returns-clause-none_came : goal.returns-clause-none_came
returns-clause-none_came c = subst (λ (s : State). NoneComes s.host c.unroot_at-done.new.self) c.self.view_is c.unroot_at-done.ensures.none_came

pub returns-clause-tells : goal.returns-clause-tells
returns-clause-tells c =
    let d = c.unroot_at-done in
    subst (λ (s : State). TellsFreed s.host d.new.self (told_all s.told) (told_all d.new.out.items)) c.self.view_is
    (told_freed c.self.inside.runtime d.new.self c.self.inside.told c.keeps-2.ensures d.ensures.none_came c.self.invariant.0 d.new.out c.keeps.ensures d.ensures.tells)
