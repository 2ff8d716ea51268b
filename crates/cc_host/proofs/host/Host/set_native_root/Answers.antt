use Rattle.cc_host.proofs.HasRoom.{after_freeing}
use Rattle.cc_host.proofs.Booked.{booked-kept}
use Rattle.cc_host.proofs.Quietly.{none-comes}
use Rattle.cc_host.proofs.host.Host.set_native_root.Goals as goal

pub invariant_of-self : goal.invariant_of-self
invariant_of-self c =
    let d = c.set_native_root-done in
    let h = c.self.inside.runtime in (
      after_freeing h d.new.self c.self.inside.told c.keeps-2.ensures d.ensures.none_came c.self.invariant.0 d.new.out c.keeps.ensures d.ensures.tells,
      c.self.invariant.1,
      booked-kept h d.new.self c.self.inside.book d.ensures.places c.self.invariant.2,
    )

pub returns-clause-none_came : goal.returns-clause-none_came
returns-clause-none_came c = none-comes _ _ c.set_native_root-done.new.self c.self.view_is c.set_native_root-done.ensures.none_came
