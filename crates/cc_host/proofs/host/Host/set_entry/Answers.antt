use Rattle.cc_host.proofs.HasRoom.{after_nothing}
use Rattle.cc_host.proofs.Booked.{booked-kept}
use Rattle.cc_host.proofs.Quietly.{none-comes, quietly}
use Rattle.cc_host.proofs.host.Host.set_entry.Goals as goal

pub invariant_of-self : goal.invariant_of-self
invariant_of-self c =
    let d = c.set_entry-done in
    let h = c.self.inside.runtime in (
      after_nothing h d.new.self c.self.inside.told c.keeps.ensures d.ensures.none_came c.self.invariant.0,
      c.self.invariant.1,
      booked-kept h d.new.self c.self.inside.book d.ensures.places c.self.invariant.2,
    )

pub returns-clause-quiet : goal.returns-clause-quiet
returns-clause-quiet c = quietly _ _ c.set_entry-done.new.self c.self.view_is c.set_entry-done.ensures.none_left c.set_entry-done.ensures.places

pub returns-clause-none_came : goal.returns-clause-none_came
returns-clause-none_came c = none-comes _ _ c.set_entry-done.new.self c.self.view_is c.set_entry-done.ensures.none_came
