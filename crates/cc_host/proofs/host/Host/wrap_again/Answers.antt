use Rattle.std.proofs.Common.{subst}
use Rattle.cc_host.specs.Calls.{NoneComes, TellsFreed}
use Rattle.cc_host.specs.Hosts.{State}
use Rattle.cc_host.specs.Queues.{told_all}
use Rattle.cc_model.specs.Heap.{has_reflector}
use Rattle.cc_names.specs.Names.{number_of}
use Rattle.std.proofs.Common.{◌≡◌, sym, true}
use Rattle.cc_host.proofs.HasRoom.{after_freeing, told_freed}
use Rattle.cc_host.proofs.Booked.{booked-kept}
use Rattle.cc_host.proofs.Quietly.{none-comes}
use Rattle.cc_host.proofs.Wrapped.{none-came}
use Rattle.cc_host.proofs.host.Host.wrap_again.Goals as goal

none : (c : goal.After-keeps-2) → NoneComes c.self.inside.runtime c.wrap-answer.new.self
none c =
    let e = c.wrap-answer.ensures in
    none-came c.self.inside.runtime c.wrap-answer.new.self c.args.x.name c.wrap-answer.result
    (subst (λ (s : State). has_reflector s.host.heaps.heap (number_of c.args.x.name) ≡ true) (sym c.self.view_is) c.requires.has) e.name e.came e.none_came

pub invariant_of-self : goal.invariant_of-self
invariant_of-self c =
    let d = c.wrap-answer in
    let h = c.self.inside.runtime in (
      after_freeing h d.new.self c.self.inside.told c.keeps-2.ensures (none c) c.self.invariant.0 d.new.out c.keeps.ensures d.ensures.tells,
      c.self.invariant.1,
      booked-kept h d.new.self c.self.inside.book d.ensures.places c.self.invariant.2,
    )

pub returns-clause-tells : goal.returns-clause-tells
returns-clause-tells c =
    let d = c.wrap-answer in
    let h = c.self.inside.runtime in
    subst (λ (s : State). TellsFreed s.host d.new.self (told_all s.told) (told_all d.new.out.items)) c.self.view_is
    (told_freed h d.new.self c.self.inside.told c.keeps-2.ensures (none c) c.self.invariant.0 d.new.out c.keeps.ensures d.ensures.tells)

pub returns-clause-none_came : goal.returns-clause-none_came
returns-clause-none_came c = none-comes _ _ c.wrap-answer.new.self c.self.view_is (none c)
