use Rattle.std.proofs.Common.{arith, ap, subst, sym}
use Rattle.cc_host.specs.Calls.{Collects}
use Rattle.cc_host.specs.Queues.{telling_of, told_all}
use Rattle.cc_collector.specs.Settled.{IsSettled, IsUnsettled}
use Rattle.cc_host.specs.Hosted.{machine}
use Rattle.cc_host.proofs.SettledTellings.{settled-whole, unsettled-whole}
use Rattle.cc_host.specs.Hosts.{State, most_told}
use Rattle.cc_host.proofs.Answering.{IsKeptWhole, kept-whole, on_ok, wanted, went-well}
use Rattle.cc_host.specs.Missing.{CannotMiss, Takes}
use Rattle.cc_host.proofs.WholeTellings.{collects-whole, takes-whole}
use Rattle.cc_host.proofs.Booked.{booked-kept}
use Rattle.cc_host.specs.Lasting.{TellsFreedOnce}
use Rattle.cc_host.proofs.LastingTellings.{once-whole}
use Rattle.cc_host.proofs.host.Host.settle.Goals as goal

pub invariant_of-self-2 : goal.invariant_of-self-2
invariant_of-self-2 c =
    let h = c.self.inside.runtime in
    let o = c.self.inside.told in
    let q = c.reserve.new.self in
    let d = c.settle-done in
    let r = c.reserve.ensures in
    let most = ap (λ (s : State). most_told s.host) c.self.view_is in
    let w : IsKeptWhole d.new.self o q d.new.out = kept-whole h d.new.self o q d.new.out c.self.invariant.0 r.items r.broken
    (omega (arith, c.in-Ok.ensures.ok c.self.invariant.0.whole, c.most_told-most.ensures, most)) c.keeps-2.ensures c.keeps.ensures _ (omega arith) d.ensures.few in
    (w.room, c.self.invariant.1, booked-kept c.self.inside.runtime d.new.self c.self.inside.book d.ensures.places c.self.invariant.2)

pub returns-clause-collects : goal.returns-clause-collects
returns-clause-collects c _ =
    let h = c.self.inside.runtime in
    let o = c.self.inside.told in
    let q = c.reserve.new.self in
    let d = c.settle-done in
    let r = c.reserve.ensures in
    let most = ap (λ (s : State). most_told s.host) c.self.view_is in
    let w : IsKeptWhole d.new.self o q d.new.out = kept-whole h d.new.self o q d.new.out c.self.invariant.0 r.items r.broken
    (omega (arith, c.in-Ok.ensures.ok c.self.invariant.0.whole, c.most_told-most.ensures, most)) c.keeps-2.ensures c.keeps.ensures _ (omega arith) d.ensures.few in
    subst (λ (s : State). Collects s.host d.new.self (told_all s.told) (told_all d.new.out.items)) c.self.view_is
    (collects-whole o q d.new.out w.waited w.before w.room.whole h d.new.self d.ensures.collects)

pub returns-clause-done : goal.returns-clause-done
returns-clause-done c =
    let h = c.self.inside.runtime in
    let o = c.self.inside.told in
    let q = c.reserve.new.self in
    let d = c.settle-done in
    let r = c.reserve.ensures in
    let most = ap (λ (s : State). most_told s.host) c.self.view_is in
    let w : IsKeptWhole d.new.self o q d.new.out = kept-whole h d.new.self o q d.new.out c.self.invariant.0 r.items r.broken
    (omega (arith, c.in-Ok.ensures.ok c.self.invariant.0.whole, c.most_told-most.ensures, most)) c.keeps-2.ensures c.keeps.ensures _ (omega arith) d.ensures.few in
    let done = λ (e : IsSettled (machine h) (machine d.new.self) (telling_of q) (telling_of d.new.out)). subst (λ (s : State). IsSettled (machine s.host) (machine d.new.self) (told_all s.told) (told_all d.new.out.items)) c.self.view_is
    (settled-whole o q d.new.out w.waited w.before w.room.whole (machine h) (machine d.new.self) e) in
    went-well _ d.result c.of_whole.result c.of_whole.ensures (on_ok d.result done d.ensures.done)

pub returns-clause-refused : goal.returns-clause-refused
returns-clause-refused c wants =
    let h = c.self.inside.runtime in
    let o = c.self.inside.told in
    let q = c.reserve.new.self in
    let d = c.settle-done in
    let r = c.reserve.ensures in
    let most = ap (λ (s : State). most_told s.host) c.self.view_is in
    let w : IsKeptWhole d.new.self o q d.new.out = kept-whole h d.new.self o q d.new.out c.self.invariant.0 r.items r.broken
    (omega (arith, c.in-Ok.ensures.ok c.self.invariant.0.whole, c.most_told-most.ensures, most)) c.keeps-2.ensures c.keeps.ensures _ (omega arith) d.ensures.few in
    subst (λ (s : State). IsUnsettled (machine s.host) (machine d.new.self) (told_all s.told) (told_all d.new.out.items)) c.self.view_is
    (unsettled-whole o q d.new.out w.waited w.before w.room.whole (machine h) (machine d.new.self) (wanted _ d.result c.of_whole.result c.of_whole.ensures d.ensures.refused wants))

pub returns-clause-takes : goal.returns-clause-takes
returns-clause-takes c _ ds cannot =
    let h = c.self.inside.runtime in
    let o = c.self.inside.told in
    let q = c.reserve.new.self in
    let d = c.settle-done in
    let r = c.reserve.ensures in
    let most = ap (λ (s : State). most_told s.host) c.self.view_is in
    let w : IsKeptWhole d.new.self o q d.new.out = kept-whole h d.new.self o q d.new.out c.self.invariant.0 r.items r.broken
    (omega (arith, c.in-Ok.ensures.ok c.self.invariant.0.whole, c.most_told-most.ensures, most)) c.keeps-2.ensures c.keeps.ensures _ (omega arith) d.ensures.few in
    subst (λ (s : State). Takes ds (told_all s.told) (told_all d.new.out.items)) c.self.view_is
    (takes-whole o q d.new.out w.waited w.before w.room.whole ds (d.ensures.takes ds (subst (λ (s : State). CannotMiss s.host ds) (sym c.self.view_is) cannot)))

pub returns-clause-freed_once : goal.returns-clause-freed_once
returns-clause-freed_once c _ =
    let h = c.self.inside.runtime in
    let o = c.self.inside.told in
    let q = c.reserve.new.self in
    let d = c.settle-done in
    let r = c.reserve.ensures in
    let most = ap (λ (s : State). most_told s.host) c.self.view_is in
    let w : IsKeptWhole d.new.self o q d.new.out = kept-whole h d.new.self o q d.new.out c.self.invariant.0 r.items r.broken
    (omega (arith, c.in-Ok.ensures.ok c.self.invariant.0.whole, c.most_told-most.ensures, most)) c.keeps-2.ensures c.keeps.ensures _ (omega arith) d.ensures.few in
    subst (λ (s : State). TellsFreedOnce s.host d.new.self (told_all s.told) (told_all d.new.out.items)) c.self.view_is
    (once-whole o q d.new.out w.waited w.before w.room.whole h d.new.self d.ensures.freed_once)
