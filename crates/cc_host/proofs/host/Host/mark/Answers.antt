use Rattle.std.proofs.Common.{arith, ap, subst, sym}
use Rattle.cc_host.specs.Calls.{Collects}
use Rattle.cc_host.specs.Queues.{told_all}
use Rattle.cc_host.specs.Hosts.{State, most_told}
use Rattle.cc_host.proofs.Answering.{IsKeptWhole, kept-whole}
use Rattle.cc_collector.specs.Collected.{IsMarkedOn}
use Rattle.cc_host.specs.Hosted.{machine}
use Rattle.cc_host.specs.Missing.{CannotMiss, Takes}
use Rattle.cc_host.proofs.WholeTellings.{collects-whole, marked-whole, takes-whole}
use Rattle.cc_host.proofs.Booked.{booked-kept}
use Rattle.cc_host.specs.Lasting.{TellsFreedOnce}
use Rattle.cc_host.proofs.LastingTellings.{once-whole}
use Rattle.cc_host.proofs.host.Host.mark.Goals as goal

pub invariant_of-self-2 : goal.invariant_of-self-2
invariant_of-self-2 c =
    let h = c.self.inside.runtime in
    let o = c.self.inside.told in
    let q = c.reserve.new.self in
    let d = c.mark-ended in
    let r = c.reserve.ensures in
    let most = ap (λ (s : State). most_told s.host) c.self.view_is in
    let w : IsKeptWhole d.new.self o q d.new.out = kept-whole h d.new.self o q d.new.out c.self.invariant.0 r.items r.broken
    (omega (arith, c.in-Ok.ensures.ok c.self.invariant.0.whole, c.most_told-most.ensures, most)) c.keeps-2.ensures c.keeps.ensures _ (omega arith) d.ensures.few in
    (w.room, c.self.invariant.1, booked-kept c.self.inside.runtime d.new.self c.self.inside.book d.ensures.places c.self.invariant.2)

pub returns-clause-collects : goal.returns-clause-collects
returns-clause-collects c =
    let h = c.self.inside.runtime in
    let o = c.self.inside.told in
    let q = c.reserve.new.self in
    let d = c.mark-ended in
    let r = c.reserve.ensures in
    let most = ap (λ (s : State). most_told s.host) c.self.view_is in
    let w : IsKeptWhole d.new.self o q d.new.out = kept-whole h d.new.self o q d.new.out c.self.invariant.0 r.items r.broken
    (omega (arith, c.in-Ok.ensures.ok c.self.invariant.0.whole, c.most_told-most.ensures, most)) c.keeps-2.ensures c.keeps.ensures _ (omega arith) d.ensures.few in
    subst (λ (s : State). Collects s.host d.new.self (told_all s.told) (told_all d.new.out.items)) c.self.view_is
    (collects-whole o q d.new.out w.waited w.before w.room.whole h d.new.self d.ensures.collects)

pub returns-clause-marked : goal.returns-clause-marked
returns-clause-marked c =
    let h = c.self.inside.runtime in
    let o = c.self.inside.told in
    let q = c.reserve.new.self in
    let d = c.mark-ended in
    let r = c.reserve.ensures in
    let most = ap (λ (s : State). most_told s.host) c.self.view_is in
    let w : IsKeptWhole d.new.self o q d.new.out = kept-whole h d.new.self o q d.new.out c.self.invariant.0 r.items r.broken
    (omega (arith, c.in-Ok.ensures.ok c.self.invariant.0.whole, c.most_told-most.ensures, most)) c.keeps-2.ensures c.keeps.ensures _ (omega arith) d.ensures.few in
    let steps = d.ensures.marked.0 in (
      steps,
      subst (λ (s : State). IsMarkedOn c.args.units (machine s.host) (machine d.new.self) d.result 0 steps (told_all s.told) (told_all d.new.out.items)) c.self.view_is
          (marked-whole o q d.new.out w.waited w.before w.room.whole c.args.units (machine h) (machine d.new.self) d.result 0 steps d.ensures.marked.1),
    )

pub returns-clause-takes : goal.returns-clause-takes
returns-clause-takes c ds cannot =
    let h = c.self.inside.runtime in
    let o = c.self.inside.told in
    let q = c.reserve.new.self in
    let d = c.mark-ended in
    let r = c.reserve.ensures in
    let most = ap (λ (s : State). most_told s.host) c.self.view_is in
    let w : IsKeptWhole d.new.self o q d.new.out = kept-whole h d.new.self o q d.new.out c.self.invariant.0 r.items r.broken
    (omega (arith, c.in-Ok.ensures.ok c.self.invariant.0.whole, c.most_told-most.ensures, most)) c.keeps-2.ensures c.keeps.ensures _ (omega arith) d.ensures.few in
    subst (λ (s : State). Takes ds (told_all s.told) (told_all d.new.out.items)) c.self.view_is
    (takes-whole o q d.new.out w.waited w.before w.room.whole ds (d.ensures.takes ds (subst (λ (s : State). CannotMiss s.host ds) (sym c.self.view_is) cannot)))

pub returns-clause-freed_once : goal.returns-clause-freed_once
returns-clause-freed_once c =
    let h = c.self.inside.runtime in
    let o = c.self.inside.told in
    let q = c.reserve.new.self in
    let d = c.mark-ended in
    let r = c.reserve.ensures in
    let most = ap (λ (s : State). most_told s.host) c.self.view_is in
    let w : IsKeptWhole d.new.self o q d.new.out = kept-whole h d.new.self o q d.new.out c.self.invariant.0 r.items r.broken
    (omega (arith, c.in-Ok.ensures.ok c.self.invariant.0.whole, c.most_told-most.ensures, most)) c.keeps-2.ensures c.keeps.ensures _ (omega arith) d.ensures.few in
    subst (λ (s : State). TellsFreedOnce s.host d.new.self (told_all s.told) (told_all d.new.out.items)) c.self.view_is
    (once-whole o q d.new.out w.waited w.before w.room.whole h d.new.self d.ensures.freed_once)
