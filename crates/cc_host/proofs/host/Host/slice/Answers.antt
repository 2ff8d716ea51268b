use Rattle.std.proofs.Common.{arith, ap, subst, sym}
use Rattle.cc_host.specs.Calls.{Collects}
use Rattle.cc_host.specs.Queues.{told_all}
use Rattle.cc_host.specs.Hosts.{State, most_told, progress_of as progress_now}
use Rattle.cc_host.proofs.Answering.{IsKeptWhole, kept-whole, progress-same}
use Rattle.cc_collector.specs.Collected.{IsSliced, progress_of}
use Rattle.cc_host.specs.Hosted.{machine}
use Rattle.cc_host.specs.Missing.{CannotMiss, IsOfAGraph, TakesBySlice, TakesGarbage, lost_in, WillTake}
use Rattle.cc_host.proofs.WholeTellings.{collects-whole, slice_takes-whole, sliced-whole}
use Rattle.cc_host.proofs.Booked.{booked-kept}
use Rattle.cc_host.specs.Lasting.{TellsFreedOnce}
use Rattle.cc_host.proofs.LastingTellings.{once-whole}
use Rattle.cc_host.proofs.host.Host.slice.Goals as goal

pub invariant_of-self-2 : goal.invariant_of-self-2
invariant_of-self-2 c =
    let h = c.self.inside.runtime in
    let o = c.self.inside.told in
    let q = c.reserve.new.self in
    let d = c.slice-ended in
    let r = c.reserve.ensures in
    let most = ap (λ (s : State). most_told s.host) c.self.view_is in
    let w : IsKeptWhole d.new.self o q d.new.out = kept-whole h d.new.self o q d.new.out c.self.invariant.0 r.items r.broken
    (omega (arith, c.in-Ok.ensures.ok c.self.invariant.0.whole, c.most_told-most.ensures, most)) c.keeps-2.ensures c.keeps.ensures _ (omega arith) d.ensures.few in
    (w.room, c.self.invariant.1, booked-kept c.self.inside.runtime d.new.self c.self.inside.book d.ensures.places c.self.invariant.2)

pub returns-clause-collects : goal.returns-clause-collects
returns-clause-collects c _ =
    let h = c.self.inside.runtime in
    let o = c.self.inside.told in
    let q = c.reserve.new.self in
    let d = c.slice-ended in
    let r = c.reserve.ensures in
    let most = ap (λ (s : State). most_told s.host) c.self.view_is in
    let w : IsKeptWhole d.new.self o q d.new.out = kept-whole h d.new.self o q d.new.out c.self.invariant.0 r.items r.broken
    (omega (arith, c.in-Ok.ensures.ok c.self.invariant.0.whole, c.most_told-most.ensures, most)) c.keeps-2.ensures c.keeps.ensures _ (omega arith) d.ensures.few in
    subst (λ (s : State). Collects s.host d.new.self (told_all s.told) (told_all d.new.out.items)) c.self.view_is
    (collects-whole o q d.new.out w.waited w.before w.room.whole h d.new.self d.ensures.collects)

pub returns-clause-sliced : goal.returns-clause-sliced
returns-clause-sliced c _ =
    let h = c.self.inside.runtime in
    let o = c.self.inside.told in
    let q = c.reserve.new.self in
    let d = c.slice-ended in
    let r = c.reserve.ensures in
    let most = ap (λ (s : State). most_told s.host) c.self.view_is in
    let w : IsKeptWhole d.new.self o q d.new.out = kept-whole h d.new.self o q d.new.out c.self.invariant.0 r.items r.broken
    (omega (arith, c.in-Ok.ensures.ok c.self.invariant.0.whole, c.most_told-most.ensures, most)) c.keeps-2.ensures c.keeps.ensures _ (omega arith) d.ensures.few in
    let steps = d.ensures.sliced.0 in (
      steps,
      subst (λ (s : State). IsSliced c.args.units (machine s.host) (machine d.new.self) (progress_now c.of_slice.result) 0 steps (told_all s.told) (told_all d.new.out.items)) c.self.view_is
          (subst (λ p. IsSliced c.args.units (machine h) (machine d.new.self) p 0 steps (told_all o.items) (told_all d.new.out.items)) (sym (progress-same d.result c.of_slice.result c.of_slice.ensures))
          (sliced-whole o q d.new.out w.waited w.before w.room.whole c.args.units (machine h) (machine d.new.self) (progress_of d.result) 0 steps d.ensures.sliced.1)),
    )

pub returns-clause-takes : goal.returns-clause-takes
returns-clause-takes c _ ds cannot =
    let h = c.self.inside.runtime in
    let o = c.self.inside.told in
    let q = c.reserve.new.self in
    let d = c.slice-ended in
    let r = c.reserve.ensures in
    let most = ap (λ (s : State). most_told s.host) c.self.view_is in
    let w : IsKeptWhole d.new.self o q d.new.out = kept-whole h d.new.self o q d.new.out c.self.invariant.0 r.items r.broken
    (omega (arith, c.in-Ok.ensures.ok c.self.invariant.0.whole, c.most_told-most.ensures, most)) c.keeps-2.ensures c.keeps.ensures _ (omega arith) d.ensures.few in
    subst (λ (s : State). TakesBySlice ds d.new.self (progress_now c.of_slice.result) (told_all s.told) (told_all d.new.out.items)) c.self.view_is
    (subst (λ p. TakesBySlice ds d.new.self p (told_all o.items) (told_all d.new.out.items)) (sym (progress-same d.result c.of_slice.result c.of_slice.ensures))
    (slice_takes-whole o q d.new.out w.waited w.before w.room.whole ds d.new.self (progress_of d.result)
    (d.ensures.takes ds (subst (λ (s : State). CannotMiss s.host ds) (sym c.self.view_is) cannot))))

pub returns-clause-begins : goal.returns-clause-begins
returns-clause-begins c _ some graph garbage =
    let h = c.self.inside.runtime in
    let o = c.self.inside.told in
    let q = c.reserve.new.self in
    let d = c.slice-ended in
    let r = c.reserve.ensures in
    let most = ap (λ (s : State). most_told s.host) c.self.view_is in
    let w : IsKeptWhole d.new.self o q d.new.out = kept-whole h d.new.self o q d.new.out c.self.invariant.0 r.items r.broken
    (omega (arith, c.in-Ok.ensures.ok c.self.invariant.0.whole, c.most_told-most.ensures, most)) c.keeps-2.ensures c.keeps.ensures _ (omega arith) d.ensures.few in
    subst (λ (s : State). TakesBySlice (lost_in s.host) d.new.self (progress_now c.of_slice.result) (told_all s.told) (told_all d.new.out.items)) c.self.view_is
    (subst (λ p. TakesBySlice (lost_in h) d.new.self p (told_all o.items) (told_all d.new.out.items)) (sym (progress-same d.result c.of_slice.result c.of_slice.ensures))
    (slice_takes-whole o q d.new.out w.waited w.before w.room.whole (lost_in h) d.new.self (progress_of d.result)
    (d.ensures.begins some (subst (λ (s : State). IsOfAGraph s.host) (sym c.self.view_is) graph) (subst (λ (s : State). TakesGarbage s.host) (sym c.self.view_is) garbage))))

pub returns-clause-later : goal.returns-clause-later
returns-clause-later c _ some ds will =
    let h = c.self.inside.runtime in
    let o = c.self.inside.told in
    let q = c.reserve.new.self in
    let d = c.slice-ended in
    let r = c.reserve.ensures in
    let most = ap (λ (s : State). most_told s.host) c.self.view_is in
    let w : IsKeptWhole d.new.self o q d.new.out = kept-whole h d.new.self o q d.new.out c.self.invariant.0 r.items r.broken
    (omega (arith, c.in-Ok.ensures.ok c.self.invariant.0.whole, c.most_told-most.ensures, most)) c.keeps-2.ensures c.keeps.ensures _ (omega arith) d.ensures.few in
    subst (λ (s : State). TakesBySlice ds d.new.self (progress_now c.of_slice.result) (told_all s.told) (told_all d.new.out.items)) c.self.view_is
    (subst (λ p. TakesBySlice ds d.new.self p (told_all o.items) (told_all d.new.out.items)) (sym (progress-same d.result c.of_slice.result c.of_slice.ensures))
    (slice_takes-whole o q d.new.out w.waited w.before w.room.whole ds d.new.self (progress_of d.result)
    (d.ensures.later some ds (subst (λ (s : State). WillTake s.host ds) (sym c.self.view_is) will))))

pub returns-clause-freed_once : goal.returns-clause-freed_once
returns-clause-freed_once c _ =
    let h = c.self.inside.runtime in
    let o = c.self.inside.told in
    let q = c.reserve.new.self in
    let d = c.slice-ended in
    let r = c.reserve.ensures in
    let most = ap (λ (s : State). most_told s.host) c.self.view_is in
    let w : IsKeptWhole d.new.self o q d.new.out = kept-whole h d.new.self o q d.new.out c.self.invariant.0 r.items r.broken
    (omega (arith, c.in-Ok.ensures.ok c.self.invariant.0.whole, c.most_told-most.ensures, most)) c.keeps-2.ensures c.keeps.ensures _ (omega arith) d.ensures.few in
    subst (λ (s : State). TellsFreedOnce s.host d.new.self (told_all s.told) (told_all d.new.out.items)) c.self.view_is
    (once-whole o q d.new.out w.waited w.before w.room.whole h d.new.self d.ensures.freed_once)
