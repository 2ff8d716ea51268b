use Rattle.std.proofs.Common.{arith, ap, subst, sym, List}
use Rattle.cc_host.specs.Calls.{Collects}
use Rattle.cc_host.specs.Queues.{telling_of, told_all}
use Rattle.cc_host.specs.Hosts.{State, most_told}
use Rattle.cc_host.proofs.Answering.{IsKeptWhole, kept-whole, on_ok, wanted, went-well}
use Rattle.cc_model.specs.End.{at_end, refused}
use Rattle.cc_names.specs.declared.name.Name.{Name}
use Rattle.cc_collector.specs.Collected.{IsCollected}
use Rattle.cc_host.specs.Hosted.{machine}
use Rattle.cc_host.specs.Missing.{CannotMiss, IsOfAGraph, Takes, TakesGarbage, TellsUnlinked, lost_in, WillTake}
use Rattle.cc_host.proofs.WholeTellings.{collected-whole, collects-whole, takes-whole, unlinked-whole}
use Rattle.cc_host.proofs.Booked.{booked-kept}
use Rattle.cc_host.specs.Lasting.{TellsFreedOnce}
use Rattle.cc_host.proofs.LastingTellings.{once-whole}
use Rattle.cc_host.proofs.host.Host.collect.Goals as goal

pub invariant_of-self-2 : goal.invariant_of-self-2
invariant_of-self-2 c =
    let h = c.self.inside.runtime in
    let o = c.self.inside.told in
    let q = c.reserve.new.self in
    let d = c.collect-done in
    let r = c.reserve.ensures in
    let most = ap (λ (s : State). most_told s.host) c.self.view_is in
    let w : IsKeptWhole d.new.self o q d.new.out = kept-whole h d.new.self o q d.new.out c.self.invariant.0 r.items r.broken
    (omega (arith, c.in-Ok.ensures.ok c.self.invariant.0.whole, c.most_told-most.ensures, most)) c.keeps-2.ensures c.keeps.ensures _ (omega arith) d.ensures.few in
    (w.room, c.self.invariant.1, booked-kept c.self.inside.runtime d.new.self c.self.inside.book d.ensures.places c.self.invariant.2)

pub returns-clause-collects : goal.returns-clause-collects
returns-clause-collects c _ =
    let h = c.self.inside.runtime in
    let o = c.self.inside.told in
    let q = c.reserve.new.self in
    let d = c.collect-done in
    let r = c.reserve.ensures in
    let most = ap (λ (s : State). most_told s.host) c.self.view_is in
    let w : IsKeptWhole d.new.self o q d.new.out = kept-whole h d.new.self o q d.new.out c.self.invariant.0 r.items r.broken
    (omega (arith, c.in-Ok.ensures.ok c.self.invariant.0.whole, c.most_told-most.ensures, most)) c.keeps-2.ensures c.keeps.ensures _ (omega arith) d.ensures.few in
    subst (λ (s : State). Collects s.host d.new.self (told_all s.told) (told_all d.new.out.items)) c.self.view_is
    (collects-whole o q d.new.out w.waited w.before w.room.whole h d.new.self d.ensures.collects)

pub returns-clause-done : goal.returns-clause-done
returns-clause-done c =
    let h = c.self.inside.runtime in
    let o = c.self.inside.told in
    let q = c.reserve.new.self in
    let d = c.collect-done in
    let r = c.reserve.ensures in
    let most = ap (λ (s : State). most_told s.host) c.self.view_is in
    let w : IsKeptWhole d.new.self o q d.new.out = kept-whole h d.new.self o q d.new.out c.self.invariant.0 r.items r.broken
    (omega (arith, c.in-Ok.ensures.ok c.self.invariant.0.whole, c.most_told-most.ensures, most)) c.keeps-2.ensures c.keeps.ensures _ (omega arith) d.ensures.few in
    let done = λ (e : IsCollected (machine h) (machine d.new.self) at_end (telling_of q) (telling_of d.new.out)). subst (λ (s : State). IsCollected (machine s.host) (machine d.new.self) at_end (told_all s.told) (told_all d.new.out.items)) c.self.view_is
    (collected-whole o q d.new.out w.waited w.before w.room.whole (machine h) (machine d.new.self) at_end e) in
    went-well _ d.result c.of_whole.result c.of_whole.ensures (on_ok d.result done d.ensures.done)

pub returns-clause-refused : goal.returns-clause-refused
returns-clause-refused c wants =
    let h = c.self.inside.runtime in
    let o = c.self.inside.told in
    let q = c.reserve.new.self in
    let d = c.collect-done in
    let r = c.reserve.ensures in
    let most = ap (λ (s : State). most_told s.host) c.self.view_is in
    let w : IsKeptWhole d.new.self o q d.new.out = kept-whole h d.new.self o q d.new.out c.self.invariant.0 r.items r.broken
    (omega (arith, c.in-Ok.ensures.ok c.self.invariant.0.whole, c.most_told-most.ensures, most)) c.keeps-2.ensures c.keeps.ensures _ (omega arith) d.ensures.few in
    subst (λ (s : State). IsCollected (machine s.host) (machine d.new.self) refused (told_all s.told) (told_all d.new.out.items)) c.self.view_is
    (collected-whole o q d.new.out w.waited w.before w.room.whole (machine h) (machine d.new.self) refused (wanted _ d.result c.of_whole.result c.of_whole.ensures d.ensures.refused wants))

pub returns-clause-takes : goal.returns-clause-takes
returns-clause-takes c _ ds cannot =
    let h = c.self.inside.runtime in
    let o = c.self.inside.told in
    let q = c.reserve.new.self in
    let d = c.collect-done in
    let r = c.reserve.ensures in
    let most = ap (λ (s : State). most_told s.host) c.self.view_is in
    let w : IsKeptWhole d.new.self o q d.new.out = kept-whole h d.new.self o q d.new.out c.self.invariant.0 r.items r.broken
    (omega (arith, c.in-Ok.ensures.ok c.self.invariant.0.whole, c.most_told-most.ensures, most)) c.keeps-2.ensures c.keeps.ensures _ (omega arith) d.ensures.few in
    subst (λ (s : State). Takes ds (told_all s.told) (told_all d.new.out.items)) c.self.view_is
    (takes-whole o q d.new.out w.waited w.before w.room.whole ds (d.ensures.takes ds (subst (λ (s : State). CannotMiss s.host ds) (sym c.self.view_is) cannot)))

pub returns-clause-takes_if_done : goal.returns-clause-takes_if_done
returns-clause-takes_if_done c =
    let h = c.self.inside.runtime in
    let o = c.self.inside.told in
    let q = c.reserve.new.self in
    let d = c.collect-done in
    let r = c.reserve.ensures in
    let most = ap (λ (s : State). most_told s.host) c.self.view_is in
    let w : IsKeptWhole d.new.self o q d.new.out = kept-whole h d.new.self o q d.new.out c.self.invariant.0 r.items r.broken
    (omega (arith, c.in-Ok.ensures.ok c.self.invariant.0.whole, c.most_told-most.ensures, most)) c.keeps-2.ensures c.keeps.ensures _ (omega arith) d.ensures.few in
    let done = λ (e : (ds : List Name) → CannotMiss h ds → TellsUnlinked ds (telling_of q) (telling_of d.new.out)) (ds : List Name) (cannot : CannotMiss c.args.self.now.host ds).
    subst (λ (s : State). TellsUnlinked ds (told_all s.told) (told_all d.new.out.items)) c.self.view_is
    (unlinked-whole o q d.new.out w.waited w.before w.room.whole ds (e ds (subst (λ (s : State). CannotMiss s.host ds) (sym c.self.view_is) cannot))) in
    went-well _ d.result c.of_whole.result c.of_whole.ensures (on_ok d.result done d.ensures.takes_if_done)

pub returns-clause-begins : goal.returns-clause-begins
returns-clause-begins c =
    let h = c.self.inside.runtime in
    let o = c.self.inside.told in
    let q = c.reserve.new.self in
    let d = c.collect-done in
    let r = c.reserve.ensures in
    let most = ap (λ (s : State). most_told s.host) c.self.view_is in
    let w : IsKeptWhole d.new.self o q d.new.out = kept-whole h d.new.self o q d.new.out c.self.invariant.0 r.items r.broken
    (omega (arith, c.in-Ok.ensures.ok c.self.invariant.0.whole, c.most_told-most.ensures, most)) c.keeps-2.ensures c.keeps.ensures _ (omega arith) d.ensures.few in
    let done = λ (e : IsOfAGraph h → TakesGarbage h → TellsUnlinked (lost_in h) (telling_of q) (telling_of d.new.out)) (graph : IsOfAGraph c.args.self.now.host) (garbage : TakesGarbage c.args.self.now.host).
    subst (λ (s : State). TellsUnlinked (lost_in s.host) (told_all s.told) (told_all d.new.out.items)) c.self.view_is
    (unlinked-whole o q d.new.out w.waited w.before w.room.whole (lost_in h)
    (e (subst (λ (s : State). IsOfAGraph s.host) (sym c.self.view_is) graph) (subst (λ (s : State). TakesGarbage s.host) (sym c.self.view_is) garbage))) in
    went-well _ d.result c.of_whole.result c.of_whole.ensures (on_ok d.result done d.ensures.begins)

pub returns-clause-later : goal.returns-clause-later
returns-clause-later c =
    let h = c.self.inside.runtime in
    let o = c.self.inside.told in
    let q = c.reserve.new.self in
    let d = c.collect-done in
    let r = c.reserve.ensures in
    let most = ap (λ (s : State). most_told s.host) c.self.view_is in
    let w : IsKeptWhole d.new.self o q d.new.out = kept-whole h d.new.self o q d.new.out c.self.invariant.0 r.items r.broken
    (omega (arith, c.in-Ok.ensures.ok c.self.invariant.0.whole, c.most_told-most.ensures, most)) c.keeps-2.ensures c.keeps.ensures _ (omega arith) d.ensures.few in
    let done = λ (e : (ds : List Name) → WillTake h ds → TellsUnlinked ds (telling_of q) (telling_of d.new.out)) (ds : List Name) (will : WillTake c.args.self.now.host ds).
    subst (λ (s : State). TellsUnlinked ds (told_all s.told) (told_all d.new.out.items)) c.self.view_is
    (unlinked-whole o q d.new.out w.waited w.before w.room.whole ds (e ds (subst (λ (s : State). WillTake s.host ds) (sym c.self.view_is) will))) in
    went-well _ d.result c.of_whole.result c.of_whole.ensures (on_ok d.result done d.ensures.later)

pub returns-clause-freed_once : goal.returns-clause-freed_once
returns-clause-freed_once c _ =
    let h = c.self.inside.runtime in
    let o = c.self.inside.told in
    let q = c.reserve.new.self in
    let d = c.collect-done in
    let r = c.reserve.ensures in
    let most = ap (λ (s : State). most_told s.host) c.self.view_is in
    let w : IsKeptWhole d.new.self o q d.new.out = kept-whole h d.new.self o q d.new.out c.self.invariant.0 r.items r.broken
    (omega (arith, c.in-Ok.ensures.ok c.self.invariant.0.whole, c.most_told-most.ensures, most)) c.keeps-2.ensures c.keeps.ensures _ (omega arith) d.ensures.few in
    subst (λ (s : State). TellsFreedOnce s.host d.new.self (told_all s.told) (told_all d.new.out.items)) c.self.view_is
    (once-whole o q d.new.out w.waited w.before w.room.whole h d.new.self d.ensures.freed_once)
