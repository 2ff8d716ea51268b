use Rattle.std.specs.Prelude.{OnOk}
use Rattle.std.proofs.Common.{List, subst, ◌+◌, length, []}
use Rattle.std.proofs.lemmas.Result.{on_ok_weaker, on_err_weaker}
use Rattle.cc_names.specs.declared.name.Name.{Name}
use Rattle.cc_model.specs.End.{at_end, refused}
use Rattle.cc_laws_run.specs.Missing.{lost}
use Rattle.cc_collector.specs.Kept.{machine_of}
use Rattle.cc_host.specs.Hosted.{Hosted, machine}
use Rattle.cc_host.specs.Missing.{CannotMiss, IsOfAGraph, Takes, TakesGarbage, TellsUnlinked, WillTake}
use Rattle.cc_host.proofs.Keeping.{hosted}
use Rattle.cc_host.proofs.Collecting.{collected-keeps}
use Rattle.cc_host.proofs.Taking.{on_both, collect-takes, collect-unlinks, collect-takes_lost, marking-now, beside, is-running, collect-takes_later}
use Rattle.cc_host.specs.Calls.{TellsFew, Collects}
use Rattle.cc_host.proofs.Telling.{collected-few, few-told}
use Rattle.cc_host.proofs.LastingCalls.{AreLasting, collected-lasts, collected-once, collected-lasting}
use Rattle.cc_host.proofs.runtime.Runtime.collect.Given as given
use Rattle.cc_host.proofs.runtime.Runtime.collect.Goals as goal
use Rattle.cc_host.proofs.NextCalls.{collected-ended, collected-rests, collected-spends, collects-so}

pub invariant_of-self : goal.invariant_of-self
invariant_of-self g c =
    let e = c.whole.ensures in
    collected-keeps c.self.inside.heaps c.whole.new.heaps c.self.inside.collector c.whole.new.self c.self.inside.mark e.keeps e.suspected e.runs c.self.invariant

pub returns-clause-takes : goal.returns-clause-takes
returns-clause-takes g c =
    let e = c.whole.ensures in
    let r = c.whole.result in
    let telling = g.N.Notices.telling in
    let old : Hosted = hosted c.self.inside.heaps c.self.inside.collector c.self.inside.mark in
    let takes = collect-takes old c.self.invariant.runs (machine_of c.whole.new.heaps c.whole.new.self) in
    subst (λ (h : Hosted). (ds : List Name) → CannotMiss h ds → Takes ds (telling c.args.out.now) (telling c.whole.new.out)) c.self.view_is
    (on_both r
    (on_ok_weaker r (takes at_end (telling c.args.out.now) (telling c.whole.new.out)) e.done)
    (on_err_weaker r (takes refused (telling c.args.out.now) (telling c.whole.new.out)) e.refused))

pub returns-clause-takes_if_done : goal.returns-clause-takes_if_done
returns-clause-takes_if_done g c =
    let r = c.whole.result in
    let telling = g.N.Notices.telling in
    let old : Hosted = hosted c.self.inside.heaps c.self.inside.collector c.self.inside.mark in
    subst (λ (h : Hosted). OnOk r ((ds : List Name) → CannotMiss h ds → TellsUnlinked ds (telling c.args.out.now) (telling c.whole.new.out))) c.self.view_is
    (on_ok_weaker r (collect-unlinks old c.self.invariant.runs (machine_of c.whole.new.heaps c.whole.new.self) (telling c.args.out.now) (telling c.whole.new.out)) c.whole.ensures.done)

pub returns-clause-begins : goal.returns-clause-begins
returns-clause-begins g c =
    let r = c.whole.result in
    let telling = g.N.Notices.telling in
    let old : Hosted = hosted c.self.inside.heaps c.self.inside.collector c.self.inside.mark in
    subst (λ (h : Hosted). OnOk r (IsOfAGraph h → TakesGarbage h → TellsUnlinked (lost h.heaps.heap) (telling c.args.out.now) (telling c.whole.new.out))) c.self.view_is
    (on_ok_weaker r (collect-takes_lost old c.self.invariant.runs (machine_of c.whole.new.heaps c.whole.new.self) (telling c.args.out.now) (telling c.whole.new.out)) c.whole.ensures.done)

pub returns-clause-few : goal.returns-clause-few
returns-clause-few g c =
    let e = c.whole.ensures in
    let telling = g.N.Notices.telling in
    let old : Hosted = hosted c.self.inside.heaps c.self.inside.collector c.self.inside.mark in
    let new : Hosted = hosted c.whole.new.heaps c.whole.new.self c.self.inside.mark in
    let sound = c.self.invariant.runs.order.sound in
    let before = telling c.args.out.now in
    let after = telling c.whole.new.out in
    let few = collected-few (machine old) (machine new) before after sound (marking-now old c.self.invariant.runs) in
    subst (λ (h : Hosted). TellsFew (length h.heaps.heap.natives + (length h.heaps.heap.natives + 1)) h new before after) c.self.view_is
    (few-told (length old.heaps.heap.natives + (length old.heaps.heap.natives + 1)) old new before after
    (on_both c.whole.result (on_ok_weaker c.whole.result (few at_end) e.done) (on_err_weaker c.whole.result (few refused) e.refused)))

pub returns-clause-collects : goal.returns-clause-collects
returns-clause-collects g c =
    let e = c.whole.ensures in
    let telling = g.N.Notices.telling in
    let old : Hosted = hosted c.self.inside.heaps c.self.inside.collector c.self.inside.mark in
    let new : Hosted = hosted c.whole.new.heaps c.whole.new.self c.self.inside.mark in
    let before = telling c.args.out.now in
    let after = telling c.whole.new.out in
    subst (λ (h : Hosted). Collects h new before after) c.self.view_is
    (collects-so c.self.inside.heaps c.whole.new.heaps c.self.inside.collector c.whole.new.self c.self.inside.mark before after
    c.self.invariant.runs.order.sound e.stands e.keeps e.tells e.kept
    (λ P R stable least r. let rests = collected-rests P R stable least (machine old) (machine new) before after (marking-now old c.self.invariant.runs) in
    on_both c.whole.result (on_ok_weaker c.whole.result (λ s. rests at_end s r) e.done) (on_err_weaker c.whole.result (λ s. rests refused s r) e.refused))
    (λ ds r. let spends = collected-spends ds (machine old) (machine new) before after (marking-now old c.self.invariant.runs) in
    on_both c.whole.result (on_ok_weaker c.whole.result (λ s. spends at_end s r) e.done) (on_err_weaker c.whole.result (λ s. spends refused s r) e.refused))
    (λ g. let r = c.self.invariant.runs in
    let ended = collected-ended (machine old) (machine new) (beside old r [] g.0) before after in
    on_both c.whole.result (on_ok_weaker c.whole.result (λ s. ended at_end s (is-running old r s.memory g)) e.done)
    (on_err_weaker c.whole.result (λ s. ended refused s (is-running old r s.memory g)) e.refused)))

pub returns-clause-later : goal.returns-clause-later
returns-clause-later g c =
    let r = c.whole.result in
    let telling = g.N.Notices.telling in
    let old : Hosted = hosted c.self.inside.heaps c.self.inside.collector c.self.inside.mark in
    subst (λ (h : Hosted). OnOk r ((ds : List Name) → WillTake h ds → TellsUnlinked ds (telling c.args.out.now) (telling c.whole.new.out))) c.self.view_is
    (on_ok_weaker r (λ s. collect-takes_later old c.self.invariant.runs (machine_of c.whole.new.heaps c.whole.new.self) (telling c.args.out.now) (telling c.whole.new.out) s c.self.invariant.suspected)
    c.whole.ensures.done)

lasting : (g : given.Over) (c : goal.After-whole g) → AreLasting c.self.inside.heaps.heap c.whole.new.heaps.heap (g.N.Notices.telling c.args.out.now) (g.N.Notices.telling c.whole.new.out)
lasting g c =
    let e = c.whole.ensures in
    let old : Hosted = hosted c.self.inside.heaps c.self.inside.collector c.self.inside.mark in
    let new : Hosted = hosted c.whole.new.heaps c.whole.new.self c.self.inside.mark in
    let t = g.N.Notices.telling c.args.out.now in
    let t1 = g.N.Notices.telling c.whole.new.out in
    let sound = c.self.invariant.runs.order.sound in
    let are = collected-lasting (machine old) (machine new) t t1 sound (marking-now old c.self.invariant.runs) in
    on_both c.whole.result (on_ok_weaker c.whole.result (are at_end) e.done) (on_err_weaker c.whole.result (are refused) e.refused)

pub returns-clause-lasts : goal.returns-clause-lasts
returns-clause-lasts g c =
    collected-lasts c.self.inside.heaps c.whole.new.heaps c.self.inside.collector c.whole.new.self c.self.inside.mark (g.N.Notices.telling c.args.out.now) (g.N.Notices.telling c.whole.new.out) _
    c.self.view_is (lasting g c) c.self.invariant c.whole.ensures.kept

pub returns-clause-freed_once : goal.returns-clause-freed_once
returns-clause-freed_once g c =
    collected-once c.self.inside.heaps c.whole.new.heaps c.self.inside.collector c.whole.new.self c.self.inside.mark (g.N.Notices.telling c.args.out.now) (g.N.Notices.telling c.whole.new.out) _
    c.self.view_is (lasting g c)
