use Rattle.std.proofs.Common.{List, subst, ◌+◌, length, []}
use Rattle.std.proofs.lemmas.Result.{on_ok_weaker, on_err_weaker}
use Rattle.cc_names.specs.declared.name.Name.{Name}
use Rattle.cc_collector.specs.Kept.{machine_of}
use Rattle.cc_host.specs.Hosted.{Hosted, machine}
use Rattle.cc_host.specs.Missing.{CannotMiss, Takes}
use Rattle.cc_host.proofs.Keeping.{hosted}
use Rattle.cc_host.proofs.Collecting.{collected-keeps}
use Rattle.cc_host.proofs.Taking.{on_both, settle-takes, unsettled-takes, beside, is-running}
use Rattle.cc_model.specs.End.{refused}
use Rattle.cc_host.specs.Calls.{TellsFew, Collects}
use Rattle.cc_host.proofs.Telling.{few-told, settled-few, unsettled-few}
use Rattle.cc_host.proofs.LastingCalls.{AreLasting, collected-lasts, collected-once, settled-lasting, unsettled-lasting}
use Rattle.cc_host.proofs.runtime.Runtime.settle.Given as given
use Rattle.cc_host.proofs.runtime.Runtime.settle.Goals as goal
use Rattle.cc_host.proofs.NextCalls.{collects-so, settled-ended, settled-rests, settled-spends, unsettled-ended, unsettled-rests, unsettled-spends}

pub invariant_of-self : goal.invariant_of-self
invariant_of-self g c =
    let e = c.settle.ensures in
    collected-keeps c.self.inside.heaps c.settle.new.heaps c.self.inside.collector c.settle.new.self c.self.inside.mark e.keeps e.suspected e.runs c.self.invariant

pub returns-clause-takes : goal.returns-clause-takes
returns-clause-takes g c =
    let e = c.settle.ensures in
    let r = c.settle.result in
    let telling = g.N.Notices.telling in
    let old : Hosted = hosted c.self.inside.heaps c.self.inside.collector c.self.inside.mark in
    let last = machine_of c.settle.new.heaps c.settle.new.self in
    subst (λ (h : Hosted). (ds : List Name) → CannotMiss h ds → Takes ds (telling c.args.out.now) (telling c.settle.new.out)) c.self.view_is
    (on_both r
    (on_ok_weaker r (settle-takes old c.self.invariant.runs last (telling c.args.out.now) (telling c.settle.new.out)) e.done)
    (on_err_weaker r (unsettled-takes old c.self.invariant.runs last (telling c.args.out.now) (telling c.settle.new.out)) e.refused))

pub returns-clause-few : goal.returns-clause-few
returns-clause-few g c =
    let e = c.settle.ensures in
    let telling = g.N.Notices.telling in
    let old : Hosted = hosted c.self.inside.heaps c.self.inside.collector c.self.inside.mark in
    let new : Hosted = hosted c.settle.new.heaps c.settle.new.self c.self.inside.mark in
    let sound = c.self.invariant.runs.order.sound in
    let before = telling c.args.out.now in
    let after = telling c.settle.new.out in
    subst (λ (h : Hosted). TellsFew ((length h.heaps.heap.natives + 1) + (length h.heaps.heap.natives + 1)) h new before after) c.self.view_is
    (few-told ((length old.heaps.heap.natives + 1) + (length old.heaps.heap.natives + 1)) old new before after
    (on_both c.settle.result
    (on_ok_weaker c.settle.result (settled-few (machine old) before sound (machine new) after) e.done)
    (on_err_weaker c.settle.result (unsettled-few (machine old) before sound (machine new) after refused) e.refused)))

pub returns-clause-collects : goal.returns-clause-collects
returns-clause-collects g c =
    let e = c.settle.ensures in
    let telling = g.N.Notices.telling in
    let old : Hosted = hosted c.self.inside.heaps c.self.inside.collector c.self.inside.mark in
    let new : Hosted = hosted c.settle.new.heaps c.settle.new.self c.self.inside.mark in
    let before = telling c.args.out.now in
    let after = telling c.settle.new.out in
    subst (λ (h : Hosted). Collects h new before after) c.self.view_is
    (collects-so c.self.inside.heaps c.settle.new.heaps c.self.inside.collector c.settle.new.self c.self.inside.mark before after
    c.self.invariant.runs.order.sound e.stands e.keeps e.tells e.kept
    (λ P R stable least r. on_both c.settle.result
    (on_ok_weaker c.settle.result (λ s. settled-rests P R stable least (machine old) (machine new) before after s r) e.done)
    (on_err_weaker c.settle.result (λ s. unsettled-rests P R stable least (machine old) (machine new) before after s r) e.refused))
    (λ ds r. on_both c.settle.result
    (on_ok_weaker c.settle.result (λ s. settled-spends ds (machine old) (machine new) before after s r) e.done)
    (on_err_weaker c.settle.result (λ s. unsettled-spends ds (machine old) (machine new) before after s r) e.refused))
    (λ g. let r = c.self.invariant.runs in
    on_both c.settle.result
    (on_ok_weaker c.settle.result (λ s. settled-ended (machine old) (machine new) (beside old r [] g.0) before after s (is-running old r s.collected.swept.memory g)) e.done)
    (on_err_weaker c.settle.result (λ s. unsettled-ended (machine old) (machine new) (beside old r [] g.0) before after s (is-running old r s.swept.memory g)) e.refused)))

lasting : (g : given.Over) (c : goal.After-settle g) → AreLasting c.self.inside.heaps.heap c.settle.new.heaps.heap (g.N.Notices.telling c.args.out.now) (g.N.Notices.telling c.settle.new.out)
lasting g c =
    let e = c.settle.ensures in
    let old : Hosted = hosted c.self.inside.heaps c.self.inside.collector c.self.inside.mark in
    let new : Hosted = hosted c.settle.new.heaps c.settle.new.self c.self.inside.mark in
    let t = g.N.Notices.telling c.args.out.now in
    let t1 = g.N.Notices.telling c.settle.new.out in
    let sound = c.self.invariant.runs.order.sound in
    on_both c.settle.result
    (on_ok_weaker c.settle.result (settled-lasting (machine old) t sound (machine new) t1) e.done)
    (on_err_weaker c.settle.result (unsettled-lasting (machine old) t sound (machine new) t1 refused) e.refused)

pub returns-clause-lasts : goal.returns-clause-lasts
returns-clause-lasts g c =
    collected-lasts c.self.inside.heaps c.settle.new.heaps c.self.inside.collector c.settle.new.self c.self.inside.mark (g.N.Notices.telling c.args.out.now) (g.N.Notices.telling c.settle.new.out) _
    c.self.view_is (lasting g c) c.self.invariant c.settle.ensures.kept

pub returns-clause-freed_once : goal.returns-clause-freed_once
returns-clause-freed_once g c =
    collected-once c.self.inside.heaps c.settle.new.heaps c.self.inside.collector c.settle.new.self c.self.inside.mark (g.N.Notices.telling c.args.out.now) (g.N.Notices.telling c.settle.new.out) _
    c.self.view_is (lasting g c)
