use Rattle.std.proofs.Common.{List, subst, ◌+◌, length}
use Rattle.cc_names.specs.declared.name.Name.{Name}
use Rattle.cc_host.specs.Hosted.{Hosted, machine}
use Rattle.cc_host.specs.Missing.{CannotMiss, Takes}
use Rattle.cc_host.proofs.Keeping.{hosted}
use Rattle.cc_host.proofs.Collecting.{collected-keeps}
use Rattle.cc_host.proofs.Taking.{mark-takes, marking-now, beside, is-running}
use Rattle.cc_host.specs.Calls.{TellsFew, Collects}
use Rattle.cc_host.proofs.Telling.{few-told, marked-few}
use Rattle.cc_host.proofs.LastingCalls.{AreLasting, collected-lasts, collected-once, marked-lasting}
use Rattle.cc_host.proofs.runtime.Runtime.mark.Given as given
use Rattle.cc_host.proofs.runtime.Runtime.mark.Goals as goal
use Rattle.cc_host.proofs.NextCalls.{collects-so, marked-ended, marked-rests, marked-spends}

pub invariant_of-self : goal.invariant_of-self
invariant_of-self g c =
    let e = c.mark.ensures in
    collected-keeps c.self.inside.heaps c.mark.new.heaps c.self.inside.collector c.mark.new.collector c.self.inside.mark e.keeps e.suspected e.runs c.self.invariant

pub returns-clause-takes : goal.returns-clause-takes
returns-clause-takes g c =
    let e = c.mark.ensures in
    let telling = g.N.Notices.telling in
    let old : Hosted = hosted c.self.inside.heaps c.self.inside.collector c.self.inside.mark in
    let new : Hosted = hosted c.mark.new.heaps c.mark.new.collector c.self.inside.mark in
    subst (λ (h : Hosted). (ds : List Name) → CannotMiss h ds → Takes ds (telling c.args.out.now) (telling c.mark.new.out)) c.self.view_is
    (mark-takes old c.self.invariant.runs c.args.units 0 e.marked.0 (machine new) c.mark.result (telling c.args.out.now) (telling c.mark.new.out) e.marked.1)

pub returns-clause-few : goal.returns-clause-few
returns-clause-few g c =
    let e = c.mark.ensures in
    let telling = g.N.Notices.telling in
    let old : Hosted = hosted c.self.inside.heaps c.self.inside.collector c.self.inside.mark in
    let new : Hosted = hosted c.mark.new.heaps c.mark.new.collector c.self.inside.mark in
    let sound = c.self.invariant.runs.order.sound in
    let before = telling c.args.out.now in
    let after = telling c.mark.new.out in
    subst (λ (h : Hosted). TellsFew (length h.heaps.heap.natives + 1) h new before after) c.self.view_is
    (few-told (length old.heaps.heap.natives + 1) old new before after
    (marked-few (machine old) (machine new) before after sound (marking-now old c.self.invariant.runs) c.args.units c.mark.result 0 e.marked.0 e.marked.1))

pub returns-clause-collects : goal.returns-clause-collects
returns-clause-collects g c =
    let e = c.mark.ensures in
    let telling = g.N.Notices.telling in
    let old : Hosted = hosted c.self.inside.heaps c.self.inside.collector c.self.inside.mark in
    let new : Hosted = hosted c.mark.new.heaps c.mark.new.collector c.self.inside.mark in
    let before = telling c.args.out.now in
    let after = telling c.mark.new.out in
    subst (λ (h : Hosted). Collects h new before after) c.self.view_is
    (collects-so c.self.inside.heaps c.mark.new.heaps c.self.inside.collector c.mark.new.collector c.self.inside.mark before after
    c.self.invariant.runs.order.sound e.stands e.keeps e.tells e.kept
    (λ P R stable least. marked-rests P R stable least (machine old) (machine new) before after (marking-now old c.self.invariant.runs) c.args.units c.mark.result 0 e.marked.0 e.marked.1)
    (λ ds. marked-spends ds (machine old) (machine new) before after (marking-now old c.self.invariant.runs) c.args.units c.mark.result 0 e.marked.0 e.marked.1)
    (λ g. let s = e.marked.1 in let r = c.self.invariant.runs in
    marked-ended (machine old) (machine new) (beside old r s.memory g.0) before after c.args.units c.mark.result 0 e.marked.0 s (is-running old r s.memory g)))

lasting : (g : given.Over) (c : goal.After-mark g) → AreLasting c.self.inside.heaps.heap c.mark.new.heaps.heap (g.N.Notices.telling c.args.out.now) (g.N.Notices.telling c.mark.new.out)
lasting g c =
    let e = c.mark.ensures in
    let old : Hosted = hosted c.self.inside.heaps c.self.inside.collector c.self.inside.mark in
    let new : Hosted = hosted c.mark.new.heaps c.mark.new.collector c.self.inside.mark in
    let t = g.N.Notices.telling c.args.out.now in
    let t1 = g.N.Notices.telling c.mark.new.out in
    let sound = c.self.invariant.runs.order.sound in
    marked-lasting (machine old) (machine new) t t1 sound (marking-now old c.self.invariant.runs) c.args.units c.mark.result 0 e.marked.0 e.marked.1

pub returns-clause-lasts : goal.returns-clause-lasts
returns-clause-lasts g c =
    collected-lasts c.self.inside.heaps c.mark.new.heaps c.self.inside.collector c.mark.new.collector c.self.inside.mark (g.N.Notices.telling c.args.out.now) (g.N.Notices.telling c.mark.new.out) _
    c.self.view_is (lasting g c) c.self.invariant c.mark.ensures.kept

pub returns-clause-freed_once : goal.returns-clause-freed_once
returns-clause-freed_once g c =
    collected-once c.self.inside.heaps c.mark.new.heaps c.self.inside.collector c.mark.new.collector c.self.inside.mark (g.N.Notices.telling c.args.out.now) (g.N.Notices.telling c.mark.new.out) _
    c.self.view_is (lasting g c)
