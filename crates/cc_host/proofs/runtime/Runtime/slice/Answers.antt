use Rattle.std.proofs.Common.{List, ◌<◌, subst, ◌+◌, length}
use Rattle.cc_names.specs.declared.name.Name.{Name}
use Rattle.cc_laws_run.specs.Missing.{lost}
use Rattle.cc_collector.specs.Collected.{progress_of}
use Rattle.cc_host.specs.Hosted.{Hosted, machine}
use Rattle.cc_host.specs.Missing.{CannotMiss, IsOfAGraph, TakesBySlice, TakesGarbage, WillTake}
use Rattle.cc_host.proofs.Keeping.{hosted}
use Rattle.cc_host.proofs.Collecting.{collected-keeps}
use Rattle.cc_host.proofs.Taking.{slice-takes, slice-takes_lost, marking-now, beside, is-running, slice-takes_later}
use Rattle.cc_host.specs.Calls.{TellsFew, Collects}
use Rattle.cc_host.proofs.Telling.{few-told, sliced-few}
use Rattle.cc_host.proofs.LastingCalls.{AreLasting, collected-lasts, collected-once, sliced-lasting}
use Rattle.cc_host.proofs.runtime.Runtime.slice.Given as given
use Rattle.cc_host.proofs.runtime.Runtime.slice.Goals as goal
use Rattle.cc_host.proofs.NextCalls.{collects-so, sliced-ended, sliced-rests, sliced-spends}

pub invariant_of-self : goal.invariant_of-self
invariant_of-self g c =
    let e = c.slice.ensures in
    collected-keeps c.self.inside.heaps c.slice.new.heaps c.self.inside.collector c.slice.new.collector c.self.inside.mark e.keeps e.suspected e.runs c.self.invariant

pub returns-clause-takes : goal.returns-clause-takes
returns-clause-takes g c =
    let e = c.slice.ensures in
    let telling = g.N.Notices.telling in
    let old : Hosted = hosted c.self.inside.heaps c.self.inside.collector c.self.inside.mark in
    let new : Hosted = hosted c.slice.new.heaps c.slice.new.collector c.self.inside.mark in
    subst (λ (h : Hosted). (ds : List Name) → CannotMiss h ds → TakesBySlice ds new (progress_of c.slice.result) (telling c.args.out.now) (telling c.slice.new.out)) c.self.view_is
    (slice-takes old c.self.invariant.runs c.args.units 0 e.sliced.0 new (progress_of c.slice.result) (telling c.args.out.now) (telling c.slice.new.out) e.sliced.1 e.stands)

pub returns-clause-begins : goal.returns-clause-begins
returns-clause-begins g c =
    let e = c.slice.ensures in
    let telling = g.N.Notices.telling in
    let old : Hosted = hosted c.self.inside.heaps c.self.inside.collector c.self.inside.mark in
    let new : Hosted = hosted c.slice.new.heaps c.slice.new.collector c.self.inside.mark in
    subst (λ (h : Hosted). 0 < c.args.units → IsOfAGraph h → TakesGarbage h →
    TakesBySlice (lost h.heaps.heap) new (progress_of c.slice.result) (telling c.args.out.now) (telling c.slice.new.out)) c.self.view_is
    (slice-takes_lost old c.self.invariant.runs c.args.units 0 e.sliced.0 new (progress_of c.slice.result) (telling c.args.out.now) (telling c.slice.new.out) e.sliced.1 e.stands)

pub returns-clause-few : goal.returns-clause-few
returns-clause-few g c =
    let e = c.slice.ensures in
    let telling = g.N.Notices.telling in
    let old : Hosted = hosted c.self.inside.heaps c.self.inside.collector c.self.inside.mark in
    let new : Hosted = hosted c.slice.new.heaps c.slice.new.collector c.self.inside.mark in
    let sound = c.self.invariant.runs.order.sound in
    let before = telling c.args.out.now in
    let after = telling c.slice.new.out in
    subst (λ (h : Hosted). TellsFew (length h.heaps.heap.natives + 1) h new before after) c.self.view_is
    (few-told (length old.heaps.heap.natives + 1) old new before after
    (sliced-few (machine old) (machine new) before after sound (marking-now old c.self.invariant.runs) c.args.units (progress_of c.slice.result) 0 e.sliced.0 e.sliced.1))

pub returns-clause-collects : goal.returns-clause-collects
returns-clause-collects g c =
    let e = c.slice.ensures in
    let telling = g.N.Notices.telling in
    let old : Hosted = hosted c.self.inside.heaps c.self.inside.collector c.self.inside.mark in
    let new : Hosted = hosted c.slice.new.heaps c.slice.new.collector c.self.inside.mark in
    let before = telling c.args.out.now in
    let after = telling c.slice.new.out in
    subst (λ (h : Hosted). Collects h new before after) c.self.view_is
    (collects-so c.self.inside.heaps c.slice.new.heaps c.self.inside.collector c.slice.new.collector c.self.inside.mark before after
    c.self.invariant.runs.order.sound e.stands e.keeps e.tells e.kept
    (λ P R stable least. sliced-rests P R stable least (machine old) (machine new) before after (marking-now old c.self.invariant.runs) c.args.units (progress_of c.slice.result) 0 e.sliced.0 e.sliced.1)
    (λ ds. sliced-spends ds (machine old) (machine new) before after (marking-now old c.self.invariant.runs) c.args.units (progress_of c.slice.result) 0 e.sliced.0 e.sliced.1)
    (λ g. let s = e.sliced.1 in let r = c.self.invariant.runs in
    sliced-ended (machine old) (machine new) (beside old r s.memory g.0) before after c.args.units (progress_of c.slice.result) 0 e.sliced.0 s (is-running old r s.memory g)))

pub returns-clause-later : goal.returns-clause-later
returns-clause-later g c =
    let e = c.slice.ensures in
    let telling = g.N.Notices.telling in
    let old : Hosted = hosted c.self.inside.heaps c.self.inside.collector c.self.inside.mark in
    let new : Hosted = hosted c.slice.new.heaps c.slice.new.collector c.self.inside.mark in
    subst (λ (h : Hosted). 0 < c.args.units → (ds : List Name) → WillTake h ds →
    TakesBySlice ds new (progress_of c.slice.result) (telling c.args.out.now) (telling c.slice.new.out)) c.self.view_is
    (slice-takes_later old c.self.invariant.runs c.args.units 0 e.sliced.0 new (progress_of c.slice.result) (telling c.args.out.now) (telling c.slice.new.out) e.sliced.1 e.stands
    c.self.invariant.suspected)

lasting : (g : given.Over) (c : goal.After-slice g) → AreLasting c.self.inside.heaps.heap c.slice.new.heaps.heap (g.N.Notices.telling c.args.out.now) (g.N.Notices.telling c.slice.new.out)
lasting g c =
    let e = c.slice.ensures in
    let old : Hosted = hosted c.self.inside.heaps c.self.inside.collector c.self.inside.mark in
    let new : Hosted = hosted c.slice.new.heaps c.slice.new.collector c.self.inside.mark in
    let t = g.N.Notices.telling c.args.out.now in
    let t1 = g.N.Notices.telling c.slice.new.out in
    let sound = c.self.invariant.runs.order.sound in
    sliced-lasting (machine old) (machine new) t t1 sound (marking-now old c.self.invariant.runs) c.args.units (progress_of c.slice.result) 0 e.sliced.0 e.sliced.1

pub returns-clause-lasts : goal.returns-clause-lasts
returns-clause-lasts g c =
    collected-lasts c.self.inside.heaps c.slice.new.heaps c.self.inside.collector c.slice.new.collector c.self.inside.mark (g.N.Notices.telling c.args.out.now) (g.N.Notices.telling c.slice.new.out) _
    c.self.view_is (lasting g c) c.self.invariant c.slice.ensures.kept

pub returns-clause-freed_once : goal.returns-clause-freed_once
returns-clause-freed_once g c =
    collected-once c.self.inside.heaps c.slice.new.heaps c.self.inside.collector c.slice.new.collector c.self.inside.mark (g.N.Notices.telling c.args.out.now) (g.N.Notices.telling c.slice.new.out) _
    c.self.view_is (lasting g c)
