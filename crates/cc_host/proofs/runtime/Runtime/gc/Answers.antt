use Rattle.std.proofs.Common.{List, ap, subst, ◌+◌, length}
use Rattle.cc_names.specs.declared.name.Name.{Name}
use Rattle.cc_collector.specs.Kept.{Kept, machine_of}
use Rattle.cc_host.specs.Hosted.{Hosted, machine}
use Rattle.cc_host.specs.Missing.{CannotMiss, Takes, IsOfAGraph, IsUsedWell, WillTake}
use Rattle.cc_host.proofs.Keeping.{hosted}
use Rattle.cc_host.proofs.Collecting.{collected-keeps}
use Rattle.cc_host.proofs.Taking.{gc-takes, gc-takes_garbage, beside, gc-will_take, is-running}
use Rattle.cc_host.specs.Calls.{TellsFew, Collects}
use Rattle.cc_host.proofs.Telling.{few-told, swept-few}
use Rattle.cc_host.proofs.LastingCalls.{AreLasting, collected-lasts, collected-once, swept-lasting}
use Rattle.cc_host.proofs.runtime.Runtime.gc.Given as given
use Rattle.cc_host.proofs.runtime.Runtime.gc.Goals as goal
use Rattle.cc_laws_run.specs.Missing.{lost}
use Rattle.cc_host.specs.Next.{FreesTheUnlinked}
use Rattle.cc_host.proofs.NextCalls.{collects-so, gc-frees_unlinked, swept-ended, swept-rests, swept-spends}

pub invariant_of-self : goal.invariant_of-self
invariant_of-self g c =
    let e = c.gc.ensures in
    collected-keeps c.self.inside.heaps c.gc.new.heaps c.self.inside.collector c.gc.new.self c.self.inside.mark e.keeps e.suspected e.runs c.self.invariant

pub returns-clause-takes : goal.returns-clause-takes
returns-clause-takes g c =
    let telling = g.N.Notices.telling in
    let old : Hosted = hosted c.self.inside.heaps c.self.inside.collector c.self.inside.mark in
    subst (λ (h : Hosted). (ds : List Name) → CannotMiss h ds → Takes ds (telling c.args.out.now) (telling c.gc.new.out)) c.self.view_is
    (gc-takes old c.self.invariant.runs (machine_of c.gc.new.heaps c.gc.new.self) (telling c.args.out.now) (telling c.gc.new.out) c.gc.ensures.swept)

pub returns-clause-garbage : goal.returns-clause-garbage
returns-clause-garbage g c =
    let telling = g.N.Notices.telling in
    let old : Hosted = hosted c.self.inside.heaps c.self.inside.collector c.self.inside.mark in
    let new : Hosted = hosted c.gc.new.heaps c.gc.new.self c.self.inside.mark in
    gc-takes_garbage old new (telling c.args.out.now) (telling c.gc.new.out) c.self.invariant (ap (λ (k : Kept). k.running) c.gc.ensures.over) (ap (λ (k : Kept). k.marking) c.gc.ensures.over) c.gc.ensures.swept

pub returns-clause-few : goal.returns-clause-few
returns-clause-few g c =
    let e = c.gc.ensures in
    let telling = g.N.Notices.telling in
    let old : Hosted = hosted c.self.inside.heaps c.self.inside.collector c.self.inside.mark in
    let new : Hosted = hosted c.gc.new.heaps c.gc.new.self c.self.inside.mark in
    let sound = c.self.invariant.runs.order.sound in
    let before = telling c.args.out.now in
    let after = telling c.gc.new.out in
    subst (λ (h : Hosted). TellsFew (length h.heaps.heap.natives + 1) h new before after) c.self.view_is
    (few-told (length old.heaps.heap.natives + 1) old new before after (swept-few (machine old) (machine new) before after sound e.swept))

pub returns-clause-collects : goal.returns-clause-collects
returns-clause-collects g c =
    let e = c.gc.ensures in
    let telling = g.N.Notices.telling in
    let old : Hosted = hosted c.self.inside.heaps c.self.inside.collector c.self.inside.mark in
    let new : Hosted = hosted c.gc.new.heaps c.gc.new.self c.self.inside.mark in
    let before = telling c.args.out.now in
    let after = telling c.gc.new.out in
    subst (λ (h : Hosted). Collects h new before after) c.self.view_is
    (collects-so c.self.inside.heaps c.gc.new.heaps c.self.inside.collector c.gc.new.self c.self.inside.mark before after
    c.self.invariant.runs.order.sound e.stands e.keeps e.tells e.kept
    (λ P R stable least. swept-rests P R stable least (machine old) (machine new) before after e.swept)
    (λ ds. swept-spends ds (machine old) (machine new) before after e.swept)
    (λ g. let s = e.swept in let r = c.self.invariant.runs in
    swept-ended (machine old) (machine new) (beside old r s.memory g.0) before after s (is-running old r s.memory g)))

pub returns-clause-frees : goal.returns-clause-frees
returns-clause-frees g c =
    let e = c.gc.ensures in
    let telling = g.N.Notices.telling in
    let old : Hosted = hosted c.self.inside.heaps c.self.inside.collector c.self.inside.mark in
    let new : Hosted = hosted c.gc.new.heaps c.gc.new.self c.self.inside.mark in
    subst (λ (h : Hosted). IsUsedWell h → FreesTheUnlinked h.heaps.heap new.heaps.heap) c.self.view_is
    (gc-frees_unlinked old new (telling c.args.out.now) (telling c.gc.new.out) c.self.invariant.runs.order.sound e.stands e.swept)

pub returns-clause-lost : goal.returns-clause-lost
returns-clause-lost g c =
    let e = c.gc.ensures in
    let telling = g.N.Notices.telling in
    let old : Hosted = hosted c.self.inside.heaps c.self.inside.collector c.self.inside.mark in
    let new : Hosted = hosted c.gc.new.heaps c.gc.new.self c.self.inside.mark in
    let kept = collected-keeps c.self.inside.heaps c.gc.new.heaps c.self.inside.collector c.gc.new.self c.self.inside.mark e.keeps e.suspected e.runs c.self.invariant in
    subst (λ (h : Hosted). IsOfAGraph h → WillTake new (lost new.heaps.heap)) c.self.view_is
    (gc-will_take old new (telling c.args.out.now) (telling c.gc.new.out) c.self.invariant kept (ap (λ (k : Kept). k.running) e.over) (ap (λ (k : Kept). k.marking) e.over) e.stands e.swept)

lasting : (g : given.Over) (c : goal.After-gc g) → AreLasting c.self.inside.heaps.heap c.gc.new.heaps.heap (g.N.Notices.telling c.args.out.now) (g.N.Notices.telling c.gc.new.out)
lasting g c =
    let e = c.gc.ensures in
    let old : Hosted = hosted c.self.inside.heaps c.self.inside.collector c.self.inside.mark in
    let new : Hosted = hosted c.gc.new.heaps c.gc.new.self c.self.inside.mark in
    let t = g.N.Notices.telling c.args.out.now in
    let t1 = g.N.Notices.telling c.gc.new.out in
    let sound = c.self.invariant.runs.order.sound in
    swept-lasting (machine old) (machine new) t t1 sound e.swept

pub returns-clause-lasts : goal.returns-clause-lasts
returns-clause-lasts g c =
    collected-lasts c.self.inside.heaps c.gc.new.heaps c.self.inside.collector c.gc.new.self c.self.inside.mark (g.N.Notices.telling c.args.out.now) (g.N.Notices.telling c.gc.new.out) _
    c.self.view_is (lasting g c) c.self.invariant c.gc.ensures.kept

pub returns-clause-freed_once : goal.returns-clause-freed_once
returns-clause-freed_once g c =
    collected-once c.self.inside.heaps c.gc.new.heaps c.self.inside.collector c.gc.new.self c.self.inside.mark (g.N.Notices.telling c.args.out.now) (g.N.Notices.telling c.gc.new.out) _
    c.self.view_is (lasting g c)
