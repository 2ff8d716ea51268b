use Rattle.std.proofs.Common.{◌≡◌, [], false, None, sym, ap, ◌∙◌, subst}
use Rattle.cc_model.specs.Sweep.{collect_scripts}
use Rattle.cc_collector.specs.Kept.{Kept}
use Rattle.cc_collector.specs.Units.{HasSpared}
use Rattle.cc_collector.proofs.Marking.{marking_with}
use Rattle.cc_collector.proofs.MakingWay.{HasSwept, dropped-in, dropped-kept, dropped-way, swept}
use Rattle.cc_collector.proofs.collector.Collector.gc.Given as given
use Rattle.cc_collector.proofs.collector.Collector.gc.Goals as goal
use Rattle.cc_collector.proofs.collector.Collector.gc.Goals.{After-collect_scripts}

pub finish_running-refused-requires : goal.finish_running-refused-requires
finish_running-refused-requires g c =
    let d = c.drop_marking.ensures in
    dropped-in c.args.heaps.now c.args.self.now c.requires.runs c.drop_marking.new.heaps c.drop_marking.new.self d.heaps d.over d.kept

pub collect_scripts-requires : goal.collect_scripts-requires
collect_scripts-requires g c =
    let telling = g.N.Notices.telling in
    let d = c.drop_marking.ensures in
    let e = c.finish_running-refused.ensures in
    let way = dropped-way c.args.heaps.now c.args.self.now c.requires.runs c.drop_marking.new.heaps c.drop_marking.new.self d.heaps d.over d.kept c.finish_running-refused.result
    c.finish_running-refused.new.heaps (telling c.args.out.now) (telling c.finish_running-refused.new.out) e.done e.refused e.ran in
    record { order = ([], way.runs.order) }

-- all that is promised
done : (g : given.Over) (c : After-collect_scripts g) → HasSwept c.args.heaps.now c.args.self.now c.collect_scripts.new.heaps c.finish_running-refused.new.self
    (g.N.Notices.telling c.args.out.now) (g.N.Notices.telling c.collect_scripts.new.out)
done g c =
    let telling = g.N.Notices.telling in
    let d = c.drop_marking.ensures in
    let f = c.finish_running-refused.ensures in
    let e = c.collect_scripts.ensures in
    let v = c.args.heaps.now in
    let k = c.args.self.now in
    let w = c.finish_running-refused.new.heaps in
    let u = c.collect_scripts.new.heaps in
    let t = telling c.args.out.now in
    let t₂ = telling c.collect_scripts.new.out in
    let over : c.finish_running-refused.new.self ≡ marking_with false =
    c.finish_running-refused.ensures.over ∙ ap (λ (q : Kept). record q { running = None }) c.drop_marking.ensures.over in
    let second : HasSpared w None u None (collect_scripts w.heap).events = record { keeps = e.keeps; spares = e.spares; stands = e.stands; suspected = e.suspected; kept = e.kept } in
    subst (λ (q : Kept). HasSwept v k u q t t₂) (sym over)
    (swept v k c.requires.runs (dropped-kept v k c.requires.runs c.drop_marking.new.heaps c.drop_marking.new.self d.heaps d.over d.kept) w u t (telling c.finish_running-refused.new.out) t₂
    (dropped-way v k c.requires.runs c.drop_marking.new.heaps c.drop_marking.new.self d.heaps d.over d.kept c.finish_running-refused.result w t
    (telling c.finish_running-refused.new.out) f.done f.refused f.ran) e.heap e.marking e.told second e.invariant)

pub returns-clause-swept : goal.returns-clause-swept
returns-clause-swept g c = (done g c).swept

pub returns-clause-over : goal.returns-clause-over
returns-clause-over g c = c.finish_running-refused.ensures.over ∙ ap (λ (q : Kept). record q { running = None }) c.drop_marking.ensures.over

pub returns-clause-keeps : goal.returns-clause-keeps
returns-clause-keeps g c = (done g c).spared.keeps

pub returns-clause-tells : goal.returns-clause-tells
returns-clause-tells g c = let s = done g c in record { events = s.events; told = s.told; unreached = s.spared.spares }

pub returns-clause-stands : goal.returns-clause-stands
returns-clause-stands g c = (done g c).spared.stands

pub returns-clause-suspected : goal.returns-clause-suspected
returns-clause-suspected g c = λ s. (done g c).spared.suspected s

pub returns-clause-kept : goal.returns-clause-kept
returns-clause-kept g c = (done g c).spared.kept

pub returns-clause-runs : goal.returns-clause-runs
returns-clause-runs g c = (done g c).runs
