use Rattle.std.proofs.Common.{[], Option, Some, sym, ◌∙◌, ap, subst}
use Rattle.cc_model.specs.End.{at_end}
use Rattle.cc_heaps.specs.Keyed.{Keyed}
use Rattle.cc_builder.specs.Building.{Built, snapshot_of}
use Rattle.cc_collector.specs.Units.{HasDoneUnit}
use Rattle.cc_collector.specs.Sites.{Place}
use Rattle.cc_collector.proofs.Keeping.{are-white, are-apart, end-done}
use Rattle.cc_collector.proofs.site.Site.end.Goals as goal

pub returns-clause-done : goal.returns-clause-done
returns-clause-done g c =
    let v = c.args.heaps.now in
    let w = c.collect_white-graph.new.heaps in
    let b = c.args.build in
    let t = g.N.Notices.telling c.args.out.now in
    let t₁ = g.N.Notices.telling c.collect_white-graph.new.out in
    let r = c.requires.runs in
    let traversed = c.requires.traversed in
    let whites = c.blackened.ensures.whites in
    let ended = c.collect_white-graph.ensures.ended in
    subst (λ (d : Option Built). HasDoneUnit v (Some b) w d at_end t t₁) (sym (ap (λ (p : Place). p.running) c.self.view_is ∙ c.requires.idle))
    (end-done v b c.blackened.result r traversed whites w t t₁ ended.heap
    (record { order = ended.kept.order [] r.order; colours = ended.kept.colours r.colours; goes_on = tt; unmarked = ap (λ (k : Keyed). k.marking) ended.heap ∙ r.unmarked })
    (ended.stands (are-apart v b c.blackened.result r traversed whites))
    (ended.suspected (snapshot_of b) (are-white v b c.blackened.result r traversed whites))
    ended.told)
