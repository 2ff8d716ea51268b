use Rattle.std.proofs.Common.{◌≡◌, ◌≢◌, ◌∙◌, Option, Some, sym, ap, subst, arith}
use Rattle.cc_model.specs.End.{refused}
use Rattle.cc_heaps.specs.Keyed.{Keyed}
use Rattle.cc_builder.specs.declared.build.Step.{Step}
use Rattle.cc_builder.specs.declared.build.Step.TheVariants.{Traversed, Gone, Complete}
use Rattle.cc_builder.specs.Building.{Built, snapshot_of}
use Rattle.cc_collector.specs.Kept.{RunsAlone}
use Rattle.cc_collector.specs.Sites.{Place}
use Rattle.cc_collector.specs.Units.{HasDoneUnit}
use Rattle.cc_collector.proofs.Keeping.{node-done, node-refused}
use Rattle.cc_collector.proofs.site.Site.unit.Goals as goal

-- a step that is not the last
traversed-goes_on : (s : Step) → s ≡ Traversed → s ≢ Complete
traversed-goes_on s e f = cc

gone-goes_on : (s : Step) → s ≡ Gone → s ≢ Complete
gone-goes_on s e f = cc

pub returns-in_default-clause-done : goal.returns-in_default-clause-done
returns-in_default-clause-done g c =
    let v = c.args.heaps.now in
    let w = c.abandon_running.new.heaps in
    let b = c.in-Some.build in
    let s = c.step-stepped.new.self in
    let t = g.N.Notices.telling c.args.out.now in
    let t₁ = g.N.Notices.telling c.abandon_running.new.out in
    let runs : c.args.self.now.running ≡ Some b = sym (ap (λ (p : Place). p.running) c.self.view_is) ∙ c.in-Some.is in
    let e = c.abandon_running.ensures in
    subst (λ (d : Option Built). HasDoneUnit v d w c.abandon_running.new.self.running refused t t₁) (sym runs)
    (subst (λ (d : Option Built). HasDoneUnit v (Some b) w d refused t t₁) (sym (ap (λ (p : Place). p.running) e.over))
    (node-refused v w b (snapshot_of s).candidates t t₁ (subst (RunsAlone v) runs c.requires.runs) c.in_default.ensures.refused
    c.step-stepped.ensures.candidates e.heap
    (record { order = e.unseen.order; colours = e.unseen.colours c.requires.runs.colours; goes_on = tt; unmarked = ap (λ (k : Keyed). k.marking) e.heap ∙ c.requires.runs.unmarked })
    e.unseen.stands e.suspected e.told))

pub returns-in-Traversed-clause-done : goal.returns-in-Traversed-clause-done
returns-in-Traversed-clause-done g c = grind (arith, traversed-goes_on, gone-goes_on, node-done, g.N.Notices.telling)
