use Rattle.std.proofs.Common.{◌≡◌, Bool, true, false, is_some, sym, ap, ◌∙◌, subst}
use Rattle.cc_markslice.specs.declared.marking.MarkStep.{MarkStep}
use Rattle.cc_collector.specs.declared.collector.Ended.TheVariants.{Yes, No}
use Rattle.cc_collector.specs.Kept.{Kept, RunsIn}
use Rattle.cc_collector.specs.Units.{HasMarkedUnit}
use Rattle.cc_collector.proofs.Marking.{HasStepped, kept-is, marked-begun, marked-scanned, marked-ended}
use Rattle.cc_collector.proofs.collector.Collector.mark_unit.Goals as goal

pub returns-in_default-clause-done : goal.returns-in_default-clause-done
returns-in_default-clause-done g c =
    let v = c.args.heaps.now in
    let t = g.N.Notices.telling c.args.out.now in
    let none : c.args.self.now.marking ≡ false = sym (ap (λ (k : Kept). k.marking) c.self.view_is) ∙ ap is_some c.in_default.is in
    let e = c.begin.ensures in
    subst (λ (b : Bool). HasMarkedUnit v b c.begin.new.heaps true No t t) (sym none)
    (marked-begun v c.begin.new.heaps t (subst (RunsIn v) (kept-is c.args.self.now false c.requires.alone none) c.requires.runs) e.marks e.well e.heap e.kept e.stands)

pub returns-in-Scanned-clause-done : goal.returns-in-Scanned-clause-done
returns-in-Scanned-clause-done g c =
    let v = c.args.heaps.now in
    let w = c.step.new.heaps in
    let t = g.N.Notices.telling c.args.out.now in
    let t₁ = g.N.Notices.telling c.step.new.out in
    let on : c.args.self.now.marking ≡ true = sym (ap (λ (k : Kept). k.marking) c.self.view_is) ∙ ap is_some c.in-Some.is in
    let stepped : HasStepped c.step.result v w t t₁ = search in
    subst (λ (b : Bool). HasMarkedUnit v b w true No t t₁) (sym on)
    (marked-scanned v w t t₁ (subst (RunsIn v) (kept-is c.args.self.now true c.requires.alone on) c.requires.runs)
    (subst (λ (s : MarkStep). HasStepped s v w t t₁) c.in-Scanned.is stepped))

pub returns-in-Ended-clause-done : goal.returns-in-Ended-clause-done
returns-in-Ended-clause-done g c =
    let v = c.args.heaps.now in
    let w = c.step.new.heaps in
    let t = g.N.Notices.telling c.args.out.now in
    let t₁ = g.N.Notices.telling c.step.new.out in
    let on : c.args.self.now.marking ≡ true = sym (ap (λ (k : Kept). k.marking) c.self.view_is) ∙ ap is_some c.in-Some.is in
    let stepped : HasStepped c.step.result v w t t₁ = search in
    subst (λ (b : Bool). HasMarkedUnit v b w false Yes t t₁) (sym on)
    (marked-ended v w t t₁ (subst (RunsIn v) (kept-is c.args.self.now true c.requires.alone on) c.requires.runs)
    (subst (λ (s : MarkStep). HasStepped s v w t t₁) c.in-Ended.is stepped))
