use Rattle.std.proofs.Common.{◌≡◌, true, false, [], Option, is_some, sym, ap, ◌∙◌, subst}
use Rattle.cc_markslice.specs.declared.marking.MarkStep.{MarkStep}
use Rattle.cc_builder.specs.Building.{Built}
use Rattle.cc_collector.specs.Kept.{Kept}
use Rattle.cc_collector.specs.Units.{HasFinishedMarking}
use Rattle.cc_collector.proofs.Marking.{HasStepped, alone-of, finished-none, finished-ended, marking-of, none-of, scanned_on-more, scanned_on-none}
use Rattle.cc_collector.proofs.collector.Collector.finish_marking.Goals as goal

-- No marking goes on

pub returns-in_default-clause-finished : goal.returns-in_default-clause-finished
returns-in_default-clause-finished g c =
    let none : c.args.self.now.marking ≡ false = sym (ap (λ (k : Kept). k.marking) c.self.view_is) ∙ ap is_some (sym c.take.ensures.value ∙ c.in_default.is) in
    finished-none c.args.heaps.now c.args.self.now.running (g.N.Notices.telling c.args.out.now) (alone-of c.args.heaps.now c.args.self.now c.requires none)

-- One goes on

pub steps-init : goal.steps-init
steps-init g c =
    let on : c.args.self.now.marking ≡ true = sym (ap (λ (k : Kept). k.marking) c.self.view_is) ∙ ap is_some (sym c.take.ensures.value ∙ c.in-Some.is) in
    record { on = scanned_on-none c.args.heaps.now (g.N.Notices.telling c.args.out.now) (marking-of c.args.heaps.now c.args.self.now c.requires on) }

pub step-requires-clause-order : goal.step-requires-clause-order
step-requires-clause-order g c = ([], c.steps.invariant.on.runs.order)

pub step-requires-clause-well : goal.step-requires-clause-well
step-requires-clause-well g c = c.steps.invariant.on.runs.marks.0

pub returns-in-Ended-clause-finished : goal.returns-in-Ended-clause-finished
returns-in-Ended-clause-finished g c =
    let telling = g.N.Notices.telling in
    let v = c.args.heaps.now in
    let u = c.step.new.heaps in
    let on : c.args.self.now.marking ≡ true = sym (ap (λ (k : Kept). k.marking) c.self.view_is) ∙ ap is_some (sym c.take.ensures.value ∙ c.in-Some.is) in
    let stepped : HasStepped c.step.result c.steps.heaps u (telling c.steps.out) (telling c.step.new.out) = search in
    subst (λ (d : Option Built). HasFinishedMarking v d u (telling c.args.out.now) (telling c.step.new.out))
    (sym (none-of v c.args.self.now c.requires on))
    (finished-ended v c.steps.heaps u (telling c.args.out.now) (telling c.steps.out) (telling c.step.new.out) c.steps.invariant.on
    (subst (λ (s : MarkStep). HasStepped s c.steps.heaps u (telling c.steps.out) (telling c.step.new.out)) c.in-Ended.is stepped))

pub steps-smaller : goal.steps-smaller
steps-smaller g c = c.step.ensures.less c.in-Scanned.is

pub steps-preserved : goal.steps-preserved
steps-preserved g c =
    let telling = g.N.Notices.telling in
    let u = c.step.new.heaps in
    let stepped : HasStepped c.step.result c.steps.heaps u (telling c.steps.out) (telling c.step.new.out) = search in
    record {
      on = scanned_on-more c.args.heaps.now c.steps.heaps u (telling c.args.out.now) (telling c.steps.out) (telling c.step.new.out) c.steps.invariant.on
          (subst (λ (s : MarkStep). HasStepped s c.steps.heaps u (telling c.steps.out) (telling c.step.new.out)) c.in-Scanned.is stepped);
    }
