use Rattle.std.proofs.Common.{◌≡◌, ℕ, ◌+◌, ◌<◌, Bool, refl, sym, ap, subst, arith}
use Rattle.cc_collector.specs.declared.collector.Ended.{Ended}
use Rattle.cc_collector.specs.declared.collector.Ended.TheVariants.{Yes, No}
use Rattle.cc_collector.specs.Kept.{Kept, RunsIn}
use Rattle.cc_collector.specs.Units.{HasMarkedUnit}
use Rattle.cc_collector.proofs.Marking.{kept-is, marking_with}
use Rattle.cc_collector.proofs.MakingWay.{HasMadeWay, way-made}
use Rattle.cc_collector.proofs.MarkingOn.{HasMarked, HasMarkedOn, marked_on-none, marked_on-more, marked-went_on, marked-ended}
use Rattle.cc_collector.proofs.collector.Collector.mark.Given as given
use Rattle.cc_collector.proofs.collector.Collector.mark.Goals as goal
use Rattle.cc_collector.proofs.collector.Collector.mark.Goals.{After-loop, In-Yes}

-- a running collection made way
way : (g : given.Over) (c : goal.After-finish_running-refused g) →
    HasMadeWay c.args.heaps.now c.args.self.now c.finish_running-refused.new.heaps (g.N.Notices.telling c.args.out.now) (g.N.Notices.telling c.finish_running-refused.new.out)
way g c =
    let e = c.finish_running-refused.ensures in
    way-made c.args.heaps.now c.args.self.now c.requires.runs c.finish_running-refused.result c.finish_running-refused.new.heaps
    (g.N.Notices.telling c.args.out.now) (g.N.Notices.telling c.finish_running-refused.new.out) e.done e.refused e.ran

pub loop-init : goal.loop-init
loop-init g c =
    let m = c.finish_running-refused.new.heaps in
    let over = c.finish_running-refused.ensures.over in
    record {
      way = way g c;
      on = marked_on-none m c.finish_running-refused.new.self.marking (g.N.Notices.telling c.finish_running-refused.new.out)
          (subst (λ (b : Bool). RunsIn m (marking_with b)) (sym (ap (λ (k : Kept). k.marking) over)) (way g c).runs);
      alone = ap (λ (k : Kept). k.running) over;
      counted = omega arith;
    }

pub mark_unit-ended-requires-clause-runs : goal.mark_unit-ended-requires-clause-runs
mark_unit-ended-requires-clause-runs g c =
    let i = c.loop.invariant in
    subst (RunsIn c.loop.heaps) (sym (kept-is c.loop.self c.loop.self.marking i.alone refl)) i.on.runs

pub mark_unit-ended-requires-clause-alone : goal.mark_unit-ended-requires-clause-alone
mark_unit-ended-requires-clause-alone g c = c.loop.invariant.alone

-- It goes on

pub loop-preserved : goal.loop-preserved
loop-preserved g c =
    let telling = g.N.Notices.telling in
    let i = c.loop.invariant in
    let u = c.mark_unit-ended.new.heaps in
    record {
      way = i.way;
      on = marked_on-more c.loop.counter c.finish_running-refused.new.heaps c.loop.heaps c.loop.self.marking u c.mark_unit-ended.new.self.marking
          (telling c.finish_running-refused.new.out) (telling c.loop.out) (telling c.mark_unit-ended.new.out) i.on
          (subst (λ (e : Ended). HasMarkedUnit c.loop.heaps c.loop.self.marking u c.mark_unit-ended.new.self.marking e (telling c.loop.out) (telling c.mark_unit-ended.new.out))
          c.in_default.is c.mark_unit-ended.ensures.done);
      alone = c.mark_unit-ended.ensures.alone;
      counted = omega (arith, i.counted, c.tick.ensures);
    }

-- A unit ended the marking

-- all that is promised then
ended : (g : given.Over) (c : In-Yes g) → HasMarked c.args.units c.args.heaps.now c.args.self.now c.mark_unit-ended.new.heaps c.mark_unit-ended.new.self c.mark_unit-ended.result
    c.args.steps.now c.tick.new.self (g.N.Notices.telling c.args.out.now) (g.N.Notices.telling c.mark_unit-ended.new.out)
ended g c =
    let telling = g.N.Notices.telling in
    let v = c.args.heaps.now in
    let k = c.args.self.now in
    let w = c.mark_unit-ended.new.heaps in
    let has = c.mark_unit-ended.new.self in
    let t = telling c.args.out.now in
    let t₁ = telling c.mark_unit-ended.new.out in
    let one = subst (λ (e : Ended). HasMarkedUnit c.loop.heaps c.loop.self.marking w has.marking e (telling c.loop.out) t₁) c.in-Yes.is c.mark_unit-ended.ensures.done in
    let counted : c.tick.new.self ≡ c.args.steps.now + c.loop.counter + 1 = omega (arith, c.loop.invariant.counted, c.tick.ensures) in
    let less : c.loop.counter < c.args.units = omega arith in
    subst (λ (e : Ended). HasMarked c.args.units v k w has e c.args.steps.now c.tick.new.self t t₁) (sym c.in-Yes.is)
    (subst (λ (l : Kept). HasMarked c.args.units v k w l Yes c.args.steps.now c.tick.new.self t t₁) (sym (kept-is has has.marking c.mark_unit-ended.ensures.alone refl))
    (marked-ended v k c.requires.runs c.finish_running-refused.new.heaps t (telling c.finish_running-refused.new.out) c.loop.invariant.way c.args.units c.loop.counter c.loop.heaps c.loop.self.marking
    w has.marking c.args.steps.now c.tick.new.self (telling c.loop.out) t₁ less c.loop.invariant.on one counted))

pub returns-in-Yes-clause-marked : goal.returns-in-Yes-clause-marked
returns-in-Yes-clause-marked g c = (ended g c).marked

pub returns-in-Yes-clause-keeps : goal.returns-in-Yes-clause-keeps
returns-in-Yes-clause-keeps g c = (ended g c).spared.keeps

pub returns-in-Yes-clause-tells : goal.returns-in-Yes-clause-tells
returns-in-Yes-clause-tells g c = let e = ended g c in record { events = e.events; told = e.told; unreached = e.spared.spares }

pub returns-in-Yes-clause-stands : goal.returns-in-Yes-clause-stands
returns-in-Yes-clause-stands g c = (ended g c).spared.stands

pub returns-in-Yes-clause-suspected : goal.returns-in-Yes-clause-suspected
returns-in-Yes-clause-suspected g c = λ s. (ended g c).spared.suspected s

pub returns-in-Yes-clause-kept : goal.returns-in-Yes-clause-kept
returns-in-Yes-clause-kept g c = (ended g c).spared.kept

-- All units are done

-- all that is promised then
done : (g : given.Over) (c : After-loop g) → HasMarked c.args.units c.args.heaps.now c.args.self.now c.loop.heaps c.loop.self No
    c.args.steps.now c.loop.steps (g.N.Notices.telling c.args.out.now) (g.N.Notices.telling c.loop.out)
done g c =
    let telling = g.N.Notices.telling in
    let i = c.loop.invariant in
    let t = telling c.args.out.now in
    let all : c.loop.counter ≡ c.args.units = omega arith in
    subst (λ (l : Kept). HasMarked c.args.units c.args.heaps.now c.args.self.now c.loop.heaps l No c.args.steps.now c.loop.steps t (telling c.loop.out))
    (sym (kept-is c.loop.self c.loop.self.marking i.alone refl))
    (marked-went_on c.args.heaps.now c.args.self.now c.requires.runs c.finish_running-refused.new.heaps t (telling c.finish_running-refused.new.out) c.loop.invariant.way c.args.units
    c.loop.heaps c.loop.self.marking c.args.steps.now c.loop.steps (telling c.loop.out)
    (subst (λ (n : ℕ). HasMarkedOn n c.finish_running-refused.new.heaps c.loop.heaps c.loop.self.marking (telling c.finish_running-refused.new.out) (telling c.loop.out)) all i.on) (omega (arith, i.counted)))

pub returns-clause-marked : goal.returns-clause-marked
returns-clause-marked g c = (done g c).marked

pub returns-clause-over : goal.returns-clause-over
returns-clause-over g c = c.loop.invariant.alone

pub returns-clause-goes_on : goal.returns-clause-goes_on
returns-clause-goes_on g c = λ _ less. c.loop.invariant.on.some (omega (arith, less))

pub returns-clause-keeps : goal.returns-clause-keeps
returns-clause-keeps g c = (done g c).spared.keeps

pub returns-clause-tells : goal.returns-clause-tells
returns-clause-tells g c = let e = done g c in record { events = e.events; told = e.told; unreached = e.spared.spares }

pub returns-clause-stands : goal.returns-clause-stands
returns-clause-stands g c = (done g c).spared.stands

pub returns-clause-suspected : goal.returns-clause-suspected
returns-clause-suspected g c = λ s. (done g c).spared.suspected s

pub returns-clause-kept : goal.returns-clause-kept
returns-clause-kept g c = (done g c).spared.kept

pub returns-clause-runs : goal.returns-clause-runs
returns-clause-runs g c = (done g c).runs
