use Rattle.std.specs.Prelude.{IsErr}
use Rattle.std.proofs.Common.{◌≡◌, ◌≢◌, ◌+◌, ◌<◌, ℕ, Option, Result, Ok, refl, sym, ap, ◌∙◌, subst, arith}
use Rattle.cc_lists.proofs.KnownBytes.{on_err_of}
use Rattle.cc_names.specs.declared.no_memory.NoMemory.{NoMemory}
use Rattle.cc_model.proofs.Tellings.{Tells-nil}
use Rattle.cc_model.specs.End.{Progress, went_on, at_end, refused}
use Rattle.cc_builder.specs.Building.{Built}
use Rattle.cc_collector.specs.declared.collector.Ended.{Ended}
use Rattle.cc_collector.specs.Kept.{Kept, machine_with}
use Rattle.cc_collector.specs.Collected.{IsSliced, progress_of}
use Rattle.cc_collector.specs.Units.{HasDoneUnit, HasGoneOn, Keeps}
use Rattle.cc_collector.proofs.Rows.{HasGoneOn-none, HasGoneOn-more}
use Rattle.cc_collector.proofs.Keeping.{Keeps-nothing, Keeps-then}
use Rattle.cc_collector.proofs.Coming.{HasSliced, sliced-went_on, sliced-stopped, still-told}
use Rattle.cc_collector.proofs.collector.Collector.slice.Given as given
use Rattle.cc_collector.proofs.collector.Collector.slice.Goals as goal
use Rattle.cc_collector.proofs.collector.Collector.slice.Goals.{After-loop, In-Yes, After-from_residual}

-- an error is progress that was refused
err-refused : (r : Result Ended NoMemory) → IsErr r → progress_of r ≡ refused
err-refused r i = grind arith

-- progress that was refused is not progress that went on
refused-stops : (p : Progress) → p ≡ refused → p ≢ went_on
refused-stops p e f = cc

end-stops : (p : Progress) → p ≡ at_end → p ≢ went_on
end-stops p e f = cc

pub loop-init : goal.loop-init
loop-init g c =
    let m = c.finish_marking.new.heaps in
    let k = c.args.self.now.running in
    let same : k ≡ c.finish_marking.new.self.running = sym (ap (λ (q : Kept). q.running) c.finish_marking.ensures.over) in
    record {
      finished = c.finish_marking.ensures.finished;
      gone_on = subst (λ (d : Option Built). HasGoneOn 0 (machine_with m k) (machine_with m d)) same (HasGoneOn-none (machine_with m k));
      told = Tells-nil (g.N.Notices.telling c.finish_marking.new.out);
      counted = omega arith;
      unmarked = ap (λ (q : Kept). q.marking) c.finish_marking.ensures.over;
      keeps = subst (Keeps m k m) same (Keeps-nothing m k c.finish_marking.ensures.finished.runs);
    }

-- It goes on

pub loop-preserved : goal.loop-preserved
loop-preserved g c =
    let telling = g.N.Notices.telling in
    let i = c.loop.invariant in
    let m = c.finish_marking.new.heaps in
    let k = c.args.self.now.running in
    let w = c.unit.new.heaps in
    let d = c.unit.new.self.running in
    let u : HasDoneUnit c.loop.heaps c.loop.self.running w d went_on (telling c.loop.out) (telling c.unit.new.out) =
    subst (λ (p : Progress). HasDoneUnit c.loop.heaps c.loop.self.running w d p (telling c.loop.out) (telling c.unit.new.out))
    (ap (λ (e : Ended). progress_of (Ok e)) c.in_default.is) c.in_ok-ended.ensures.done in
    record {
      finished = i.finished;
      gone_on = HasGoneOn-more c.loop.counter (machine_with m k) (machine_with c.loop.heaps c.loop.self.running) (machine_with w d) u.events i.gone_on u.unit;
      told = still-told c.loop.heaps c.loop.self.running w d (telling c.finish_marking.new.out) (telling c.loop.out) (telling c.unit.new.out) i.told u;
      counted = omega (arith, i.counted, c.tick.ensures);
      unmarked = c.unit.ensures.marking ∙ i.unmarked;
      keeps = Keeps-then m k c.loop.heaps c.loop.self.running w d i.keeps u.keeps;
    }

-- A unit is refused

-- all that is promised then
err : (g : given.Over) (c : After-from_residual g) → HasSliced c.args.units c.args.heaps.now c.args.self.now.running c.unit.new.heaps c.unit.new.self.running refused
    c.args.steps.now c.loop.steps (g.N.Notices.telling c.args.out.now) (g.N.Notices.telling c.unit.new.out)
err g c =
    let telling = g.N.Notices.telling in
    let i = c.loop.invariant in
    let counted : c.loop.steps ≡ c.args.steps.now + c.loop.counter + 0 = omega (arith, i.counted) in
    let less : c.loop.counter < c.args.units = omega arith in
    sliced-stopped c.args.heaps.now c.args.self.now.running c.finish_marking.new.heaps (telling c.args.out.now) (telling c.finish_marking.new.out) c.requires.runs.order.sound.well_formed
    i.finished c.args.units c.loop.counter c.loop.heaps c.loop.self.running c.unit.new.heaps c.unit.new.self.running refused c.args.steps.now c.loop.steps
    (telling c.loop.out) (telling c.unit.new.out) less (refused-stops refused refl) i.gone_on i.told i.keeps c.in_err-ended.ensures.done counted

pub returns-in_err-ended-clause-sliced : goal.returns-in_err-ended-clause-sliced
returns-in_err-ended-clause-sliced g c =
    let telling = g.N.Notices.telling in
    subst (λ (p : Progress). IsSliced c.args.units (machine_with c.args.heaps.now c.args.self.now.running) (machine_with c.unit.new.heaps c.unit.new.self.running) p
    c.args.steps.now c.loop.steps (telling c.args.out.now) (telling c.unit.new.out))
    (sym (err-refused c.from_residual.result c.from_residual.ensures.0)) (err g c).sliced

pub returns-in_err-ended-clause-given_up : goal.returns-in_err-ended-clause-given_up
returns-in_err-ended-clause-given_up g c = on_err_of c.from_residual.result ((err g c).given_up refl)

pub returns-in_err-ended-clause-keeps : goal.returns-in_err-ended-clause-keeps
returns-in_err-ended-clause-keeps g c = (err g c).spared.keeps

pub returns-in_err-ended-clause-tells : goal.returns-in_err-ended-clause-tells
returns-in_err-ended-clause-tells g c = let s = err g c in record { events = s.events; told = s.told; unreached = s.spared.spares }

pub returns-in_err-ended-clause-stands : goal.returns-in_err-ended-clause-stands
returns-in_err-ended-clause-stands g c = (err g c).spared.stands

pub returns-in_err-ended-clause-suspected : goal.returns-in_err-ended-clause-suspected
returns-in_err-ended-clause-suspected g c = λ s. (err g c).spared.suspected s

pub returns-in_err-ended-clause-kept : goal.returns-in_err-ended-clause-kept
returns-in_err-ended-clause-kept g c = (err g c).spared.kept

-- A unit ends the collection

-- all that is promised then
ended : (g : given.Over) (c : In-Yes g) → HasSliced c.args.units c.args.heaps.now c.args.self.now.running c.unit.new.heaps c.unit.new.self.running at_end
    c.args.steps.now c.tick.new.self (g.N.Notices.telling c.args.out.now) (g.N.Notices.telling c.unit.new.out)
ended g c =
    let telling = g.N.Notices.telling in
    let i = c.loop.invariant in
    let counted : c.tick.new.self ≡ c.args.steps.now + c.loop.counter + 1 = omega (arith, i.counted, c.tick.ensures) in
    let less : c.loop.counter < c.args.units = omega arith in
    let one = subst (λ (e : Ended). HasDoneUnit c.loop.heaps c.loop.self.running c.unit.new.heaps c.unit.new.self.running (progress_of (Ok e)) (telling c.loop.out) (telling c.unit.new.out))
    c.in-Yes.is c.in_ok-ended.ensures.done in
    sliced-stopped c.args.heaps.now c.args.self.now.running c.finish_marking.new.heaps (telling c.args.out.now) (telling c.finish_marking.new.out) c.requires.runs.order.sound.well_formed
    i.finished c.args.units c.loop.counter c.loop.heaps c.loop.self.running c.unit.new.heaps c.unit.new.self.running at_end c.args.steps.now c.tick.new.self
    (telling c.loop.out) (telling c.unit.new.out) less (end-stops at_end refl) i.gone_on i.told i.keeps one counted

pub returns-in-Yes-clause-sliced : goal.returns-in-Yes-clause-sliced
returns-in-Yes-clause-sliced g c =
    let telling = g.N.Notices.telling in
    subst (λ (e : Ended). IsSliced c.args.units (machine_with c.args.heaps.now c.args.self.now.running) (machine_with c.unit.new.heaps c.unit.new.self.running) (progress_of (Ok e))
    c.args.steps.now c.tick.new.self (telling c.args.out.now) (telling c.unit.new.out)) (sym c.in-Yes.is) (ended g c).sliced

pub returns-in-Yes-clause-keeps : goal.returns-in-Yes-clause-keeps
returns-in-Yes-clause-keeps g c = (ended g c).spared.keeps

pub returns-in-Yes-clause-tells : goal.returns-in-Yes-clause-tells
returns-in-Yes-clause-tells g c = let s = ended g c in record { events = s.events; told = s.told; unreached = s.spared.spares }

pub returns-in-Yes-clause-stands : goal.returns-in-Yes-clause-stands
returns-in-Yes-clause-stands g c = (ended g c).spared.stands

pub returns-in-Yes-clause-suspected : goal.returns-in-Yes-clause-suspected
returns-in-Yes-clause-suspected g c = λ s. (ended g c).spared.suspected s

pub returns-in-Yes-clause-kept : goal.returns-in-Yes-clause-kept
returns-in-Yes-clause-kept g c = (ended g c).spared.kept

-- All units are done

-- all that is promised then
done : (g : given.Over) (c : After-loop g) → HasSliced c.args.units c.args.heaps.now c.args.self.now.running c.loop.heaps c.loop.self.running went_on
    c.args.steps.now c.loop.steps (g.N.Notices.telling c.args.out.now) (g.N.Notices.telling c.loop.out)
done g c =
    let telling = g.N.Notices.telling in
    let i = c.loop.invariant in
    let m = c.finish_marking.new.heaps in
    let all : c.loop.counter ≡ c.args.units = omega arith in
    sliced-went_on c.args.heaps.now c.args.self.now.running m (telling c.args.out.now) (telling c.finish_marking.new.out) c.requires.runs.order.sound.well_formed
    i.finished c.args.units c.loop.heaps c.loop.self.running c.args.steps.now c.loop.steps (telling c.loop.out)
    (subst (λ (n : ℕ). HasGoneOn n (machine_with m c.args.self.now.running) (machine_with c.loop.heaps c.loop.self.running)) all i.gone_on) i.told i.keeps (omega (arith, i.counted))

pub returns-clause-sliced : goal.returns-clause-sliced
returns-clause-sliced g c = (done g c).sliced

pub returns-clause-keeps : goal.returns-clause-keeps
returns-clause-keeps g c = (done g c).spared.keeps

pub returns-clause-tells : goal.returns-clause-tells
returns-clause-tells g c = let s = done g c in record { events = s.events; told = s.told; unreached = s.spared.spares }

pub returns-clause-stands : goal.returns-clause-stands
returns-clause-stands g c = (done g c).spared.stands

pub returns-clause-suspected : goal.returns-clause-suspected
returns-clause-suspected g c = λ s. (done g c).spared.suspected s

pub returns-clause-kept : goal.returns-clause-kept
returns-clause-kept g c = (done g c).spared.kept
