use Rattle.std.proofs.Common.{◌≡◌, Option, None, is_some, refl, sym, ap, ◌∙◌, subst}
use Rattle.std.proofs.lemmas.Result.{on_ok_weaker, on_err_weaker}
use Rattle.cc_lists.proofs.KnownBytes.{on_err_of}
use Rattle.cc_model.specs.End.{Progress, refused}
use Rattle.cc_builder.specs.Building.{Built}
use Rattle.cc_collector.specs.Kept.{Kept, machine_of}
use Rattle.cc_collector.specs.Collected.{IsCollected}
use Rattle.cc_collector.specs.Units.{HasDoneAll, HasFinished}
use Rattle.cc_collector.proofs.Coming.{HasCollected, HasCollectedBy, collected-by, collected-refused}
use Rattle.cc_collector.proofs.collector.Collector.whole.Given as given
use Rattle.cc_collector.proofs.collector.Collector.whole.Goals as goal
use Rattle.cc_collector.proofs.collector.Collector.whole.Goals.{After-from_residual, After-go_to_end}

-- The end of the running collection is refused

-- all that is promised then
err : (g : given.Over) (c : After-from_residual g) → HasCollected c.args.heaps.now c.args.self.now.running c.finish_running.new.heaps c.finish_running.new.self.running refused
    (g.N.Notices.telling c.args.out.now) (g.N.Notices.telling c.finish_running.new.out)
err g c =
    let telling = g.N.Notices.telling in
    let v = c.args.heaps.now in
    let k = c.args.self.now.running in
    let m = c.finish_marking.new.heaps in
    let w = c.finish_running.new.heaps in
    let t = telling c.args.out.now in
    let t₁ = telling c.finish_marking.new.out in
    let t₂ = telling c.finish_running.new.out in
    let same : c.finish_marking.new.self.running ≡ k = ap (λ (q : Kept). q.running) c.finish_marking.ensures.over in
    let over : c.finish_running.new.self.running ≡ None = ap (λ (q : Kept). q.running) c.finish_running.ensures.over in
    subst (λ (d : Option Built). HasCollected v k w d refused t t₂) (sym over)
    (collected-refused v k m t t₁ c.requires.runs.order.sound.well_formed c.finish_marking.ensures.finished w t₂ (sym (ap is_some same) ∙ c.in_err-finish_running.ensures.ran)
    (subst (λ (d : Option Built). HasDoneAll m d w refused t₁ t₂) same c.in_err-finish_running.ensures.refused))

pub returns-in_err-finish_running-clause-refused : goal.returns-in_err-finish_running-clause-refused
returns-in_err-finish_running-clause-refused g c = on_err_of c.from_residual.result (err g c).collected

pub returns-in_err-finish_running-clause-given_up : goal.returns-in_err-finish_running-clause-given_up
returns-in_err-finish_running-clause-given_up g c = on_err_of c.from_residual.result ((err g c).given_up refl)

pub returns-in_err-finish_running-clause-keeps : goal.returns-in_err-finish_running-clause-keeps
returns-in_err-finish_running-clause-keeps g c = (err g c).spared.keeps

pub returns-in_err-finish_running-clause-tells : goal.returns-in_err-finish_running-clause-tells
returns-in_err-finish_running-clause-tells g c = let s = err g c in record { events = s.events; told = s.told; unreached = s.spared.spares }

pub returns-in_err-finish_running-clause-stands : goal.returns-in_err-finish_running-clause-stands
returns-in_err-finish_running-clause-stands g c = (err g c).spared.stands

pub returns-in_err-finish_running-clause-suspected : goal.returns-in_err-finish_running-clause-suspected
returns-in_err-finish_running-clause-suspected g c = λ s. (err g c).spared.suspected s

pub returns-in_err-finish_running-clause-kept : goal.returns-in_err-finish_running-clause-kept
returns-in_err-finish_running-clause-kept g c = (err g c).spared.kept

-- A collection after it

-- all that is promised then
whole : (g : given.Over) (c : After-go_to_end g) → HasCollectedBy c.go_to_end.result c.args.heaps.now c.args.self.now.running c.go_to_end.new.heaps c.go_to_end.new.self.running
    (g.N.Notices.telling c.args.out.now) (g.N.Notices.telling c.go_to_end.new.out)
whole g c =
    let telling = g.N.Notices.telling in
    let k = c.args.self.now.running in
    let m = c.finish_marking.new.heaps in
    let u = c.finish_running.new.heaps in
    let t₁ = telling c.finish_marking.new.out in
    let t₂ = telling c.finish_running.new.out in
    let same : c.finish_marking.new.self.running ≡ k = ap (λ (q : Kept). q.running) c.finish_marking.ensures.over in
    collected-by c.args.heaps.now k m (telling c.args.out.now) t₁ c.requires.runs.order.sound.well_formed c.finish_marking.ensures.finished c.go_to_end.result u c.finish_running.new.self.running
    c.go_to_end.new.heaps c.go_to_end.new.self.running t₂ (telling c.go_to_end.new.out) (ap (λ (q : Kept). q.running) c.finish_running.ensures.over)
    (ap (λ (q : Kept). q.running) c.go_to_end.ensures.over)
    (subst (λ (d : Option Built). HasFinished m d u t₁ t₂) same c.in_ok-finish_running.ensures.done) c.go_to_end.ensures.done c.go_to_end.ensures.refused

pub returns-clause-done : goal.returns-clause-done
returns-clause-done g c =
    let telling = g.N.Notices.telling in
    let a = whole g c in
    on_ok_weaker c.go_to_end.result
    (λ e. subst (λ (p : Progress). IsCollected (machine_of c.args.heaps.now c.args.self.now) (machine_of c.go_to_end.new.heaps c.go_to_end.new.self) p
    (telling c.args.out.now) (telling c.go_to_end.new.out)) e a.is.collected) a.done

pub returns-clause-refused : goal.returns-clause-refused
returns-clause-refused g c =
    let telling = g.N.Notices.telling in
    let a = whole g c in
    on_err_weaker c.go_to_end.result
    (λ e. subst (λ (p : Progress). IsCollected (machine_of c.args.heaps.now c.args.self.now) (machine_of c.go_to_end.new.heaps c.go_to_end.new.self) p
    (telling c.args.out.now) (telling c.go_to_end.new.out)) e a.is.collected) a.stopped

pub returns-clause-given_up : goal.returns-clause-given_up
returns-clause-given_up g c = let a = whole g c in on_err_weaker c.go_to_end.result (λ e. a.is.given_up e) a.stopped

pub returns-clause-keeps : goal.returns-clause-keeps
returns-clause-keeps g c = (whole g c).is.spared.keeps

pub returns-clause-tells : goal.returns-clause-tells
returns-clause-tells g c = let s = (whole g c).is in record { events = s.events; told = s.told; unreached = s.spared.spares }

pub returns-clause-stands : goal.returns-clause-stands
returns-clause-stands g c = (whole g c).is.spared.stands

pub returns-clause-suspected : goal.returns-clause-suspected
returns-clause-suspected g c = λ s. (whole g c).is.spared.suspected s

pub returns-clause-kept : goal.returns-clause-kept
returns-clause-kept g c = (whole g c).is.spared.kept
