use Rattle.std.proofs.Common.{[], None, refl, subst, ◌∷◌, inl, inr, ⊎_elim}
use Rattle.cc_heaps.specs.Leaving.{NoneCame, TellsWhatIsFreed}
use Rattle.cc_host.specs.Hosted.{Hosted}
use Rattle.cc_host.proofs.AtPlaces.{unplaced-does, unplaced-tells}
use Rattle.cc_host.proofs.Keeping.{change-keeps, hosted}
use Rattle.cc_host.proofs.LastingCalls.{none-lasts}
use Rattle.cc_host.proofs.LastingRuns.{lasts-then}
use Rattle.cc_host.proofs.UsableObjects.{change-usable, usable-both}
use Rattle.cc_host.proofs.runtime.Runtime.unroot_at.Goals as goal
use Rattle.cc_host.specs.Places.{native_place, script_place}
use Rattle.cc_host.specs.Spots.{Spot, WritesOnly}
use Rattle.cc_host.proofs.SpotsThen.{writes-more, writes-then}

pub unplace_native-requires-clause-ready : goal.unplace_native-requires-clause-ready
unplace_native-requires-clause-ready g c =
    let one = c.unplace_script.ensures.change in
    record { order = one.kept.order [] c.self.invariant.runs.order; spared = one.spared }

pub invariant_of-self : goal.invariant_of-self
invariant_of-self g c =
    let mid = c.unplace_script.new.heaps in
    let b = c.self.inside.collector in
    let m = c.self.inside.mark in
    let one = c.unplace_script.ensures in
    let two = c.unplace_native.ensures in
    change-keeps mid c.unplace_native.new.heaps b m two.change two.marking.well
    (change-keeps c.self.inside.heaps mid b m one.change one.marking.well c.self.invariant)

pub returns-clause-does : goal.returns-clause-does
returns-clause-does g c =
    let v = c.self.inside.heaps in
    let k = c.self.invariant in
    let two = c.unplace_native.ensures in
    unplaced-does v c.unplace_script.new.heaps c.unplace_native.new.heaps c.args.place (record { order = k.runs.order; spared = k.spared }) c.unplace_script.ensures.change two.change two.none_came
    c.args.self.now c.self.inside.collector c.self.inside.mark c.self.view_is

pub returns-clause-tells : goal.returns-clause-tells
returns-clause-tells g c =
    let v = c.self.inside.heaps in
    let w = c.unplace_native.new.heaps in
    let k = c.self.invariant in
    let one = c.unplace_script.ensures in
    let two = c.unplace_native.ensures in
    let before = g.N.Notices.telling c.args.out.now in
    let after = g.N.Notices.telling c.unplace_native.new.out in
    subst (λ (h : Hosted). TellsWhatIsFreed h.heaps.heap w.heap before after) c.self.view_is
    (unplaced-tells v c.unplace_script.new.heaps w c.args.place (record { order = k.runs.order; spared = k.spared }) one.change two.change two.none_came
    one.none_came one.none_left before after two.tells)

pub returns-clause-none_came : goal.returns-clause-none_came
returns-clause-none_came g c =
    let v = c.self.inside.heaps in
    let w = c.unplace_native.new.heaps in
    let one = c.unplace_script.ensures in
    let two = c.unplace_native.ensures in
    subst (λ (h : Hosted). NoneCame h.heaps.heap w.heap) c.self.view_is (λ x i. one.none_came x (two.none_came x i))

pub returns-clause-writes : goal.returns-clause-writes
returns-clause-writes g c =
    let v = c.self.inside.heaps.heap in
    let mid = c.unplace_script.new.heaps.heap in
    let w = c.unplace_native.new.heaps.heap in
    let native = Spot.register (native_place c.args.place) in
    let script = Spot.register (script_place c.args.place) in
    let both = native ∷ script ∷ [] in
    subst (λ (h : Hosted). WritesOnly both h.heaps.heap w) c.self.view_is
    (writes-then both v mid w c.unplace_native.ensures.none_came
    (writes-more (script ∷ []) both v mid (λ s i. inr i) c.unplace_script.ensures.only)
    (writes-more (native ∷ []) both mid w (λ s i. ⊎_elim (λ l. inl l) (λ n. absurd n) i) c.unplace_native.ensures.only))

pub returns-clause-lasts : goal.returns-clause-lasts
returns-clause-lasts g c =
    let v = c.self.inside.heaps in
    let mid = c.unplace_script.new.heaps in
    let w = c.unplace_native.new.heaps in
    let b = c.self.inside.collector in
    let m = c.self.inside.mark in
    let one = c.unplace_script.ensures in
    let two = c.unplace_native.ensures in
    lasts-then None c.args.self.now (hosted mid b m) (hosted w b m)
    (none-lasts v mid b m _ c.self.view_is c.self.invariant one.change.kept one.ended one.none_came)
    (none-lasts mid w b m _ refl (change-keeps v mid b m one.change one.marking.well c.self.invariant) two.change.kept two.ended two.none_came)

pub returns-clause-stays : goal.returns-clause-stays
returns-clause-stays g c =
    let v = c.self.inside.heaps in
    let mid = c.unplace_script.new.heaps in
    let w = c.unplace_native.new.heaps in
    let b = c.self.inside.collector in
    let m = c.self.inside.mark in
    let one = c.unplace_script.ensures in
    let two = c.unplace_native.ensures in
    usable-both c.args.self.now (hosted mid b m) (hosted w b m) two.none_came
    (change-usable v mid b m _ c.self.view_is c.self.invariant one.change.kept one.usable)
    (change-usable mid w b m _ refl (change-keeps v mid b m one.change one.marking.well c.self.invariant) two.change.kept two.usable)
