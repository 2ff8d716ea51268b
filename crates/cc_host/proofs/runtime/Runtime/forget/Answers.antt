use Rattle.std.proofs.Common.{[], subst}
use Rattle.cc_heaps.specs.Leaving.{NoneCame, NothingLeft}
use Rattle.cc_host.specs.Calls.{Always, Does, Forgets}
use Rattle.cc_host.specs.Hosted.{Hosted}
use Rattle.cc_host.specs.Places.{KeepsPlaces}
use Rattle.cc_host.proofs.Keeping.{hosted, change-keeps}
use Rattle.cc_host.proofs.Forgetting.{forgotten-change, forgotten-does, forgotten-forgets, forgotten-marking, forgotten-none_came, forgotten-none_left, forgotten-places}
use Rattle.cc_host.proofs.LastingCalls.{none-lasts}
use Rattle.cc_host.proofs.LastingSteps.{forgotten-ended}
use Rattle.cc_host.proofs.runtime.Runtime.forget.Goals as goal

pub forget-requires : goal.forget-requires
forget-requires c = record { order = ([], c.self.invariant.runs.order) }

pub invariant_of-self : goal.invariant_of-self
invariant_of-self c =
    let v = c.self.inside.heaps in
    let w = c.forget.new.heaps in
    let e = c.forget.ensures in
    let b = c.self.inside.collector in
    let m = c.self.inside.mark in
    change-keeps v w b m (forgotten-change v w b m e.forgotten e.kept e.stands c.self.invariant.spared) (forgotten-marking v w b m e.forgotten e.kept e.stands) c.self.invariant

pub returns-clause-does : goal.returns-clause-does
returns-clause-does c =
    let v = c.self.inside.heaps in
    let w = c.forget.new.heaps in
    let e = c.forget.ensures in
    let b = c.self.inside.collector in
    let m = c.self.inside.mark in
    subst (λ (h : Hosted). Does Always (λ g. g) h (hosted w b m)) c.self.view_is (forgotten-does v w b m e.forgotten e.kept e.stands)

pub returns-clause-forgets : goal.returns-clause-forgets
returns-clause-forgets c =
    let v = c.self.inside.heaps in
    let w = c.forget.new.heaps in
    let e = c.forget.ensures in
    let b = c.self.inside.collector in
    let m = c.self.inside.mark in
    subst (λ (h : Hosted). Forgets h (hosted w b m) c.forget.result) c.self.view_is
    (forgotten-forgets v w b m e.forgotten e.kept e.stands c.forget.result e.count e.exactly)

pub returns-clause-none_came : goal.returns-clause-none_came
returns-clause-none_came c =
    let v = c.self.inside.heaps in
    let w = c.forget.new.heaps in
    let e = c.forget.ensures in
    subst (λ (h : Hosted). NoneCame h.heaps.heap w.heap) c.self.view_is
    (forgotten-none_came v w c.self.inside.collector c.self.inside.mark e.forgotten e.kept e.stands)

pub returns-clause-places : goal.returns-clause-places
returns-clause-places c =
    let v = c.self.inside.heaps in
    let w = c.forget.new.heaps in
    let e = c.forget.ensures in
    subst (λ (h : Hosted). KeepsPlaces h.heaps.heap w.heap) c.self.view_is
    (forgotten-places v w c.self.inside.collector c.self.inside.mark e.forgotten e.kept e.stands)

pub returns-clause-none_left : goal.returns-clause-none_left
returns-clause-none_left c =
    let v = c.self.inside.heaps in
    let w = c.forget.new.heaps in
    let e = c.forget.ensures in
    subst (λ (h : Hosted). NothingLeft h.heaps.heap w.heap) c.self.view_is
    (forgotten-none_left v w c.self.inside.collector c.self.inside.mark e.forgotten e.kept e.stands)

pub returns-clause-lasts : goal.returns-clause-lasts
returns-clause-lasts c =
    let v = c.self.inside.heaps in
    let w = c.forget.new.heaps in
    let e = c.forget.ensures in
    let b = c.self.inside.collector in
    let m = c.self.inside.mark in
    none-lasts v w b m _ c.self.view_is c.self.invariant e.kept (forgotten-ended v w c.self.invariant.runs.order e.forgotten)
    (forgotten-none_came v w b m e.forgotten e.kept e.stands)
