use Rattle.std.proofs.Common.{◌≡◌, None, Some, length, ◌∙◌, ap, subst, [], ◌∷◌, sym, inl, ⊎_elim}
use Rattle.cc_heaps.specs.Keyed.{counts_of}
use Rattle.cc_host.specs.declared.stop.Stop.TheVariants.{Index}
use Rattle.cc_host.specs.Hosted.{Hosted, IsKept, slots_of}
use Rattle.cc_host.specs.Stops.{stop_at, stop_if_any, stop_native, stop_storing}
use Rattle.cc_host.proofs.Reading.{native_slots-many}
use Rattle.cc_host.proofs.Keeping.{change-keeps}
use Rattle.cc_host.proofs.Stopping.{beyond-slots, by-passed, by-stopped, native-storing, passed, within-slots}
use Rattle.cc_heaps.specs.Leaving.{NoneCame}
use Rattle.cc_host.proofs.LastingCalls.{none-lasts}
use Rattle.cc_host.proofs.UsableObjects.{change-usable}
use Rattle.cc_host.proofs.runtime.Runtime.store_in_native.Goals as goal
use Rattle.cc_heaps.specs.Changes.{native_name}
use Rattle.cc_host.specs.Spots.{Spot, WritesOnly}
use Rattle.cc_host.proofs.SpotsThen.{writes-more}

pub invariant_of-self : goal.invariant_of-self
invariant_of-self g c =
    change-keeps c.self.inside.heaps c.store_native.new.heaps c.self.inside.collector c.self.inside.mark c.store_native.ensures.change c.store_native.ensures.marking.well c.self.invariant

pub returns-then-i-slots-clause-stops : goal.returns-then-i-slots-clause-stops
returns-then-i-slots-clause-stops g c =
    let h = c.args.self.now in
    let count : c.slots.result ≡ length (slots_of h c.args.x) =
    c.slots.ensures ∙ native_slots-many h (subst IsKept c.self.view_is c.self.invariant) c.args.x c.in_ok-key.key c.in_ok-key.ensures.name
    c.counted.result.now (c.counted.ensures ∙ ap (λ (k : Hosted). counts_of k.heaps) c.self.view_is) in
    by-stopped (Unit {0}) (stop_storing h c.args.x c.args.i c.args.y) Index
    (native-storing h c.args.x c.args.i c.args.y (Some Index) c.requires (passed (stop_native h c.args.x) c.in_ok-key.key c.in_ok-key.ensures.stops)
    (passed (stop_if_any stop_at h c.args.y) c.in_ok-content.content c.in_ok-content.ensures.stops)
    (beyond-slots h c.args.x c.slots.result c.args.i count c.if-i-slots.true))

pub returns-clause-stops : goal.returns-clause-stops
returns-clause-stops g c =
    let h = c.args.self.now in
    let count : c.slots.result ≡ length (slots_of h c.args.x) =
    c.slots.ensures ∙ native_slots-many h (subst IsKept c.self.view_is c.self.invariant) c.args.x c.in_ok-key.key c.in_ok-key.ensures.name
    c.counted.result.now (c.counted.ensures ∙ ap (λ (k : Hosted). counts_of k.heaps) c.self.view_is) in
    by-passed (stop_storing h c.args.x c.args.i c.args.y) tt
    (native-storing h c.args.x c.args.i c.args.y None c.requires (passed (stop_native h c.args.x) c.in_ok-key.key c.in_ok-key.ensures.stops)
    (passed (stop_if_any stop_at h c.args.y) c.in_ok-content.content c.in_ok-content.ensures.stops)
    (within-slots h c.args.x c.slots.result c.args.i count c.if-i-slots.false))

pub returns-clause-none_came : goal.returns-clause-none_came
returns-clause-none_came g c = subst (λ (k : Hosted). NoneCame k.heaps.heap c.store_native.new.heaps.heap) c.self.view_is c.store_native.ensures.none_came

pub returns-clause-writes : goal.returns-clause-writes
returns-clause-writes g c =
    let x = c.args.x.name in
    let own = Spot.slot x c.args.i in
    let late = c.store_native.new.heaps.heap in
    let name = subst (λ (k : Hosted). native_name k.heaps (Some c.in_ok-key.key) ≡ Some x) (sym c.self.view_is) c.in_ok-key.ensures.name in
    subst (λ (k : Hosted). WritesOnly (own ∷ Spot.preserved x ∷ []) k.heaps.heap late) c.self.view_is
    (writes-more (own ∷ []) (own ∷ Spot.preserved x ∷ []) c.self.inside.heaps.heap late (λ s i. ⊎_elim (λ l. inl l) (λ n. absurd n) i) (c.store_native.ensures.writes x name))

pub returns-clause-lasts : goal.returns-clause-lasts
returns-clause-lasts g c =
    let e = c.store_native.ensures in
    none-lasts c.self.inside.heaps c.store_native.new.heaps c.self.inside.collector c.self.inside.mark _ c.self.view_is c.self.invariant e.change.kept e.ended e.none_came

pub returns-clause-stays : goal.returns-clause-stays
returns-clause-stays g c =
    let e = c.store_native.ensures in
    change-usable c.self.inside.heaps c.store_native.new.heaps c.self.inside.collector c.self.inside.mark _ c.self.view_is c.self.invariant e.change.kept e.usable
