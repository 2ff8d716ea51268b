use Rattle.std.proofs.Common.{◌≡◌, None, Some, Result, Err, length, sym, ◌∙◌, ap, subst, arith}
use Rattle.cc_names.specs.declared.number.NKey.{NKey}
use Rattle.cc_heaps.specs.Keyed.{counts_of}
use Rattle.cc_host.specs.declared.stop.Stop.{Stop}
use Rattle.cc_host.specs.declared.stop.Stop.TheVariants.{Index}
use Rattle.cc_host.specs.Hosted.{Hosted, IsKept, slots_of}
use Rattle.cc_host.specs.Stops.{IsStoppedBy, first, stop_moving, stop_native, stop_slot}
use Rattle.cc_host.proofs.Reading.{native_slots-many}
use Rattle.cc_host.proofs.Keeping.{change-keeps}
use Rattle.cc_host.proofs.Stopping.{at-first, at-second, beyond-slots, by-passed, by-stopped, moving, passed, stopped, within-slots}
use Rattle.cc_heaps.specs.Leaving.{NoneCame}
use Rattle.cc_host.proofs.LastingCalls.{none-lasts}
use Rattle.cc_host.proofs.UsableObjects.{change-usable}
use Rattle.cc_host.proofs.runtime.Runtime.move_slot.Goals as goal
use Rattle.cc_host.proofs.runtime.Runtime.move_slot.Goals.{then-i-slots-via-then-i-slots, then-i-slots-via-else-i-slots+then-j-slots}
use Rattle.cc_heaps.specs.Changes.{native_name}

pub invariant_of-self : goal.invariant_of-self
invariant_of-self g c =
    change-keeps c.self.inside.heaps c.move_native.new.heaps c.self.inside.collector c.self.inside.mark c.move_native.ensures.change c.move_native.ensures.marking.well c.self.invariant

pub returns-in_err-from-clause-stops : goal.returns-in_err-from-clause-stops
returns-in_err-from-clause-stops g c =
    let h = c.args.self.now in
    let x = c.args.to in
    let y = c.args.from in
    let e = c.in_err-from.field-0.0 in
    let is : c.from_residual-in_err-from.result ≡ Err e = grind arith in
    let rest = first (stop_slot h x c.args.i) (stop_slot h y c.args.j) in
    subst (λ (r : Result (Unit {0}) Stop). IsStoppedBy (stop_moving h x c.args.i y c.args.j) r) (sym is)
    (by-stopped (Unit {0}) (stop_moving h x c.args.i y c.args.j) e
    (at-second (stop_native h x) (first (stop_native h y) rest) (Some e) (passed (stop_native h x) c.in_ok-to.to c.in_ok-to.ensures.stops)
    (at-first (stop_native h y) rest e (stopped NKey (stop_native h y) e c.in_err-from.ensures.stops))))

pub returns-then-i-slots-clause-stops : goal.returns-then-i-slots-clause-stops
returns-then-i-slots-clause-stops g c =
    let h = c.args.self.now in
    let kept : IsKept h = subst IsKept c.self.view_is c.self.invariant in
    let here = ap (λ (k : Hosted). counts_of k.heaps) c.self.view_is in
    let x = c.args.to in
    let y = c.args.from in
    let one : c.slots.result ≡ length (slots_of h x) =
    c.slots.ensures ∙ native_slots-many h kept x c.in_ok-to.to c.in_ok-to.ensures.name c.counted.result.now (c.counted.ensures ∙ here) in
    let beyond : first (stop_slot h x c.args.i) (stop_slot h y c.args.j) ≡ Some Index = elim c.then-i-slots.branch [
      | then-i-slots-via-then-i-slots w ↦ at-first (stop_slot h x c.args.i) (stop_slot h y c.args.j) Index (beyond-slots h x c.slots.result c.args.i one w.if-i-slots.true)
      | then-i-slots-via-else-i-slots+then-j-slots w ↦
          let two : w.slots-else-i-slots.result ≡ length (slots_of h y) =
          w.slots-else-i-slots.ensures ∙ native_slots-many h kept y c.in_ok-from.from c.in_ok-from.ensures.name w.counted-else-i-slots.result.now (w.counted-else-i-slots.ensures ∙ here) in
          at-second (stop_slot h x c.args.i) (stop_slot h y c.args.j) (Some Index) (within-slots h x c.slots.result c.args.i one w.if-i-slots.false)
          (beyond-slots h y w.slots-else-i-slots.result c.args.j two w.if-j-slots.true)
    ] in
    by-stopped (Unit {0}) (stop_moving h x c.args.i y c.args.j) Index
    (moving h x c.args.i y c.args.j (Some Index) (passed (stop_native h x) c.in_ok-to.to c.in_ok-to.ensures.stops) (passed (stop_native h y) c.in_ok-from.from c.in_ok-from.ensures.stops) beyond)

pub returns-clause-stops : goal.returns-clause-stops
returns-clause-stops g c =
    let h = c.args.self.now in
    let kept : IsKept h = subst IsKept c.self.view_is c.self.invariant in
    let here = ap (λ (k : Hosted). counts_of k.heaps) c.self.view_is in
    let x = c.args.to in
    let y = c.args.from in
    let one : c.slots.result ≡ length (slots_of h x) =
    c.slots.ensures ∙ native_slots-many h kept x c.in_ok-to.to c.in_ok-to.ensures.name c.counted.result.now (c.counted.ensures ∙ here) in
    let two : c.slots-else-i-slots.result ≡ length (slots_of h y) =
    c.slots-else-i-slots.ensures ∙ native_slots-many h kept y c.in_ok-from.from c.in_ok-from.ensures.name c.counted-else-i-slots.result.now (c.counted-else-i-slots.ensures ∙ here) in
    by-passed (stop_moving h x c.args.i y c.args.j) tt
    (moving h x c.args.i y c.args.j None (passed (stop_native h x) c.in_ok-to.to c.in_ok-to.ensures.stops) (passed (stop_native h y) c.in_ok-from.from c.in_ok-from.ensures.stops)
    (at-second (stop_slot h x c.args.i) (stop_slot h y c.args.j) None (within-slots h x c.slots.result c.args.i one c.if-i-slots.false)
    (within-slots h y c.slots-else-i-slots.result c.args.j two c.if-j-slots.false)))

pub returns-clause-none_came : goal.returns-clause-none_came
returns-clause-none_came g c = subst (λ (k : Hosted). NoneCame k.heaps.heap c.move_native.new.heaps.heap) c.self.view_is c.move_native.ensures.none_came

pub returns-clause-emptied : goal.returns-clause-emptied
returns-clause-emptied g c apart =
    let to = subst (λ (k : Hosted). native_name k.heaps (Some c.in_ok-to.to) ≡ Some c.args.to.name) (sym c.self.view_is) c.in_ok-to.ensures.name in
    let from = subst (λ (k : Hosted). native_name k.heaps (Some c.in_ok-from.from) ≡ Some c.args.from.name) (sym c.self.view_is) c.in_ok-from.ensures.name in
    c.move_native.ensures.emptied c.args.to.name c.args.from.name to from apart

pub returns-clause-lasts : goal.returns-clause-lasts
returns-clause-lasts g c =
    let e = c.move_native.ensures in
    none-lasts c.self.inside.heaps c.move_native.new.heaps c.self.inside.collector c.self.inside.mark _ c.self.view_is c.self.invariant e.change.kept e.ended e.none_came

pub returns-clause-stays : goal.returns-clause-stays
returns-clause-stays g c =
    let e = c.move_native.ensures in
    change-usable c.self.inside.heaps c.move_native.new.heaps c.self.inside.collector c.self.inside.mark _ c.self.view_is c.self.invariant e.change.kept e.usable
