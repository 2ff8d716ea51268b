use Rattle.std.proofs.Common.{None, Some, sym, ◌∙◌, subst, true, false, [], ◌∷◌, ap}
use Rattle.std.proofs.lemmas.Bool.{false≢true}
use Rattle.cc_heaps.specs.Leaving.{NoneCame}
use Rattle.cc_heaps.specs.Standing.{IsReachedOrReflects}
use Rattle.cc_heaps.proofs.Leaving.{nothing-told}
use Rattle.cc_host.specs.Calls.{Brings, Does}
use Rattle.cc_host.specs.Hosted.{Hosted, IsKept}
use Rattle.cc_host.specs.Places.{placed, native_place, place_for, script_place}
use Rattle.cc_host.specs.Stops.{stop_at}
use Rattle.cc_host.proofs.AtPlaces.{native-brings, native-does, of-script, on-ok, placed-keeps, script-does}
use Rattle.cc_host.proofs.Stopping.{passed}
use Rattle.cc_host.proofs.LastingCalls.{none-lasts}
use Rattle.cc_host.specs.Lasting.{Lasts, StaysUsable}
use Rattle.cc_host.proofs.UsableObjects.{change-usable}
use Rattle.cc_host.proofs.runtime.Runtime.root_at.Goals as goal
use Rattle.cc_host.proofs.runtime.Runtime.root_at.Goals.{in-Native, in-Script}
use Rattle.cc_names.specs.Names.{is_native}
use Rattle.cc_host.specs.Spots.{Spot, WritesOnly}

pub returns-then-place-ge-PLACES-clause-tells : goal.returns-then-place-ge-PLACES-clause-tells
returns-then-place-ge-PLACES-clause-tells g c =
    let h = c.args.self.now.heaps.heap in
    nothing-told h h (g.N.Notices.telling c.args.out.now) (λ x i. i)

pub invariant_of-self : goal.invariant_of-self
invariant_of-self g c =
    let e = c.place_native-done.ensures in
    placed-keeps _ _ c.self.inside.heaps c.place_native-done.new.heaps c.self.inside.collector c.self.inside.mark c.place_native-done.result e.change e.same e.marking c.self.invariant

pub invariant_of-self-in-Script : goal.invariant_of-self-in-Script
invariant_of-self-in-Script g c =
    let e = c.place_script-done.ensures in
    placed-keeps _ _ c.self.inside.heaps c.place_script-done.new.heaps c.self.inside.collector c.self.inside.mark c.place_script-done.result e.change e.same e.marking c.self.invariant

pub returns-in-Ok-clause-does : goal.returns-in-Ok-clause-does
returns-in-Ok-clause-does g c =
    let h = c.args.self.now in
    let x = c.args.x in
    let p = c.args.place in
    let b = c.self.inside.collector in
    let m = c.self.inside.mark in
    let none = passed (stop_at h x) c.in_ok-look.field-0 c.in_ok-look.ensures in
    elim c.match-x.branch [
      | in-Native w ↦
          let is = sym w.done-is ∙ c.in-Ok.is in
          subst (λ (k : Hosted). Does (IsReachedOrReflects h.heaps.heap (Some x.name)) (placed p x.name) h k) (sym w.self-is)
          (native-does h c.self.inside.heaps w.place_native-done.new.heaps b m p c.self.view_is x w.in-Native.field-0 w.in-Native.is none
          (on-ok w.place_native-done.result c.in-Ok.field-0 is w.place_native-done.ensures.change))
      | in-Script w ↦
          let is = sym w.done-is ∙ c.in-Ok.is in
          subst (λ (k : Hosted). Does (IsReachedOrReflects h.heaps.heap (Some x.name)) (placed p x.name) h k) (sym w.self-is)
          (script-does h c.self.inside.heaps w.place_script-done.new.heaps b m p c.self.view_is x (of-script x.name w.in-Script.is) none
          (on-ok w.place_script-done.result c.in-Ok.field-0 is w.place_script-done.ensures.change))
    ]

pub returns-in-Ok-clause-brings : goal.returns-in-Ok-clause-brings
returns-in-Ok-clause-brings g c = λ of_native.
    let h = c.args.self.now in
    let x = c.args.x in
    let p = c.args.place in
    let none = passed (stop_at h x) c.in_ok-look.field-0 c.in_ok-look.ensures in
    elim c.match-x.branch [
      | in-Native w ↦
          let is = sym w.done-is ∙ c.in-Ok.is in
          let r = w.place_native-done.result in
          let e = w.place_native-done.ensures in
          subst (λ (k : Hosted). Brings (Some x.name) (placed p x.name) h k) (sym w.self-is)
          (native-brings h c.self.inside.heaps w.place_native-done.new.heaps c.self.inside.collector c.self.inside.mark p c.self.view_is x w.in-Native.field-0 w.in-Native.is none
          (subst IsKept c.self.view_is c.self.invariant)
          (on-ok r c.in-Ok.field-0 is e.change) (on-ok r c.in-Ok.field-0 is e.stands) (on-ok r c.in-Ok.field-0 is e.doomed))
      | in-Script w ↦ absurd (false≢true (sym (of-script x.name w.in-Script.is) ∙ of_native))
    ]

pub returns-in-Ok-clause-none_came : goal.returns-in-Ok-clause-none_came
returns-in-Ok-clause-none_came g c =
    let h = c.args.self.now in
    elim c.match-x.branch [
      | in-Native w ↦ subst (λ (k : Hosted). NoneCame h.heaps.heap k.heaps.heap) (sym w.self-is)
          (subst (λ (k : Hosted). NoneCame k.heaps.heap w.place_native-done.new.heaps.heap) c.self.view_is w.place_native-done.ensures.none_came)
      | in-Script w ↦ subst (λ (k : Hosted). NoneCame h.heaps.heap k.heaps.heap) (sym w.self-is)
          (subst (λ (k : Hosted). NoneCame k.heaps.heap w.place_script-done.new.heaps.heap) c.self.view_is w.place_script-done.ensures.none_came)
    ]

pub returns-in_err-look-clause-tells : goal.returns-in_err-look-clause-tells
returns-in_err-look-clause-tells g c =
    let h = c.args.self.now.heaps.heap in
    nothing-told h h (g.N.Notices.telling c.args.out.now) (λ x i. i)

pub returns-in-Ok-clause-writes : goal.returns-in-Ok-clause-writes
returns-in-Ok-clause-writes g c =
    let h = c.args.self.now in
    let v = c.self.inside.heaps.heap in
    let x = c.args.x.name in
    let p = c.args.place in
    elim c.match-x.branch [
      | in-Native w ↦
          let late = w.place_native-done.new.heaps.heap in
          subst (λ (k : Hosted). WritesOnly (Spot.register (place_for p x) ∷ []) h.heaps.heap k.heaps.heap) (sym w.self-is)
          (subst (λ (k : Hosted). WritesOnly (Spot.register (place_for p x) ∷ []) k.heaps.heap late) c.self.view_is
          (subst (λ b. WritesOnly (Spot.register (elim b [ true ↦ native_place p | false ↦ script_place p ]) ∷ []) v late) (sym (ap is_native w.in-Native.is)) w.place_native-done.ensures.only))
      | in-Script w ↦
          let late = w.place_script-done.new.heaps.heap in
          subst (λ (k : Hosted). WritesOnly (Spot.register (place_for p x) ∷ []) h.heaps.heap k.heaps.heap) (sym w.self-is)
          (subst (λ (k : Hosted). WritesOnly (Spot.register (place_for p x) ∷ []) k.heaps.heap late) c.self.view_is
          (subst (λ b. WritesOnly (Spot.register (elim b [ true ↦ native_place p | false ↦ script_place p ]) ∷ []) v late) (sym (of-script x w.in-Script.is)) w.place_script-done.ensures.only))
    ]

pub returns-in-Ok-clause-lasts : goal.returns-in-Ok-clause-lasts
returns-in-Ok-clause-lasts g c =
    let h = c.args.self.now in
    elim c.match-x.branch [
      | in-Native w ↦
          let e = w.place_native-done.ensures in
          subst (λ (k : Hosted). Lasts None h k) (sym w.self-is)
          (none-lasts c.self.inside.heaps w.place_native-done.new.heaps c.self.inside.collector c.self.inside.mark h c.self.view_is c.self.invariant
          (on-ok w.place_native-done.result c.in-Ok.field-0 (sym w.done-is ∙ c.in-Ok.is) e.change).kept e.ended e.none_came)
      | in-Script w ↦
          let e = w.place_script-done.ensures in
          subst (λ (k : Hosted). Lasts None h k) (sym w.self-is)
          (none-lasts c.self.inside.heaps w.place_script-done.new.heaps c.self.inside.collector c.self.inside.mark h c.self.view_is c.self.invariant
          (on-ok w.place_script-done.result c.in-Ok.field-0 (sym w.done-is ∙ c.in-Ok.is) e.change).kept e.ended e.none_came)
    ]

pub returns-in-Ok-clause-stays : goal.returns-in-Ok-clause-stays
returns-in-Ok-clause-stays g c =
    let h = c.args.self.now in
    elim c.match-x.branch [
      | in-Native w ↦
          let e = w.place_native-done.ensures in
          subst (λ (k : Hosted). StaysUsable h k) (sym w.self-is)
          (change-usable c.self.inside.heaps w.place_native-done.new.heaps c.self.inside.collector c.self.inside.mark h c.self.view_is c.self.invariant
          (on-ok w.place_native-done.result c.in-Ok.field-0 (sym w.done-is ∙ c.in-Ok.is) e.change).kept e.usable)
      | in-Script w ↦
          let e = w.place_script-done.ensures in
          subst (λ (k : Hosted). StaysUsable h k) (sym w.self-is)
          (change-usable c.self.inside.heaps w.place_script-done.new.heaps c.self.inside.collector c.self.inside.mark h c.self.view_is c.self.invariant
          (on-ok w.place_script-done.result c.in-Ok.field-0 (sym w.done-is ∙ c.in-Ok.is) e.change).kept e.usable)
    ]
