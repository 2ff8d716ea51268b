use Rattle.std.proofs.Common.{◌≡◌, None, Some, length, ◌∙◌, ap, subst}
use Rattle.cc_heaps.specs.Leaving.{NoneCame, NothingLeft}
use Rattle.cc_host.specs.declared.stop.Stop.TheVariants.{Index}
use Rattle.cc_host.specs.Hosted.{Hosted, IsKept, slots_of}
use Rattle.cc_host.specs.Stops.{stop_if_any, stop_script, stop_storing}
use Rattle.cc_host.proofs.Reading.{script_slots-many}
use Rattle.cc_host.proofs.Keeping.{change-keeps}
use Rattle.cc_host.proofs.Stopping.{beyond-slots, by-passed, by-stopped, script-storing, passed, within-slots}
use Rattle.cc_host.proofs.LastingCalls.{none-lasts}
use Rattle.cc_host.proofs.UsableObjects.{change-usable}
use Rattle.cc_host.proofs.runtime.Runtime.store_in_script.Goals as goal

pub invariant_of-self : goal.invariant_of-self
invariant_of-self c =
    change-keeps c.self.inside.heaps c.store_script.new.heaps c.self.inside.collector c.self.inside.mark c.store_script.ensures.change c.store_script.ensures.marking.well c.self.invariant

pub returns-then-i-slots-clause-stops : goal.returns-then-i-slots-clause-stops
returns-then-i-slots-clause-stops c =
    let h = c.args.self.now in
    let count : c.slots.result ≡ length (slots_of h c.args.x) =
    c.slots.ensures ∙ script_slots-many h (subst IsKept c.self.view_is c.self.invariant) c.args.x c.in_ok-key.key c.in_ok-key.ensures.name
    c.scripts.result.now (c.scripts.ensures ∙ ap (λ (k : Hosted). k.heaps.scripts) c.self.view_is) in
    by-stopped (Unit {0}) (stop_storing h c.args.x c.args.i c.args.y) Index
    (script-storing h c.args.x c.args.i c.args.y (Some Index) c.requires (passed (stop_script h c.args.x) c.in_ok-key.key c.in_ok-key.ensures.stops)
    (passed (stop_if_any stop_script h c.args.y) c.in_ok-content.content c.in_ok-content.ensures.stops)
    (beyond-slots h c.args.x c.slots.result c.args.i count c.if-i-slots.true))

pub returns-clause-stops : goal.returns-clause-stops
returns-clause-stops c =
    let h = c.args.self.now in
    let count : c.slots.result ≡ length (slots_of h c.args.x) =
    c.slots.ensures ∙ script_slots-many h (subst IsKept c.self.view_is c.self.invariant) c.args.x c.in_ok-key.key c.in_ok-key.ensures.name
    c.scripts.result.now (c.scripts.ensures ∙ ap (λ (k : Hosted). k.heaps.scripts) c.self.view_is) in
    by-passed (stop_storing h c.args.x c.args.i c.args.y) tt
    (script-storing h c.args.x c.args.i c.args.y None c.requires (passed (stop_script h c.args.x) c.in_ok-key.key c.in_ok-key.ensures.stops)
    (passed (stop_if_any stop_script h c.args.y) c.in_ok-content.content c.in_ok-content.ensures.stops)
    (within-slots h c.args.x c.slots.result c.args.i count c.if-i-slots.false))

pub returns-clause-none_left : goal.returns-clause-none_left
returns-clause-none_left c = subst (λ (k : Hosted). NothingLeft k.heaps.heap c.store_script.new.heaps.heap) c.self.view_is c.store_script.ensures.none_left

pub returns-clause-none_came : goal.returns-clause-none_came
returns-clause-none_came c = subst (λ (k : Hosted). NoneCame k.heaps.heap c.store_script.new.heaps.heap) c.self.view_is c.store_script.ensures.none_came

pub returns-clause-lasts : goal.returns-clause-lasts
returns-clause-lasts c =
    let e = c.store_script.ensures in
    none-lasts c.self.inside.heaps c.store_script.new.heaps c.self.inside.collector c.self.inside.mark _ c.self.view_is c.self.invariant e.change.kept e.ended e.none_came

pub returns-clause-stays : goal.returns-clause-stays
returns-clause-stays c =
    let e = c.store_script.ensures in
    change-usable c.self.inside.heaps c.store_script.new.heaps c.self.inside.collector c.self.inside.mark _ c.self.view_is c.self.invariant e.change.kept e.usable
