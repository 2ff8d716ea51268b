use Rattle.std.proofs.Common.{◌≡◌, None, Some, Result, Err, sym, subst, arith}
use Rattle.cc_names.specs.declared.number.SKey.{SKey}
use Rattle.cc_host.specs.declared.stop.Stop.{Stop}
use Rattle.cc_host.specs.declared.stop.Stop.TheVariants.{NoMemory}
use Rattle.cc_host.specs.Stops.{IsStoppedOrRefused, stop_entry, stop_map, stop_script, stop_setting}
use Rattle.cc_host.proofs.Keeping.{change-keeps, tried-keeps}
use Rattle.cc_host.proofs.Stopping.{at-first, at-second, or-passed, or-refused, or-stopped, passed, stopped}
use Rattle.cc_heaps.specs.Leaving.{NoneCame, NothingLeft}
use Rattle.cc_host.specs.Hosted.{Hosted}
use Rattle.cc_host.proofs.LastingCalls.{none-lasts}
use Rattle.cc_host.proofs.UsableObjects.{change-usable}
use Rattle.cc_host.proofs.runtime.Runtime.set_entry.Goals as goal

pub returns-in_err-key-clause-stops : goal.returns-in_err-key-clause-stops
returns-in_err-key-clause-stops c =
    let h = c.args.self.now in
    let m = c.args.the_map in
    let k = c.args.key in
    let e = c.in_err-key.field-0.0 in
    let is : c.from_residual-in_err-key.result ≡ Err e = grind arith in
    subst (λ (r : Result (Unit {0}) Stop). IsStoppedOrRefused (stop_setting h m k c.args.value) r) (sym is)
    (or-stopped (Unit {0}) (stop_setting h m k c.args.value) e (at-first (stop_entry h m k) (stop_script h c.args.value) e
    (at-second (stop_map h m) (stop_script h k) (Some e) (passed (stop_map h m) c.in_ok-the_map.the_map c.in_ok-the_map.ensures.stops) (stopped SKey (stop_script h k) e c.in_err-key.ensures.stops))))

pub returns-in_err-value-clause-stops : goal.returns-in_err-value-clause-stops
returns-in_err-value-clause-stops c =
    let h = c.args.self.now in
    let m = c.args.the_map in
    let k = c.args.key in
    let v = c.args.value in
    let e = c.in_err-value.field-0.0 in
    let is : c.from_residual-in_err-value.result ≡ Err e = grind arith in
    subst (λ (r : Result (Unit {0}) Stop). IsStoppedOrRefused (stop_setting h m k v) r) (sym is)
    (or-stopped (Unit {0}) (stop_setting h m k v) e (at-second (stop_entry h m k) (stop_script h v) (Some e)
    (at-second (stop_map h m) (stop_script h k) None (passed (stop_map h m) c.in_ok-the_map.the_map c.in_ok-the_map.ensures.stops) (passed (stop_script h k) c.in_ok-key.key c.in_ok-key.ensures.stops))
    (stopped SKey (stop_script h v) e c.in_err-value.ensures.stops)))

pub returns-in_err-set_entry-clause-stops : goal.returns-in_err-set_entry-clause-stops
returns-in_err-set_entry-clause-stops c =
    let h = c.args.self.now in
    let m = c.args.the_map in
    let k = c.args.key in
    let v = c.args.value in
    let is : c.from_residual-in_err-set_entry.result ≡ Err NoMemory = grind arith in
    subst (λ (r : Result (Unit {0}) Stop). IsStoppedOrRefused (stop_setting h m k v) r) (sym is)
    (or-refused (Unit {0}) (stop_setting h m k v) (at-second (stop_entry h m k) (stop_script h v) None
    (at-second (stop_map h m) (stop_script h k) None (passed (stop_map h m) c.in_ok-the_map.the_map c.in_ok-the_map.ensures.stops) (passed (stop_script h k) c.in_ok-key.key c.in_ok-key.ensures.stops))
    (passed (stop_script h v) c.in_ok-value.value c.in_ok-value.ensures.stops)))

pub returns-clause-stops : goal.returns-clause-stops
returns-clause-stops c =
    let h = c.args.self.now in
    let m = c.args.the_map in
    let k = c.args.key in
    let v = c.args.value in
    or-passed (stop_setting h m k v) tt (at-second (stop_entry h m k) (stop_script h v) None
    (at-second (stop_map h m) (stop_script h k) None (passed (stop_map h m) c.in_ok-the_map.the_map c.in_ok-the_map.ensures.stops) (passed (stop_script h k) c.in_ok-key.key c.in_ok-key.ensures.stops))
    (passed (stop_script h v) c.in_ok-value.value c.in_ok-value.ensures.stops))

pub invariant_of-self : goal.invariant_of-self
invariant_of-self c =
    tried-keeps c.self.inside.heaps c.set_entry.new.heaps c.self.inside.collector c.self.inside.mark c.in_err-set_entry.ensures.tried c.set_entry.ensures.marking.well c.self.invariant

pub invariant_of-self-2 : goal.invariant_of-self-2
invariant_of-self-2 c =
    change-keeps c.self.inside.heaps c.set_entry.new.heaps c.self.inside.collector c.self.inside.mark c.in_ok-set_entry.ensures.change c.set_entry.ensures.marking.well c.self.invariant

pub returns-clause-none_came : goal.returns-clause-none_came
returns-clause-none_came c = subst (λ (k : Hosted). NoneCame k.heaps.heap c.set_entry.new.heaps.heap) c.self.view_is c.set_entry.ensures.none_came

pub returns-in_err-set_entry-clause-none_came : goal.returns-in_err-set_entry-clause-none_came
returns-in_err-set_entry-clause-none_came c = subst (λ (k : Hosted). NoneCame k.heaps.heap c.set_entry.new.heaps.heap) c.self.view_is c.set_entry.ensures.none_came

pub returns-clause-none_left : goal.returns-clause-none_left
returns-clause-none_left c = subst (λ (k : Hosted). NothingLeft k.heaps.heap c.set_entry.new.heaps.heap) c.self.view_is c.set_entry.ensures.none_left

pub returns-in_err-set_entry-clause-none_left : goal.returns-in_err-set_entry-clause-none_left
returns-in_err-set_entry-clause-none_left c = subst (λ (k : Hosted). NothingLeft k.heaps.heap c.set_entry.new.heaps.heap) c.self.view_is c.set_entry.ensures.none_left

pub returns-clause-lasts : goal.returns-clause-lasts
returns-clause-lasts c =
    let e = c.set_entry.ensures in
    none-lasts c.self.inside.heaps c.set_entry.new.heaps c.self.inside.collector c.self.inside.mark _ c.self.view_is c.self.invariant c.in_ok-set_entry.ensures.change.kept e.ended e.none_came

pub returns-in_err-set_entry-clause-lasts : goal.returns-in_err-set_entry-clause-lasts
returns-in_err-set_entry-clause-lasts c =
    let e = c.set_entry.ensures in
    none-lasts c.self.inside.heaps c.set_entry.new.heaps c.self.inside.collector c.self.inside.mark _ c.self.view_is c.self.invariant c.in_err-set_entry.ensures.tried.kept e.ended e.none_came

pub returns-clause-stays : goal.returns-clause-stays
returns-clause-stays c =
    let e = c.set_entry.ensures in
    change-usable c.self.inside.heaps c.set_entry.new.heaps c.self.inside.collector c.self.inside.mark _ c.self.view_is c.self.invariant c.in_ok-set_entry.ensures.change.kept e.usable

pub returns-in_err-set_entry-clause-stays : goal.returns-in_err-set_entry-clause-stays
returns-in_err-set_entry-clause-stays c =
    let e = c.set_entry.ensures in
    change-usable c.self.inside.heaps c.set_entry.new.heaps c.self.inside.collector c.self.inside.mark _ c.self.view_is c.self.invariant c.in_err-set_entry.ensures.tried.kept e.usable
