use Rattle.std.proofs.Common.{subst, ◌≡◌, Some, refl, sym, ◌∙◌, ap, inl}
use Rattle.cc_lists.proofs.KnownBytes.{on_err_of}
use Rattle.cc_heaps.specs.Standing.{IsReached}
use Rattle.cc_host.specs.Hosted.{Hosted, IsRooted, named}
use Rattle.cc_host.specs.Calls.{Tries}
use Rattle.cc_host.proofs.Keeping.{hosted, change-keeps, tried-does, tried-keeps}
use Rattle.cc_heaps.specs.Changes.{native_name}
use Rattle.cc_heaps.specs.Leaving.{NoneCame}
use Rattle.cc_host.proofs.Coming.{came-here}
use Rattle.cc_host.proofs.LastingCalls.{one-lasts}
use Rattle.cc_model.specs.Checks.{reflector_of}
use Rattle.cc_host.proofs.UsableObjects.{change-usable}
use Rattle.cc_host.proofs.runtime.Runtime.wrap.Goals as goal

pub invariant_of-self : goal.invariant_of-self
invariant_of-self g c =
    tried-keeps c.self.inside.heaps c.wrap_native.new.heaps c.self.inside.collector c.self.inside.mark c.in_err-made.ensures.tried c.wrap_native.ensures.marking.well c.self.invariant

pub returns-in_err-made-clause-tried : goal.returns-in_err-made-clause-tried
returns-in_err-made-clause-tried g c =
    let w = c.wrap_native.new.heaps in
    let b = c.self.inside.collector in
    let m = c.self.inside.mark in
    on_err_of c.from_residual-in_err-made.result
    (subst (λ (k : Hosted). Tries (IsRooted k c.args.x) k (hosted w b m)) c.self.view_is
    (subst (λ x. Tries (IsReached c.self.inside.heaps.heap x) (hosted c.self.inside.heaps b m) (hosted w b m)) (subst (λ (k : Hosted). native_name k.heaps (Some c.in_ok-key.key) ≡ Some c.args.x.name) (sym c.self.view_is) c.in_ok-key.ensures.name)
    (tried-does c.self.inside.heaps w b m c.in_err-made.ensures.tried)))

pub invariant_of-self-2 : goal.invariant_of-self-2
invariant_of-self-2 g c =
    change-keeps c.self.inside.heaps c.wrap_native.new.heaps c.self.inside.collector c.self.inside.mark c.in_ok-made.ensures.change c.wrap_native.ensures.marking.well c.self.invariant

pub returns-in_err-made-clause-none_came : goal.returns-in_err-made-clause-none_came
returns-in_err-made-clause-none_came g c = on_err_of c.from_residual-in_err-made.result
    (subst (λ (k : Hosted). NoneCame k.heaps.heap c.wrap_native.new.heaps.heap) c.self.view_is c.in_err-made.ensures.none_came)

pub returns-clause-came : goal.returns-clause-came
returns-clause-came g c = came-here c.self.view_is c.wrap_native.new.heaps.heap (sym (ap named c.in-Some.is) ∙ c.of_script.ensures.name) c.in_ok-made.ensures.came

pub returns-in_err-made-clause-lasts : goal.returns-in_err-made-clause-lasts
returns-in_err-made-clause-lasts g c =
    let e = c.in_err-made.ensures in
    one-lasts c.self.inside.heaps c.wrap_native.new.heaps c.self.inside.collector c.self.inside.mark _ c.self.view_is c.self.invariant e.tried.kept c.wrap_native.ensures.ended (reflector_of (Some c.args.x.name)) _ refl (λ x m. inl (e.none_came x m))

pub returns-clause-lasts : goal.returns-clause-lasts
returns-clause-lasts g c =
    let e = c.in_ok-made.ensures in
    one-lasts c.self.inside.heaps c.wrap_native.new.heaps c.self.inside.collector c.self.inside.mark _ c.self.view_is c.self.invariant e.change.kept c.wrap_native.ensures.ended _ _
    (e.name ∙ ap reflector_of (subst (λ (k : Hosted). native_name k.heaps (Some c.in_ok-key.key) ≡ Some c.args.x.name) (sym c.self.view_is) c.in_ok-key.ensures.name)) e.came

pub returns-in_err-made-clause-stays : goal.returns-in_err-made-clause-stays
returns-in_err-made-clause-stays g c =
    let e = c.in_err-made.ensures in
    change-usable c.self.inside.heaps c.wrap_native.new.heaps c.self.inside.collector c.self.inside.mark _ c.self.view_is c.self.invariant e.tried.kept c.wrap_native.ensures.usable

pub returns-clause-stays : goal.returns-clause-stays
returns-clause-stays g c =
    let e = c.in_ok-made.ensures in
    change-usable c.self.inside.heaps c.wrap_native.new.heaps c.self.inside.collector c.self.inside.mark _ c.self.view_is c.self.invariant e.change.kept c.wrap_native.ensures.usable
