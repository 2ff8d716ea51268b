use Rattle.std.proofs.Common.{sym, ◌∙◌, ap, subst, refl}
use Rattle.cc_host.proofs.Keeping.{change-keeps, tried-keeps}
use Rattle.cc_host.specs.Hosted.{Hosted, named}
use Rattle.cc_host.proofs.Coming.{came-here}
use Rattle.cc_lists.proofs.KnownBytes.{on_err_of}
use Rattle.cc_heaps.specs.Leaving.{NoneCame, NothingLeft}
use Rattle.cc_host.proofs.LastingCalls.{none-lasts, object-lasts}
use Rattle.cc_host.proofs.UsableObjects.{change-usable}
use Rattle.cc_host.proofs.runtime.Runtime.new_proxy.Goals as goal
use Rattle.cc_script.specs.Objects.{kind_at}

pub invariant_of-self : goal.invariant_of-self
invariant_of-self c =
    tried-keeps c.self.inside.heaps c.make_proxy.new.heaps c.self.inside.collector c.self.inside.mark c.in_err-key.ensures.tried c.make_proxy.ensures.marking.well c.self.invariant

pub invariant_of-self-2 : goal.invariant_of-self-2
invariant_of-self-2 c =
    change-keeps c.self.inside.heaps c.make_proxy.new.heaps c.self.inside.collector c.self.inside.mark c.in_ok-key.ensures.change c.make_proxy.ensures.marking.well c.self.invariant

pub returns-clause-came : goal.returns-clause-came
returns-clause-came c = came-here c.self.view_is c.make_proxy.new.heaps.heap (sym (ap named c.in-Some.is) ∙ c.of_script.ensures.name) c.in_ok-key.ensures.came

pub returns-in_err-key-clause-none_came : goal.returns-in_err-key-clause-none_came
returns-in_err-key-clause-none_came c = on_err_of c.from_residual-in_err-key.result
    (subst (λ (k : Hosted). NoneCame k.heaps.heap c.make_proxy.new.heaps.heap) c.self.view_is c.in_err-key.ensures.none_came)

pub returns-clause-none_left : goal.returns-clause-none_left
returns-clause-none_left c = subst (λ (k : Hosted). NothingLeft k.heaps.heap c.make_proxy.new.heaps.heap) c.self.view_is c.make_proxy.ensures.none_left

pub returns-in_err-key-clause-none_left : goal.returns-in_err-key-clause-none_left
returns-in_err-key-clause-none_left c = subst (λ (k : Hosted). NothingLeft k.heaps.heap c.make_proxy.new.heaps.heap) c.self.view_is c.make_proxy.ensures.none_left

pub returns-clause-lasts : goal.returns-clause-lasts
returns-clause-lasts c =
    let e = c.in_ok-key.ensures in
    object-lasts c.self.inside.heaps c.make_proxy.new.heaps c.self.inside.collector c.self.inside.mark _ c.self.view_is c.self.invariant e.change.kept c.make_proxy.ensures.ended _ e.name e.came

pub returns-in_err-key-clause-lasts : goal.returns-in_err-key-clause-lasts
returns-in_err-key-clause-lasts c =
    let e = c.in_err-key.ensures in
    none-lasts c.self.inside.heaps c.make_proxy.new.heaps c.self.inside.collector c.self.inside.mark _ c.self.view_is c.self.invariant e.tried.kept c.make_proxy.ensures.ended e.none_came

pub returns-clause-kind : goal.returns-clause-kind
returns-clause-kind c =
    ap (kind_at c.make_proxy.new.heaps.scripts) (c.of_script.ensures.key c.in_ok-key.key c.in-Some.made refl c.in-Some.is) ∙ c.in_ok-key.ensures.kind

pub returns-clause-stays : goal.returns-clause-stays
returns-clause-stays c =
    let e = c.in_ok-key.ensures in
    change-usable c.self.inside.heaps c.make_proxy.new.heaps c.self.inside.collector c.self.inside.mark _ c.self.view_is c.self.invariant e.change.kept c.make_proxy.ensures.usable

pub returns-in_err-key-clause-stays : goal.returns-in_err-key-clause-stays
returns-in_err-key-clause-stays c =
    let e = c.in_err-key.ensures in
    change-usable c.self.inside.heaps c.make_proxy.new.heaps c.self.inside.collector c.self.inside.mark _ c.self.view_is c.self.invariant e.tried.kept c.make_proxy.ensures.usable
