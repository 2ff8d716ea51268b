use Rattle.std.proofs.Common.{subst}
use Rattle.cc_host.proofs.Keeping.{change-keeps}
use Rattle.cc_heaps.specs.Leaving.{NoneCame}
use Rattle.cc_host.specs.Hosted.{Hosted}
use Rattle.cc_host.proofs.LastingCalls.{none-lasts}
use Rattle.cc_host.proofs.UsableObjects.{change-usable}
use Rattle.cc_host.proofs.runtime.Runtime.set_native_root.Goals as goal

pub invariant_of-self : goal.invariant_of-self
invariant_of-self g c =
    change-keeps c.self.inside.heaps c.root_native.new.heaps c.self.inside.collector c.self.inside.mark c.root_native.ensures.change c.root_native.ensures.marking.well c.self.invariant

pub returns-clause-none_came : goal.returns-clause-none_came
returns-clause-none_came g c = subst (λ (k : Hosted). NoneCame k.heaps.heap c.root_native.new.heaps.heap) c.self.view_is c.root_native.ensures.none_came

pub returns-clause-lasts : goal.returns-clause-lasts
returns-clause-lasts g c =
    let e = c.root_native.ensures in
    none-lasts c.self.inside.heaps c.root_native.new.heaps c.self.inside.collector c.self.inside.mark _ c.self.view_is c.self.invariant e.change.kept e.ended e.none_came

pub returns-clause-stays : goal.returns-clause-stays
returns-clause-stays g c =
    let e = c.root_native.ensures in
    change-usable c.self.inside.heaps c.root_native.new.heaps c.self.inside.collector c.self.inside.mark _ c.self.view_is c.self.invariant e.change.kept e.usable
