use Rattle.std.proofs.Common.{subst}
use Rattle.cc_host.proofs.Keeping.{change-keeps}
use Rattle.cc_heaps.specs.Leaving.{NoneCame, NothingLeft}
use Rattle.cc_host.specs.Hosted.{Hosted}
use Rattle.cc_host.proofs.LastingCalls.{none-lasts}
use Rattle.cc_host.proofs.UsableObjects.{change-usable}
use Rattle.cc_host.proofs.runtime.Runtime.set_script_root.Goals as goal

pub invariant_of-self : goal.invariant_of-self
invariant_of-self c =
    change-keeps c.self.inside.heaps c.root_script.new.heaps c.self.inside.collector c.self.inside.mark c.root_script.ensures.change c.root_script.ensures.marking.well c.self.invariant

pub returns-clause-none_came : goal.returns-clause-none_came
returns-clause-none_came c = subst (λ (k : Hosted). NoneCame k.heaps.heap c.root_script.new.heaps.heap) c.self.view_is c.root_script.ensures.none_came

pub returns-clause-none_left : goal.returns-clause-none_left
returns-clause-none_left c = subst (λ (k : Hosted). NothingLeft k.heaps.heap c.root_script.new.heaps.heap) c.self.view_is c.root_script.ensures.none_left

pub returns-clause-lasts : goal.returns-clause-lasts
returns-clause-lasts c =
    let e = c.root_script.ensures in
    none-lasts c.self.inside.heaps c.root_script.new.heaps c.self.inside.collector c.self.inside.mark _ c.self.view_is c.self.invariant e.change.kept e.ended e.none_came

pub returns-clause-stays : goal.returns-clause-stays
returns-clause-stays c =
    let e = c.root_script.ensures in
    change-usable c.self.inside.heaps c.root_script.new.heaps c.self.inside.collector c.self.inside.mark _ c.self.view_is c.self.invariant e.change.kept e.usable
