use Rattle.std.proofs.Common.{◌+◌, refl, sym, ◌∙◌, ap}
use Rattle.cc_host.specs.Hosted.{named}
use Rattle.cc_host.proofs.Coming.{came-here}
use Rattle.cc_host.proofs.Keeping.{change-keeps, hosted}
use Rattle.cc_host.proofs.MadeTaken.{whole-taken}
use Rattle.cc_host.proofs.LastingCalls.{native-lasts}
use Rattle.cc_host.proofs.UsableObjects.{change-usable}
use Rattle.cc_host.proofs.runtime.Runtime.new_native.Goals as goal

pub invariant_of-self-2 : goal.invariant_of-self-2
invariant_of-self-2 g c =
    change-keeps c.self.inside.heaps c.make_native.new.heaps c.self.inside.collector c.self.inside.mark c.in_ok-key.ensures.change c.make_native.ensures.marking.well c.self.invariant

pub returns-clause-came : goal.returns-clause-came
returns-clause-came g c = came-here c.self.view_is c.make_native.new.heaps.heap (sym (ap named c.in-Some.is) ∙ c.of_native.ensures.name) c.in_ok-key.ensures.came

-- what was made is taken by each call
pub returns-clause-taken : goal.returns-clause-taken
returns-clause-taken g c =
    whole-taken (hosted c.make_native.new.heaps c.self.inside.collector c.self.inside.mark) c.in-Some.made c.self.inside.heaps.heap.natives_made (c.self.inside.heaps.heap.natives_made + 1) refl (c.in-Some.ensures.name ∙ c.in_ok-key.ensures.name) c.in-Some.ensures.there c.in_ok-key.ensures.whole

pub returns-clause-lasts : goal.returns-clause-lasts
returns-clause-lasts g c =
    let e = c.in_ok-key.ensures in
    native-lasts c.self.inside.heaps c.make_native.new.heaps c.self.inside.collector c.self.inside.mark _ c.self.view_is c.self.invariant e.change.kept c.make_native.ensures.ended _ e.name e.came

pub returns-clause-stays : goal.returns-clause-stays
returns-clause-stays g c =
    let e = c.in_ok-key.ensures in
    change-usable c.self.inside.heaps c.make_native.new.heaps c.self.inside.collector c.self.inside.mark _ c.self.view_is c.self.invariant e.change.kept c.make_native.ensures.usable
