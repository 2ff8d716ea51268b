use Rattle.std.proofs.Common.{sym, ◌∙◌, ap, subst, refl}
use Rattle.cc_host.proofs.Keeping.{change-keeps}
use Rattle.cc_heaps.specs.Leaving.{NothingLeft}
use Rattle.cc_host.specs.Hosted.{Hosted, named}
use Rattle.cc_host.proofs.Coming.{came-here}
use Rattle.cc_host.proofs.LastingCalls.{object-lasts}
use Rattle.cc_host.proofs.UsableObjects.{change-usable}
use Rattle.cc_host.proofs.runtime.Runtime.new_map.Goals as goal
use Rattle.cc_script.specs.Objects.{kind_at}

pub invariant_of-self-2 : goal.invariant_of-self-2
invariant_of-self-2 c =
    change-keeps c.self.inside.heaps c.make_map.new.heaps c.self.inside.collector c.self.inside.mark c.in_ok-key.ensures.change c.make_map.ensures.marking.well c.self.invariant

pub returns-clause-came : goal.returns-clause-came
returns-clause-came c = came-here c.self.view_is c.make_map.new.heaps.heap (sym (ap named c.in-Some.is) ∙ c.of_script.ensures.name) c.in_ok-key.ensures.came

pub returns-clause-none_left : goal.returns-clause-none_left
returns-clause-none_left c = subst (λ (k : Hosted). NothingLeft k.heaps.heap c.make_map.new.heaps.heap) c.self.view_is c.make_map.ensures.none_left

pub returns-clause-lasts : goal.returns-clause-lasts
returns-clause-lasts c =
    let e = c.in_ok-key.ensures in
    object-lasts c.self.inside.heaps c.make_map.new.heaps c.self.inside.collector c.self.inside.mark _ c.self.view_is c.self.invariant e.change.kept c.make_map.ensures.ended _ e.name e.came

pub returns-clause-kind : goal.returns-clause-kind
returns-clause-kind c =
    ap (kind_at c.make_map.new.heaps.scripts) (c.of_script.ensures.key c.in_ok-key.key c.in-Some.made refl c.in-Some.is) ∙ c.in_ok-key.ensures.kind

pub returns-clause-stays : goal.returns-clause-stays
returns-clause-stays c =
    let e = c.in_ok-key.ensures in
    change-usable c.self.inside.heaps c.make_map.new.heaps c.self.inside.collector c.self.inside.mark _ c.self.view_is c.self.invariant e.change.kept c.make_map.ensures.usable
