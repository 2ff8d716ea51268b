use Rattle.std.proofs.Common.{[], sym, ◌∙◌, subst}
use Rattle.cc_collector.specs.Kept.{RunsIn}
use Rattle.cc_tests_heaps.proofs.collectors.frees.Goals as goal

pub new_plain-requires-2-clause-order : goal.new_plain-requires-2-clause-order
new_plain-requires-2-clause-order c = ([], c.new_plain.ensures.kept.order [] c.requires.order)

pub set_script_reg-requires-clause-order : goal.set_script_reg-requires-clause-order
set_script_reg-requires-clause-order c = ([], c.new_plain-2.ensures.kept.order [] (c.new_plain.ensures.kept.order [] c.requires.order))

pub marks-requires-clause-runs : goal.marks-requires-clause-runs
marks-requires-clause-runs c =
    let first = c.new_plain.ensures.kept in
    let second = c.new_plain-2.ensures.kept in
    let last = c.set_script_reg.ensures.kept in
    subst (RunsIn c.set_script_reg.new.self) (sym c.new-collector.ensures) (record {
      order = last.order [] (second.order [] (first.order [] c.requires.order));
      colours = last.colours (second.colours (first.colours c.requires.colours));
      goes_on = tt;
      marks = last.marks.lists ∙ (second.marks.lists ∙ (first.marks.lists ∙ c.requires.idle));
    })
