use Rattle.std.specs.Prelude.{refl}
use Rattle.cc_worked.specs.WrongEvents.{refused_slice_abandons_nothing, refused_collect_abandons_nothing, refused_slice_abandons_twice, refused_collect_abandons_twice, freed_after_the_abandonment, script_object_is_freed_after_the_abandonment, slice_abandons_and_is_done, collect_abandons_and_is_done, gc_abandons_twice, gc_abandons_late, mark_abandons_twice, mark_abandons_late, mark_abandons_and_is_refused, drop_abandons}
use Rattle.cc_worked.proofs.Opened.{all_of_a_run}
use Rattle.cc_worked.proofs.Judged.{unlawful-at_its_end}
use Rattle.cc_worked.proofs.wrong.wrong_abandonments_are_refused.Goals as goal

pub returns-clause-refused_slice_abandons_nothing : goal.returns-clause-refused_slice_abandons_nothing
unfolding all_of_a_run
returns-clause-refused_slice_abandons_nothing c = unlawful-at_its_end refused_slice_abandons_nothing refl refl refl

pub returns-clause-refused_collect_abandons_nothing : goal.returns-clause-refused_collect_abandons_nothing
unfolding all_of_a_run
returns-clause-refused_collect_abandons_nothing c = unlawful-at_its_end refused_collect_abandons_nothing refl refl refl

pub returns-clause-refused_slice_abandons_twice : goal.returns-clause-refused_slice_abandons_twice
unfolding all_of_a_run
returns-clause-refused_slice_abandons_twice c = unlawful-at_its_end refused_slice_abandons_twice refl refl refl

pub returns-clause-refused_collect_abandons_twice : goal.returns-clause-refused_collect_abandons_twice
unfolding all_of_a_run
returns-clause-refused_collect_abandons_twice c = unlawful-at_its_end refused_collect_abandons_twice refl refl refl

pub returns-clause-freed_after_the_abandonment : goal.returns-clause-freed_after_the_abandonment
unfolding all_of_a_run
returns-clause-freed_after_the_abandonment c = unlawful-at_its_end freed_after_the_abandonment refl refl refl

pub returns-clause-script_object_is_freed_after_the_abandonment : goal.returns-clause-script_object_is_freed_after_the_abandonment
unfolding all_of_a_run
returns-clause-script_object_is_freed_after_the_abandonment c = unlawful-at_its_end script_object_is_freed_after_the_abandonment refl refl refl

pub returns-clause-slice_abandons_and_is_done : goal.returns-clause-slice_abandons_and_is_done
unfolding all_of_a_run
returns-clause-slice_abandons_and_is_done c = unlawful-at_its_end slice_abandons_and_is_done refl refl refl

pub returns-clause-collect_abandons_and_is_done : goal.returns-clause-collect_abandons_and_is_done
unfolding all_of_a_run
returns-clause-collect_abandons_and_is_done c = unlawful-at_its_end collect_abandons_and_is_done refl refl refl

pub returns-clause-gc_abandons_twice : goal.returns-clause-gc_abandons_twice
unfolding all_of_a_run
returns-clause-gc_abandons_twice c = unlawful-at_its_end gc_abandons_twice refl refl refl

pub returns-clause-gc_abandons_late : goal.returns-clause-gc_abandons_late
unfolding all_of_a_run
returns-clause-gc_abandons_late c = unlawful-at_its_end gc_abandons_late refl refl refl

pub returns-clause-mark_abandons_twice : goal.returns-clause-mark_abandons_twice
unfolding all_of_a_run
returns-clause-mark_abandons_twice c = unlawful-at_its_end mark_abandons_twice refl refl refl

pub returns-clause-mark_abandons_late : goal.returns-clause-mark_abandons_late
unfolding all_of_a_run
returns-clause-mark_abandons_late c = unlawful-at_its_end mark_abandons_late refl refl refl

pub returns-clause-mark_abandons_and_is_refused : goal.returns-clause-mark_abandons_and_is_refused
unfolding all_of_a_run
returns-clause-mark_abandons_and_is_refused c = unlawful-at_its_end mark_abandons_and_is_refused refl refl refl

pub returns-clause-drop_abandons : goal.returns-clause-drop_abandons
unfolding all_of_a_run
returns-clause-drop_abandons c = unlawful-at_its_end drop_abandons refl refl refl
