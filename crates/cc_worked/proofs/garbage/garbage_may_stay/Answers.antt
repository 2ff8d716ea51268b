use Rattle.std.specs.Prelude.{refl}
use Rattle.cc_worked.specs.Garbage.{no_gc_at_all, no_first_gc, no_collect, no_last_gc, two_collects, one_gc_more, refused_line_after_the_first, refused_line_after_the_second, refused_line_after_the_third, bad_line_between, slice_between, mark_between, mark_in_place_of_the_last_gc, collect_without_memory, garbage_may_stay_after_a_why, garbage_may_stay_after_a_census, garbage_may_stay_after_a_drop}
use Rattle.cc_worked.proofs.Opened.{all_of_a_run}
use Rattle.cc_worked.proofs.Judged.{right}
use Rattle.cc_worked.proofs.garbage.garbage_may_stay.Goals as goal

pub returns-clause-no_gc_at_all : goal.returns-clause-no_gc_at_all
unfolding all_of_a_run
returns-clause-no_gc_at_all c = right no_gc_at_all refl

pub returns-clause-no_first_gc : goal.returns-clause-no_first_gc
unfolding all_of_a_run
returns-clause-no_first_gc c = right no_first_gc refl

pub returns-clause-no_collect : goal.returns-clause-no_collect
unfolding all_of_a_run
returns-clause-no_collect c = right no_collect refl

pub returns-clause-no_last_gc : goal.returns-clause-no_last_gc
unfolding all_of_a_run
returns-clause-no_last_gc c = right no_last_gc refl

pub returns-clause-two_collects : goal.returns-clause-two_collects
unfolding all_of_a_run
returns-clause-two_collects c = right two_collects refl

pub returns-clause-one_gc_more : goal.returns-clause-one_gc_more
unfolding all_of_a_run
returns-clause-one_gc_more c = right one_gc_more refl

pub returns-clause-refused_line_after_the_first : goal.returns-clause-refused_line_after_the_first
unfolding all_of_a_run
returns-clause-refused_line_after_the_first c = right refused_line_after_the_first refl

pub returns-clause-refused_line_after_the_second : goal.returns-clause-refused_line_after_the_second
unfolding all_of_a_run
returns-clause-refused_line_after_the_second c = right refused_line_after_the_second refl

pub returns-clause-refused_line_after_the_third : goal.returns-clause-refused_line_after_the_third
unfolding all_of_a_run
returns-clause-refused_line_after_the_third c = right refused_line_after_the_third refl

pub returns-clause-bad_line_between : goal.returns-clause-bad_line_between
unfolding all_of_a_run
returns-clause-bad_line_between c = right bad_line_between refl

pub returns-clause-slice_between : goal.returns-clause-slice_between
unfolding all_of_a_run
returns-clause-slice_between c = right slice_between refl

pub returns-clause-mark_between : goal.returns-clause-mark_between
unfolding all_of_a_run
returns-clause-mark_between c = right mark_between refl

pub returns-clause-mark_in_place_of_the_last_gc : goal.returns-clause-mark_in_place_of_the_last_gc
unfolding all_of_a_run
returns-clause-mark_in_place_of_the_last_gc c = right mark_in_place_of_the_last_gc refl

pub returns-clause-collect_without_memory : goal.returns-clause-collect_without_memory
unfolding all_of_a_run
returns-clause-collect_without_memory c = right collect_without_memory refl

pub returns-clause-garbage_may_stay_after_a_why : goal.returns-clause-garbage_may_stay_after_a_why
unfolding all_of_a_run
returns-clause-garbage_may_stay_after_a_why c = right garbage_may_stay_after_a_why refl

pub returns-clause-garbage_may_stay_after_a_census : goal.returns-clause-garbage_may_stay_after_a_census
unfolding all_of_a_run
returns-clause-garbage_may_stay_after_a_census c = right garbage_may_stay_after_a_census refl

pub returns-clause-garbage_may_stay_after_a_drop : goal.returns-clause-garbage_may_stay_after_a_drop
unfolding all_of_a_run
returns-clause-garbage_may_stay_after_a_drop c = right garbage_may_stay_after_a_drop refl
