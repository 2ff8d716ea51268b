use Rattle.std.specs.Prelude.{refl}
use Rattle.cc_worked.specs.WrongReplies.{census_leaves_one_out, census_lists_what_was_freed, census_lists_what_was_not_made, census_lists_script_objects_first, census_lists_in_falling_order, census_lists_a_reflector_in_its_old_place, census_lists_a_wrapped_reflector_last, census_lists_a_reflector_twice, census_tells_another_number, census_tells_no_number, freed_by_a_census}
use Rattle.cc_worked.proofs.Opened.{all_of_a_run}
use Rattle.cc_worked.proofs.Judged.{unlawful-at_its_end}
use Rattle.cc_worked.proofs.wrong.wrong_censuses_are_refused.Goals as goal

pub returns-clause-census_leaves_one_out : goal.returns-clause-census_leaves_one_out
unfolding all_of_a_run
returns-clause-census_leaves_one_out c = unlawful-at_its_end census_leaves_one_out refl refl refl

pub returns-clause-census_lists_what_was_freed : goal.returns-clause-census_lists_what_was_freed
unfolding all_of_a_run
returns-clause-census_lists_what_was_freed c = unlawful-at_its_end census_lists_what_was_freed refl refl refl

pub returns-clause-census_lists_what_was_not_made : goal.returns-clause-census_lists_what_was_not_made
unfolding all_of_a_run
returns-clause-census_lists_what_was_not_made c = unlawful-at_its_end census_lists_what_was_not_made refl refl refl

pub returns-clause-census_lists_script_objects_first : goal.returns-clause-census_lists_script_objects_first
unfolding all_of_a_run
returns-clause-census_lists_script_objects_first c = unlawful-at_its_end census_lists_script_objects_first refl refl refl

pub returns-clause-census_lists_in_falling_order : goal.returns-clause-census_lists_in_falling_order
unfolding all_of_a_run
returns-clause-census_lists_in_falling_order c = unlawful-at_its_end census_lists_in_falling_order refl refl refl

pub returns-clause-census_lists_a_reflector_in_its_old_place : goal.returns-clause-census_lists_a_reflector_in_its_old_place
unfolding all_of_a_run
returns-clause-census_lists_a_reflector_in_its_old_place c = unlawful-at_its_end census_lists_a_reflector_in_its_old_place refl refl refl

pub returns-clause-census_lists_a_wrapped_reflector_last : goal.returns-clause-census_lists_a_wrapped_reflector_last
unfolding all_of_a_run
returns-clause-census_lists_a_wrapped_reflector_last c = unlawful-at_its_end census_lists_a_wrapped_reflector_last refl refl refl

pub returns-clause-census_lists_a_reflector_twice : goal.returns-clause-census_lists_a_reflector_twice
unfolding all_of_a_run
returns-clause-census_lists_a_reflector_twice c = unlawful-at_its_end census_lists_a_reflector_twice refl refl refl

pub returns-clause-census_tells_another_number : goal.returns-clause-census_tells_another_number
unfolding all_of_a_run
returns-clause-census_tells_another_number c = unlawful-at_its_end census_tells_another_number refl refl refl

pub returns-clause-census_tells_no_number : goal.returns-clause-census_tells_no_number
unfolding all_of_a_run
returns-clause-census_tells_no_number c = unlawful-at_its_end census_tells_no_number refl refl refl

pub returns-clause-freed_by_a_census : goal.returns-clause-freed_by_a_census
unfolding all_of_a_run
returns-clause-freed_by_a_census c = unlawful-at_its_end freed_by_a_census refl refl refl
