use Rattle.std.specs.Prelude.{refl}
use Rattle.cc_worked.specs.WrongPaths.{steps_in_another_order, members_in_another_order, first_step_is_left_out, last_step_is_left_out, step_of_the_key_is_left_out, all_steps_are_left_out, step_goes_on, step_leads_elsewhere, step_is_told_twice, follows_from_the_second_register, follows_from_the_other_bank, follows_from_the_second_holder, follows_from_itself, key_is_told_for_the_map, value_follows_from_its_map, value_follows_without_its_key, proxy_key_follows_from_its_value, reached_object_follows_from_nothing, path_to_nothing, unreached_object_is_found, swept_reflector_is_found, name_never_made_is_refused, why_answers_with_a_name, path_without_a_reply, path_without_memory, names_listed_by_why, step_told_by_a_drop, step_told_by_a_census, step_under_a_blank_line, step_under_a_bad_line, number_zero_follows_from_nothing, path_in_version_one, path_is_refused_in_version_two, freed_by_why, freed_by_why_of_itself, why_abandons}
use Rattle.cc_worked.proofs.Opened.{all_of_a_run}
use Rattle.cc_worked.proofs.Judged.{unlawful-at_its_end}
use Rattle.cc_worked.proofs.wrong.wrong_paths_are_refused.Goals as goal

pub returns-clause-steps_in_another_order : goal.returns-clause-steps_in_another_order
unfolding all_of_a_run
returns-clause-steps_in_another_order c = unlawful-at_its_end steps_in_another_order refl refl refl

pub returns-clause-members_in_another_order : goal.returns-clause-members_in_another_order
unfolding all_of_a_run
returns-clause-members_in_another_order c = unlawful-at_its_end members_in_another_order refl refl refl

pub returns-clause-first_step_is_left_out : goal.returns-clause-first_step_is_left_out
unfolding all_of_a_run
returns-clause-first_step_is_left_out c = unlawful-at_its_end first_step_is_left_out refl refl refl

pub returns-clause-last_step_is_left_out : goal.returns-clause-last_step_is_left_out
unfolding all_of_a_run
returns-clause-last_step_is_left_out c = unlawful-at_its_end last_step_is_left_out refl refl refl

pub returns-clause-step_of_the_key_is_left_out : goal.returns-clause-step_of_the_key_is_left_out
unfolding all_of_a_run
returns-clause-step_of_the_key_is_left_out c = unlawful-at_its_end step_of_the_key_is_left_out refl refl refl

pub returns-clause-all_steps_are_left_out : goal.returns-clause-all_steps_are_left_out
unfolding all_of_a_run
returns-clause-all_steps_are_left_out c = unlawful-at_its_end all_steps_are_left_out refl refl refl

pub returns-clause-step_goes_on : goal.returns-clause-step_goes_on
unfolding all_of_a_run
returns-clause-step_goes_on c = unlawful-at_its_end step_goes_on refl refl refl

pub returns-clause-step_leads_elsewhere : goal.returns-clause-step_leads_elsewhere
unfolding all_of_a_run
returns-clause-step_leads_elsewhere c = unlawful-at_its_end step_leads_elsewhere refl refl refl

pub returns-clause-step_is_told_twice : goal.returns-clause-step_is_told_twice
unfolding all_of_a_run
returns-clause-step_is_told_twice c = unlawful-at_its_end step_is_told_twice refl refl refl

pub returns-clause-follows_from_the_second_register : goal.returns-clause-follows_from_the_second_register
unfolding all_of_a_run
returns-clause-follows_from_the_second_register c = unlawful-at_its_end follows_from_the_second_register refl refl refl

pub returns-clause-follows_from_the_other_bank : goal.returns-clause-follows_from_the_other_bank
unfolding all_of_a_run
returns-clause-follows_from_the_other_bank c = unlawful-at_its_end follows_from_the_other_bank refl refl refl

pub returns-clause-follows_from_the_second_holder : goal.returns-clause-follows_from_the_second_holder
unfolding all_of_a_run
returns-clause-follows_from_the_second_holder c = unlawful-at_its_end follows_from_the_second_holder refl refl refl

pub returns-clause-follows_from_itself : goal.returns-clause-follows_from_itself
unfolding all_of_a_run
returns-clause-follows_from_itself c = unlawful-at_its_end follows_from_itself refl refl refl

pub returns-clause-key_is_told_for_the_map : goal.returns-clause-key_is_told_for_the_map
unfolding all_of_a_run
returns-clause-key_is_told_for_the_map c = unlawful-at_its_end key_is_told_for_the_map refl refl refl

pub returns-clause-value_follows_from_its_map : goal.returns-clause-value_follows_from_its_map
unfolding all_of_a_run
returns-clause-value_follows_from_its_map c = unlawful-at_its_end value_follows_from_its_map refl refl refl

pub returns-clause-value_follows_without_its_key : goal.returns-clause-value_follows_without_its_key
unfolding all_of_a_run
returns-clause-value_follows_without_its_key c = unlawful-at_its_end value_follows_without_its_key refl refl refl

pub returns-clause-proxy_key_follows_from_its_value : goal.returns-clause-proxy_key_follows_from_its_value
unfolding all_of_a_run
returns-clause-proxy_key_follows_from_its_value c = unlawful-at_its_end proxy_key_follows_from_its_value refl refl refl

pub returns-clause-reached_object_follows_from_nothing : goal.returns-clause-reached_object_follows_from_nothing
unfolding all_of_a_run
returns-clause-reached_object_follows_from_nothing c = unlawful-at_its_end reached_object_follows_from_nothing refl refl refl

pub returns-clause-path_to_nothing : goal.returns-clause-path_to_nothing
unfolding all_of_a_run
returns-clause-path_to_nothing c = unlawful-at_its_end path_to_nothing refl refl refl

pub returns-clause-unreached_object_is_found : goal.returns-clause-unreached_object_is_found
unfolding all_of_a_run
returns-clause-unreached_object_is_found c = unlawful-at_its_end unreached_object_is_found refl refl refl

pub returns-clause-swept_reflector_is_found : goal.returns-clause-swept_reflector_is_found
unfolding all_of_a_run
returns-clause-swept_reflector_is_found c = unlawful-at_its_end swept_reflector_is_found refl refl refl

pub returns-clause-name_never_made_is_refused : goal.returns-clause-name_never_made_is_refused
unfolding all_of_a_run
returns-clause-name_never_made_is_refused c = unlawful-at_its_end name_never_made_is_refused refl refl refl

pub returns-clause-why_answers_with_a_name : goal.returns-clause-why_answers_with_a_name
unfolding all_of_a_run
returns-clause-why_answers_with_a_name c = unlawful-at_its_end why_answers_with_a_name refl refl refl

pub returns-clause-path_without_a_reply : goal.returns-clause-path_without_a_reply
unfolding all_of_a_run
returns-clause-path_without_a_reply c = unlawful-at_its_end path_without_a_reply refl refl refl

pub returns-clause-path_without_memory : goal.returns-clause-path_without_memory
unfolding all_of_a_run
returns-clause-path_without_memory c = unlawful-at_its_end path_without_memory refl refl refl

pub returns-clause-names_listed_by_why : goal.returns-clause-names_listed_by_why
unfolding all_of_a_run
returns-clause-names_listed_by_why c = unlawful-at_its_end names_listed_by_why refl refl refl

pub returns-clause-step_told_by_a_drop : goal.returns-clause-step_told_by_a_drop
unfolding all_of_a_run
returns-clause-step_told_by_a_drop c = unlawful-at_its_end step_told_by_a_drop refl refl refl

pub returns-clause-step_told_by_a_census : goal.returns-clause-step_told_by_a_census
unfolding all_of_a_run
returns-clause-step_told_by_a_census c = unlawful-at_its_end step_told_by_a_census refl refl refl

pub returns-clause-step_under_a_blank_line : goal.returns-clause-step_under_a_blank_line
unfolding all_of_a_run
returns-clause-step_under_a_blank_line c = unlawful-at_its_end step_under_a_blank_line refl refl refl

pub returns-clause-step_under_a_bad_line : goal.returns-clause-step_under_a_bad_line
unfolding all_of_a_run
returns-clause-step_under_a_bad_line c = unlawful-at_its_end step_under_a_bad_line refl refl refl

pub returns-clause-number_zero_follows_from_nothing : goal.returns-clause-number_zero_follows_from_nothing
unfolding all_of_a_run
returns-clause-number_zero_follows_from_nothing c = unlawful-at_its_end number_zero_follows_from_nothing refl refl refl

pub returns-clause-path_in_version_one : goal.returns-clause-path_in_version_one
unfolding all_of_a_run
returns-clause-path_in_version_one c = unlawful-at_its_end path_in_version_one refl refl refl

pub returns-clause-path_is_refused_in_version_two : goal.returns-clause-path_is_refused_in_version_two
unfolding all_of_a_run
returns-clause-path_is_refused_in_version_two c = unlawful-at_its_end path_is_refused_in_version_two refl refl refl

pub returns-clause-freed_by_why : goal.returns-clause-freed_by_why
unfolding all_of_a_run
returns-clause-freed_by_why c = unlawful-at_its_end freed_by_why refl refl refl

pub returns-clause-freed_by_why_of_itself : goal.returns-clause-freed_by_why_of_itself
unfolding all_of_a_run
returns-clause-freed_by_why_of_itself c = unlawful-at_its_end freed_by_why_of_itself refl refl refl

pub returns-clause-why_abandons : goal.returns-clause-why_abandons
unfolding all_of_a_run
returns-clause-why_abandons c = unlawful-at_its_end why_abandons refl refl refl
