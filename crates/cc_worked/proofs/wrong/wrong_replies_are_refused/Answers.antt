use Rattle.std.specs.Prelude.{refl}
use Rattle.cc_worked.specs.WrongReplies.{another_reply, number_used_again, number_left_out, number_taken_without_memory, slot_is_read_as_empty, refused_without_cause, done_in_place_of_a_refusal, refused_for_another_cause, taken_out_entry_is_read, entry_of_another_map_is_taken_out, entry_of_another_key_is_taken_out, slot_of_a_proxy_is_read, proxy_is_taken_for_a_map, moved_native_is_not_named, moved_native_is_read_where_it_was, native_moved_onto_itself_is_lost}
use Rattle.cc_worked.proofs.Opened.{all_of_a_run}
use Rattle.cc_worked.proofs.Judged.{unlawful-at_its_end}
use Rattle.cc_worked.proofs.wrong.wrong_replies_are_refused.Goals as goal

pub returns-clause-another_reply : goal.returns-clause-another_reply
unfolding all_of_a_run
returns-clause-another_reply c = unlawful-at_its_end another_reply refl refl refl

pub returns-clause-number_used_again : goal.returns-clause-number_used_again
unfolding all_of_a_run
returns-clause-number_used_again c = unlawful-at_its_end number_used_again refl refl refl

pub returns-clause-number_left_out : goal.returns-clause-number_left_out
unfolding all_of_a_run
returns-clause-number_left_out c = unlawful-at_its_end number_left_out refl refl refl

pub returns-clause-number_taken_without_memory : goal.returns-clause-number_taken_without_memory
unfolding all_of_a_run
returns-clause-number_taken_without_memory c = unlawful-at_its_end number_taken_without_memory refl refl refl

pub returns-clause-slot_is_read_as_empty : goal.returns-clause-slot_is_read_as_empty
unfolding all_of_a_run
returns-clause-slot_is_read_as_empty c = unlawful-at_its_end slot_is_read_as_empty refl refl refl

pub returns-clause-refused_without_cause : goal.returns-clause-refused_without_cause
unfolding all_of_a_run
returns-clause-refused_without_cause c = unlawful-at_its_end refused_without_cause refl refl refl

pub returns-clause-done_in_place_of_a_refusal : goal.returns-clause-done_in_place_of_a_refusal
unfolding all_of_a_run
returns-clause-done_in_place_of_a_refusal c = unlawful-at_its_end done_in_place_of_a_refusal refl refl refl

pub returns-clause-refused_for_another_cause : goal.returns-clause-refused_for_another_cause
unfolding all_of_a_run
returns-clause-refused_for_another_cause c = unlawful-at_its_end refused_for_another_cause refl refl refl

pub returns-clause-taken_out_entry_is_read : goal.returns-clause-taken_out_entry_is_read
unfolding all_of_a_run
returns-clause-taken_out_entry_is_read c = unlawful-at_its_end taken_out_entry_is_read refl refl refl

pub returns-clause-entry_of_another_map_is_taken_out : goal.returns-clause-entry_of_another_map_is_taken_out
unfolding all_of_a_run
returns-clause-entry_of_another_map_is_taken_out c = unlawful-at_its_end entry_of_another_map_is_taken_out refl refl refl

pub returns-clause-entry_of_another_key_is_taken_out : goal.returns-clause-entry_of_another_key_is_taken_out
unfolding all_of_a_run
returns-clause-entry_of_another_key_is_taken_out c = unlawful-at_its_end entry_of_another_key_is_taken_out refl refl refl

pub returns-clause-slot_of_a_proxy_is_read : goal.returns-clause-slot_of_a_proxy_is_read
unfolding all_of_a_run
returns-clause-slot_of_a_proxy_is_read c = unlawful-at_its_end slot_of_a_proxy_is_read refl refl refl

pub returns-clause-proxy_is_taken_for_a_map : goal.returns-clause-proxy_is_taken_for_a_map
unfolding all_of_a_run
returns-clause-proxy_is_taken_for_a_map c = unlawful-at_its_end proxy_is_taken_for_a_map refl refl refl

pub returns-clause-moved_native_is_not_named : goal.returns-clause-moved_native_is_not_named
unfolding all_of_a_run
returns-clause-moved_native_is_not_named c = unlawful-at_its_end moved_native_is_not_named refl refl refl

pub returns-clause-moved_native_is_read_where_it_was : goal.returns-clause-moved_native_is_read_where_it_was
unfolding all_of_a_run
returns-clause-moved_native_is_read_where_it_was c = unlawful-at_its_end moved_native_is_read_where_it_was refl refl refl

pub returns-clause-native_moved_onto_itself_is_lost : goal.returns-clause-native_moved_onto_itself_is_lost
unfolding all_of_a_run
returns-clause-native_moved_onto_itself_is_lost c = unlawful-at_its_end native_moved_onto_itself_is_lost refl refl refl
