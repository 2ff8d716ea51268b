use Rattle.std.specs.Prelude.{refl}
use Rattle.cc_worked.specs.Garbage.{garbage_is_kept, garbage_is_kept_after_two_gcs, garbage_is_kept_after_two_collections, garbage_is_kept_after_two_rows, garbage_is_kept_between_blank_lines, script_object_is_kept, reflector_is_kept, reflector_of_a_taken_out_entry_is_kept, proxy_is_kept, delegate_of_a_key_is_kept, reached_native_is_missing}
use Rattle.cc_worked.proofs.Opened.{all_of_a_run}
use Rattle.cc_worked.proofs.Judged.{unquiet, unquiet-at_its_end}
use Rattle.cc_worked.proofs.garbage.unquiet_censuses_are_refused.Goals as goal

pub returns-clause-garbage_is_kept : goal.returns-clause-garbage_is_kept
unfolding all_of_a_run
returns-clause-garbage_is_kept c = unquiet-at_its_end garbage_is_kept refl refl refl

pub returns-clause-garbage_is_kept_after_two_gcs : goal.returns-clause-garbage_is_kept_after_two_gcs
unfolding all_of_a_run
returns-clause-garbage_is_kept_after_two_gcs c = unquiet-at_its_end garbage_is_kept_after_two_gcs refl refl refl

pub returns-clause-garbage_is_kept_after_two_collections : goal.returns-clause-garbage_is_kept_after_two_collections
unfolding all_of_a_run
returns-clause-garbage_is_kept_after_two_collections c = unquiet-at_its_end garbage_is_kept_after_two_collections refl refl refl

pub returns-clause-garbage_is_kept_after_two_rows : goal.returns-clause-garbage_is_kept_after_two_rows
unfolding all_of_a_run
returns-clause-garbage_is_kept_after_two_rows c = unquiet-at_its_end garbage_is_kept_after_two_rows refl refl refl

pub returns-clause-garbage_is_kept_between_blank_lines : goal.returns-clause-garbage_is_kept_between_blank_lines
unfolding all_of_a_run
returns-clause-garbage_is_kept_between_blank_lines c = unquiet-at_its_end garbage_is_kept_between_blank_lines refl refl refl

pub returns-clause-script_object_is_kept : goal.returns-clause-script_object_is_kept
unfolding all_of_a_run
returns-clause-script_object_is_kept c = unquiet-at_its_end script_object_is_kept refl refl refl

pub returns-clause-reflector_is_kept : goal.returns-clause-reflector_is_kept
unfolding all_of_a_run
returns-clause-reflector_is_kept c = unquiet-at_its_end reflector_is_kept refl refl refl

pub returns-clause-reflector_of_a_taken_out_entry_is_kept : goal.returns-clause-reflector_of_a_taken_out_entry_is_kept
unfolding all_of_a_run
returns-clause-reflector_of_a_taken_out_entry_is_kept c = unquiet-at_its_end reflector_of_a_taken_out_entry_is_kept refl refl refl

pub returns-clause-proxy_is_kept : goal.returns-clause-proxy_is_kept
unfolding all_of_a_run
returns-clause-proxy_is_kept c = unquiet-at_its_end proxy_is_kept refl refl refl

pub returns-clause-delegate_of_a_key_is_kept : goal.returns-clause-delegate_of_a_key_is_kept
unfolding all_of_a_run
returns-clause-delegate_of_a_key_is_kept c = unquiet-at_its_end delegate_of_a_key_is_kept refl refl refl

pub returns-clause-reached_native_is_missing : goal.returns-clause-reached_native_is_missing
unfolding all_of_a_run
returns-clause-reached_native_is_missing c = unquiet reached_native_is_missing refl
