use Rattle.std.specs.Prelude.{refl}
use Rattle.cc_worked.specs.WrongReplies.{copy_of_a_native_wants_memory, copy_of_a_script_object_wants_memory, drop_wants_memory, set_wants_memory, get_wants_memory, put_wants_memory, take_wants_memory, wrap_of_a_listed_reflector_wants_memory, unwrap_wants_memory, preserve_wants_memory, replaced_entry_wants_memory, taken_out_entry_wants_memory, wget_wants_memory, expose_wants_memory, gc_wants_memory, mark_wants_memory, move_wants_memory, version_wants_memory, refused_wrap_wants_memory, refused_wset_wants_memory, refused_proxy_wants_memory, full_in_place_of_want_of_memory}
use Rattle.cc_worked.proofs.Opened.{all_of_a_run}
use Rattle.cc_worked.proofs.Judged.{unlawful-at_its_end}
use Rattle.cc_worked.proofs.wrong.false_wants_of_memory_are_refused.Goals as goal

pub returns-clause-copy_of_a_native_wants_memory : goal.returns-clause-copy_of_a_native_wants_memory
unfolding all_of_a_run
returns-clause-copy_of_a_native_wants_memory c = unlawful-at_its_end copy_of_a_native_wants_memory refl refl refl

pub returns-clause-copy_of_a_script_object_wants_memory : goal.returns-clause-copy_of_a_script_object_wants_memory
unfolding all_of_a_run
returns-clause-copy_of_a_script_object_wants_memory c = unlawful-at_its_end copy_of_a_script_object_wants_memory refl refl refl

pub returns-clause-drop_wants_memory : goal.returns-clause-drop_wants_memory
unfolding all_of_a_run
returns-clause-drop_wants_memory c = unlawful-at_its_end drop_wants_memory refl refl refl

pub returns-clause-set_wants_memory : goal.returns-clause-set_wants_memory
unfolding all_of_a_run
returns-clause-set_wants_memory c = unlawful-at_its_end set_wants_memory refl refl refl

pub returns-clause-get_wants_memory : goal.returns-clause-get_wants_memory
unfolding all_of_a_run
returns-clause-get_wants_memory c = unlawful-at_its_end get_wants_memory refl refl refl

pub returns-clause-put_wants_memory : goal.returns-clause-put_wants_memory
unfolding all_of_a_run
returns-clause-put_wants_memory c = unlawful-at_its_end put_wants_memory refl refl refl

pub returns-clause-take_wants_memory : goal.returns-clause-take_wants_memory
unfolding all_of_a_run
returns-clause-take_wants_memory c = unlawful-at_its_end take_wants_memory refl refl refl

pub returns-clause-wrap_of_a_listed_reflector_wants_memory : goal.returns-clause-wrap_of_a_listed_reflector_wants_memory
unfolding all_of_a_run
returns-clause-wrap_of_a_listed_reflector_wants_memory c = unlawful-at_its_end wrap_of_a_listed_reflector_wants_memory refl refl refl

pub returns-clause-unwrap_wants_memory : goal.returns-clause-unwrap_wants_memory
unfolding all_of_a_run
returns-clause-unwrap_wants_memory c = unlawful-at_its_end unwrap_wants_memory refl refl refl

pub returns-clause-preserve_wants_memory : goal.returns-clause-preserve_wants_memory
unfolding all_of_a_run
returns-clause-preserve_wants_memory c = unlawful-at_its_end preserve_wants_memory refl refl refl

pub returns-clause-replaced_entry_wants_memory : goal.returns-clause-replaced_entry_wants_memory
unfolding all_of_a_run
returns-clause-replaced_entry_wants_memory c = unlawful-at_its_end replaced_entry_wants_memory refl refl refl

pub returns-clause-taken_out_entry_wants_memory : goal.returns-clause-taken_out_entry_wants_memory
unfolding all_of_a_run
returns-clause-taken_out_entry_wants_memory c = unlawful-at_its_end taken_out_entry_wants_memory refl refl refl

pub returns-clause-wget_wants_memory : goal.returns-clause-wget_wants_memory
unfolding all_of_a_run
returns-clause-wget_wants_memory c = unlawful-at_its_end wget_wants_memory refl refl refl

pub returns-clause-expose_wants_memory : goal.returns-clause-expose_wants_memory
unfolding all_of_a_run
returns-clause-expose_wants_memory c = unlawful-at_its_end expose_wants_memory refl refl refl

pub returns-clause-gc_wants_memory : goal.returns-clause-gc_wants_memory
unfolding all_of_a_run
returns-clause-gc_wants_memory c = unlawful-at_its_end gc_wants_memory refl refl refl

pub returns-clause-mark_wants_memory : goal.returns-clause-mark_wants_memory
unfolding all_of_a_run
returns-clause-mark_wants_memory c = unlawful-at_its_end mark_wants_memory refl refl refl

pub returns-clause-move_wants_memory : goal.returns-clause-move_wants_memory
unfolding all_of_a_run
returns-clause-move_wants_memory c = unlawful-at_its_end move_wants_memory refl refl refl

pub returns-clause-version_wants_memory : goal.returns-clause-version_wants_memory
unfolding all_of_a_run
returns-clause-version_wants_memory c = unlawful-at_its_end version_wants_memory refl refl refl

pub returns-clause-refused_wrap_wants_memory : goal.returns-clause-refused_wrap_wants_memory
unfolding all_of_a_run
returns-clause-refused_wrap_wants_memory c = unlawful-at_its_end refused_wrap_wants_memory refl refl refl

pub returns-clause-refused_wset_wants_memory : goal.returns-clause-refused_wset_wants_memory
unfolding all_of_a_run
returns-clause-refused_wset_wants_memory c = unlawful-at_its_end refused_wset_wants_memory refl refl refl

pub returns-clause-refused_proxy_wants_memory : goal.returns-clause-refused_proxy_wants_memory
unfolding all_of_a_run
returns-clause-refused_proxy_wants_memory c = unlawful-at_its_end refused_proxy_wants_memory refl refl refl

pub returns-clause-full_in_place_of_want_of_memory : goal.returns-clause-full_in_place_of_want_of_memory
unfolding all_of_a_run
returns-clause-full_in_place_of_want_of_memory c = unlawful-at_its_end full_in_place_of_want_of_memory refl refl refl
