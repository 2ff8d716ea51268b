use Rattle.std.specs.Prelude.{refl}
use Rattle.cc_worked.specs.Right.{memory_may_be_refused, reflector_may_be_refused_again, refused_collections_abandon, gc_abandons_first, mark_abandons_first, script_objects_are_freed_by_what_collects, refused_slice_frees_script_objects, reflector_freed_by_a_slice_is_made_again, garbage_stays_behind_a_mark, two_collections_end, garbage_stays_for_a_while, value_goes_with_its_key, proxy_may_be_refused_memory, proxy_key_goes_with_its_delegate, lines_that_ask_nothing, move_frees_what_the_slot_held, version_two_behind_a_comment, census_in_order, path_in_order, path_may_be_refused_memory, garbage_follows_from_nothing}
use Rattle.cc_worked.proofs.Opened.{all_of_a_run}
use Rattle.cc_worked.proofs.Judged.{right}
use Rattle.cc_worked.proofs.right.right_transcripts_pass.Goals as goal

pub returns-clause-memory_may_be_refused : goal.returns-clause-memory_may_be_refused
unfolding all_of_a_run
returns-clause-memory_may_be_refused c = right memory_may_be_refused refl

pub returns-clause-reflector_may_be_refused_again : goal.returns-clause-reflector_may_be_refused_again
unfolding all_of_a_run
returns-clause-reflector_may_be_refused_again c = right reflector_may_be_refused_again refl

pub returns-clause-refused_collections_abandon : goal.returns-clause-refused_collections_abandon
unfolding all_of_a_run
returns-clause-refused_collections_abandon c = right refused_collections_abandon refl

pub returns-clause-gc_abandons_first : goal.returns-clause-gc_abandons_first
unfolding all_of_a_run
returns-clause-gc_abandons_first c = right gc_abandons_first refl

pub returns-clause-mark_abandons_first : goal.returns-clause-mark_abandons_first
unfolding all_of_a_run
returns-clause-mark_abandons_first c = right mark_abandons_first refl

pub returns-clause-script_objects_are_freed_by_what_collects : goal.returns-clause-script_objects_are_freed_by_what_collects
unfolding all_of_a_run
returns-clause-script_objects_are_freed_by_what_collects c = right script_objects_are_freed_by_what_collects refl

pub returns-clause-refused_slice_frees_script_objects : goal.returns-clause-refused_slice_frees_script_objects
unfolding all_of_a_run
returns-clause-refused_slice_frees_script_objects c = right refused_slice_frees_script_objects refl

pub returns-clause-reflector_freed_by_a_slice_is_made_again : goal.returns-clause-reflector_freed_by_a_slice_is_made_again
unfolding all_of_a_run
returns-clause-reflector_freed_by_a_slice_is_made_again c = right reflector_freed_by_a_slice_is_made_again refl

pub returns-clause-garbage_stays_behind_a_mark : goal.returns-clause-garbage_stays_behind_a_mark
unfolding all_of_a_run
returns-clause-garbage_stays_behind_a_mark c = right garbage_stays_behind_a_mark refl

pub returns-clause-two_collections_end : goal.returns-clause-two_collections_end
unfolding all_of_a_run
returns-clause-two_collections_end c = right two_collections_end refl

pub returns-clause-garbage_stays_for_a_while : goal.returns-clause-garbage_stays_for_a_while
unfolding all_of_a_run
returns-clause-garbage_stays_for_a_while c = right garbage_stays_for_a_while refl

pub returns-clause-value_goes_with_its_key : goal.returns-clause-value_goes_with_its_key
unfolding all_of_a_run
returns-clause-value_goes_with_its_key c = right value_goes_with_its_key refl

pub returns-clause-proxy_may_be_refused_memory : goal.returns-clause-proxy_may_be_refused_memory
unfolding all_of_a_run
returns-clause-proxy_may_be_refused_memory c = right proxy_may_be_refused_memory refl

pub returns-clause-proxy_key_goes_with_its_delegate : goal.returns-clause-proxy_key_goes_with_its_delegate
unfolding all_of_a_run
returns-clause-proxy_key_goes_with_its_delegate c = right proxy_key_goes_with_its_delegate refl

pub returns-clause-lines_that_ask_nothing : goal.returns-clause-lines_that_ask_nothing
unfolding all_of_a_run
returns-clause-lines_that_ask_nothing c = right lines_that_ask_nothing refl

pub returns-clause-move_frees_what_the_slot_held : goal.returns-clause-move_frees_what_the_slot_held
unfolding all_of_a_run
returns-clause-move_frees_what_the_slot_held c = right move_frees_what_the_slot_held refl

pub returns-clause-version_two_behind_a_comment : goal.returns-clause-version_two_behind_a_comment
unfolding all_of_a_run
returns-clause-version_two_behind_a_comment c = right version_two_behind_a_comment refl

pub returns-clause-census_in_order : goal.returns-clause-census_in_order
unfolding all_of_a_run
returns-clause-census_in_order c = right census_in_order refl

pub returns-clause-path_in_order : goal.returns-clause-path_in_order
unfolding all_of_a_run
returns-clause-path_in_order c = right path_in_order refl

pub returns-clause-path_may_be_refused_memory : goal.returns-clause-path_may_be_refused_memory
unfolding all_of_a_run
returns-clause-path_may_be_refused_memory c = right path_may_be_refused_memory refl

pub returns-clause-garbage_follows_from_nothing : goal.returns-clause-garbage_follows_from_nothing
unfolding all_of_a_run
returns-clause-garbage_follows_from_nothing c = right garbage_follows_from_nothing refl
