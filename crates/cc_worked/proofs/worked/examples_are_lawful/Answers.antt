use Rattle.cc_worked.proofs.Examples.{cascade_of_two, self_cycle_outlives_its_register, self_cycle_is_collected, two_cycle_takes_four_units, touched_between_slices, read_between_slices, native_lives_by_an_exposed_reflector, cycle_through_a_reflector, gc_sweeps_three_rounds, entry_does_not_keep_its_key, cycle_through_an_entry, value_lives_by_its_mapping, refusals_and_odd_lines, collect_refused_at_a_node, proxy_key_lives_as_long_as_map_and_delegate, cycle_through_a_proxy_key, delegate_read_after_its_mapping_was_noted, last_register_and_last_slot_move, moved_to_a_native_that_is_yet_to_be_traversed, moved_forth_and_back_between_slices, native_lives_by_a_moved_reflector, value_lives_by_a_moved_key, steps_to_a_value, steps_through_both_heaps, steps_to_a_proxy_key, cycle_through_an_entry_is_told_once, swept_reflector_follows_from_nothing, why_between_slices, why_of_a_freed_candidate, refused_why_leaves_the_collection, object_read_between_units_is_kept, slice_ends_a_marking_first, gray_by_the_new_mark_is_exposed, tail_moves_in_front_of_the_scan, collect_ends_a_marking_first, proxy_key_stays_at_the_end, mark_with_a_refused_collection, slice_ends_a_marking_and_is_refused}
use Rattle.cc_worked.proofs.Working.{works-lawful}
use Rattle.cc_worked.proofs.worked.examples_are_lawful.Goals as goal

pub returns-clause-cascade_of_two : goal.returns-clause-cascade_of_two
returns-clause-cascade_of_two c = works-lawful cascade_of_two

pub returns-clause-self_cycle_outlives_its_register : goal.returns-clause-self_cycle_outlives_its_register
returns-clause-self_cycle_outlives_its_register c = works-lawful self_cycle_outlives_its_register

pub returns-clause-self_cycle_is_collected : goal.returns-clause-self_cycle_is_collected
returns-clause-self_cycle_is_collected c = works-lawful self_cycle_is_collected

pub returns-clause-two_cycle_takes_four_units : goal.returns-clause-two_cycle_takes_four_units
returns-clause-two_cycle_takes_four_units c = works-lawful two_cycle_takes_four_units

pub returns-clause-touched_between_slices : goal.returns-clause-touched_between_slices
returns-clause-touched_between_slices c = works-lawful touched_between_slices

pub returns-clause-read_between_slices : goal.returns-clause-read_between_slices
returns-clause-read_between_slices c = works-lawful read_between_slices

pub returns-clause-native_lives_by_an_exposed_reflector : goal.returns-clause-native_lives_by_an_exposed_reflector
returns-clause-native_lives_by_an_exposed_reflector c = works-lawful native_lives_by_an_exposed_reflector

pub returns-clause-cycle_through_a_reflector : goal.returns-clause-cycle_through_a_reflector
returns-clause-cycle_through_a_reflector c = works-lawful cycle_through_a_reflector

pub returns-clause-gc_sweeps_three_rounds : goal.returns-clause-gc_sweeps_three_rounds
returns-clause-gc_sweeps_three_rounds c = works-lawful gc_sweeps_three_rounds

pub returns-clause-entry_does_not_keep_its_key : goal.returns-clause-entry_does_not_keep_its_key
returns-clause-entry_does_not_keep_its_key c = works-lawful entry_does_not_keep_its_key

pub returns-clause-cycle_through_an_entry : goal.returns-clause-cycle_through_an_entry
returns-clause-cycle_through_an_entry c = works-lawful cycle_through_an_entry

pub returns-clause-value_lives_by_its_mapping : goal.returns-clause-value_lives_by_its_mapping
returns-clause-value_lives_by_its_mapping c = works-lawful value_lives_by_its_mapping

pub returns-clause-proxy_key_lives_as_long_as_map_and_delegate : goal.returns-clause-proxy_key_lives_as_long_as_map_and_delegate
returns-clause-proxy_key_lives_as_long_as_map_and_delegate c = works-lawful proxy_key_lives_as_long_as_map_and_delegate

pub returns-clause-cycle_through_a_proxy_key : goal.returns-clause-cycle_through_a_proxy_key
returns-clause-cycle_through_a_proxy_key c = works-lawful cycle_through_a_proxy_key

pub returns-clause-delegate_read_after_its_mapping_was_noted : goal.returns-clause-delegate_read_after_its_mapping_was_noted
returns-clause-delegate_read_after_its_mapping_was_noted c = works-lawful delegate_read_after_its_mapping_was_noted

pub returns-clause-refusals_and_odd_lines : goal.returns-clause-refusals_and_odd_lines
returns-clause-refusals_and_odd_lines c = works-lawful refusals_and_odd_lines

pub returns-clause-collect_refused_at_a_node : goal.returns-clause-collect_refused_at_a_node
returns-clause-collect_refused_at_a_node c = works-lawful collect_refused_at_a_node

pub returns-clause-last_register_and_last_slot_move : goal.returns-clause-last_register_and_last_slot_move
returns-clause-last_register_and_last_slot_move c = works-lawful last_register_and_last_slot_move

pub returns-clause-moved_to_a_native_that_is_yet_to_be_traversed : goal.returns-clause-moved_to_a_native_that_is_yet_to_be_traversed
returns-clause-moved_to_a_native_that_is_yet_to_be_traversed c = works-lawful moved_to_a_native_that_is_yet_to_be_traversed

pub returns-clause-moved_forth_and_back_between_slices : goal.returns-clause-moved_forth_and_back_between_slices
returns-clause-moved_forth_and_back_between_slices c = works-lawful moved_forth_and_back_between_slices

pub returns-clause-native_lives_by_a_moved_reflector : goal.returns-clause-native_lives_by_a_moved_reflector
returns-clause-native_lives_by_a_moved_reflector c = works-lawful native_lives_by_a_moved_reflector

pub returns-clause-value_lives_by_a_moved_key : goal.returns-clause-value_lives_by_a_moved_key
returns-clause-value_lives_by_a_moved_key c = works-lawful value_lives_by_a_moved_key

pub returns-clause-steps_to_a_value : goal.returns-clause-steps_to_a_value
returns-clause-steps_to_a_value c = works-lawful steps_to_a_value

pub returns-clause-steps_through_both_heaps : goal.returns-clause-steps_through_both_heaps
returns-clause-steps_through_both_heaps c = works-lawful steps_through_both_heaps

pub returns-clause-steps_to_a_proxy_key : goal.returns-clause-steps_to_a_proxy_key
returns-clause-steps_to_a_proxy_key c = works-lawful steps_to_a_proxy_key

pub returns-clause-cycle_through_an_entry_is_told_once : goal.returns-clause-cycle_through_an_entry_is_told_once
returns-clause-cycle_through_an_entry_is_told_once c = works-lawful cycle_through_an_entry_is_told_once

pub returns-clause-swept_reflector_follows_from_nothing : goal.returns-clause-swept_reflector_follows_from_nothing
returns-clause-swept_reflector_follows_from_nothing c = works-lawful swept_reflector_follows_from_nothing

pub returns-clause-why_between_slices : goal.returns-clause-why_between_slices
returns-clause-why_between_slices c = works-lawful why_between_slices

pub returns-clause-why_of_a_freed_candidate : goal.returns-clause-why_of_a_freed_candidate
returns-clause-why_of_a_freed_candidate c = works-lawful why_of_a_freed_candidate

pub returns-clause-refused_why_leaves_the_collection : goal.returns-clause-refused_why_leaves_the_collection
returns-clause-refused_why_leaves_the_collection c = works-lawful refused_why_leaves_the_collection

pub returns-clause-object_read_between_units_is_kept : goal.returns-clause-object_read_between_units_is_kept
returns-clause-object_read_between_units_is_kept c = works-lawful object_read_between_units_is_kept

pub returns-clause-slice_ends_a_marking_first : goal.returns-clause-slice_ends_a_marking_first
returns-clause-slice_ends_a_marking_first c = works-lawful slice_ends_a_marking_first

pub returns-clause-gray_by_the_new_mark_is_exposed : goal.returns-clause-gray_by_the_new_mark_is_exposed
returns-clause-gray_by_the_new_mark_is_exposed c = works-lawful gray_by_the_new_mark_is_exposed

pub returns-clause-tail_moves_in_front_of_the_scan : goal.returns-clause-tail_moves_in_front_of_the_scan
returns-clause-tail_moves_in_front_of_the_scan c = works-lawful tail_moves_in_front_of_the_scan

pub returns-clause-collect_ends_a_marking_first : goal.returns-clause-collect_ends_a_marking_first
returns-clause-collect_ends_a_marking_first c = works-lawful collect_ends_a_marking_first

pub returns-clause-proxy_key_stays_at_the_end : goal.returns-clause-proxy_key_stays_at_the_end
returns-clause-proxy_key_stays_at_the_end c = works-lawful proxy_key_stays_at_the_end

pub returns-clause-mark_with_a_refused_collection : goal.returns-clause-mark_with_a_refused_collection
returns-clause-mark_with_a_refused_collection c = works-lawful mark_with_a_refused_collection

pub returns-clause-slice_ends_a_marking_and_is_refused : goal.returns-clause-slice_ends_a_marking_and_is_refused
returns-clause-slice_ends_a_marking_and_is_refused c = works-lawful slice_ends_a_marking_and_is_refused
