use Rattle.cc_worked.proofs.Examples.{self_cycle_is_collected, touched_between_slices, value_lives_by_its_mapping, cycle_through_a_proxy_key, moved_to_a_native_that_is_yet_to_be_traversed, steps_to_a_proxy_key, steps_through_both_heaps, object_read_between_units_is_kept, slice_ends_a_marking_first, proxy_key_stays_at_the_end}
use Rattle.cc_worked.proofs.worked.examples_write_their_lines.Goals as goal

pub returns-clause-self_cycle_is_collected : goal.returns-clause-self_cycle_is_collected
returns-clause-self_cycle_is_collected c = self_cycle_is_collected.writes

pub returns-clause-touched_between_slices : goal.returns-clause-touched_between_slices
returns-clause-touched_between_slices c = touched_between_slices.writes

pub returns-clause-value_lives_by_its_mapping : goal.returns-clause-value_lives_by_its_mapping
returns-clause-value_lives_by_its_mapping c = value_lives_by_its_mapping.writes

pub returns-clause-cycle_through_a_proxy_key : goal.returns-clause-cycle_through_a_proxy_key
returns-clause-cycle_through_a_proxy_key c = cycle_through_a_proxy_key.writes

pub returns-clause-moved_to_a_native_that_is_yet_to_be_traversed : goal.returns-clause-moved_to_a_native_that_is_yet_to_be_traversed
returns-clause-moved_to_a_native_that_is_yet_to_be_traversed c = moved_to_a_native_that_is_yet_to_be_traversed.writes

pub returns-clause-steps_to_a_proxy_key : goal.returns-clause-steps_to_a_proxy_key
returns-clause-steps_to_a_proxy_key c = steps_to_a_proxy_key.writes

pub returns-clause-steps_through_both_heaps : goal.returns-clause-steps_through_both_heaps
returns-clause-steps_through_both_heaps c = steps_through_both_heaps.writes

pub returns-clause-object_read_between_units_is_kept : goal.returns-clause-object_read_between_units_is_kept
returns-clause-object_read_between_units_is_kept c = object_read_between_units_is_kept.writes

pub returns-clause-slice_ends_a_marking_first : goal.returns-clause-slice_ends_a_marking_first
returns-clause-slice_ends_a_marking_first c = slice_ends_a_marking_first.writes

pub returns-clause-proxy_key_stays_at_the_end : goal.returns-clause-proxy_key_stays_at_the_end
returns-clause-proxy_key_stays_at_the_end c = proxy_key_stays_at_the_end.writes
