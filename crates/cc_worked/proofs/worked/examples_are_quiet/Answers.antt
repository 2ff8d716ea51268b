use Rattle.cc_worked.proofs.Examples.{cycle_through_a_reflector, cycle_through_an_entry, collect_refused_at_a_node, delegate_read_after_its_mapping_was_noted, marking_before_a_quiet_census}
use Rattle.cc_worked.proofs.Working.{works-quiet}
use Rattle.cc_worked.proofs.worked.examples_are_quiet.Goals as goal

pub returns-clause-cycle_through_a_reflector : goal.returns-clause-cycle_through_a_reflector
returns-clause-cycle_through_a_reflector c = works-quiet cycle_through_a_reflector

pub returns-clause-cycle_through_an_entry : goal.returns-clause-cycle_through_an_entry
returns-clause-cycle_through_an_entry c = works-quiet cycle_through_an_entry

pub returns-clause-delegate_read_after_its_mapping_was_noted : goal.returns-clause-delegate_read_after_its_mapping_was_noted
returns-clause-delegate_read_after_its_mapping_was_noted c = works-quiet delegate_read_after_its_mapping_was_noted

pub returns-clause-collect_refused_at_a_node : goal.returns-clause-collect_refused_at_a_node
returns-clause-collect_refused_at_a_node c = works-quiet collect_refused_at_a_node

pub returns-clause-marking_before_a_quiet_census : goal.returns-clause-marking_before_a_quiet_census
returns-clause-marking_before_a_quiet_census c = works-quiet marking_before_a_quiet_census
