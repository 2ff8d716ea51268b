use Rattle.cc_laws_run.proofs.UnitsTaken.{unit-counts}
use Rattle.cc_laws_run.proofs.units.collections_take_a_unit_a_node.Goals as goal

pub returns-clause-goes_on : goal.returns-clause-goes_on
returns-clause-goes_on c = λ h s memory. (unit-counts h s memory).0

pub returns-clause-ends : goal.returns-clause-ends
returns-clause-ends c = λ h s memory. (unit-counts h s memory).1
