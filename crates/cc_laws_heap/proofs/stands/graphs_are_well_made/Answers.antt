use Rattle.cc_laws_heap.proofs.GraphCommands.{step-well, step_with-well, empty-well}
use Rattle.cc_laws_heap.proofs.stands.graphs_are_well_made.Goals as goal

pub returns-clause-start : goal.returns-clause-start
returns-clause-start c = λ limits. empty-well limits

pub returns-clause-step : goal.returns-clause-step
returns-clause-step c = λ g d w r. step-well g w d r

pub returns-clause-beside_ended : goal.returns-clause-beside_ended
returns-clause-beside_ended c = λ ended g d w r. step_with-well g w ended d r
