use Rattle.std.proofs.Common.{suc, length, arith}
use Rattle.cc_model.proofs.Draining.{drained-empties}
use Rattle.cc_model.proofs.Rounds.{rounds-enough}
use Rattle.cc_model.proofs.UnitsEnd.{to_the_end-stops, units_done-to_the_end}
use Rattle.cc_model.proofs.laws.bounds_suffice.Goals as goal

pub returns-clause-cascade : goal.returns-clause-cascade
returns-clause-cascade c = drained-empties

pub returns-clause-rounds : goal.returns-clause-rounds
returns-clause-rounds c = λ n o enough. rounds-enough n (suc (length o.heap.scripts)) o enough (omega arith)

pub returns-clause-collection : goal.returns-clause-collection
returns-clause-collection c = to_the_end-stops

pub returns-clause-units : goal.returns-clause-units
returns-clause-units c = units_done-to_the_end
