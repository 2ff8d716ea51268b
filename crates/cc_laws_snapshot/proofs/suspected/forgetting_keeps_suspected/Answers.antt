use Rattle.cc_laws_snapshot.proofs.Unmarking.{skippable-reached, forgotten-exactly, forgotten-taken, forgotten-names, forgotten-fresh, forgotten-suspected}
use Rattle.cc_laws_snapshot.proofs.suspected.forgetting_keeps_suspected.Goals as goal

pub returns-clause-skippable : goal.returns-clause-skippable
returns-clause-skippable c = skippable-reached

pub returns-clause-marks : goal.returns-clause-marks
returns-clause-marks c = forgotten-exactly

pub returns-clause-taken : goal.returns-clause-taken
returns-clause-taken c = λ h x m. (forgotten-taken h x m, λ s p. ((forgotten-exactly h x).0 p).1 s)

pub returns-clause-places : goal.returns-clause-places
returns-clause-places c = forgotten-names

pub returns-clause-fresh : goal.returns-clause-fresh
returns-clause-fresh c = forgotten-fresh

pub returns-clause-suspected : goal.returns-clause-suspected
returns-clause-suspected c = forgotten-suspected
