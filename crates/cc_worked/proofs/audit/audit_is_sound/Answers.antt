use Rattle.cc_worked.proofs.FreshTest.{is_fresh-true}
use Rattle.cc_worked.proofs.SuspectedTest.{is_suspected-true}
use Rattle.cc_worked.proofs.audit.audit_is_sound.Goals as goal

pub returns-clause-fresh : goal.returns-clause-fresh
returns-clause-fresh c = is_fresh-true

pub returns-clause-suspected : goal.returns-clause-suspected
returns-clause-suspected c = is_suspected-true
