use Rattle.cc_laws_snapshot.proofs.GivingBack.{begin-suspected, give_back-suspected}
use Rattle.cc_laws_snapshot.proofs.SweepLoses.{collect_scripts-suspected, sweep-suspected}
use Rattle.cc_laws_snapshot.proofs.EndSuspected.{end-suspected}
use Rattle.cc_laws_snapshot.proofs.suspected.collections_keep_suspected.Goals as goal

pub returns-clause-begin : goal.returns-clause-begin
returns-clause-begin c = λ h sound s. begin-suspected h s

pub returns-clause-abandonment : goal.returns-clause-abandonment
returns-clause-abandonment c = λ h candidates sound s. give_back-suspected h candidates sound s

pub returns-clause-end : goal.returns-clause-end
returns-clause-end c = λ h s sound fresh all suspected. end-suspected h s sound fresh all suspected

pub returns-clause-sweep : goal.returns-clause-sweep
returns-clause-sweep c = λ h closed sound s. sweep-suspected h closed sound s

pub returns-clause-rounds : goal.returns-clause-rounds
returns-clause-rounds c = λ h sound s. collect_scripts-suspected h sound s
