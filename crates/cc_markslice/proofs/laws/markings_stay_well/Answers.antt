use Rattle.cc_markslice.proofs.Going.{well-begun, well-scanned, well-command, well-beside}
use Rattle.cc_markslice.proofs.laws.markings_stay_well.Goals as goal

pub returns-clause-begun : goal.returns-clause-begun
returns-clause-begun c = λ old new s e has listed. well-begun old new s e has listed

pub returns-clause-scanned : goal.returns-clause-scanned
returns-clause-scanned c = λ old new s well e has listed. well-scanned old well new s e has listed

pub returns-clause-command : goal.returns-clause-command
returns-clause-command c = λ old new command s well r e done. well-command old well new command s r e done

pub returns-clause-beside : goal.returns-clause-beside
returns-clause-beside c = λ old new well k e listed. well-beside old well new k e listed
