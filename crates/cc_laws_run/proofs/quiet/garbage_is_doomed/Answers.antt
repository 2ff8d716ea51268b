use Rattle.cc_laws_run.proofs.DoomedBegin.{collected-doomed}
use Rattle.cc_laws_run.proofs.DoomedNode.{after_node-doomed}
use Rattle.cc_laws_run.proofs.DoomedWhite.{doomed-white_native}
use Rattle.cc_laws_run.proofs.quiet.garbage_is_doomed.Goals as goal

pub returns-clause-begin : goal.returns-clause-begin
returns-clause-begin c = λ h sound suspected. collected-doomed h sound suspected

pub returns-clause-node : goal.returns-clause-node
returns-clause-node c = λ h s x ds sound fresh doomed first. after_node-doomed h s x ds sound.well_formed doomed

pub returns-clause-white : goal.returns-clause-white
returns-clause-white c = λ h s ds k sound fresh all doomed b. doomed-white_native h s ds k sound fresh all doomed b
