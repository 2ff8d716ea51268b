use Rattle.cc_laws_snapshot.proofs.WhiteNatives.{taking_white-stands, taking_white-kept, taking_white-unreached, taking_white-ended}
use Rattle.cc_laws_snapshot.proofs.ends.ends_keep_reached.Goals as goal

pub returns-clause-stands : goal.returns-clause-stands
returns-clause-stands c = λ h g s sound made stands fresh all. taking_white-stands h s sound fresh all g made stands

pub returns-clause-kept : goal.returns-clause-kept
returns-clause-kept c = λ h g s x sound made stands fresh all. taking_white-kept h s sound fresh all g made stands x

pub returns-clause-unreached : goal.returns-clause-unreached
returns-clause-unreached c = λ h g s x sound made stands fresh all. taking_white-unreached h s sound fresh all g made stands x

pub returns-clause-ended : goal.returns-clause-ended
returns-clause-ended c = λ h g s x sound made stands fresh all. taking_white-ended h s sound fresh all g made stands x

pub returns-clause-spent : goal.returns-clause-spent
returns-clause-spent c = λ h g s n sound made stands fresh all. (taking_white-stands h s sound fresh all g made stands).spent n
