use Rattle.cc_laws_marking.proofs.EndSuspected.{ended-suspected}
use Rattle.cc_laws_marking.proofs.suspected.markings_keep_suspected.Goals as goal

pub returns : goal.returns
returns c = λ h m s u suspected. ended-suspected h m s u suspected
