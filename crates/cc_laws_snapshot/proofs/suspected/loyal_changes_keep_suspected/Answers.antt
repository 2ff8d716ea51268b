use Rattle.cc_laws_snapshot.proofs.LoyalSuspected.{loyal-suspected}
use Rattle.cc_laws_snapshot.proofs.suspected.loyal_changes_keep_suspected.Goals as goal

pub returns : goal.returns
returns c = loyal-suspected
