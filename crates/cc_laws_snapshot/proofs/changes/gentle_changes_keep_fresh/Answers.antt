use Rattle.cc_laws_snapshot.proofs.GentleKeeps.{fresh-kept}
use Rattle.cc_laws_snapshot.proofs.changes.gentle_changes_keep_fresh.Goals as goal

pub returns : goal.returns
returns c = λ made now_made h k s g f. fresh-kept made now_made h k g s f
