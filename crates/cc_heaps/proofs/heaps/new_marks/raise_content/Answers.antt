use Rattle.cc_heaps.proofs.Remarked.{remarked-same}
use Rattle.cc_heaps.proofs.heaps.new_marks.raise_content.Goals as goal

pub returns-in_default-clause-same : goal.returns-in_default-clause-same
returns-in_default-clause-same c = remarked-same c.args.scripts.now
