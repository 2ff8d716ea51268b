use Rattle.cc_collector.proofs.GoingOn.{RunsIn-between}
use Rattle.cc_collector.proofs.between.running_collections_go_on.Goals as goal

pub returns : goal.returns
returns c = RunsIn-between
