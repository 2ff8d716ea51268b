use Rattle.cc_laws_snapshot.proofs.NodeUnit.{after_node-fresh}
use Rattle.cc_laws_snapshot.proofs.units.units_keep_fresh.Goals as goal

pub returns : goal.returns
returns c = record { node = after_node-fresh }
