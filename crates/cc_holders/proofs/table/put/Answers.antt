use Rattle.cc_holders.proofs.Places.{groups-others}
use Rattle.cc_holders.proofs.table.put.Goals as goal

pub returns-clause-others : goal.returns-clause-others
returns-clause-others c = groups-others c.args.groups.now.items c.args.number c.index_mut.result.now c.put.new.self c.requires.group c.index_mut.ensures.value c.put.ensures.others
