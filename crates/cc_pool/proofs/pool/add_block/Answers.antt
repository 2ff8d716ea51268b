use Rattle.cc_pool.proofs.pool.add_block.Goals as goal

pub returns-clause-added : goal.returns-clause-added
returns-clause-added g c = record {
  block = c.in_ok-block.block;
  empty = c.in_ok-block.ensures.items;
  room = c.in_ok-block.ensures.exact;
  last = c.push_reserved.ensures.items;
}
