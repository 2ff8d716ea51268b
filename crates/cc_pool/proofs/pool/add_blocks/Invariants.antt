use Rattle.std.specs.Prelude.{◌≡◌, ◌+◌, ◌-◌, ◌≤◌, length, vec_capacity}
use Rattle.cc_pool.specs.Blocks.{HasMore}
use Rattle.cc_pool.proofs.pool.add_blocks.Given as goal

abbrev pub invariant-loop : goal.invariant-loop
invariant-loop g l = record {
  more : HasMore g.row.N l.counter l.initial.blocks.items l.blocks.items;
  room : length l.blocks.items + (l.count - l.counter) ≤ vec_capacity l.blocks;
  places : vec_capacity l.blocks ≡ vec_capacity l.initial.blocks;
}
