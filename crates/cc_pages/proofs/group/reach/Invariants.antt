use Rattle.std.proofs.Common.{◌≡◌, ◌+◌, ◌-◌, ◌≤◌, length}
use Rattle.std.specs.Prelude.{vec_capacity}
use Rattle.cc_pages.specs.Values.{HasEmpty}
use Rattle.cc_pages.proofs.group.reach.Given as goal

abbrev pub invariant-loop : goal.invariant-loop
invariant-loop g l = record {
  added : HasEmpty l.initial.lists.items l.lists.items;
  longer : length l.lists.items ≡ length l.initial.lists.items + l.counter;
  room : length l.lists.items + (l.missing - l.counter) ≤ vec_capacity l.lists;
}
