use Rattle.std.proofs.Common.{◌≡◌, ◌≤◌, length, vec_capacity}
use Rattle.cc_weakmaps.specs.Index.{AreKnown, IsIndexed}
use Rattle.cc_weakmaps.specs.Lasts.{KeepsRoom}
use Rattle.cc_weakmaps.proofs.index.put_in_from.Given as goal

abbrev pub invariant-loop-place : goal.invariant-loop-place
invariant-loop-place l = record {
  indexed : IsIndexed l.entries l.links.items l.lasts.places.items l.place;
  known : AreKnown l.entries l.lasts.places.items;
  count : length l.links.items ≡ length l.fn.links.items;
  within : l.place ≤ length l.entries;
  memory : KeepsRoom l.fn.lasts l.lasts;
  links_memory : vec_capacity l.links ≡ vec_capacity l.fn.links;
}
