use Rattle.std.proofs.Common.{◌≤◌, length}
use Rattle.cc_weakmaps.specs.Index.{AreKnown, IsIndexed}
use Rattle.cc_weakmaps.specs.Lasts.{KeepsRoom}
use Rattle.cc_weakmaps.proofs.index.take_out_from.Given as goal

abbrev pub invariant-loop-end : goal.invariant-loop-end
invariant-loop-end l = record {
  indexed : IsIndexed l.entries l.links l.lasts.places.items l.end;
  known : AreKnown l.entries l.lasts.places.items;
  from : l.start ≤ l.end;
  within : l.end ≤ length l.entries;
  memory : KeepsRoom l.fn.lasts l.lasts;
}

abbrev pub decreases-loop-end : goal.decreases-loop-end
decreases-loop-end l = l.end
