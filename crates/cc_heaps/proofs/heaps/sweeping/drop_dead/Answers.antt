use Rattle.std.proofs.Common.{rules}
use Rattle.cc_weakmaps.proofs.Staying.{living-by}
use Rattle.cc_heaps.specs.Sweeping.{is_marked}
use Rattle.cc_heaps.proofs.heaps.sweeping.drop_dead.Goals as goal

pub returns : goal.returns
returns c = living-by _ (is_marked c.args.scripts.now) (λ k b a. search rules) _ _ c.drop_dead.ensures.entries
