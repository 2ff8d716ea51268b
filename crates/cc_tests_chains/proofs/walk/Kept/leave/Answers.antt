use Rattle.cc_walk.specs.Walks.{without_member}
use Rattle.cc_tests_chains.proofs.walk.Kept.leave.Goals as goal

pub returns-then-has : goal.returns-then-has
returns-then-has c = let f = c.requires in (without_member c.args.key f.0, c.leave.ensures.walk f.0 f.1)
