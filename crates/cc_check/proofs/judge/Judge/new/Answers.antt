use Rattle.std.proofs.Common.{◌≤◌, refl, rules}
use Rattle.cc_check.proofs.Kept.{kept-new}
use Rattle.cc_check.proofs.judge.Judge.new.Goals as goal

-- the limits are within those of all runs
small : (c : goal.After-new-5) → (c.args.limits.natives ≤ 1000000) × (c.args.limits.scripts ≤ 1000000)
small c = search rules

pub returns-clause-kept : goal.returns-clause-kept
returns-clause-kept c = kept-new _ c.args.limits (small c) c.in_ok-new.ensures c.new-2.ensures refl c.new-5.ensures (c.all_that_is_reached_is_listed.ensures.start c.args.limits)
