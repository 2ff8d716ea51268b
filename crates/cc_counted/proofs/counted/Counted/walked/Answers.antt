use Rattle.std.proofs.Common.{◌≡◌, subst, ◌∙◌}
use Rattle.cc_walk.specs.Walks.{is_walked}
use Rattle.cc_counted.specs.Counts.{Counts, state_of}
use Rattle.cc_counted.proofs.Walking.{walked-shown}
use Rattle.cc_counted.proofs.counted.Counted.walked.Goals as goal

pub returns : goal.returns
returns c = subst (λ (v : Counts). c.walks.result ≡ is_walked (state_of v c.args.key.0)) c.self.view_is
    (c.walks.ensures ∙ walked-shown c.self.inside.natives.lists c.self.invariant.placed c.args.key.0)
