use Rattle.std.proofs.Common.{length, ◌∙◌, ap}
use Rattle.cc_counted.specs.Counts.{Counts}
use Rattle.cc_counted.proofs.Places.{natives-counted}
use Rattle.cc_counted.proofs.counted.Counted.len.Goals as goal

pub returns : goal.returns
returns c = c.len.ensures ∙ (natives-counted c.self.inside.natives.lists c.self.invariant.placed ∙ ap (λ (v : Counts). length v.natives) c.self.view_is)
