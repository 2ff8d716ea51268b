use Rattle.cc_verdict.proofs.Completing.{goes-on}
use Rattle.cc_verdict.proofs.going_on.other_ends_lead_on.Goals as goal

pub returns : goal.returns
returns c = goes-on
