use Rattle.cc_verdict.specs.Positions.{reciting, within}
use Rattle.cc_verdict.specs.GoingOn.{CanGoOn}
use Rattle.cc_verdict.specs.Positions.{GoesOn, Position}
use Rattle.cc_model.specs.Asks.{Ask}
use Rattle.std.proofs.Common.{ℕ, List}
use Rattle.cc_verdict.proofs.DeadEnds.{follows-can, hears-can}
use Rattle.cc_verdict.proofs.going_on.dead_ends_lead_nowhere.Goals as goal

can-go_on : (p : Position) (asks : List Ask) (lines : List (List ℕ)) → GoesOn p asks lines → CanGoOn p asks
can-go_on (reciting items p) asks lines g = follows-can p asks g.rest g.follows
can-go_on (within h) asks lines g = hears-can asks g

pub returns : goal.returns
returns c = can-go_on
