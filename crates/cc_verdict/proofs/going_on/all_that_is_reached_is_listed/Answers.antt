use Rattle.cc_verdict.proofs.AllListed.{begins-lists, ends-lists, event-lists, start-lists}
use Rattle.cc_verdict.proofs.going_on.all_that_is_reached_is_listed.Goals as goal

pub returns-clause-start : goal.returns-clause-start
returns-clause-start c = start-lists

pub returns-clause-begins : goal.returns-clause-begins
returns-clause-begins c = begins-lists

pub returns-clause-event : goal.returns-clause-event
returns-clause-event c = event-lists

pub returns-clause-ends : goal.returns-clause-ends
returns-clause-ends c = ends-lists
