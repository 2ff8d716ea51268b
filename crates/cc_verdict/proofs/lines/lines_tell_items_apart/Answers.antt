use Rattle.cc_verdict.proofs.TextsApart.{event-told_apart, name-told, reply-told_apart}
use Rattle.cc_verdict.proofs.lines.lines_tell_items_apart.Goals as goal

pub returns-clause-names : goal.returns-clause-names
returns-clause-names c = name-told

pub returns-clause-events : goal.returns-clause-events
returns-clause-events c = event-told_apart

pub returns-clause-replies : goal.returns-clause-replies
returns-clause-replies c = reply-told_apart
