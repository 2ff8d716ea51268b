use Rattle.cc_pages.proofs.Walking.{first-within-group, none-within-group}
use Rattle.cc_pages.proofs.group.first_from.Goals as goal

pub returns-in-Some-clause-found : goal.returns-in-Some-clause-found
returns-in-Some-clause-found c = first-within-group c.args.groups.now.items c.args.number c.in-Some.within c.in-Some.value c.in-Some.ensures.small c.in-Some.ensures.found

pub returns-in-None-clause-none : goal.returns-in-None-clause-none
returns-in-None-clause-none c = none-within-group c.args.groups.now.items c.args.number c.in-None.ensures.none
