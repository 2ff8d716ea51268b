use Rattle.std.proofs.Common.{sym, subst}
use Rattle.cc_pages.specs.Values.{HasEmpty}
use Rattle.cc_pages.proofs.Places.{added-one}
use Rattle.cc_pages.proofs.group.add_empty.Goals as goal

pub returns-clause-added : goal.returns-clause-added
returns-clause-added g c = subst (HasEmpty c.args.lists.now.items) (sym c.push_reserved.ensures.items) (added-one c.args.lists.now.items c.new-list.result c.new-list.ensures.items)
