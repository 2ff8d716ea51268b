use Rattle.std.proofs.Common.{sym, arith}
use Rattle.cc_weakmaps.proofs.Sought.{without-removed, without-absent}
use Rattle.cc_weakmaps.proofs.entry_list.EntryList.unset.Goals as goal

pub returns-in-Some-clause-entries : goal.returns-in-Some-clause-entries
returns-in-Some-clause-entries c = grind (arith, without-removed)

pub returns-in_default-clause-entries : goal.returns-in_default-clause-entries
returns-in_default-clause-entries c = sym (without-absent c.args.self.now.entries c.args.the_map.0 c.args.key.0 c.in_default.ensures.none)
