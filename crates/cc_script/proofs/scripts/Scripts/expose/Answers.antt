use Rattle.std.proofs.Common.{sym, subst}
use Rattle.cc_script.specs.Objects.{AreWhole}
use Rattle.cc_script.proofs.scripts.Scripts.expose.Goals as goal

pub mark_from-requires-clause-whole : goal.mark_from-requires-clause-whole
mark_from-requires-clause-whole c = subst AreWhole (sym c.self.view_is) c.requires.whole
