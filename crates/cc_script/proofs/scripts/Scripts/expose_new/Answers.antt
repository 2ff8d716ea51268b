use Rattle.std.proofs.Common.{sym, subst}
use Rattle.cc_script.specs.Objects.{AreWhole}
use Rattle.cc_script.proofs.scripts.Scripts.expose_new.Goals as goal

pub expose_new-requires-clause-whole : goal.expose_new-requires-clause-whole
expose_new-requires-clause-whole c = subst AreWhole (sym c.self.view_is) c.requires.whole
