use Rattle.std.proofs.Common.{refl, arith}
use Rattle.cc_marking.proofs.Turns.{starting-next, starting-done}
use Rattle.cc_marking.proofs.marking.start_each.Goals as goal

pub loop-key-init : goal.loop-key-init
loop-key-init g c = record { started = refl; colour = refl; live = c.requires.live; whole = c.requires.whole }

pub loop-key-preserved : goal.loop-key-preserved
loop-key-preserved g c = grind (arith, starting-next)

pub returns-clause-started : goal.returns-clause-started
returns-clause-started g c = grind (arith, starting-done, g.R.Roots.left)
