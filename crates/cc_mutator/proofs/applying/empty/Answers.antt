use Rattle.std.proofs.Common.{None, refl}
use Rattle.cc_model.specs.Checks.{reply_if_taken}
use Rattle.cc_model.specs.Deeds.{deed_of}
use Rattle.cc_mutator.proofs.Carrying.{done-not_refused, weak-still}
use Rattle.cc_mutator.proofs.applying.empty.Goals as goal

pub returns-in-S : goal.returns-in-S
unfolding deed_of reply_if_taken
returns-in-S g c = rw c.in-S.is (c.drop_script.ensures _)

pub returns-in-W : goal.returns-in-W
unfolding deed_of reply_if_taken
returns-in-W g c = rw c.in-W.is (weak-still _ None _ c.args.heaps.now _ _ refl (done-not_refused _))
