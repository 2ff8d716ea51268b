use Rattle.std.proofs.Common.{ap}
use Rattle.std.proofs.lemmas.Bool.{leb-false}
use Rattle.cc_model.specs.declared.command.Command.TheVariants.{Get}
use Rattle.cc_model.specs.Checks.{reply_if_taken}
use Rattle.cc_model.specs.Deeds.{deed_of}
use Rattle.cc_mutator.proofs.Carrying.{as-taken}
use Rattle.cc_mutator.proofs.applying.get.Goals as goal

pub get_native-requires-clause-slot : goal.get_native-requires-clause-slot
get_native-requires-clause-slot g c = leb-false _ _ (as-taken _ _ _ (ap (λ r. Get r c.args.s c.args.i) c.in-N.is) c.requires.taken).slot

pub get_native-requires-clause-content : goal.get_native-requires-clause-content
get_native-requires-clause-content g c = (as-taken _ _ _ (ap (λ r. Get r c.args.s c.args.i) c.in-N.is) c.requires.taken).content

pub get_script-requires-clause-slot : goal.get_script-requires-clause-slot
get_script-requires-clause-slot g c = leb-false _ _ (as-taken _ _ _ (ap (λ r. Get r c.args.s c.args.i) c.in-S.is) c.requires.taken).slot

pub get_script-requires-clause-content : goal.get_script-requires-clause-content
get_script-requires-clause-content g c = (as-taken _ _ _ (ap (λ r. Get r c.args.s c.args.i) c.in-S.is) c.requires.taken).content

pub returns-in-S : goal.returns-in-S
unfolding deed_of reply_if_taken
returns-in-S g c = rw c.in-S.is (c.get_script.ensures _)
