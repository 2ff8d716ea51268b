use Rattle.std.proofs.Common.{refl}
use Rattle.cc_made.specs.Made.{next_word, rest, seeded}
use Rattle.cc_made.proofs.laws.known_scripts_are_made.Goals as goal

pub returns-clause-three : goal.returns-clause-three
unfolding next_word rest seeded
returns-clause-three c = refl

pub returns-clause-each_form : goal.returns-clause-each_form
unfolding next_word rest seeded
returns-clause-each_form c = refl

pub returns-clause-greatest : goal.returns-clause-greatest
unfolding next_word rest seeded
returns-clause-greatest c = refl
