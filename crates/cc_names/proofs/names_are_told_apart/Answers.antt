use Rattle.cc_names.proofs.NameTests.{same_name-exact}
use Rattle.cc_names.proofs.names_are_told_apart.Goals as goal

pub returns : goal.returns
returns c = same_name-exact
