use Rattle.cc_model.proofs.Tellings.{Tells-nil, Tells-trans}
use Rattle.cc_model.proofs.laws.telling_composes.Goals as goal

pub returns-clause-nothing : goal.returns-clause-nothing
returns-clause-nothing c = Tells-nil

pub returns-clause-one_then_other : goal.returns-clause-one_then_other
returns-clause-one_then_other c = Tells-trans
