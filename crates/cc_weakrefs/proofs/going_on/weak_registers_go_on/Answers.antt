use Rattle.cc_weakrefs.proofs.Noting.{hold-on}
use Rattle.cc_weakrefs.proofs.going_on.weak_registers_go_on.Goals as goal

pub returns : goal.returns
returns c = hold-on
