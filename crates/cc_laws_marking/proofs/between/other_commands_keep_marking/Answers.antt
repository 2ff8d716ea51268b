use Rattle.cc_laws_marking.proofs.Beside.{hold_native-keeps, forgotten-keeps}
use Rattle.cc_laws_marking.proofs.between.other_commands_keep_marking.Goals as goal

pub returns-clause-weak_read : goal.returns-clause-weak_read
returns-clause-weak_read c = hold_native-keeps

pub returns-clause-forgotten : goal.returns-clause-forgotten
returns-clause-forgotten c = forgotten-keeps
