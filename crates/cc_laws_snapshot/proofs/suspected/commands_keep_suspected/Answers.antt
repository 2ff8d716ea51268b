use Rattle.cc_laws_snapshot.proofs.CommandsSuspected.{effects-suspected}
use Rattle.cc_laws_snapshot.proofs.suspected.commands_keep_suspected.Goals as goal

pub returns-clause-command : goal.returns-clause-command
returns-clause-command c = λ h command candidates s r e. effects-suspected h command candidates s r e
