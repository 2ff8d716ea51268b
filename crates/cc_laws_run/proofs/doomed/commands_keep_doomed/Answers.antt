use Rattle.cc_laws_run.proofs.TouchedCommands.{doomed-effects}
use Rattle.cc_laws_run.proofs.doomed.commands_keep_doomed.Goals as goal

pub returns : goal.returns
returns c = λ h s command ds sound keeps doomed. doomed-effects s ds h command sound.well_formed keeps doomed
