use Rattle.cc_laws_snapshot.proofs.WhiteNatives.{taking_white-sound, taking_white-colours, taking_white-takes}
use Rattle.cc_laws_snapshot.proofs.ends.ends_take_white.Goals as goal

pub returns-clause-sound : goal.returns-clause-sound
returns-clause-sound c = taking_white-sound

pub returns-clause-colours : goal.returns-clause-colours
returns-clause-colours c = taking_white-colours

pub returns-clause-takes : goal.returns-clause-takes
returns-clause-takes c = taking_white-takes
