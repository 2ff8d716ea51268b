use Rattle.cc_laws_run.proofs.Witnesses.{dropped, dropped-left, dropped-sound, dropped-suspected, dropped-living, dropped-unreached, dropped-covered}
use Rattle.cc_laws_run.proofs.premises.suspicion_can_be_met.Goals as goal

pub returns : goal.returns
returns c = (dropped, dropped-left, dropped-sound, dropped-suspected, dropped-living, dropped-unreached, dropped-covered)
