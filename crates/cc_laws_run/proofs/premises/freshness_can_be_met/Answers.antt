use Rattle.cc_laws_run.proofs.Witnesses.{half_collected, half_collected-left, half_collected-sound, half_collected_snapshot, half_collected-snapshot, half_collected-fresh, half_collected-traversed, half_collected-white}
use Rattle.cc_laws_run.proofs.premises.freshness_can_be_met.Goals as goal

pub returns : goal.returns
returns c = (half_collected, half_collected-left, half_collected-sound, half_collected_snapshot, half_collected-snapshot, half_collected-fresh, half_collected-traversed, half_collected-white)
