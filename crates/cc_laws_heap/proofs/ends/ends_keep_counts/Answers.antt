use Rattle.cc_model.specs.End.{take_away}
use Rattle.cc_laws_heap.proofs.Coloured.{AreColoured-from_view, HasColourInvariant-from}
use Rattle.cc_laws_heap.proofs.NativesKeepScripts.{SameScripts-coloured}
use Rattle.cc_laws_heap.proofs.TakingAway.{take_away-sound, take_away-takes}
use Rattle.cc_laws_heap.proofs.ends.ends_keep_counts.Goals as goal

pub returns-clause-sound : goal.returns-clause-sound
returns-clause-sound c = λ h ks s a. take_away-sound h ks s a.there

pub returns-clause-colours : goal.returns-clause-colours
returns-clause-colours c = λ h ks s a i.
    let t = (take_away-takes h ks s a.there).1 in
    HasColourInvariant-from (take_away ks h).heap (take_away-sound h ks s a.there).well_formed
    (SameScripts-coloured h (take_away ks h).heap (record { scripts = t.scripts; registers = t.script_registers })
    (AreColoured-from_view h s.well_formed i))

pub returns-clause-takes : goal.returns-clause-takes
returns-clause-takes c = λ h ks s a. take_away-takes h ks s a.there
