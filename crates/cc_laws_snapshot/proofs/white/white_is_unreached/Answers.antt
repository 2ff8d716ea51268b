use Rattle.cc_model.specs.View.{view}
use Rattle.cc_laws_snapshot.proofs.SoundView.{IsSound-view}
use Rattle.cc_laws_snapshot.proofs.Unreached.{white-unreached}
use Rattle.cc_laws_snapshot.proofs.WhiteNatives.{white_natives-apart, white_natives-unreached, white_natives-unreached_in}
use Rattle.cc_laws_snapshot.proofs.white.white_is_unreached.Goals as goal

pub returns-clause-white : goal.returns-clause-white
returns-clause-white c = λ h s k sound fresh all. white-unreached h.natives_made (view h) s (IsSound-view h sound) fresh all k

pub returns-clause-taken_away : goal.returns-clause-taken_away
returns-clause-taken_away c = λ h s k sound fresh all m. white_natives-unreached h s sound fresh all k m

pub returns-clause-apart : goal.returns-clause-apart
returns-clause-apart c = λ h s sound fresh all. white_natives-apart h s sound fresh all

pub returns-clause-in_graph : goal.returns-clause-in_graph
returns-clause-in_graph c = λ h g s k sound made stands fresh all m. white_natives-unreached_in h s sound fresh all g made stands k m
