use Rattle.cc_laws_heap.proofs.MarkedKept.{AreMarksClosed-colours, IsBlackClosed-colours}
use Rattle.cc_laws_heap.proofs.RoundsStand.{sweep-stands, sweep-unreached}
use Rattle.cc_laws_heap.proofs.SweepColours.{sweep-invariant}
use Rattle.cc_laws_heap.proofs.Swept.{taken-sweep, sweep-frees, sweep-sound}
use Rattle.cc_laws_heap.proofs.rounds.sweeps_stand.Goals as goal

pub returns-clause-closed : goal.returns-clause-closed
returns-clause-closed c = λ h colours w. (AreMarksClosed-colours h colours w, IsBlackClosed-colours h colours)

pub returns-clause-sound : goal.returns-clause-sound
returns-clause-sound c = λ owned h closed s. sweep-sound h closed s

pub returns-clause-invariant : goal.returns-clause-invariant
returns-clause-invariant c = λ h closed black s. sweep-invariant h closed s black

pub returns-clause-frees : goal.returns-clause-frees
returns-clause-frees c = λ h s. ((taken-sweep h s).0, sweep-frees h s)

pub returns-clause-stands : goal.returns-clause-stands
returns-clause-stands c = λ h g closed s m t. sweep-stands h g closed s m t

pub returns-clause-freed : goal.returns-clause-freed
returns-clause-freed c = λ h g x closed s m t i. sweep-unreached h g closed s m t x i
