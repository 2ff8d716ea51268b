use Rattle.cc_laws_heap.proofs.MarkingEnded.{AreMarksClosed-ended, IsBlackClosed-ended, ended-sound, ended-invariant, ended-frees, ended-stands, ended-unreached}
use Rattle.cc_laws_heap.proofs.markings.markings_end_well.Goals as goal

pub returns-clause-closed : goal.returns-clause-closed
returns-clause-closed c = λ h m s u. (AreMarksClosed-ended h m s u, IsBlackClosed-ended h m s u)

pub returns-clause-sound : goal.returns-clause-sound
returns-clause-sound c = λ h m s u. ended-sound h m s u

pub returns-clause-invariant : goal.returns-clause-invariant
returns-clause-invariant c = λ h m s u. ended-invariant h m s u

pub returns-clause-frees : goal.returns-clause-frees
returns-clause-frees c = λ h m s u. ended-frees h m s u

pub returns-clause-stands : goal.returns-clause-stands
returns-clause-stands c = λ h m g s u made t. ended-stands h m s u g made t

pub returns-clause-freed : goal.returns-clause-freed
returns-clause-freed c = λ h m g x s u made t i. ended-unreached h m s u g made t x i
