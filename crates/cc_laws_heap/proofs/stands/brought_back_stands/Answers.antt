use Rattle.cc_laws_heap.proofs.BroughtBack.{usable-given, come_back-given, come_back-there, hold-sound, hold-invariant, hold-well, hold-stands, hold-unreached}
use Rattle.cc_laws_heap.proofs.stands.brought_back_stands.Goals as goal

pub returns-clause-given : goal.returns-clause-given
returns-clause-given c = λ h g x u. usable-given h g x u

pub returns-clause-sound : goal.returns-clause-sound
returns-clause-sound c = λ h d x s place u. hold-sound h d x s place (come_back-there h x u)

pub returns-clause-invariant : goal.returns-clause-invariant
returns-clause-invariant c = λ h d x s i place u. hold-invariant h d x s i place (come_back-there h x u)

pub returns-clause-well_made : goal.returns-clause-well_made
returns-clause-well_made c = λ h g d x s m t place u. hold-well h g d x s m t place (come_back-given h g x u)

pub returns-clause-stands : goal.returns-clause-stands
returns-clause-stands c = λ h g d x s m t place u. hold-stands h g d x s m t place (come_back-given h g x u)

pub returns-clause-freed : goal.returns-clause-freed
returns-clause-freed c = λ h g d x y s m t place u told. hold-unreached h g d x s m t place (come_back-given h g x u) y told
