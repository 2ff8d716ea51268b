use Rattle.cc_laws_heap.proofs.Lengthening.{lengthen-sound, lengthen-stands, lengthen-well, view-lengthen}
use Rattle.cc_laws_heap.proofs.banks.banks_may_be_longer.Goals as goal

pub returns-clause-sound : goal.returns-clause-sound
returns-clause-sound c = lengthen-sound

pub returns-clause-seen : goal.returns-clause-seen
returns-clause-seen c = view-lengthen

pub returns-clause-well_made : goal.returns-clause-well_made
returns-clause-well_made c = lengthen-well

pub returns-clause-stands : goal.returns-clause-stands
returns-clause-stands c = lengthen-stands
