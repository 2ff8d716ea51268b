use Rattle.cc_laws_heap.proofs.EndsStand.{take_away-stands, take_away-unreached}
use Rattle.cc_laws_heap.proofs.ends.ends_stand.Goals as goal

pub returns-clause-stands : goal.returns-clause-stands
returns-clause-stands c = λ h g ks s a m t d. take_away-stands h g ks s a.there m t d

pub returns-clause-freed : goal.returns-clause-freed
returns-clause-freed c = λ h g ks x s a m t d. take_away-unreached h g ks s a.there m t d x
