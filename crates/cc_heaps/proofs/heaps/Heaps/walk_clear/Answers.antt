use Rattle.cc_heaps.specs.Fields.{keyed_of}
use Rattle.cc_heaps.specs.Walking.{unwalked}
use Rattle.cc_heaps.proofs.Walking.{IsWalked, cleared}
use Rattle.cc_heaps.proofs.heaps.Heaps.walk_clear.Goals as goal

done : (c : goal.After-walk_clear-2) → IsWalked c.self.inside (record c.self.inside { counted = c.walk_clear.new.self; scripts = c.walk_clear-2.new.self }) (unwalked (keyed_of c.self.inside))
done c = cleared c.self.inside c.self.invariant _ _ c.walk_clear.ensures.walks c.walk_clear-2.ensures

pub invariant_of-self : goal.invariant_of-self
invariant_of-self c = (done c).linked

pub returns-clause-walk : goal.returns-clause-walk
returns-clause-walk c = rw (← c.self.view_is) (done c).keyed

pub returns-clause-heap : goal.returns-clause-heap
returns-clause-heap c = rw (← c.self.view_is) (done c).heap

pub returns-clause-kept : goal.returns-clause-kept
returns-clause-kept c = rw (← c.self.view_is) (done c).kept

pub returns-clause-marks : goal.returns-clause-marks
returns-clause-marks c = rw (← c.self.view_is) (done c).marks
