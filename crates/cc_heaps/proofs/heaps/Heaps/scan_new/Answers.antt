use Rattle.cc_heaps.proofs.RemarkedHeaps.{AreRemarked, heaps-remarked}
use Rattle.cc_heaps.proofs.heaps.Heaps.scan_new.Goals as goal

scanned : (c : goal.After-scan) → AreRemarked c.self.inside (record c.self.inside { scripts = c.scan.new.scripts; to_scan = c.scan.new.to_scan })
scanned c = heaps-remarked c.self.inside c.self.invariant c.scan.new.scripts c.scan.new.to_scan c.scan.ensures.same c.scan.ensures.going_on.room

pub invariant_of-self : goal.invariant_of-self
invariant_of-self c = (scanned c).linked

pub returns-clause-heap : goal.returns-clause-heap
returns-clause-heap c = rw (← c.self.view_is) (scanned c).heap

pub returns-clause-rest : goal.returns-clause-rest
returns-clause-rest c = rw (← c.self.view_is) (scanned c).rest

pub returns-clause-kept : goal.returns-clause-kept
returns-clause-kept c = rw (← c.self.view_is) (scanned c).kept

pub returns-clause-stands : goal.returns-clause-stands
returns-clause-stands c = rw (← c.self.view_is) (scanned c).stands
