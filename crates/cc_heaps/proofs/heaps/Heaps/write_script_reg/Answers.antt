use Rattle.std.proofs.Common.{refl}
use Rattle.cc_heaps.proofs.ScriptCalls.{becomes-register}
use Rattle.cc_heaps.proofs.MarksKept.{marks-stay}
use Rattle.cc_heaps.proofs.heaps.Heaps.write_script_reg.Goals as goal

pub returns-clause-heap : goal.returns-clause-heap
returns-clause-heap c =
    rw (← c.self.view_is) ((becomes-register c.self.inside c.self.invariant (rw (← c.self.view_is) at c.requires.order).1 c.args.r c.args.content (rw (← c.self.view_is) at c.requires.there)).heap)

pub returns-clause-order : goal.returns-clause-order
returns-clause-order c owned =
    rw (← c.self.view_is) (λ o. (becomes-register c.self.inside c.self.invariant o c.args.r c.args.content (rw (← c.self.view_is) at c.requires.there)).order)

pub invariant_of-self : goal.invariant_of-self
invariant_of-self c = (becomes-register c.self.inside c.self.invariant (rw (← c.self.view_is) at c.requires.order).1 c.args.r c.args.content (rw (← c.self.view_is) at c.requires.there)).linked

pub returns-clause-marks : goal.returns-clause-marks
returns-clause-marks c = rw (← c.self.view_is) (marks-stay _ _ refl refl)
