use Rattle.std.proofs.Common.{◌≡◌, Some, sym, ◌∙◌}
use Rattle.cc_lists.proofs.Held.{is_some-found}
use Rattle.cc_heaps.specs.ToScan.{ToScan}
use Rattle.cc_heaps.proofs.ExposedMarks.{IsExposedByMark, exposed-by_mark}
use Rattle.cc_heaps.proofs.Remarked.{remarked-same}
use Rattle.cc_heaps.proofs.heaps.Heaps.expose_new.Goals as goal

going_on : (c : goal.After-expose_new) → (t : ToScan) × (c.self.inside.to_scan.marking ≡ Some t)
going_on c = is_some-found c.self.inside.to_scan.marking (sym c.goes_on.ensures ∙ c.if-goes_on.true)

exposed : (c : goal.After-expose_new) → IsExposedByMark c.self.inside (record c.self.inside { scripts = c.expose_new.new.self }) c.args.key.0
exposed c =
    let t = going_on c in
    exposed-by_mark c.self.inside c.self.invariant c.args.key.0 (rw (← c.self.view_is) at c.requires.live) t.0 t.1 c.expose_new.new.self c.expose_new.ensures

pub invariant_of-self : goal.invariant_of-self
invariant_of-self c = (exposed c).linked

pub returns-then-goes_on-clause-marking : goal.returns-then-goes_on-clause-marking
returns-then-goes_on-clause-marking c = rw (← c.self.view_is) (exposed c).marking

pub returns-then-goes_on-clause-heap : goal.returns-then-goes_on-clause-heap
returns-then-goes_on-clause-heap c = rw (← c.self.view_is) (exposed c).heap

pub returns-then-goes_on-clause-same : goal.returns-then-goes_on-clause-same
returns-then-goes_on-clause-same c = rw (← c.self.view_is) (exposed c).same

pub returns-then-goes_on-clause-marks : goal.returns-then-goes_on-clause-marks
returns-then-goes_on-clause-marks c = rw (← c.self.view_is) (exposed c).marks

pub returns-then-goes_on-clause-order : goal.returns-then-goes_on-clause-order
returns-then-goes_on-clause-order c owned = rw (← c.self.view_is) ((exposed c).order owned)

pub returns-else-goes_on-clause-same : goal.returns-else-goes_on-clause-same
returns-else-goes_on-clause-same c = remarked-same c.args.self.now.scripts
