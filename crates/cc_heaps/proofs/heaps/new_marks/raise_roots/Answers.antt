use Rattle.cc_heaps.proofs.RaisedEach.{raising-begun, raising-next, raising-there}
use Rattle.cc_heaps.proofs.heaps.new_marks.raise_roots.Goals as goal

pub loop-key-init : goal.loop-key-init
loop-key-init g c = raising-begun c.args.to (g.R.Roots.left c.args.roots.now) c.args.scripts.now c.args.to_scan.now c.requires.going_on c.requires.there

pub raise-requires-clause-there : goal.raise-requires-clause-there
raise-requires-clause-there g c =
    raising-there c.args.to (g.R.Roots.left c.args.roots.now) c.args.scripts.now c.args.to_scan.now (g.R.Roots.left c.loop-key.roots) c.loop-key.scripts c.loop-key.to_scan
    c.loop-key.invariant c.in-Some.key.0 (g.R.Roots.left c.next_root.new.self) c.in-Some.ensures

pub loop-key-preserved : goal.loop-key-preserved
loop-key-preserved g c =
    raising-next c.args.to (g.R.Roots.left c.args.roots.now) c.args.scripts.now c.args.to_scan.now (g.R.Roots.left c.loop-key.roots) c.loop-key.scripts c.loop-key.to_scan
    c.loop-key.invariant c.in-Some.key.0 (g.R.Roots.left c.next_root.new.self) c.in-Some.ensures
    c.raise.new.scripts c.raise.new.to_scan c.raise.ensures.marks c.raise.ensures.same c.raise.ensures.going_on
