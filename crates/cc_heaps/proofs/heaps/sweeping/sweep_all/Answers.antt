use Rattle.cc_heaps.proofs.NoWhites.{swept-none, left-all, living-all, counts-same, tells-nothing}
use Rattle.cc_heaps.proofs.heaps.sweeping.sweep_all.Goals as goal

pub returns-then-not-has_colour-clause-living : goal.returns-then-not-has_colour-clause-living
returns-then-not-has_colour-clause-living g c = living-all c.args.scripts.now c.has_colour.result c.has_colour.ensures c.if-not-has_colour.true c.args.weak.now c.requires.entries

pub returns-then-not-has_colour-clause-swept : goal.returns-then-not-has_colour-clause-swept
returns-then-not-has_colour-clause-swept g c = swept-none c.args.scripts.now c.has_colour.result c.has_colour.ensures c.if-not-has_colour.true

pub returns-then-not-has_colour-clause-left : goal.returns-then-not-has_colour-clause-left
returns-then-not-has_colour-clause-left g c = left-all c.args.scripts.now c.has_colour.result c.has_colour.ensures c.if-not-has_colour.true

pub returns-then-not-has_colour-clause-natives : goal.returns-then-not-has_colour-clause-natives
returns-then-not-has_colour-clause-natives g c = counts-same c.args.scripts.now c.has_colour.result c.has_colour.ensures c.if-not-has_colour.true c.args.counted.now

pub returns-then-not-has_colour-clause-told : goal.returns-then-not-has_colour-clause-told
returns-then-not-has_colour-clause-told g c =
    tells-nothing c.args.scripts.now c.has_colour.result c.has_colour.ensures c.if-not-has_colour.true c.args.counted.now (g.N.Notices.telling c.args.out.now)
