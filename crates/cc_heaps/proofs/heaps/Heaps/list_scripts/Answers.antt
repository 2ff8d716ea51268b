use Rattle.std.proofs.Common.{arith}
use Rattle.cc_heaps.proofs.Listing.{no_objects-listed, objects-few, objects-next, objects-all, scripts-limited_to}
use Rattle.cc_heaps.proofs.heaps.Heaps.list_scripts.Goals as goal

pub loop-at-init : goal.loop-at-init
loop-at-init g c = no_objects-listed c.self.inside.scripts c.first-at.result (g.N.Notices.telling c.args.out.now) c.first-at.ensures.key c.first-at.ensures.live

pub loop-at-smaller : goal.loop-at-smaller
loop-at-smaller g c = omega (arith, objects-few c.self.inside.scripts c.in-Some.key c.in-Some.is c.loop-at.invariant)

pub overflow_add-count : goal.overflow_add-count
overflow_add-count g c =
    let p = c.self.inside in
    let order = rw (← c.self.view_is) at c.requires.order in
    omega (arith, objects-few p.scripts c.in-Some.key c.in-Some.is c.loop-at.invariant, scripts-limited_to p order.0 order.1)

pub loop-at-preserved : goal.loop-at-preserved
loop-at-preserved g c =
    let p = c.self.inside in
    let order = rw (← c.self.view_is) at c.requires.order in
    objects-next p.scripts order.1.one_key c.in-Some.key c.in-Some.is c.loop-at.invariant c.name.result c.name.ensures
    c.next-at.ensures.key c.next-at.ensures.live c.tell.ensures

pub returns-clause-told : goal.returns-clause-told
returns-clause-told g c =
    let order = rw (← c.self.view_is) at c.requires.order in
    rw (← c.self.view_is) ((objects-all c.self.inside order.0 order.1 c.in_default.not-Some c.loop-at.invariant).told)

pub returns-clause-count : goal.returns-clause-count
returns-clause-count g c =
    let order = rw (← c.self.view_is) at c.requires.order in
    rw (← c.self.view_is) ((objects-all c.self.inside order.0 order.1 c.in_default.not-Some c.loop-at.invariant).counted)

pub returns-clause-few : goal.returns-clause-few
returns-clause-few g c =
    let order = rw (← c.self.view_is) at c.requires.order in
    (objects-all c.self.inside order.0 order.1 c.in_default.not-Some c.loop-at.invariant).few
