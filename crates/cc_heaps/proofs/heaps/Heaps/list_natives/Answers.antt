use Rattle.std.proofs.Common.{sym, arith}
use Rattle.cc_heaps.proofs.Listing.{no_natives-listed, natives-few, natives-next, natives-all, rising-counted, natives-limited_to}
use Rattle.cc_heaps.proofs.heaps.Heaps.list_natives.Goals as goal

pub loop-at-init : goal.loop-at-init
loop-at-init g c = no_natives-listed c.self.inside.counted c.first-at.result (g.N.Notices.telling c.args.out.now) c.first-at.ensures.number c.first-at.ensures.live

pub loop-at-smaller : goal.loop-at-smaller
loop-at-smaller g c = omega (arith, natives-few c.self.inside.counted c.in-Some.key c.in-Some.is c.loop-at.invariant)

pub overflow_add-count : goal.overflow_add-count
overflow_add-count g c =
    let p = c.self.inside in
    let order = rw (← c.self.view_is) at c.requires.order in
    omega (arith, natives-few p.counted c.in-Some.key c.in-Some.is c.loop-at.invariant, natives-limited_to p order.0 order.1)

pub loop-at-preserved : goal.loop-at-preserved
loop-at-preserved g c =
    let p = c.self.inside in
    let order = rw (← c.self.view_is) at c.requires.order in
    natives-next p.counted (rising-counted p order.0 order.1) c.in-Some.key c.in-Some.is c.loop-at.invariant c.in-Some-number.number.0 (sym c.in-Some-number.ensures)
    c.next-at.ensures.number c.next-at.ensures.live c.tell.ensures

pub returns-clause-told : goal.returns-clause-told
returns-clause-told g c =
    let order = rw (← c.self.view_is) at c.requires.order in
    rw (← c.self.view_is) ((natives-all c.self.inside order.0 order.1 c.in_default.not-Some c.loop-at.invariant).told)

pub returns-clause-count : goal.returns-clause-count
returns-clause-count g c =
    let order = rw (← c.self.view_is) at c.requires.order in
    rw (← c.self.view_is) ((natives-all c.self.inside order.0 order.1 c.in_default.not-Some c.loop-at.invariant).counted)

pub returns-clause-few : goal.returns-clause-few
returns-clause-few g c =
    let order = rw (← c.self.view_is) at c.requires.order in
    (natives-all c.self.inside order.0 order.1 c.in_default.not-Some c.loop-at.invariant).few
