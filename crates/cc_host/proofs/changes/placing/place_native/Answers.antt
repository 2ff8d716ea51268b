use Rattle.std.proofs.Common.{Some, sym, ap, subst, arith, []}
use Rattle.cc_heaps.proofs.FewCounts.{none-owned}
use Rattle.cc_heaps.specs.Keyed.{Keyed}
use Rattle.cc_host.proofs.Placed.{HasPlace, place-live, place-made, place-order, place-room, place-there, placed-change, placed-doomed_but, placed-held, placed-marking, placed-none_came, placed-stands, placed-tells, placed-writes}
use Rattle.cc_heaps.specs.Changes.{native_name}
use Rattle.cc_host.proofs.LastingSteps.{place-ended}
use Rattle.cc_host.proofs.changes.placing.place_native.Given as given
use Rattle.cc_host.proofs.Usable.{place-usable}
use Rattle.cc_host.proofs.changes.placing.place_native.Goals as goal
use Rattle.cc_host.proofs.changes.placing.place_native.Goals.{Joined-native_reg_count-r, then-native_reg_count-r+in_ok-root_at, else-native_reg_count-r}
use Rattle.cc_host.proofs.SpotsKeyed.{placed-only}

has : (g : given.Over) (c : Joined-native_reg_count-r g) →
    HasPlace c.args.r c.args.heaps.now c.if-native_reg_count-r.heaps (g.N.Notices.telling c.args.out.now) (g.N.Notices.telling c.if-native_reg_count-r.out)
has g c =
    let r = c.args.r in
    let v = c.args.heaps.now in
    let mid = c.if-native_reg_count-r in
    let before = g.N.Notices.telling c.args.out.now in
    elim c.if-native_reg_count-r.branch [
      | then-native_reg_count-r+in_ok-root_at w ↦
          let e = w.in_ok-root_at.ensures in
          subst (λ (u : Keyed). HasPlace r v u before (g.N.Notices.telling mid.out)) (sym w.heaps-is)
          (subst (λ o. HasPlace r v w.root_at.new.self before (g.N.Notices.telling o)) (sym w.out-is)
          (place-made r v w.root_at.new.self before (g.N.Notices.telling w.root_at.new.out) (omega (arith, w.if-native_reg_count-r.true, c.native_reg_count.ensures))
          e.heap w.root_at.ensures.kept (w.root_at.ensures.marks tt) e.told))
      | else-native_reg_count-r w ↦
          place-there r v before (g.N.Notices.telling mid.out) (omega (arith, w.if-native_reg_count-r.false, c.native_reg_count.ensures)) (ap (λ o. g.N.Notices.telling o) w.out-is) mid.heaps w.heaps-is
    ]

pub set_native_reg-requires-clause-within : goal.set_native_reg-requires-clause-within
set_native_reg-requires-clause-within g c = place-room c.args.heaps.now c.if-native_reg_count-r.heaps c.args.r c.args.key (has g c.before.before) c.requires.ready c.requires.live

pub set_native_reg-requires-clause-order : goal.set_native_reg-requires-clause-order
set_native_reg-requires-clause-order g c =
    let mid = c.if-native_reg_count-r.heaps in
    none-owned mid (place-order c.args.heaps.now mid c.args.r c.args.key (has g c.before.before) c.requires.ready c.requires.live)

pub set_native_reg-requires-clause-there : goal.set_native_reg-requires-clause-there
set_native_reg-requires-clause-there g c = place-live c.args.heaps.now c.if-native_reg_count-r.heaps c.args.r c.args.key (has g c.before.before) c.requires.ready c.requires.live

pub returns-clause-change : goal.returns-clause-change
returns-clause-change g c =
    let e = c.set_native_reg.ensures in
    placed-change c.args.heaps.now c.if-native_reg_count-r.heaps c.args.r c.args.key (has g c.before.before.before) c.requires.ready c.requires.live c.set_native_reg.new.self e.heap
    c.requires.behind c.requires.within e.kept e.stands

pub returns-clause-stands : goal.returns-clause-stands
returns-clause-stands g c =
    let e = c.set_native_reg.ensures in
    placed-stands c.args.heaps.now c.if-native_reg_count-r.heaps c.args.r c.args.key (has g c.before.before.before) c.requires.ready c.requires.live c.set_native_reg.new.self e.heap
    c.requires.within e.stands

pub returns-clause-doomed : goal.returns-clause-doomed
returns-clause-doomed g c =
    placed-doomed_but c.args.heaps.now c.if-native_reg_count-r.heaps c.args.r c.args.key (has g c.before.before.before) c.requires.ready c.requires.live c.set_native_reg.new.self c.set_native_reg.ensures.heap

pub returns-clause-marking : goal.returns-clause-marking
returns-clause-marking g c =
    let e = c.set_native_reg.ensures in
    placed-marking c.args.heaps.now c.if-native_reg_count-r.heaps c.args.r c.args.key (has g c.before.before.before) c.requires.ready c.requires.live c.set_native_reg.new.self e.heap e.marks

pub returns-clause-held : goal.returns-clause-held
returns-clause-held g c =
    placed-held c.args.heaps.now c.if-native_reg_count-r.heaps c.args.r c.args.key (has g c.before.before.before) c.requires.ready c.requires.live c.set_native_reg.new.self c.set_native_reg.ensures.heap

pub returns-clause-writes : goal.returns-clause-writes
returns-clause-writes g c =
    placed-writes c.args.heaps.now c.if-native_reg_count-r.heaps c.args.r c.args.key (has g c.before.before.before) c.requires.ready c.requires.live c.set_native_reg.new.self c.set_native_reg.ensures.heap

pub returns-clause-tells : goal.returns-clause-tells
returns-clause-tells g c =
    let e = c.set_native_reg.ensures in
    placed-tells c.args.heaps.now c.if-native_reg_count-r.heaps c.args.r c.args.key (has g c.before.before.before) c.requires.ready c.requires.live c.set_native_reg.new.self e.heap
    (g.N.Notices.telling c.set_native_reg.new.out) e.tells

pub returns-clause-none_came : goal.returns-clause-none_came
returns-clause-none_came g c =
    placed-none_came c.args.heaps.now c.if-native_reg_count-r.heaps c.args.r c.args.key (has g c.before.before.before) c.requires.ready c.requires.live c.set_native_reg.new.self c.set_native_reg.ensures.heap

pub returns-clause-only : goal.returns-clause-only
returns-clause-only g c =
    let v = c.args.heaps.now in
    let mid = c.if-native_reg_count-r.heaps in
    let has = has g c.before.before.before in
    let e = c.set_native_reg.ensures in
    placed-only v mid c.set_native_reg.new.self c.args.r (native_name mid (Some c.args.key)) has.heap e.heap
    (e.kept.order [] (place-order v mid c.args.r c.args.key has c.requires.ready c.requires.live)).sound.well_formed

pub returns-clause-ended : goal.returns-clause-ended
returns-clause-ended g c =
    let mid = c.if-native_reg_count-r.heaps in
    place-ended c.args.heaps.now mid c.set_native_reg.new.self c.args.r (native_name mid (Some c.args.key)) c.requires.ready.order (has g c.before.before.before).heap
    c.set_native_reg.ensures.heap

pub returns-clause-usable : goal.returns-clause-usable
returns-clause-usable g c =
    let mid = c.if-native_reg_count-r.heaps in
    place-usable c.args.heaps.now mid c.set_native_reg.new.self c.args.r (native_name mid (Some c.args.key)) c.requires.ready.order (has g c.before.before.before).heap
    c.set_native_reg.ensures.heap
