use Rattle.std.proofs.Common.{[], Some, subst, arith}
use Rattle.cc_model.specs.Heap.{Outcome}
use Rattle.cc_model.specs.Telling.{TellsEvents}
use Rattle.cc_heaps.proofs.FewCounts.{none-owned}
use Rattle.cc_heaps.specs.Changes.{native_name}
use Rattle.cc_host.proofs.Referring.{reached-held}
use Rattle.cc_host.proofs.Spare.{held-from, held-silently}
use Rattle.cc_host.proofs.MarkedCalls.{held-marking}
use Rattle.cc_host.specs.Hosted.{spare}
use Rattle.cc_host.proofs.PlacesKept.{held-places}
use Rattle.cc_host.proofs.SpotsKeyed.{held-only}
use Rattle.cc_host.proofs.changes.hold.Goals as goal

pub set_native_reg-requires-clause-within : goal.set_native_reg-requires-clause-within
set_native_reg-requires-clause-within g c = omega (arith, c.requires.ready.order.sound.well_formed.registers.0.enough)

pub set_native_reg-requires-clause-order : goal.set_native_reg-requires-clause-order
set_native_reg-requires-clause-order g c = none-owned c.args.heaps.now c.requires.ready.order

pub returns-clause-held : goal.returns-clause-held
returns-clause-held g c =
    let e = c.set_native_reg.ensures in
    held-from c.args.heaps.now c.set_native_reg.new.self c.args.key c.requires.ready e.heap e.kept (λ p. e.stands (reached-held c.args.heaps.now.heap (native_name c.args.heaps.now (Some c.args.key)) p))

pub returns-clause-told : goal.returns-clause-told
returns-clause-told g c =
    subst (λ (o : Outcome). TellsEvents (g.N.Notices.telling c.args.out.now) (g.N.Notices.telling c.set_native_reg.new.out) o.events)
    (held-silently c.args.heaps.now c.args.key c.requires.ready) c.set_native_reg.ensures.told

pub returns-clause-marking : goal.returns-clause-marking
returns-clause-marking g c =
    let v = c.args.heaps.now in
    held-marking v c.set_native_reg.new.self spare (native_name v (Some c.args.key)) c.set_native_reg.ensures.heap c.set_native_reg.ensures.marks

pub returns-clause-places : goal.returns-clause-places
returns-clause-places g c =
    let v = c.args.heaps.now in
    held-places v c.set_native_reg.new.self spare (native_name v (Some c.args.key)) (omega (arith)) c.set_native_reg.ensures.heap

pub returns-clause-writes : goal.returns-clause-writes
returns-clause-writes g c =
    let v = c.args.heaps.now in
    let e = c.set_native_reg.ensures in
    held-only v c.set_native_reg.new.self spare (native_name v (Some c.args.key)) e.heap (e.kept.order [] c.requires.ready.order).sound.well_formed
