use Rattle.std.proofs.Common.{[], arith, None}
use Rattle.cc_heaps.proofs.FewCounts.{none-owned}
use Rattle.cc_host.proofs.Around.{let_go-from}
use Rattle.cc_host.proofs.MarkedCalls.{held-marking}
use Rattle.cc_host.specs.Hosted.{spare}
use Rattle.cc_host.proofs.PlacesKept.{held-places}
use Rattle.cc_host.proofs.SpotsKeyed.{held-only}
use Rattle.cc_host.proofs.changes.let_go.Goals as goal

pub set_native_reg-requires-clause-within : goal.set_native_reg-requires-clause-within
set_native_reg-requires-clause-within g c = omega (arith, c.requires.order.sound.well_formed.registers.0.enough)

pub set_native_reg-requires-clause-order : goal.set_native_reg-requires-clause-order
set_native_reg-requires-clause-order g c = none-owned c.args.heaps.now c.requires.order

pub returns-clause-empty : goal.returns-clause-empty
returns-clause-empty g c =
    let e = c.set_native_reg.ensures in
    let_go-from c.args.heaps.now c.set_native_reg.new.self e.heap c.requires.order e.kept (e.stands tt)

pub returns-clause-marking : goal.returns-clause-marking
returns-clause-marking g c =
    let v = c.args.heaps.now in
    held-marking v c.set_native_reg.new.self spare None c.set_native_reg.ensures.heap c.set_native_reg.ensures.marks

pub returns-clause-places : goal.returns-clause-places
returns-clause-places g c =
    let v = c.args.heaps.now in
    held-places v c.set_native_reg.new.self spare None (omega (arith)) c.set_native_reg.ensures.heap

pub returns-clause-writes : goal.returns-clause-writes
returns-clause-writes g c =
    let v = c.args.heaps.now in
    let e = c.set_native_reg.ensures in
    held-only v c.set_native_reg.new.self spare None e.heap (e.kept.order [] c.requires.order).sound.well_formed
