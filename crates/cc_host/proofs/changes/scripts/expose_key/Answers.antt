use Rattle.std.proofs.Common.{[], ◌∙◌, ap}
use Rattle.cc_script.specs.Objects.{name_at}
use Rattle.cc_heaps.specs.Standing.{IsReachedOrReflects}
use Rattle.cc_host.specs.Exposing.{Exposes}
use Rattle.cc_host.proofs.Exposed.{exposed-colour, exposed-ready, exposes}
use Rattle.cc_host.proofs.MarkedCalls.{exposed-is_past, exposed-marking}
use Rattle.cc_host.proofs.PlacesKept.{exposed-places, places-as}
use Rattle.cc_host.specs.Spots.{reads}
use Rattle.cc_host.proofs.SpotsWritten.{reads-exposed}
use Rattle.cc_host.proofs.changes.scripts.expose_key.Goals as goal

pub expose-requires-clause-order : goal.expose-requires-clause-order
expose-requires-clause-order c = ([], c.requires.ready.order)

given : (c : goal.After-expose) → Exposes (IsReachedOrReflects c.args.heaps.now.heap (name_at c.args.heaps.now.scripts c.args.key.0)) c.args.heaps.now c.expose.new.self
given c =
    let v = c.args.heaps.now in
    let e = c.expose.ensures in
    exposes v c.expose.new.self c.requires.ready.order (name_at v.scripts c.args.key.0) e.heap e.natives e.kept e.stands

pub returns-clause-exposes : goal.returns-clause-exposes
returns-clause-exposes c = given c

pub returns-clause-ready : goal.returns-clause-ready
returns-clause-ready c = exposed-ready c.args.heaps.now c.expose.new.self (given c) c.requires.ready

pub returns-clause-black : goal.returns-clause-black
returns-clause-black c =
    exposed-colour c.args.heaps.now c.expose.new.self ((given c).kept.order [] c.requires.ready.order) (given c) c.args.key.0 c.requires.live c.expose.ensures.heap

pub returns-clause-marking : goal.returns-clause-marking
returns-clause-marking c =
    let v = c.args.heaps.now in
    let e = c.expose.ensures in
    exposed-marking v c.expose.new.self (name_at v.scripts c.args.key.0) e.marking e.kept.marks c.requires.ready.order.sound.well_formed e.heap

pub returns-clause-past : goal.returns-clause-past
returns-clause-past c =
    let v = c.args.heaps.now in
    let e = c.expose.ensures in
    exposed-is_past v c.expose.new.self (name_at v.scripts c.args.key.0) e.marking e.kept.marks c.requires.ready.order.sound.well_formed

pub returns-clause-places : goal.returns-clause-places
returns-clause-places c =
    let v = c.args.heaps.now in
    places-as v.heap _ c.expose.new.self.heap c.expose.ensures.heap (exposed-places v.heap (name_at v.scripts c.args.key.0))

pub returns-clause-spots : goal.returns-clause-spots
returns-clause-spots c s =
    let v = c.args.heaps.now in
    ap (λ h. reads h s) c.expose.ensures.heap ∙ reads-exposed v.heap (name_at v.scripts c.args.key.0) s
