use Rattle.std.proofs.Common.{ap, arith}
use Rattle.cc_builder.specs.Building.{Built}
use Rattle.cc_heaps.specs.Places.{places_at}
use Rattle.cc_builder.proofs.BuildPlaces.{contents-few}
use Rattle.cc_builder.proofs.build.Build.reserve.Goals as goal

pub returns-then-places-spare-clause-room : goal.returns-then-places-spare-clause-room
returns-then-places-spare-clause-room c =
    let v = c.args.heaps.now in
    let few = contents-few v.heap (places_at v c.args.object) in
    let spare = ap (λ (b : Built). b.graph.spare) c.self.view_is in
    omega (arith, few, spare, c.places.ensures, c.spare.ensures, c.if-places-spare.true)
