use Rattle.cc_lists.proofs.KnownBytes.{on_err_of}
use Rattle.cc_heaps.specs.Places.{places_at}
use Rattle.cc_builder.proofs.BuildPlaces.{contents-some}
use Rattle.cc_builder.proofs.build.Build.note_places.Goals as goal

pub returns-in_err-note_place-clause-refused : goal.returns-in_err-note_place-clause-refused
returns-in_err-note_place-clause-refused c =
    let v = c.args.heaps.now in
    on_err_of c.from_residual.result (contents-some v.heap (places_at v c.args.object) c.loop-i.i c.in_err-note_place.ensures.held_there)
