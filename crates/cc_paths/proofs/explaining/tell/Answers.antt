use Rattle.std.proofs.lemmas.Option.{slice_get-get_or}
use Rattle.cc_paths.proofs.Told.{told-turn}
use Rattle.cc_paths.proofs.explaining.tell.Goals as goal

pub loop-i-preserved : goal.loop-i-preserved
loop-i-preserved g c =
    let out = g.N.Notices.telling in
    told-turn c.args.path.now c.loop-i.i _ (out c.args.out.now) (out c.loop-i.out) (out c.tell.new.self)
    (slice_get-get_or c.args.path.now c.loop-i.i _ c.loop-i-test.true) c.loop-i-test.true c.loop-i.invariant c.tell.ensures
