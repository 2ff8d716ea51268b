use Rattle.cc_heaps.proofs.RootWalks.{begins}
use Rattle.cc_heaps.proofs.heaps.roots.HeldRoots.new.Goals as goal

pub returns : goal.returns
returns c = begins c.args.counted.now c.requires.keyed c.first.result c.first.ensures.number c.first.ensures.live
