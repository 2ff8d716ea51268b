use Rattle.std.proofs.Common.{arith}
use Rattle.cc_weakmaps.proofs.Indexed.{indexed-known}
use Rattle.cc_weakmaps.proofs.index.take_out_from.Goals as goal

pub loop-end-init : goal.loop-end-init
loop-end-init c = grind (arith, indexed-known)
