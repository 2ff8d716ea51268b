use Rattle.std.proofs.Common.{sym}
use Rattle.cc_heaps.proofs.Keying.{counts-back}
use Rattle.cc_heaps.proofs.heaps.Heaps.counted.Goals as goal

pub returns : goal.returns
returns c = rw (← c.self.view_is) (sym (counts-back c.self.inside c.self.invariant))
