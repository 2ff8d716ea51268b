use Rattle.std.proofs.Common.{◌==◌, ap}
use Rattle.cc_pool.proofs.Places.{counted}
use Rattle.cc_pool.proofs.pool.Pool.is_empty.Goals as goal

pub returns : goal.returns
returns g c = ap (λ n. n == 0) (counted g.row.N _ _ _ _ c.self.invariant c.self.view_is)
