use Rattle.std.proofs.Common.{◌≡◌, ◌<◌, ◌≤◌, ◌+◌, ◌*◌, ◌^◌, ◌∙◌, ap, take, subst, arith, rules}
use Rattle.std.specs.Int.{div_ceil}
use Rattle.cc_pool.specs.Blocks.{AreEmptied, IsPooled}
use Rattle.cc_pool.proofs.Filling.{blocks-none}
use Rattle.cc_pool.proofs.Places.{counted}
use Rattle.cc_pool.proofs.Emptying.{ceil-enough, ceil-least, ceil-fits, pooled-emptied}
use Rattle.cc_pool.proofs.pool.Pool.clear.Goals as goal

pub overflow_mul-self : goal.overflow_mul-self
overflow_mul-self g c =
    let fits : g.row.N * div_ceil c.self.inside.len g.row.N ≤ c.self.inside.capacity = ceil-fits g.row.N _ _ _ c.self.invariant.positive c.self.invariant.blocks in
    let same : g.row.N * c.div_ceil-used.result ≡ g.row.N * div_ceil c.self.inside.len g.row.N = ap (λ n. g.row.N * n) c.div_ceil-used.ensures in
    let small : g.row.N * c.div_ceil-used.result < 2 ^ 64 = omega (arith, fits, same, c.self.invariant.small) in
    search rules

pub invariant_of-self : goal.invariant_of-self
invariant_of-self g c =
    rw (c.div_ceil-used.ensures)
    (pooled-emptied g.row.N _ _ c.self.inside.blocks.items c.empty.new.blocks.items c.self.invariant
    (subst (λ bs. AreEmptied bs c.empty.new.blocks.items) (c.truncate.ensures.items ∙ ap (λ n. take n c.self.inside.blocks.items) c.div_ceil-used.ensures) c.empty.ensures.emptied))

pub returns-clause-items : goal.returns-clause-items
returns-clause-items g c =
    let emptied : IsPooled g.row.N 0 (g.row.N * div_ceil c.self.inside.len g.row.N) c.empty.new.blocks.items =
    pooled-emptied g.row.N _ _ c.self.inside.blocks.items c.empty.new.blocks.items c.self.invariant
    (subst (λ bs. AreEmptied bs c.empty.new.blocks.items) (c.truncate.ensures.items ∙ ap (λ n. take n c.self.inside.blocks.items) c.div_ceil-used.ensures) c.empty.ensures.emptied) in
    blocks-none g.row.N _ c.empty.new.blocks.items emptied.blocks

pub returns-clause-room : goal.returns-clause-room
returns-clause-room g c =
    let count = counted g.row.N _ _ _ _ c.self.invariant c.self.view_is in
    let same : g.row.N * c.div_ceil-used.result ≡ g.row.N * div_ceil c.self.inside.len g.row.N = ap (λ n. g.row.N * n) c.div_ceil-used.ensures in
    let enough : c.self.inside.len ≤ g.row.N * div_ceil c.self.inside.len g.row.N = ceil-enough c.self.inside.len g.row.N c.self.invariant.positive in
    omega (arith, count, same, enough)

pub returns-clause-given_back : goal.returns-clause-given_back
returns-clause-given_back g c =
    let count = counted g.row.N _ _ _ _ c.self.invariant c.self.view_is in
    let same : g.row.N * c.div_ceil-used.result ≡ g.row.N * div_ceil c.self.inside.len g.row.N = ap (λ n. g.row.N * n) c.div_ceil-used.ensures in
    let least : g.row.N * div_ceil c.self.inside.len g.row.N < c.self.inside.len + g.row.N = ceil-least c.self.inside.len g.row.N c.self.invariant.positive in
    omega (arith, count, same, least)
