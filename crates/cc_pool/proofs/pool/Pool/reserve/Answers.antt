use Rattle.std.proofs.Common.{◌≡◌, ◌≤◌, ◌<◌, ◌+◌, ◌-◌, ◌*◌, ◌/◌, ◌∙◌, ap, length, arith, rules}
use Rattle.std.proofs.Math.Nat.{lt-mul-div-succ}
use Rattle.cc_pool.specs.Blocks.{joined, HasMore}
use Rattle.cc_pool.proofs.Filling.{length-joined, blocks-fit}
use Rattle.cc_pool.proofs.Emptying.{blocks-room}
use Rattle.cc_pool.proofs.Growing.{few-blocks, few-places}
use Rattle.cc_pool.proofs.Places.{counted}
use Rattle.cc_pool.proofs.pool.Pool.reserve.Goals as goal

pub overflow_sub-spare : goal.overflow_sub-spare
overflow_sub-spare g c = blocks-fit g.row.N _ _ _ c.self.invariant.blocks

pub returns-then-additional-spare-clause-room : goal.returns-then-additional-spare-clause-room
returns-then-additional-spare-clause-room g c =
    let count = counted g.row.N _ _ _ _ c.self.invariant c.self.view_is in
    let room = ap (λ p. p.capacity) c.self.view_is in
    let fits : c.self.inside.len ≤ c.self.inside.capacity = blocks-fit g.row.N _ _ _ c.self.invariant.blocks in
    omega (arith, count, room, fits, c.if-additional-spare.true)

pub returns-in_err-more-clause-no_need : goal.returns-in_err-more-clause-no_need
returns-in_err-more-clause-no_need g c h =
    let count = counted g.row.N _ _ _ _ c.self.invariant c.self.view_is in
    let room = ap (λ p. p.capacity) c.self.view_is in
    absurd (omega (arith, count, room, h, c.if-additional-spare.false))

pub returns-in_err-capacity-clause-no_need : goal.returns-in_err-capacity-clause-no_need
returns-in_err-capacity-clause-no_need g c h =
    let count = counted g.row.N _ _ _ _ c.self.invariant c.self.view_is in
    let room = ap (λ p. p.capacity) c.self.view_is in
    absurd (omega (arith, count, room, h, c.if-additional-spare.false))

pub returns-in_err-add_blocks-clause-no_need : goal.returns-in_err-add_blocks-clause-no_need
returns-in_err-add_blocks-clause-no_need g c h =
    let count = counted g.row.N _ _ _ _ c.self.invariant c.self.view_is in
    let room = ap (λ p. p.capacity) c.self.view_is in
    absurd (omega (arith, count, room, h, c.if-additional-spare.false))

pub returns-clause-room : goal.returns-clause-room
returns-clause-room g c =
    let more : HasMore g.row.N ((c.args.additional - (c.self.inside.capacity - c.self.inside.len) - 1) / g.row.N + 1) c.self.inside.blocks.items c.add_blocks.new.blocks.items = c.in_ok-add_blocks.ensures.added in
    let all : length (joined c.add_blocks.new.blocks.items) ≡ c.self.inside.len = ap length more.values ∙ length-joined g.row.N _ _ _ c.self.invariant.blocks in
    let product : c.in_ok-more.more ≡ g.row.N * ((c.args.additional - (c.self.inside.capacity - c.self.inside.len) - 1) / g.row.N + 1) = search rules in
    let sum : c.in_ok-capacity.capacity ≡ c.self.inside.capacity + c.in_ok-more.more = search rules in
    let enough : c.args.additional - (c.self.inside.capacity - c.self.inside.len) - 1 < g.row.N * ((c.args.additional - (c.self.inside.capacity - c.self.inside.len) - 1) / g.row.N + 1) = lt-mul-div-succ _ c.self.invariant.positive in
    let fits : c.self.inside.len ≤ c.self.inside.capacity = blocks-fit g.row.N _ _ _ c.self.invariant.blocks in
    omega (arith, all, product, sum, enough, fits, c.if-additional-spare.false)

pub returns-clause-had_room : goal.returns-clause-had_room
returns-clause-had_room g c h =
    let count = counted g.row.N _ _ _ _ c.self.invariant c.self.view_is in
    let room = ap (λ p. p.capacity) c.self.view_is in
    absurd (omega (arith, count, room, h, c.if-additional-spare.false))

pub returns-then-additional-spare-clause-within : goal.returns-then-additional-spare-clause-within
returns-then-additional-spare-clause-within g c =
    let count = counted g.row.N _ _ _ _ c.self.invariant c.self.view_is in
    let room = ap (λ p. p.capacity) c.self.view_is in
    let fits : c.self.inside.len ≤ c.self.inside.capacity = blocks-fit g.row.N _ _ _ c.self.invariant.blocks in
    omega (arith, count, room, fits)

pub returns-in_err-more-clause-within : goal.returns-in_err-more-clause-within
returns-in_err-more-clause-within g c =
    let count = counted g.row.N _ _ _ _ c.self.invariant c.self.view_is in
    let room = ap (λ p. p.capacity) c.self.view_is in
    let fits : c.self.inside.len ≤ c.self.inside.capacity = blocks-fit g.row.N _ _ _ c.self.invariant.blocks in
    omega (arith, count, room, fits)

pub returns-in_err-capacity-clause-within : goal.returns-in_err-capacity-clause-within
returns-in_err-capacity-clause-within g c =
    let count = counted g.row.N _ _ _ _ c.self.invariant c.self.view_is in
    let room = ap (λ p. p.capacity) c.self.view_is in
    let fits : c.self.inside.len ≤ c.self.inside.capacity = blocks-fit g.row.N _ _ _ c.self.invariant.blocks in
    omega (arith, count, room, fits)

pub returns-in_err-add_blocks-clause-within : goal.returns-in_err-add_blocks-clause-within
returns-in_err-add_blocks-clause-within g c =
    let count = counted g.row.N _ _ _ _ c.self.invariant c.self.view_is in
    let room = ap (λ p. p.capacity) c.self.view_is in
    let fits : c.self.inside.len ≤ c.self.inside.capacity = blocks-fit g.row.N _ _ _ c.self.invariant.blocks in
    omega (arith, count, room, fits)

pub returns-clause-within : goal.returns-clause-within
returns-clause-within g c =
    let count = counted g.row.N _ _ _ _ c.self.invariant c.self.view_is in
    let room = ap (λ p. p.capacity) c.self.view_is in
    let fits : c.self.inside.len ≤ c.self.inside.capacity = blocks-fit g.row.N _ _ _ c.self.invariant.blocks in
    omega (arith, count, room, fits)

pub returns-in_err-add_blocks-clause-had_room : goal.returns-in_err-add_blocks-clause-had_room
returns-in_err-add_blocks-clause-had_room g c h =
    let count = counted g.row.N _ _ _ _ c.self.invariant c.self.view_is in
    let room = ap (λ p. p.capacity) c.self.view_is in
    absurd (omega (arith, count, room, h, c.if-additional-spare.false))

pub returns-clause-bounded : goal.returns-clause-bounded
returns-clause-bounded g c =
    let count = counted g.row.N _ _ _ _ c.self.invariant c.self.view_is in
    let product : c.in_ok-more.more ≡ g.row.N * ((c.args.additional - (c.self.inside.capacity - c.self.inside.len) - 1) / g.row.N + 1) = search rules in
    let sum : c.in_ok-capacity.capacity ≡ c.self.inside.capacity + c.in_ok-more.more = search rules in
    let fits : c.self.inside.len ≤ c.self.inside.capacity = blocks-fit g.row.N _ _ _ c.self.invariant.blocks in
    let some : 0 < c.args.additional - (c.self.inside.capacity - c.self.inside.len) = omega (arith, c.if-additional-spare.false) in
    let few : g.row.N * ((c.args.additional - (c.self.inside.capacity - c.self.inside.len) - 1) / g.row.N + 1) < c.args.additional - (c.self.inside.capacity - c.self.inside.len) + g.row.N =
    few-blocks g.row.N _ c.self.invariant.positive some in
    omega (arith, count, product, sum, few, fits, c.if-additional-spare.false)

pub returns-clause-places : goal.returns-clause-places
returns-clause-places g c =
    let count = counted g.row.N _ _ _ _ c.self.invariant c.self.view_is in
    let places = ap (λ p. p.places) c.self.view_is in
    let fits : c.self.inside.len ≤ c.self.inside.capacity = blocks-fit g.row.N _ _ _ c.self.invariant.blocks in
    let some : 0 < c.args.additional - (c.self.inside.capacity - c.self.inside.len) = omega (arith, c.if-additional-spare.false) in
    let few : g.row.N * ((c.args.additional - (c.self.inside.capacity - c.self.inside.len) - 1) / g.row.N + 1) < c.args.additional - (c.self.inside.capacity - c.self.inside.len) + g.row.N =
    few-blocks g.row.N _ c.self.invariant.positive some in
    rw (← places, ← count) (few-places g.row.N _ _ (length c.self.inside.blocks.items) _ c.self.inside.capacity _ c.in_ok-add_blocks.ensures.places (blocks-room g.row.N _ _ _ c.self.invariant.blocks)
    (omega (arith, few, fits, c.if-additional-spare.false)))

pub returns-in_err-add_blocks-clause-places : goal.returns-in_err-add_blocks-clause-places
returns-in_err-add_blocks-clause-places g c =
    let count = counted g.row.N _ _ _ _ c.self.invariant c.self.view_is in
    let places = ap (λ p. p.places) c.self.view_is in
    let fits : c.self.inside.len ≤ c.self.inside.capacity = blocks-fit g.row.N _ _ _ c.self.invariant.blocks in
    let some : 0 < c.args.additional - (c.self.inside.capacity - c.self.inside.len) = omega (arith, c.if-additional-spare.false) in
    let few : g.row.N * ((c.args.additional - (c.self.inside.capacity - c.self.inside.len) - 1) / g.row.N + 1) < c.args.additional - (c.self.inside.capacity - c.self.inside.len) + g.row.N =
    few-blocks g.row.N _ c.self.invariant.positive some in
    rw (← places, ← count) (few-places g.row.N _ _ (length c.self.inside.blocks.items) _ c.self.inside.capacity _ c.in_err-add_blocks.ensures.places (blocks-room g.row.N _ _ _ c.self.invariant.blocks)
    (omega (arith, few, fits, c.if-additional-spare.false)))
