use Rattle.std.proofs.Common.{◌≡◌, ◌+◌, ◌∙◌, ap, refl, sym, subst, take, length, arith, rules}
use Rattle.std.proofs.lemmas.List.{length_push}
use Rattle.cc_pool.specs.Blocks.{HasMore, HasOneMore}
use Rattle.cc_pool.proofs.Growing.{from_ok, more-none, more-added}
use Rattle.cc_pool.proofs.pool.add_blocks.Goals as goal

pub loop-init : goal.loop-init
loop-init g c = record { more = more-none g.row.N _; room = omega (arith, c.in_ok-add_places.ensures.room); places = refl }

pub add_block-requires : goal.add_block-requires
add_block-requires g c = omega (arith, c.loop.invariant.room, c.loop-test.true)

pub loop-preserved : goal.loop-preserved
loop-preserved g c =
    let one : HasOneMore g.row.N c.loop.blocks.items c.add_block.new.blocks.items = from_ok c.add_block.result _ c.add_block.ensures.added (sym c.is_err.ensures.value ∙ c.if-is_err.false) in
    let longer : length c.add_block.new.blocks.items ≡ length c.loop.blocks.items + 1 = ap length one.last ∙ length_push c.loop.blocks.items one.block in
    record {
      more = more-added g.row.N _ _ _ _ c.loop.invariant.more one;
      room = omega (arith, longer, c.loop.invariant.room, c.add_block.ensures.places);
      places = c.add_block.ensures.places ∙ c.loop.invariant.places;
    }

pub returns-then-is_err-clause-err : goal.returns-then-is_err-clause-err
returns-then-is_err-clause-err g c =
    let same : c.add_block.new.blocks.items ≡ c.loop.blocks.items = search rules in
    let had : c.len-had.result ≡ length c.args.blocks.now.items = omega (arith, c.len-had.ensures, c.add_places.new.blocks.ok.0, ap length c.add_places.ensures.items) in
    c.truncate.ensures.items ∙ (ap (take c.len-had.result) same
    ∙ (ap (λ n. take n c.loop.blocks.items) (had ∙ sym (ap length c.add_places.ensures.items)) ∙ (c.loop.invariant.more.front ∙ c.add_places.ensures.items)))

pub returns-clause-added : goal.returns-clause-added
returns-clause-added g c =
    let all : c.loop.counter ≡ c.args.count = omega arith in
    subst (λ bs. HasMore g.row.N c.args.count bs c.loop.blocks.items) c.add_places.ensures.items
    (subst (λ z. HasMore g.row.N z c.add_places.new.blocks.items c.loop.blocks.items) all c.loop.invariant.more)
