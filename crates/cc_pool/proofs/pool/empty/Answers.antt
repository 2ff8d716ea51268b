use Rattle.std.proofs.Common.{◌≡◌, ◌<◌, length, refl, subst, arith}
use Rattle.cc_pool.specs.Blocks.{AreEmptiedTo}
use Rattle.cc_pool.proofs.Emptying.{emptied-none, emptied-more}
use Rattle.cc_pool.proofs.pool.empty.Goals as goal

pub loop-i-init : goal.loop-i-init
loop-i-init g c = record { emptied = emptied-none c.args.blocks.now.items; places = refl }

pub loop-i-preserved : goal.loop-i-preserved
loop-i-preserved g c =
    let inside : c.loop-i.i < length c.loop-i.blocks.items = omega (arith, c.loop-i-test.true, c.len-i-end.ensures, c.args.blocks.now.ok.0, c.loop-i.invariant.emptied.as_many) in
    record {
      emptied = emptied-more c.loop-i.i c.args.blocks.now.items c.loop-i.blocks.items _ c.clear.new.self c.loop-i.invariant.emptied inside c.index_mut.ensures.value c.clear.ensures.items c.clear.ensures.capacity;
      places = c.loop-i.invariant.places;
    }

pub returns-clause-emptied : goal.returns-clause-emptied
returns-clause-emptied g c =
    let all : c.loop-i.i ≡ length c.args.blocks.now.items = omega (arith, c.loop-i-test.false, c.len-i-end.ensures, c.args.blocks.now.ok.0) in
    subst (λ n. AreEmptiedTo n c.args.blocks.now.items c.loop-i.blocks.items) all c.loop-i.invariant.emptied
