use Rattle.std.proofs.Common.{◌≡◌}
use Rattle.cc_model.specs.End.{take_away}
use Rattle.cc_heaps.specs.Keyed.{left_with}
use Rattle.cc_heaps.proofs.KeysKept.{KeepsKeys-left}
use Rattle.cc_unlink.proofs.Promises.{ended-stands, ended-reached, ended-objects, ended-suspected, ended-colours}
use Rattle.cc_heaps.proofs.Kept.{kept-alone}
use Rattle.cc_unlink.specs.Whites.{whites_of}
use Rattle.cc_unlink.proofs.WhiteEnd.{WhiteEnd-heap, WhiteEnd-told}
use Rattle.cc_unlink.proofs.NodeKeys.{node-keys, node-keys-changed, node-keys-left}
use Rattle.cc_unlink.proofs.ends.collect_white_counted.Given as given
use Rattle.cc_unlink.proofs.ends.collect_white_counted.Goals as goal

pub root_whites-requires-clause-keys : goal.root_whites-requires-clause-keys
root_whites-requires-clause-keys g c = node-keys c.args.graph c.args.heaps.now c.requires.order c.requires.held

pub unlink_whites-requires-clause-keys : goal.unlink_whites-requires-clause-keys
unlink_whites-requires-clause-keys g c =
    node-keys-changed c.args.graph c.args.heaps.now c.root_whites.new.heaps _ c.root_whites.ensures.heap (node-keys c.args.graph c.args.heaps.now c.requires.order c.requires.held)

pub unroot_whites-requires-clause-keys : goal.unroot_whites-requires-clause-keys
unroot_whites-requires-clause-keys g c =
    node-keys-left c.args.graph c.root_whites.new.heaps c.unlink_whites.new.heaps _ c.unlink_whites.ensures.heap
    (node-keys-changed c.args.graph c.args.heaps.now c.root_whites.new.heaps _ c.root_whites.ensures.heap (node-keys c.args.graph c.args.heaps.now c.requires.order c.requires.held))

-- the three passes are the end that the definitions have
ended : (g : given.Over) (c : goal.After-unroot_whites g) → c.unroot_whites.new.heaps ≡ left_with c.args.heaps.now (take_away (whites_of c.args.graph c.args.heaps.now.heap) c.args.heaps.now.heap).heap
ended g c =
    let first = c.args.heaps.now in
    WhiteEnd-heap (whites_of c.args.graph first.heap) first c.root_whites.new.heaps c.unlink_whites.new.heaps c.unroot_whites.new.heaps
    c.root_whites.ensures.heap (rw c.root_whites.ensures.whites at c.unlink_whites.ensures.heap)
    (rw c.root_whites.ensures.whites at c.unlink_whites.ensures.order)
    (rw (c.unlink_whites.ensures.whites, c.root_whites.ensures.whites) at c.unroot_whites.ensures.heap)

pub returns-clause-ended : goal.returns-clause-ended
returns-clause-ended g c =
    let v = c.args.heaps.now in
    let w = c.unroot_whites.new.heaps in
    let o = c.requires.order in
    let e = ended g c in
    let a = c.args.graph in
    let whites = whites_of a v.heap in
    let telling = g.N.Notices.telling in
    record {
      heap = e;
      told = WhiteEnd-told whites v c.root_whites.new.heaps c.unlink_whites.new.heaps w
          c.root_whites.ensures.heap (rw c.root_whites.ensures.whites at c.unlink_whites.ensures.heap)
          (telling c.args.out.now) (telling c.unlink_whites.new.out) (telling c.unroot_whites.new.out)
          (rw c.root_whites.ensures.whites at c.unlink_whites.ensures.told)
          (rw (c.unlink_whites.ensures.whites, c.root_whites.ensures.whites) at c.unroot_whites.ensures.told);
      kept = kept-alone v w o c.unroot_whites.ensures.order (KeepsKeys-left v w _ e) (ended-colours a v w o e);
      stands = ended-stands a v w o e;
      reached = ended-reached a v w o e;
      objects = ended-objects a v w o e;
      suspected = ended-suspected a v w o e;
    }
