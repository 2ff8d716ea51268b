use Rattle.cc_laws_heap.proofs.Face.{AreMarksClosed-colours, IsBlackClosed-colours}
use Rattle.cc_gc.proofs.RoundsLeft.{KeepsKeys-round}
use Rattle.cc_gc.proofs.rounds.round.Goals as goal

pub sweep-requires-clause-closed : goal.sweep-requires-clause-closed
sweep-requires-clause-closed g c =
    let f = c.requires.order in
    let marked = c.mark_scripts.new.self in
    AreMarksClosed-colours marked.heap c.mark_scripts.ensures.colours (c.mark_scripts.ensures.kept.order f.0 f.1).sound.well_formed

pub sweep-requires-clause-order : goal.sweep-requires-clause-order
sweep-requires-clause-order g c = let f = c.requires.order in (f.0, c.mark_scripts.ensures.kept.order f.0 f.1)

pub returns-clause-kept : goal.returns-clause-kept
returns-clause-kept g c =
    let marked = c.mark_scripts.ensures.kept in
    let swept = c.sweep.ensures.kept in
    record {
      keys = KeepsKeys-round c.args.heaps.now c.mark_scripts.new.self c.sweep.new.self c.requires.order.1.sound
          c.mark_scripts.ensures.heap c.sweep.ensures.heap marked.keys swept.keys;
      order = λ owned o. swept.order owned (marked.order owned o);
      counts = swept.counts;
      colours = λ before. c.sweep.ensures.invariant (IsBlackClosed-colours c.mark_scripts.new.self.heap c.mark_scripts.ensures.colours);
      fresh = tt;
      suspected = tt;
      marks = tt;
    }
