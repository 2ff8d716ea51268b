use Rattle.std.proofs.Common.{true, false, [], refl, sym, subst}
use Rattle.cc_model.specs.Suspected.{IsSuspected}
use Rattle.cc_model.specs.View.{view}
use Rattle.cc_heaps.proofs.FewCounts.{few-owned}
use Rattle.cc_gc.specs.Sparing.{KeepsWhatIsReached}
use Rattle.cc_gc.proofs.Sparing.{keeps-same}
use Rattle.cc_markslice.proofs.Stepped.{HasTried, tried, tried-well, tried-less, tried-ends, has-ended, ended-keys, ended-forgets_nothing, ended-keeps_reached, ended-spares_reached, ended-spares_held}
use Rattle.cc_markslice.proofs.marking.Marking.step.Given as given
use Rattle.cc_markslice.proofs.marking.Marking.step.Goals as goal

-- an object was scanned
some : (g : given.Over) (c : goal.Then-scan_new g) → HasTried c.args.heaps.now c.scan_new.new.self true
some g c =
    let e = c.scan_new.ensures in
    tried c.args.heaps.now c.scan_new.new.self c.scan_new.result true c.if-scan_new.true c.requires.order.0 c.requires.order.1 c.requires.well e.some e.marks e.heap e.rest e.kept.keys e.listed

pub returns-then-scan_new-clause-well : goal.returns-then-scan_new-clause-well
returns-then-scan_new-clause-well g c = λ same. tried-well _ _ (some g c)

pub returns-then-scan_new-clause-less : goal.returns-then-scan_new-clause-less
returns-then-scan_new-clause-less g c = λ same. tried-less _ _ (some g c) refl

pub returns-then-scan_new-clause-keeps : goal.returns-then-scan_new-clause-keeps
returns-then-scan_new-clause-keeps g c =
    subst (KeepsWhatIsReached c.args.heaps.now.heap) (sym c.scan_new.ensures.heap) (keeps-same c.args.heaps.now.heap c.requires.order.1.sound.well_formed)

pub returns-then-scan_new-clause-suspected : goal.returns-then-scan_new-clause-suspected
returns-then-scan_new-clause-suspected g c = λ suspected. subst (λ h. IsSuspected (view h) []) (sym c.scan_new.ensures.heap) suspected

-- none was left
pub end_new-requires-clause-order : goal.end_new-requires-clause-order
end_new-requires-clause-order g c = (c.requires.order.0, c.scan_new.ensures.kept.order c.requires.order.0 c.requires.order.1)

pub end_new-requires-clause-ending : goal.end_new-requires-clause-ending
end_new-requires-clause-ending g c =
    let e = c.scan_new.ensures in
    tried-ends _ _
    (tried c.args.heaps.now c.scan_new.new.self c.scan_new.result false c.if-scan_new.false c.requires.order.0 c.requires.order.1 c.requires.well e.some e.marks e.heap e.rest e.kept.keys e.listed)

-- and the marking was ended
none : (g : given.Over) (c : goal.After-end_new g) → HasTried c.args.heaps.now c.scan_new.new.self false
none g c =
    let e = c.scan_new.ensures in
    tried c.args.heaps.now c.scan_new.new.self c.scan_new.result false c.if-scan_new.false c.requires.order.0 c.requires.order.1 c.requires.well e.some e.marks e.heap e.rest e.kept.keys e.listed

pub returns-clause-stepped : goal.returns-clause-stepped
returns-clause-stepped g c = λ m is. has-ended c.args.heaps.now c.scan_new.new.self (none g c) c.end_new.new.self (g.N.Notices.telling c.args.out.now) (g.N.Notices.telling c.end_new.new.out)
    c.end_new.ensures.heap c.end_new.ensures.told c.end_new.ensures.natives c.end_new.ensures.marking c.end_new.ensures.kept.keys m is

pub returns-clause-keeps : goal.returns-clause-keeps
returns-clause-keeps g c = ended-keeps_reached c.args.heaps.now c.scan_new.new.self (none g c) c.end_new.new.self (g.N.Notices.telling c.args.out.now) (g.N.Notices.telling c.end_new.new.out)
    c.end_new.ensures.heap c.end_new.ensures.told c.end_new.ensures.natives c.end_new.ensures.marking c.end_new.ensures.kept.keys

pub returns-clause-spares : goal.returns-clause-spares
returns-clause-spares g c = λ m is same. ended-spares_reached c.args.heaps.now c.scan_new.new.self (none g c) c.end_new.new.self (g.N.Notices.telling c.args.out.now) (g.N.Notices.telling c.end_new.new.out)
    c.end_new.ensures.heap c.end_new.ensures.told c.end_new.ensures.natives c.end_new.ensures.marking c.end_new.ensures.kept.keys m is

pub returns-clause-spares_marked : goal.returns-clause-spares_marked
returns-clause-spares_marked g c = λ m is same. ended-spares_held c.args.heaps.now c.scan_new.new.self (none g c) c.end_new.new.self (g.N.Notices.telling c.args.out.now) (g.N.Notices.telling c.end_new.new.out)
    c.end_new.ensures.heap c.end_new.ensures.told c.end_new.ensures.natives c.end_new.ensures.marking c.end_new.ensures.kept.keys m is

pub returns-clause-suspected : goal.returns-clause-suspected
returns-clause-suspected g c = λ suspected. ended-forgets_nothing c.args.heaps.now c.scan_new.new.self (none g c) c.end_new.new.self (g.N.Notices.telling c.args.out.now) (g.N.Notices.telling c.end_new.new.out)
    c.end_new.ensures.heap c.end_new.ensures.told c.end_new.ensures.natives c.end_new.ensures.marking c.end_new.ensures.kept.keys suspected

pub returns-clause-kept : goal.returns-clause-kept
returns-clause-kept g c = record {
  keys = ended-keys c.args.heaps.now c.scan_new.new.self (none g c) c.end_new.new.self (g.N.Notices.telling c.args.out.now) (g.N.Notices.telling c.end_new.new.out)
      c.end_new.ensures.heap c.end_new.ensures.told c.end_new.ensures.natives c.end_new.ensures.marking c.end_new.ensures.kept.keys;
  order = λ owned o. c.end_new.ensures.kept.order owned (c.scan_new.ensures.kept.order owned o);
  counts = few-owned _;
  colours = λ before. c.end_new.ensures.invariant;
  fresh = tt;
  suspected = tt;
  marks = tt;
}
