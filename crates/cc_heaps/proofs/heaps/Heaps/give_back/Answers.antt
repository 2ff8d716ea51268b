use Rattle.std.proofs.Common.{true, subst, sym}
use Rattle.cc_model.specs.Heap.{suspect}
use Rattle.cc_heaps.specs.Keyed.{Keyed, the_number}
use Rattle.cc_heaps.specs.Fields.{keyed_of}
use Rattle.cc_heaps.specs.Standing.{KeepsColours, KeepsFresh, KeepsSuspected, StillStands}
use Rattle.cc_heaps.proofs.Calls.{number-there, changed-keyed, changed-order, changed-linked, mark-changes}
use Rattle.cc_heaps.proofs.FewCounts.{few-owned}
use Rattle.cc_heaps.proofs.Following.{Keeps, suspect-keeps}
use Rattle.cc_heaps.proofs.KeysKept.{KeepsKeys-changed}
use Rattle.cc_heaps.proofs.Ordered.{IsInOrder-marked}
use Rattle.cc_heaps.proofs.Owned.{callers-own}
use Rattle.cc_heaps.proofs.StandingStill.{buffer-goes_on}
use Rattle.cc_heaps.proofs.MarksKept.{marks-changed, marks-stay-changed}
use Rattle.cc_heaps.proofs.heaps.Heaps.give_back.Goals as goal

pub give_back-requires-clause-owned : goal.give_back-requires-clause-owned
give_back-requires-clause-owned c =
    let f = rw (← c.self.view_is) at c.requires.owned in
    callers-own f.0 c.self.inside (record { order = f.1; linked = c.self.invariant })

pub invariant_of-self : goal.invariant_of-self
invariant_of-self c =
    changed-linked (mark-changes c.self.inside c.self.invariant (the_number (keyed_of c.self.inside) c.args.key.0) true c.give_back.ensures.heap)

pub returns-clause-heap : goal.returns-clause-heap
returns-clause-heap c =
    rw (← c.self.view_is)
    (changed-keyed (mark-changes c.self.inside c.self.invariant (the_number (keyed_of c.self.inside) c.args.key.0) true c.give_back.ensures.heap))

keeps : (c : goal.After-give_back) → Keeps c.args.self.now.heap (suspect c.args.self.now.heap (the_number c.args.self.now c.args.key.0))
keeps c =
    let before = c.args.self.now in
    let k = the_number before c.args.key.0 in
    let f = c.requires.owned in
    suspect-keeps before.heap k f.1.sound.well_formed (IsInOrder-marked f.0 before true k (number-there f.0 before c.args.key.0 f.1 c.requires.live) f.1).sound.well_formed

pub returns-clause-kept : goal.returns-clause-kept
returns-clause-kept c = record {
  keys = KeepsKeys-changed c.args.self.now _ _ (returns-clause-heap c);
  order = λ owned. (let p = c.self.inside in
      let k = the_number (keyed_of p) c.args.key.0 in
      let live = rw (← c.self.view_is) at c.requires.live in
      rw (← c.self.view_is)
      (λ o. changed-order (mark-changes p c.self.invariant k true c.give_back.ensures.heap) (IsInOrder-marked owned (keyed_of p) true k (number-there owned (keyed_of p) c.args.key.0 o live) o)));
  counts = few-owned _;
  colours = subst (λ (w : Keyed). KeepsColours c.args.self.now.heap w.heap) (sym (returns-clause-heap c)) ((keeps c).follows.colours);
  fresh = subst (λ (w : Keyed). KeepsFresh c.args.self.now.heap w.heap) (sym (returns-clause-heap c)) ((keeps c).follows.fresh);
  suspected = subst (λ (w : Keyed). KeepsSuspected c.args.self.now.heap w.heap) (sym (returns-clause-heap c)) ((keeps c).suspected);
  marks = marks-changed c.args.self.now _ _ (returns-clause-heap c);
}

pub returns-clause-stands : goal.returns-clause-stands
returns-clause-stands c =
    subst (λ (w : Keyed). StillStands c.args.self.now.heap w.heap) (sym (returns-clause-heap c)) ((buffer-goes_on c.args.self.now.heap (suspect c.args.self.now.heap (the_number c.args.self.now c.args.key.0)).buffer).stands)

pub returns-clause-marks : goal.returns-clause-marks
returns-clause-marks c = marks-stay-changed c.args.self.now _ _ (returns-clause-heap c)
