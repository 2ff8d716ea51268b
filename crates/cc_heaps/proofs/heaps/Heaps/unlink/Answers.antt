use Rattle.std.proofs.Common.{[], ◌∷◌, sym, subst}
use Rattle.cc_heaps.specs.Keyed.{the_number, Keyed}
use Rattle.cc_heaps.specs.Fields.{keyed_of}
use Rattle.cc_model.specs.View.{view}
use Rattle.cc_model.specs.Colours.{HasColourInvariant}
use Rattle.cc_heaps.specs.Standing.{StillStands}
use Rattle.cc_heaps.proofs.Calls.{left-keyed, left-told, left-order, left-linked, unlink-leaves}
use Rattle.cc_heaps.proofs.FewCounts.{few-owned}
use Rattle.cc_heaps.proofs.KeysKept.{KeepsKeys-left}
use Rattle.cc_heaps.proofs.Owned.{callers-own-some}
use Rattle.cc_heaps.proofs.StandingStill.{unlink-still, unlink-colours}
use Rattle.cc_heaps.proofs.heaps.Heaps.unlink.Goals as goal

pub unlink-requires-clause-owned : goal.unlink-requires-clause-owned
unlink-requires-clause-owned g c =
    let p = c.self.inside in
    let f = rw (← c.self.view_is) at c.requires.owned in
    callers-own-some (the_number (keyed_of p) c.args.key.0 ∷ []) f.0 p (record { order = f.1; linked = c.self.invariant })

pub invariant_of-self : goal.invariant_of-self
invariant_of-self g c = left-linked (unlink-leaves c.self.inside c.self.invariant c.args.key.0 (rw (← c.self.view_is) at c.requires.owned) c.unlink.ensures.heap)

pub returns-clause-heap : goal.returns-clause-heap
returns-clause-heap g c =
    rw (← c.self.view_is) (left-keyed (unlink-leaves c.self.inside c.self.invariant c.args.key.0 (rw (← c.self.view_is) at c.requires.owned) c.unlink.ensures.heap))

pub returns-clause-told : goal.returns-clause-told
returns-clause-told g c =
    rw (← c.self.view_is) (left-told (unlink-leaves c.self.inside c.self.invariant c.args.key.0 (rw (← c.self.view_is) at c.requires.owned) c.unlink.ensures.heap) c.unlink.ensures.told)

pub returns-clause-stands : goal.returns-clause-stands
returns-clause-stands g c unreached =
    subst (λ (w : Keyed). StillStands c.args.self.now.heap w.heap) (sym (returns-clause-heap g c)) ((unlink-still c.requires.owned.0 c.args.self.now.heap (the_number c.args.self.now c.args.key.0) c.requires.owned.1.sound unreached))

pub returns-clause-kept : goal.returns-clause-kept
returns-clause-kept g c = record {
  keys = KeepsKeys-left c.args.self.now _ _ (returns-clause-heap g c);
  order = λ owned. (rw (← c.self.view_is) (λ o. left-order (unlink-leaves c.self.inside c.self.invariant c.args.key.0 (owned, o) c.unlink.ensures.heap)));
  counts = few-owned _;
  colours = λ colours. (subst (λ (w : Keyed). HasColourInvariant (view w.heap)) (sym (returns-clause-heap g c)) ((unlink-colours c.requires.owned.0 c.args.self.now.heap (the_number c.args.self.now c.args.key.0) c.requires.owned.1.sound colours)));
  fresh = tt;
  suspected = tt;
  marks = tt;
}
