use Rattle.std.proofs.Common.{[], ◌∷◌, sym, subst}
use Rattle.cc_model.specs.Cascade.{cascade}
use Rattle.cc_heaps.specs.Keyed.{the_number, left_with, Keyed}
use Rattle.cc_heaps.specs.Fields.{keyed_of}
use Rattle.cc_heaps.specs.Standing.{KeepsColours, StillStands}
use Rattle.cc_heaps.proofs.Leaving.{given_up-tells}
use Rattle.cc_heaps.proofs.Calls.{left-keyed, left-told, left-order, left-linked, release-leaves}
use Rattle.cc_heaps.proofs.FewCounts.{few-owned}
use Rattle.cc_heaps.proofs.KeysKept.{KeepsKeys-left}
use Rattle.cc_heaps.proofs.Owned.{callers-own-some}
use Rattle.cc_heaps.proofs.StandingStill.{GoesOn, cascade-goes_on}
use Rattle.cc_heaps.proofs.heaps.Heaps.unroot.Given as given
use Rattle.cc_heaps.proofs.heaps.Heaps.unroot.Goals as goal

pub release-requires-clause-owned : goal.release-requires-clause-owned
release-requires-clause-owned g c =
    let p = c.self.inside in
    let f = rw (← c.self.view_is) at c.requires.owned in
    callers-own-some (the_number (keyed_of p) c.args.key.0 ∷ []) f.0 p (record { order = f.1; linked = c.self.invariant })

pub invariant_of-self : goal.invariant_of-self
invariant_of-self g c = left-linked (release-leaves c.self.inside c.self.invariant c.args.key.0 (rw (← c.self.view_is) at c.requires.owned) c.release.ensures.heap)

pub returns-clause-heap : goal.returns-clause-heap
returns-clause-heap g c =
    rw (← c.self.view_is) (left-keyed (release-leaves c.self.inside c.self.invariant c.args.key.0 (rw (← c.self.view_is) at c.requires.owned) c.release.ensures.heap))

pub returns-clause-told : goal.returns-clause-told
returns-clause-told g c =
    rw (← c.self.view_is) (left-told (release-leaves c.self.inside c.self.invariant c.args.key.0 (rw (← c.self.view_is) at c.requires.owned) c.release.ensures.heap) c.release.ensures.told)

goes_on : (g : given.Over) (c : goal.After-release g) →
    GoesOn c.args.self.now.heap (left_with c.args.self.now (cascade c.args.self.now.heap (the_number c.args.self.now c.args.key.0)).heap).heap
goes_on g c = cascade-goes_on c.requires.owned.0 c.args.self.now.heap (the_number c.args.self.now c.args.key.0) c.requires.owned.1.sound

pub returns-clause-stands : goal.returns-clause-stands
returns-clause-stands g c =
    subst (λ (w : Keyed). StillStands c.args.self.now.heap w.heap) (sym (returns-clause-heap g c)) ((goes_on g c).stands)

pub returns-clause-kept : goal.returns-clause-kept
returns-clause-kept g c = record {
  keys = KeepsKeys-left c.args.self.now _ _ (returns-clause-heap g c);
  order = λ owned. (rw (← c.self.view_is) (λ o. left-order (release-leaves c.self.inside c.self.invariant c.args.key.0 (owned, o) c.release.ensures.heap)));
  counts = few-owned _;
  colours = subst (λ (w : Keyed). KeepsColours c.args.self.now.heap w.heap) (sym (returns-clause-heap g c)) ((goes_on g c).colours);
  fresh = tt;
  suspected = tt;
  marks = tt;
}

pub returns-clause-tells : goal.returns-clause-tells
returns-clause-tells g c =
    let v = c.args.self.now in
    let f = c.requires.owned in
    let k = the_number v c.args.key.0 in
    given_up-tells f.0 v _ k _ _ f.1.sound (returns-clause-heap g c) ((returns-clause-kept g c).order f.0 f.1).sound.well_formed (returns-clause-told g c)
