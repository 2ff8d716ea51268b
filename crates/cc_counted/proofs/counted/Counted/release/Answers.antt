use Rattle.std.proofs.Common.{◌≡◌, [], ◌∷◌, true, sym, subst, is_some}
use Rattle.cc_laws_heap.specs.Balance.{IsBalanced}
use Rattle.cc_counted.specs.Counts.{Counts, number_at, the_number}
use Rattle.cc_counted.specs.Owning.{CallersOwn, AreOwned}
use Rattle.cc_counted.specs.Lists.{draining_of, counts_of}
use Rattle.cc_counted.proofs.Places.{the_number-cell}
use Rattle.cc_counted.proofs.Reading.{live-found}
use Rattle.cc_counted.proofs.Balanced.{IsBalanced-owned}
use Rattle.cc_counted.proofs.Balanced.{owned-lists}
use Rattle.cc_counted.proofs.Emptying.{balanced-cascade}
use Rattle.cc_counted.proofs.counted.Counted.release.Goals as goal

pub release-requires-clause-balanced : goal.release-requires-clause-balanced
release-requires-clause-balanced g c =
    let l = c.self.inside.natives.lists in
    let f = live-found l c.args.key.0 (subst (λ (v : Counts). is_some (number_at v c.args.key.0) ≡ true) (sym c.self.view_is) c.requires.live) in
    let o = subst (λ (v : Counts). CallersOwn (the_number v c.args.key.0 ∷ []) v) (sym c.self.view_is) c.requires.owned in (
      o.0,
      f.0,
      f.1,
      subst (λ k. IsBalanced (k ∷ o.0) (draining_of l [])) (the_number-cell l.cells c.args.key.0 f.0 f.1)
          (IsBalanced-owned l c.self.invariant.placed (c.self.invariant.emptied) _ o.1),
    )

pub returns-clause-owned : goal.returns-clause-owned
returns-clause-owned g c others o =
    let l = c.self.inside.natives.lists in
    let new = c.release.new.self.lists in
    let none = c.self.invariant.emptied in
    let was = subst (λ (v : Counts). AreOwned (the_number v c.args.key.0 ∷ others) v) (sym c.self.view_is) o in
    owned-lists new c.release.ensures.emptied others
    (balanced-cascade l new (g.N.Notices.telling c.args.out.now) (g.N.Notices.telling c.release.new.out) (the_number (counts_of l) c.args.key.0) others none c.release.ensures
    (IsBalanced-owned l c.self.invariant.placed none (the_number (counts_of l) c.args.key.0 ∷ others) was))
