use Rattle.std.proofs.Common.{arith, sym, subst}
use Rattle.cc_model.specs.Cascade.{add_ref}
use Rattle.cc_heaps.specs.Keyed.{the_number, changed_to, Keyed}
use Rattle.cc_heaps.specs.Standing.{KeepsColours, StillStands}
use Rattle.cc_heaps.proofs.FewCounts.{few-owned}
use Rattle.cc_heaps.proofs.KeysKept.{KeepsKeys-changed}
use Rattle.cc_heaps.proofs.StandingStill.{GoesOn, add_ref-goes_on}
use Rattle.cc_heaps.proofs.heaps.Heaps.root.Goals as goal

pub take_reference-requires-clause-owned : goal.take_reference-requires-clause-owned
take_reference-requires-clause-owned c = let f = c.requires.owned in (f.0, f.1, omega (arith, f.2))

goes_on : (c : goal.After-take_reference) → GoesOn c.args.self.now.heap (changed_to c.args.self.now (add_ref c.args.self.now.heap (the_number c.args.self.now c.args.key.0))).heap
goes_on c = add_ref-goes_on c.requires.owned.0 c.args.self.now c.args.key.0 c.requires.owned.1 c.requires.live

pub returns-clause-stands : goal.returns-clause-stands
returns-clause-stands c =
    subst (λ (w : Keyed). StillStands c.args.self.now.heap w.heap) (sym c.take_reference.ensures.heap) ((goes_on c).stands)

pub returns-clause-kept : goal.returns-clause-kept
returns-clause-kept c = record {
  keys = KeepsKeys-changed c.args.self.now _ _ c.take_reference.ensures.heap;
  order = c.take_reference.ensures.order;
  counts = few-owned _;
  colours = subst (λ (w : Keyed). KeepsColours c.args.self.now.heap w.heap) (sym c.take_reference.ensures.heap) ((goes_on c).colours);
  fresh = tt;
  suspected = tt;
  marks = tt;
}
