use Rattle.std.proofs.Common.{◌≡◌, ℕ, List, map, sym, ◌∙◌, ap, subst}
use Rattle.cc_model.specs.Colours.{HasColourInvariant}
use Rattle.cc_model.specs.Telling.{TellsEvents}
use Rattle.cc_model.specs.View.{view}
use Rattle.cc_laws_heap.specs.Marks.{AreMarksClosed}
use Rattle.cc_laws_heap.proofs.Face.{sweep-colours, sweep-invariant, sweep-stands}
use Rattle.cc_counted.specs.Counts.{key_left}
use Rattle.cc_heaps.specs.Keyed.{IsInOrder}
use Rattle.cc_heaps.specs.Changes.{KeepsKeys}
use Rattle.cc_heaps.specs.Fields.{keyed_of, heap_of, IsLinked}
use Rattle.cc_heaps.specs.Sweeping.{are_some}
use Rattle.cc_heaps.specs.declared.heaps.Heaps.TheInside.{Inside}
use Rattle.cc_heaps.proofs.FewCounts.{few-owned}
use Rattle.cc_heaps.proofs.ObjectsLeft.{white-unmarked}
use Rattle.cc_heaps.proofs.SweptObjects.{whites-own, heap-is, events-swept, keys-swept, linked-swept, natives-swept, order-swept, swept_parts}
use Rattle.cc_heaps.proofs.heaps.Heaps.sweep.Given as given
use Rattle.cc_heaps.proofs.heaps.Heaps.sweep.Goals as goal

-- the parts afterwards
swept-is : (g : given.Over) (c : goal.After-sweep_all g) →
    record c.self.inside { counted = c.sweep_all.new.counted; scripts = c.sweep_all.new.scripts; weak = c.sweep_all.new.weak } ≡ swept_parts c.self.inside
swept-is g c = λ i. record c.self.inside { counted = c.sweep_all.ensures.natives i; scripts = c.sweep_all.ensures.left i; weak = c.sweep_all.ensures.living i }

order : (g : given.Over) (c : goal.After-sweep_all g) → (owned : List ℕ) × IsInOrder owned (keyed_of c.self.inside)
order g c = rw (← c.self.view_is) at c.requires.order

closed : (g : given.Over) (c : goal.After-sweep_all g) → AreMarksClosed (heap_of c.self.inside)
closed g c = rw (← c.self.view_is) at c.requires.closed

pub sweep_all-requires : goal.sweep_all-requires
sweep_all-requires g c = record {
  entries = (rw (← c.self.view_is) at c.requires.order).1.entries_there;
  one = c.self.invariant.one_key;
  owned = whites-own c.self.inside c.self.invariant (rw (← c.self.view_is) at c.requires.order).1;
}

pub returns-clause-swept : goal.returns-clause-swept
returns-clause-swept g c = rw (← c.self.view_is) (c.sweep_all.ensures.swept ∙ ap are_some (white-unmarked c.self.inside))

pub returns-clause-heap : goal.returns-clause-heap
returns-clause-heap g c = rw (← c.self.view_is) (ap heap_of (swept-is g c) ∙ heap-is c.self.inside c.self.invariant (order g c).1 (closed g c))

pub returns-clause-told : goal.returns-clause-told
returns-clause-told g c =
    rw (← c.self.view_is) (subst (TellsEvents (g.N.Notices.telling c.args.out.now) (g.N.Notices.telling c.sweep_all.new.out))
    (events-swept c.self.inside c.self.invariant (order g c).1 (closed g c)) c.sweep_all.ensures.told)

pub returns-clause-natives : goal.returns-clause-natives
returns-clause-natives g c =
    rw (← c.self.view_is) (subst (λ (q : Inside). q.counted.keys ≡ map (key_left (heap_of q)) c.self.inside.counted.keys) (sym (swept-is g c))
    (natives-swept c.self.inside c.self.invariant (order g c).1 (closed g c)))

pub invariant_of-self : goal.invariant_of-self
invariant_of-self g c = subst IsLinked (sym (swept-is g c)) (linked-swept c.self.inside c.self.invariant (order g c).1 (closed g c))

pub returns-clause-stands : goal.returns-clause-stands
returns-clause-stands g c = rw (returns-clause-heap g c) (λ h m t. sweep-stands c.args.self.now.heap h c.requires.closed c.requires.order.1.sound m t)

pub returns-clause-invariant : goal.returns-clause-invariant
returns-clause-invariant g c = λ black. subst (λ h. HasColourInvariant (view h)) (sym (returns-clause-heap g c))
    (sweep-invariant c.args.self.now.heap c.requires.closed c.requires.order.1.sound black)

pub returns-clause-kept : goal.returns-clause-kept
returns-clause-kept g c = record {
  keys = (rw (← c.self.view_is) (subst (λ q. KeepsKeys (keyed_of c.self.inside) (keyed_of q)) (sym (swept-is g c))
      (keys-swept c.self.inside c.self.invariant (order g c).1 (closed g c))));
  order = λ owned. (rw (← c.self.view_is) (λ o. subst (λ q. IsInOrder owned (keyed_of q)) (sym (swept-is g c)) (order-swept c.self.inside c.self.invariant o (closed g c))));
  counts = few-owned _;
  colours = λ old. subst (λ h. HasColourInvariant (view h)) (sym (returns-clause-heap g c))
      (sweep-colours c.args.self.now.heap c.requires.closed c.requires.order.1.sound old);
  fresh = tt;
  suspected = tt;
  marks = tt;
}
