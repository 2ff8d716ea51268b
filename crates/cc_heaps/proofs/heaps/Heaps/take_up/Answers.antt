use Rattle.std.proofs.Common.{◌++◌, sym, ◌∙◌, ap, subst}
use Rattle.cc_heaps.specs.Keyed.{changed_to, the_number, IsInOrder}
use Rattle.cc_heaps.specs.Changes.{held_name}
use Rattle.cc_heaps.proofs.Content.{held-no_native, in-hand, take_up-none}
use Rattle.cc_heaps.proofs.heaps.Heaps.take_up.Goals as goal
use Rattle.cc_counted.proofs.Holding.{held-native}

pub take_reference-requires-clause-owned : goal.take_reference-requires-clause-owned
take_reference-requires-clause-owned c = let f = c.requires.order in (f.0, f.1, f.2 (the_number c.args.self.now c.in-Some.key.0))

pub returns-in-Some-clause-order : goal.returns-in-Some-clause-order
returns-in-Some-clause-order c owned o =
    let is = held-native c.args.content c.in-Some.key (sym c.native_held.ensures ∙ c.in-Some.is) in
    subst (λ ks. IsInOrder (ks ++ owned) c.take_reference.new.self) (sym (in-hand c.args.self.now c.args.content c.in-Some.key is c.requires.there))
    (c.take_reference.ensures.order owned o)

pub returns-in-None-clause-heap : goal.returns-in-None-clause-heap
returns-in-None-clause-heap c =
    let v = c.args.self.now in
    let f = c.requires.order in
    sym (ap (changed_to v) (take_up-none v.heap (held_name v c.args.content) (held-no_native f.0 v f.1 c.args.content (sym c.native_held.ensures ∙ c.in-None.is))))

pub returns-in-None-clause-order : goal.returns-in-None-clause-order
returns-in-None-clause-order c owned o =
    let v = c.args.self.now in
    subst (λ ks. IsInOrder (ks ++ owned) v) (sym (held-no_native owned v o c.args.content (sym c.native_held.ensures ∙ c.in-None.is))) o
