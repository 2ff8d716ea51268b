use Rattle.std.proofs.Common.{◌++◌, rules, sym, ◌∙◌, ap, subst}
use Rattle.cc_model.specs.Telling.{TellsEvents}
use Rattle.cc_laws_heap.specs.Sound.{numbers_of}
use Rattle.cc_heaps.specs.Keyed.{left_with, IsInOrder}
use Rattle.cc_heaps.specs.Changes.{held_name}
use Rattle.cc_heaps.proofs.Content.{held-no_native, in-hand, let_go-none}
use Rattle.cc_heaps.proofs.LeftWith.{left_with-same}
use Rattle.cc_heaps.proofs.heaps.Heaps.let_go.Goals as goal
use Rattle.cc_counted.proofs.Holding.{held-native}

pub unroot-requires-clause-owned : goal.unroot-requires-clause-owned
unroot-requires-clause-owned g c =
    let v = c.args.self.now in
    let f = c.requires.order in
    let is = held-native c.args.content c.in-Some.key (sym c.native_held.ensures ∙ c.in-Some.is) in
    (f.0, subst (λ ks. IsInOrder (ks ++ f.0) v) (in-hand v c.args.content c.in-Some.key is c.requires.there) f.1)

pub returns-in-Some-clause-order : goal.returns-in-Some-clause-order
returns-in-Some-clause-order g c owned o =
    let v = c.args.self.now in
    let is = held-native c.args.content c.in-Some.key (sym c.native_held.ensures ∙ c.in-Some.is) in
    c.unroot.ensures.kept.order owned (subst (λ ks. IsInOrder (ks ++ owned) v) (in-hand v c.args.content c.in-Some.key is c.requires.there) o)

pub returns-in-None-clause-heap : goal.returns-in-None-clause-heap
returns-in-None-clause-heap g c =
    let v = c.args.self.now in
    let f = c.requires.order in
    let held = numbers_of (held_name v c.args.content) ++ f.0 in
    let none = held-no_native held v f.1 c.args.content (sym c.native_held.ensures ∙ c.in-None.is) in
    sym (ap (λ o. left_with v o.heap) (let_go-none v.heap (held_name v c.args.content) none) ∙ left_with-same held v f.1)

pub returns-in-None-clause-told : goal.returns-in-None-clause-told
returns-in-None-clause-told g c =
    let v = c.args.self.now in
    let f = c.requires.order in
    let none = held-no_native (numbers_of (held_name v c.args.content) ++ f.0) v f.1 c.args.content (sym c.native_held.ensures ∙ c.in-None.is) in
    let before = g.N.Notices.telling c.args.out.now in
    subst (λ o. TellsEvents before before o.events) (sym (let_go-none v.heap (held_name v c.args.content) none)) (search rules)

pub returns-in-None-clause-order : goal.returns-in-None-clause-order
returns-in-None-clause-order g c owned o =
    let v = c.args.self.now in
    let held = numbers_of (held_name v c.args.content) ++ owned in
    subst (λ ks. IsInOrder (ks ++ owned) v) (held-no_native held v o c.args.content (sym c.native_held.ensures ∙ c.in-None.is)) o
