use Rattle.std.proofs.Common.{◌≡◌, Some, refl, sym, subst}
use Rattle.cc_names.specs.declared.kind.Colour.TheVariants.{Black}
use Rattle.cc_names.specs.Names.{reflector}
use Rattle.cc_model.specs.Graph as graph
use Rattle.cc_script.specs.Objects.{colour_at, name_at}
use Rattle.cc_heaps.specs.Keyed.{Keyed, the_number}
use Rattle.cc_heaps.specs.Standing.{IsReached, MayHold, StandsAfter}
use Rattle.cc_heaps.proofs.Kept.{KeepsAll-same, KeepsAll-if_black}
use Rattle.cc_heaps.proofs.ReflectingPreserved.{preserved-may_hold}
use Rattle.cc_wrappers.proofs.ReflectorKeys.{name-held, black-not_gray}
use Rattle.cc_wrappers.proofs.Wrapped.{found-reflector, found-has, behind-reached, preserved-keeps_reached, no_reflector-may_hold}
use Rattle.cc_wrappers.proofs.wrapping.preserve.Goals as goal

pub set_preserved-requires-clause-has : goal.set_preserved-requires-clause-has
set_preserved-requires-clause-has c =
    let v = c.args.heaps.now in
    found-has v c.requires.order.1 c.args.key.0 (the_number v c.in-Some.native.0)
    (found-reflector v c.in-Some.native (name_at v.scripts c.args.key.0) c.in-Some.ensures.there c.in-Some.ensures.name)

-- the object is the reflector of the native that was found
named : (c : goal.After-set_preserved) → name_at c.args.heaps.now.scripts c.args.key.0 ≡ Some (reflector (the_number c.args.heaps.now c.in-Some.native.0))
named c =
    let v = c.args.heaps.now in
    found-reflector v c.in-Some.native (name_at v.scripts c.args.key.0) c.in-Some.ensures.there c.in-Some.ensures.name

pub returns-in-Some-clause-stands : goal.returns-in-Some-clause-stands
returns-in-Some-clause-stands c =
    let v = c.args.heaps.now in
    let k = the_number v c.in-Some.native.0 in
    subst (λ x. IsReached v.heap x → StandsAfter v.heap c.set_preserved.new.self.heap (λ g. graph.preserve g x)) (sym (named c))
    (λ d. c.set_preserved.ensures.stands (behind-reached v.heap k (name-held c.requires.order.0 v c.requires.order.1 c.args.key.0 (reflector k) (named c)) d))

pub returns-in-Some-clause-kept : goal.returns-in-Some-clause-kept
returns-in-Some-clause-kept c =
    let v = c.args.heaps.now in
    let kept = c.set_preserved.ensures.kept in
    record {
      keys = kept.keys;
      order = kept.order;
      counts = kept.counts;
      colours = kept.colours;
      fresh = λ black. kept.fresh
          (black-not_gray c.requires.order.0 v c.requires.order.1 c.args.key.0 (reflector (the_number v c.in-Some.native.0)) (named c) black);
      suspected = kept.suspected;
      marks = kept.marks;
    }

pub returns-in-Some-clause-reached : goal.returns-in-Some-clause-reached
returns-in-Some-clause-reached c x d =
    let v = c.args.heaps.now in
    let k = the_number v c.in-Some.native.0 in
    subst (λ (w : Keyed). IsReached w.heap x) (sym c.set_preserved.ensures.heap) (preserved-keeps_reached v c.requires.order.1 c.args.key.0 k (named c) x d)

pub returns-in-Some-clause-may_hold : goal.returns-in-Some-clause-may_hold
returns-in-Some-clause-may_hold c =
    let v = c.args.heaps.now in
    let k = the_number v c.in-Some.native.0 in
    subst (λ x. MayHold c.set_preserved.new.self.heap x) (sym (named c))
    (subst (λ (w : Keyed). MayHold w.heap (Some (reflector k))) (sym c.set_preserved.ensures.heap)
    (preserved-may_hold v.heap k c.requires.order.1.sound (name-held c.requires.order.0 v c.requires.order.1 c.args.key.0 (reflector k) (named c))))

pub returns-in-None-clause-may_hold : goal.returns-in-None-clause-may_hold
returns-in-None-clause-may_hold c =
    let v = c.args.heaps.now in
    no_reflector-may_hold v.heap (name_at v.scripts c.args.key.0) (sym c.in-None.ensures.name)

pub returns-in-None-clause-kept : goal.returns-in-None-clause-kept
returns-in-None-clause-kept c =
    let v = c.args.heaps.now in
    KeepsAll-if_black (colour_at v.scripts c.args.key.0 ≡ Some Black) v _ (KeepsAll-same v _ refl)
