use Rattle.std.proofs.Common.{is_some, ap, sym, subst, ◌∙◌, arith}
use Rattle.cc_lists.proofs.Held.{is_some-map}
use Rattle.cc_script.specs.Objects.{AreWhole}
use Rattle.cc_script.specs.Marking.{Marking, raise_key, to_do}
use Rattle.cc_script.specs.Parts.{lists_of, shows, marking_of}
use Rattle.cc_script.specs.Underway.{IsMarked}
use Rattle.cc_script.proofs.Places.{object_at-own}
use Rattle.cc_script.proofs.Popping.{none-first}
use Rattle.cc_script.proofs.Walks.{IsWalk, Reached, reached-leads, walk-start, walk-looked, walk-end}
use Rattle.cc_script.proofs.Underway.{started-marked, ordered-marked, marked-ordered, whole-raised, whole-looked, looked-spends, looked-none}
use Rattle.cc_script.proofs.parts.ScriptParts.mark_from.Goals as goal

pub loop-to-init : goal.loop-to-init
loop-to-init c =
    let m = marking_of c.args.self.now in
    let raises = c.raise.ensures.raises in
    record {
      walk = subst (IsWalk (shows c.args.self.now) c.args.to (Reached (shows c.args.self.now) c.args.key.0) c.args.key.0)
          (sym (raises ∙ ap (λ ks. raise_key c.args.to c.args.key.0 (record { objects = shows c.args.self.now; waiting = ks })) c.requires.at_rest.emptied))
          (walk-start (shows c.args.self.now) c.args.to (Reached (shows c.args.self.now) c.args.key.0) c.args.key.0 (reached-leads (shows c.args.self.now) c.args.to c.args.key.0));
      begun = record {
        under_way = c.raise.ensures.under_way;
        marked = subst (IsMarked c.args.to) (sym raises)
            (started-marked c.args.to c.args.key.0 m (ordered-marked c.args.to m c.requires.at_rest.emptied c.requires.at_rest.coloured));
      };
      whole = subst (λ (z : Marking). AreWhole z.objects) (sym raises) (whole-raised c.args.to c.args.key.0 m c.requires.whole);
    }

pub loop-to-smaller : goal.loop-to-smaller
loop-to-smaller c =
    let some = ap is_some (sym c.look_into_first.ensures.first) ∙ (is_some-map (λ k. k.0) c.look_into_first.result ∙ sym c.loop-to-test.ensures) in
    omega (arith, ap (to_do c.args.to) c.look_into_first.ensures.looked, looked-spends c.args.to (marking_of c.loop-to.self) some)

pub loop-to-preserved : goal.loop-to-preserved
loop-to-preserved c =
    let m = marking_of c.loop-to.self in
    let looked = c.look_into_first.ensures.looked in
    record {
      walk = subst (IsWalk (shows c.args.self.now) c.args.to (Reached (shows c.args.self.now) c.args.key.0) c.args.key.0) (sym looked)
          (walk-looked (shows c.args.self.now) c.args.to (Reached (shows c.args.self.now) c.args.key.0) c.args.key.0 (reached-leads (shows c.args.self.now) c.args.to c.args.key.0) m c.loop-to.invariant.walk);
      begun = c.look_into_first.ensures.begun;
      whole = subst (λ (z : Marking). AreWhole z.objects) (sym looked) (whole-looked c.args.to m c.loop-to.invariant.whole);
    }

pub returns-clause-shows : goal.returns-clause-shows
returns-clause-shows c =
    let m = marking_of c.loop-to.self in
    let emptied = none-first m.waiting (ap is_some (sym c.look_into_first.ensures.first) ∙ (is_some-map (λ k. k.0) c.look_into_first.result ∙ sym c.loop-to-test.ensures)) in
    ap (λ (z : Marking). z.objects) (c.look_into_first.ensures.looked ∙ looked-none c.args.to m emptied)
    ∙ walk-end (shows c.args.self.now) c.args.key.0 c.args.to (object_at-own (lists_of c.args.self.now) c.requires.at_rest.placed) c.requires.at_rest.coloured m c.loop-to.invariant.walk emptied

pub returns-clause-at_rest : goal.returns-clause-at_rest
returns-clause-at_rest c =
    let m = marking_of c.loop-to.self in
    let emptied = none-first m.waiting (ap is_some (sym c.look_into_first.ensures.first) ∙ (is_some-map (λ k. k.0) c.look_into_first.result ∙ sym c.loop-to-test.ensures)) in
    let none = ap (λ (z : Marking). z.waiting) (c.look_into_first.ensures.looked ∙ looked-none c.args.to m emptied) ∙ emptied in
    record {
      placed = c.look_into_first.ensures.begun.under_way.placed;
      chained = c.look_into_first.ensures.begun.under_way.chained;
      coloured = marked-ordered c.args.to (marking_of c.look_into_first.new.self) none c.look_into_first.ensures.begun.marked;
      emptied = none;
    }
