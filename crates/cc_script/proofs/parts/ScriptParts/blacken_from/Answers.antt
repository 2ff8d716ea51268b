use Rattle.std.proofs.Common.{is_some, ap, sym, subst, ◌∙◌, arith}
use Rattle.cc_lists.proofs.Held.{is_some-map}
use Rattle.cc_names.specs.declared.kind.Colour.TheVariants.{Black}
use Rattle.cc_script.specs.Objects.{AreWhole}
use Rattle.cc_script.specs.Marking.{Marking, raise_key, to_do}
use Rattle.cc_script.specs.Parts.{lists_of, shows, marking_of}
use Rattle.cc_script.proofs.Places.{object_at-own}
use Rattle.cc_script.proofs.Popping.{none-first}
use Rattle.cc_script.proofs.Walks.{IsWalk, walk-start, walk-looked}
use Rattle.cc_script.proofs.Blackening.{Blackens, blackens-leads, blacken-end, waiting-there}
use Rattle.cc_script.proofs.Underway.{whole-raised, whole-looked, looked-spends, looked-none}
use Rattle.cc_script.proofs.parts.ScriptParts.blacken_from.Goals as goal

pub loop-init : goal.loop-init
loop-init c =
    let before = shows c.args.self.now in
    let key = c.args.key.0 in
    let raises = c.raise.ensures.raises in
    record {
      walk = subst (IsWalk before Black (Blackens before key) key)
          (sym (raises ∙ ap (λ ks. raise_key Black key (record { objects = before; waiting = ks })) c.requires.emptied))
          (walk-start before Black (Blackens before key) key (blackens-leads before key));
      under_way = c.raise.ensures.under_way;
      whole = subst (λ (z : Marking). AreWhole z.objects) (sym raises) (whole-raised Black key (marking_of c.args.self.now) c.requires.whole);
    }

pub follow_first-requires-clause-there : goal.follow_first-requires-clause-there
follow_first-requires-clause-there c = waiting-there (shows c.args.self.now) c.args.key.0 (marking_of c.loop.self) c.loop.invariant.walk

pub loop-smaller : goal.loop-smaller
loop-smaller c =
    let some = ap is_some (sym c.follow_first.ensures.first) ∙ (is_some-map (λ k. k.0) c.follow_first.result ∙ sym c.loop-test.ensures) in
    omega (arith, ap (to_do Black) c.follow_first.ensures.looked, looked-spends Black (marking_of c.loop.self) some)

pub loop-preserved : goal.loop-preserved
loop-preserved c =
    let before = shows c.args.self.now in
    let key = c.args.key.0 in
    let m = marking_of c.loop.self in
    let looked = c.follow_first.ensures.looked in
    record {
      walk = subst (IsWalk before Black (Blackens before key) key) (sym looked)
          (walk-looked before Black (Blackens before key) key (blackens-leads before key) m c.loop.invariant.walk);
      under_way = c.follow_first.ensures.under_way;
      whole = subst (λ (z : Marking). AreWhole z.objects) (sym looked) (whole-looked Black m c.loop.invariant.whole);
    }

pub returns-clause-shows : goal.returns-clause-shows
returns-clause-shows c =
    let m = marking_of c.loop.self in
    let emptied = none-first m.waiting (ap is_some (sym c.follow_first.ensures.first) ∙ (is_some-map (λ k. k.0) c.follow_first.result ∙ sym c.loop-test.ensures)) in
    ap (λ (z : Marking). z.objects) (c.follow_first.ensures.looked ∙ looked-none Black m emptied)
    ∙ blacken-end (shows c.args.self.now) c.args.key.0 (object_at-own (lists_of c.args.self.now) c.requires.under_way.placed) m c.loop.invariant.walk emptied
