use Rattle.std.proofs.Common.{◌≡◌, ◌<◌, ◌∙◌, ap, subst, sym, arith, false}
use Rattle.cc_weakmaps.specs.Entries.{has_value_in, is_entry_of}
use Rattle.cc_weakmaps.specs.Kept.{Kept}
use Rattle.cc_weakmaps.specs.Index.{place_below, IsPlaceOf}
use Rattle.cc_weakmaps.specs.Places.{StandsAt}
use Rattle.cc_weakmaps.proofs.Below.{place-within}
use Rattle.cc_weakmaps.proofs.Changes.{if_none-always}
use Rattle.cc_weakmaps.proofs.Sought.{IsSought, followed-start, left-smaller, places_left, sought-both, sought-next, sought-no_map, sought-no_key, sought-places, stands-one}
use Rattle.cc_weakmaps.proofs.entry_list.EntryList.place_of.Goals as goal

pub loop-of_map-init : goal.loop-of_map-init
loop-of_map-init c = grind (arith, followed-start)

pub returns-in_err-other-clause-none : goal.returns-in_err-other-clause-none
returns-in_err-other-clause-none c =
    let es = c.self.inside.entries.items in
    if_none-always _ _
    (subst (λ (z : Kept). has_value_in z.entries c.args.the_map.0 c.args.key.0 ≡ false) c.self.view_is
    (sought-no_key es c.args.the_map.0 c.args.key.0 c.loop-of_map.of_map (subst (IsSought es c.args.the_map.0 c.args.key.0 c.loop-of_map.of_map) c.in_err-other.was c.loop-of_map.invariant)))

pub index-requires : goal.index-requires
index-requires c =
    let es = c.self.inside.entries.items in
    let places = sought-places es _ _ _ _ (sought-both es _ _ _ _ _ _ c.in-Some.is c.in_ok-other.was c.loop-of_map.invariant) in
    omega (arith, place-within es c.args.the_map.0 c.in-Some.place places.0, c.self.inside.entries.ok.0)

pub index-requires-in-Some : goal.index-requires-in-Some
index-requires-in-Some c =
    let es = c.self.inside.entries.items in
    let places = sought-places es _ _ _ _ (sought-both es _ _ _ _ _ _ c.in-Some.is c.in_ok-other.was c.loop-of_map.invariant) in
    omega (arith, place-within es c.args.key.0 c.in_ok-other.other places.1, c.self.inside.entries.ok.0)

pub returns-then-is_of-clause-found : goal.returns-then-is_of-clause-found
returns-then-is_of-clause-found c =
    let es = c.self.inside.entries.items in
    let places = sought-places es _ _ _ _ (sought-both es _ _ _ _ _ _ c.in-Some.is c.in_ok-other.was c.loop-of_map.invariant) in
    subst (λ (z : Kept). StandsAt z.entries c.args.the_map.0 c.args.key.0 c.in-Some.place) c.self.view_is
    (stands-one es c.args.the_map.0 c.args.key.0 c.in-Some.place c.index.result.now c.self.invariant.at_most_one (place-within es c.args.the_map.0 c.in-Some.place places.0)
    (ap (is_entry_of c.args.the_map.0 c.args.key.0) (sym c.index.ensures) ∙ (sym c.is_of.ensures ∙ c.if-is_of.true)))

pub returns-then-is_of-2-clause-found : goal.returns-then-is_of-2-clause-found
returns-then-is_of-2-clause-found c =
    let es = c.self.inside.entries.items in
    let places = sought-places es _ _ _ _ (sought-both es _ _ _ _ _ _ c.in-Some.is c.in_ok-other.was c.loop-of_map.invariant) in
    subst (λ (z : Kept). StandsAt z.entries c.args.the_map.0 c.args.key.0 c.in_ok-other.other) c.self.view_is
    (stands-one es c.args.the_map.0 c.args.key.0 c.in_ok-other.other c.index-in-Some.result.now c.self.invariant.at_most_one (place-within es c.args.key.0 c.in_ok-other.other places.1)
    (ap (is_entry_of c.args.the_map.0 c.args.key.0) (sym c.index-in-Some.ensures) ∙ (sym c.is_of-in-Some.ensures ∙ c.if-is_of-2.true)))

pub next_with-of_map-requires : goal.next_with-of_map-requires
next_with-of_map-requires c =
    let es = c.self.inside.entries.items in
    subst (λ (z : Kept). IsPlaceOf z.entries c.args.the_map.0 c.in-Some.place) c.self.view_is
    (sought-places es _ _ _ _ (sought-both es _ _ _ _ _ _ c.in-Some.is c.in_ok-other.was c.loop-of_map.invariant)).0

pub next_with-of_key-requires : goal.next_with-of_key-requires
next_with-of_key-requires c =
    let es = c.self.inside.entries.items in
    subst (λ (z : Kept). IsPlaceOf z.entries c.args.key.0 c.in_ok-other.other) c.self.view_is
    (sought-places es _ _ _ _ (sought-both es _ _ _ _ _ _ c.in-Some.is c.in_ok-other.was c.loop-of_map.invariant)).1

pub loop-of_map-preserved : goal.loop-of_map-preserved
loop-of_map-preserved c =
    let es = c.self.inside.entries.items in
    sought-next es c.args.the_map.0 c.args.key.0 c.in-Some.place c.in_ok-other.other c.next_with-of_map.result c.next_with-of_key.result c.index.result.now c.index-in-Some.result.now
    (sought-both es _ _ _ _ _ _ c.in-Some.is c.in_ok-other.was c.loop-of_map.invariant)
    (ap (is_entry_of c.args.the_map.0 c.args.key.0) (sym c.index.ensures) ∙ (sym c.is_of.ensures ∙ c.if-is_of.false))
    (ap (is_entry_of c.args.the_map.0 c.args.key.0) (sym c.index-in-Some.ensures) ∙ (sym c.is_of-in-Some.ensures ∙ c.if-is_of-2.false))
    (c.next_with-of_map.ensures.place ∙ ap (λ (z : Kept). place_below z.entries c.args.the_map.0 c.in-Some.place) (sym c.self.view_is))
    (c.next_with-of_key.ensures.place ∙ ap (λ (z : Kept). place_below z.entries c.args.key.0 c.in_ok-other.other) (sym c.self.view_is))

pub loop-of_map-smaller : goal.loop-of_map-smaller
loop-of_map-smaller c = subst (λ o. places_left c.next_with-of_map.result < places_left o) (sym c.in-Some.is) (left-smaller c.next_with-of_map.result c.in-Some.place c.next_with-of_map.ensures.before)

pub returns-clause-none : goal.returns-clause-none
returns-clause-none c =
    let es = c.self.inside.entries.items in
    subst (λ (z : Kept). has_value_in z.entries c.args.the_map.0 c.args.key.0 ≡ false) c.self.view_is
    (sought-no_map es c.args.the_map.0 c.args.key.0 c.loop-of_map.of_key
    (subst (λ o. IsSought es c.args.the_map.0 c.args.key.0 o c.loop-of_map.of_key) c.in_default.is c.loop-of_map.invariant))
