use Rattle.std.proofs.Common.{◌≡◌, ◌==◌, ◌∙◌, ap, arith, subst, sym, length}
use Rattle.std.proofs.lemmas.Bool.{eqb-true}
use Rattle.cc_weakmaps.specs.Entries.{KeyedEntry}
use Rattle.cc_weakmaps.specs.Kept.{Kept}
use Rattle.cc_weakmaps.specs.Index.{place_below, IsPlaceOf}
use Rattle.cc_weakmaps.proofs.Below.{below-there, below-below, below-within, place-within}
use Rattle.cc_weakmaps.proofs.Changes.{next-by_map, next-by_key, next-by_delegate}
use Rattle.cc_weakmaps.proofs.entry_list.EntryList.next_with.Goals as goal

-- without an index

looked : (c : goal.After-last_below) → c.last_below.result ≡ place_below c.args.self.now.entries c.args.object.0 c.args.place
looked c =
    c.last_below.ensures
    ∙ (ap (λ xs. place_below xs c.args.object.0 c.args.place) c.as_slice.ensures.value
    ∙ ap (λ (z : Kept). place_below z.entries c.args.object.0 c.args.place) c.self.view_is)

pub last_below-requires : goal.last_below-requires
last_below-requires c =
    let es = c.self.inside.entries.items in
    let there = subst (λ (z : Kept). IsPlaceOf z.entries c.args.object.0 c.args.place) (sym c.self.view_is) c.requires in
    record { within = omega (arith, place-within es c.args.object.0 c.args.place there, ap length c.as_slice.ensures.value) }

pub returns-then-not-self-clause-there : goal.returns-then-not-self-clause-there
returns-then-not-self-clause-there c = below-there c.args.self.now.entries c.args.object.0 c.args.place _ (looked c)

pub returns-then-not-self-clause-within : goal.returns-then-not-self-clause-within
returns-then-not-self-clause-within c = below-within c.args.self.now.entries c.args.object.0 c.args.place _ (looked c)

pub returns-then-not-self-clause-before : goal.returns-then-not-self-clause-before
returns-then-not-self-clause-before c = below-below c.args.self.now.entries c.args.object.0 c.args.place _ (looked c)

-- by the index

pub index-links-requires : goal.index-links-requires
index-links-requires c =
    let es = c.self.inside.entries.items in
    let there = subst (λ (z : Kept). IsPlaceOf z.entries c.args.object.0 c.args.place) (sym c.self.view_is) c.requires in
    omega (arith, place-within es c.args.object.0 c.args.place there, (c.self.invariant.index c.if-not-self.false).as_many, c.self.inside.links.ok.0)

pub index-entry-requires : goal.index-entry-requires
index-entry-requires c =
    let es = c.self.inside.entries.items in
    let there = subst (λ (z : Kept). IsPlaceOf z.entries c.args.object.0 c.args.place) (sym c.self.view_is) c.requires in
    omega (arith, place-within es c.args.object.0 c.args.place there, c.self.inside.entries.ok.0)

pub returns-then-eq-clause-place : goal.returns-then-eq-clause-place
returns-then-eq-clause-place c =
    let es = c.self.inside.entries.items in
    let there = subst (λ (z : Kept). IsPlaceOf z.entries c.args.object.0 c.args.place) (sym c.self.view_is) c.requires in
    c.widen.ensures ∙ (ap (λ l. l.by_map) c.index-links.ensures
    ∙ (next-by_map es c.self.inside.links.items c.self.inside.lasts.places.items (c.self.invariant.index c.if-not-self.false).indexed c.args.object.0 c.args.place there c.index-entry.result.now c.index-links.result.now
    (ap (λ (e : KeyedEntry). e.the_map) (sym c.index-entry.ensures) ∙ (ap (λ (e : KeyedEntry). e.the_map) (sym c.entry.view_is) ∙ eqb-true _ _ (sym c.if-eq.ensures)))
    ∙ ap (λ (z : Kept). place_below z.entries c.args.object.0 c.args.place) c.self.view_is))

pub returns-then-eq-clause-there : goal.returns-then-eq-clause-there
returns-then-eq-clause-there c = below-there c.args.self.now.entries c.args.object.0 c.args.place _ (returns-then-eq-clause-place c)

pub returns-then-eq-clause-within : goal.returns-then-eq-clause-within
returns-then-eq-clause-within c = below-within c.args.self.now.entries c.args.object.0 c.args.place _ (returns-then-eq-clause-place c)

pub returns-then-eq-clause-before : goal.returns-then-eq-clause-before
returns-then-eq-clause-before c = below-below c.args.self.now.entries c.args.object.0 c.args.place _ (returns-then-eq-clause-place c)

pub returns-then-eq-2-clause-place : goal.returns-then-eq-2-clause-place
returns-then-eq-2-clause-place c =
    let es = c.self.inside.entries.items in
    let there = subst (λ (z : Kept). IsPlaceOf z.entries c.args.object.0 c.args.place) (sym c.self.view_is) c.requires in
    c.widen-then-eq-2.ensures ∙ (ap (λ l. l.by_key) c.index-links.ensures
    ∙ (next-by_key es c.self.inside.links.items c.self.inside.lasts.places.items (c.self.invariant.index c.if-not-self.false).indexed c.args.object.0 c.args.place there c.index-entry.result.now c.index-links.result.now
    (ap (λ (e : KeyedEntry). e.key) (sym c.index-entry.ensures) ∙ (ap (λ (e : KeyedEntry). e.key) (sym c.entry.view_is) ∙ eqb-true _ _ (sym c.if-eq-2.ensures)))
    ∙ ap (λ (z : Kept). place_below z.entries c.args.object.0 c.args.place) c.self.view_is))

pub returns-then-eq-2-clause-there : goal.returns-then-eq-2-clause-there
returns-then-eq-2-clause-there c = below-there c.args.self.now.entries c.args.object.0 c.args.place _ (returns-then-eq-2-clause-place c)

pub returns-then-eq-2-clause-within : goal.returns-then-eq-2-clause-within
returns-then-eq-2-clause-within c = below-within c.args.self.now.entries c.args.object.0 c.args.place _ (returns-then-eq-2-clause-place c)

pub returns-then-eq-2-clause-before : goal.returns-then-eq-2-clause-before
returns-then-eq-2-clause-before c = below-below c.args.self.now.entries c.args.object.0 c.args.place _ (returns-then-eq-2-clause-place c)

pub returns-clause-place : goal.returns-clause-place
returns-clause-place c =
    let es = c.self.inside.entries.items in
    let there = subst (λ (z : Kept). IsPlaceOf z.entries c.args.object.0 c.args.place) (sym c.self.view_is) c.requires in
    c.widen-2.ensures ∙ (ap (λ l. l.by_delegate) c.index-links.ensures
    ∙ (next-by_delegate es c.self.inside.links.items c.self.inside.lasts.places.items (c.self.invariant.index c.if-not-self.false).indexed c.args.object.0 c.args.place there c.index-entry.result.now c.index-links.result.now
    (ap (λ (e : KeyedEntry). e.the_map == c.args.object.0) (sym c.index-entry.ensures) ∙ (ap (λ (e : KeyedEntry). e.the_map == c.args.object.0) (sym c.entry.view_is) ∙ sym c.if-eq.ensures))
    (ap (λ (e : KeyedEntry). e.key == c.args.object.0) (sym c.index-entry.ensures) ∙ (ap (λ (e : KeyedEntry). e.key == c.args.object.0) (sym c.entry.view_is) ∙ sym c.if-eq-2.ensures))
    ∙ ap (λ (z : Kept). place_below z.entries c.args.object.0 c.args.place) c.self.view_is))

pub returns-clause-there : goal.returns-clause-there
returns-clause-there c = below-there c.args.self.now.entries c.args.object.0 c.args.place _ (returns-clause-place c)

pub returns-clause-within : goal.returns-clause-within
returns-clause-within c = below-within c.args.self.now.entries c.args.object.0 c.args.place _ (returns-clause-place c)

pub returns-clause-before : goal.returns-clause-before
returns-clause-before c = below-below c.args.self.now.entries c.args.object.0 c.args.place _ (returns-clause-place c)
