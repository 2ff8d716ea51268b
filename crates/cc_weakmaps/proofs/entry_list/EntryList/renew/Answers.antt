use Rattle.std.proofs.Common.{◌∙◌, ap, sym, subst, arith}
use Rattle.cc_weakmaps.specs.Entries.{KeyedEntry, with_entry}
use Rattle.cc_weakmaps.specs.Kept.{Kept}
use Rattle.cc_weakmaps.specs.Places.{StandsAt}
use Rattle.cc_weakmaps.proofs.Changes.{kept-set, read-same}
use Rattle.cc_weakmaps.proofs.Stands.{stands-set, stands-within}
use Rattle.cc_weakmaps.proofs.entry_list.EntryList.renew.Goals as goal

pub index-requires : goal.index-requires
index-requires c =
    let x = c.args.entry in
    let stands = subst (λ (z : Kept). StandsAt z.entries x.the_map x.key c.args.place) (sym c.self.view_is) c.requires in
    omega (arith, stands-within c.self.inside.entries.items x.the_map x.key c.args.place stands, c.self.inside.entries.ok.0)

pub index_mut-requires : goal.index_mut-requires
index_mut-requires c =
    let x = c.args.entry in
    let stands = subst (λ (z : Kept). StandsAt z.entries x.the_map x.key c.args.place) (sym c.self.view_is) c.requires in
    omega (arith, stands-within c.self.inside.entries.items x.the_map x.key c.args.place stands, c.self.inside.entries.ok.0)

pub invariant_of-self : goal.invariant_of-self
invariant_of-self c =
    let x = c.args.entry in
    let es = c.self.inside.entries.items in
    let stands = subst (λ (z : Kept). StandsAt z.entries x.the_map x.key c.args.place) (sym c.self.view_is) c.requires in
    kept-set es c.self.inside.links.items c.self.inside.lasts.places.items x.the_map x.key c.args.place x.delegate x.value stands
    (λ is. let both = c.keeps_index-self-inside.ensures is in
    (both.0, λ d. ap (λ (e : KeyedEntry). e.delegate) (read-same es c.args.place d c.index.result.now (stands-within es x.the_map x.key c.args.place stands) c.index.ensures) ∙ c.is_alike-is_alike.ensures both.1))
    c.self.invariant

pub returns-clause-entries : goal.returns-clause-entries
returns-clause-entries c =
    let x = c.args.entry in
    let es = c.self.inside.entries.items in
    let stands = subst (λ (z : Kept). StandsAt z.entries x.the_map x.key c.args.place) (sym c.self.view_is) c.requires in
    sym (stands-set es x.the_map x.key c.args.place x.delegate x.value stands)
    ∙ ap (λ (z : Kept). with_entry z.entries x.the_map x.key x.delegate x.value) c.self.view_is

pub returns-clause-at_most_one : goal.returns-clause-at_most_one
returns-clause-at_most_one c = (invariant_of-self c).at_most_one
