use Rattle.std.proofs.Common.{◌≡◌, [], ◌∷◌, ◌++◌, subst, arith}
use Rattle.std.specs.Prelude.{IfSome}
use Rattle.std.proofs.lemmas.Grind.{common_steps}
use Rattle.cc_search.specs.Members.{IsPlaceOf}
use Rattle.cc_search.proofs.EntryPlaces.{below-less, collecting-starts, collecting-turn, fewer-left}
use Rattle.cc_search.proofs.Given.{some-of}
use Rattle.cc_search.proofs.search.places_with.Goals as goal

pub places-init : goal.places-init
places-init g c = λ x named.
    let first = c.first_with-place in
    collecting-starts (g.L.Leads.leads c.args.leads.now).entries x c.clear.new.self.items first.result c.clear.ensures.items (first.ensures x named)

pub next_with-place-requires-clause-place : goal.next_with-place-requires-clause-place
next_with-place-requires-clause-place g c = λ x named.
    subst (λ o. IfSome o (IsPlaceOf (g.L.Leads.leads c.args.leads.now).entries x)) c.in-Some.is (c.places.invariant x named).there

pub places-smaller : goal.places-smaller
places-smaller g c =
    let x = some-of (g.L.Leads.name_of c.args.leads.now c.args.object) c.requires.there in
    let next = c.next_with-place in
    fewer-left c.places.place next.result c.in-Some.i c.in-Some.is (below-less (g.L.Leads.leads c.args.leads.now).entries x.0 c.in-Some.i next.result (next.ensures x.0 x.1))

pub places-preserved : goal.places-preserved
places-preserved g c = λ x named.
    let next = c.next_with-place in
    let pushed : c.push.new.self.items ≡ c.places.entries.items ++ c.in-Some.i ∷ [] = grind (arith, common_steps) in
    collecting-turn (g.L.Leads.leads c.args.leads.now).entries x c.places.entries.items c.push.new.self.items c.places.place next.result c.in-Some.i c.in-Some.is pushed
    (next.ensures x named) (c.places.invariant x named)
