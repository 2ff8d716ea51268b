use Rattle.std.proofs.Common.{Some, None, sym, ◌∙◌}
use Rattle.cc_search.proofs.Kept.{kept-place, kept-within}
use Rattle.cc_search.proofs.found.Found.place.Goals as goal

pub returns-in-Some-clause-place : goal.returns-in-Some-clause-place
returns-in-Some-clause-place c =
    let f = c.self.inside in
    kept-place f.walked f.steps.items f.places c.args.self.now c.self.invariant c.self.view_is c.args.name.now (Some c.in-Some.place) (sym c.get.ensures ∙ c.in-Some.is)

pub returns-in-Some-clause-within : goal.returns-in-Some-clause-within
returns-in-Some-clause-within c =
    let f = c.self.inside in
    kept-within f.walked f.steps.items f.places c.args.self.now c.self.invariant c.self.view_is c.args.name.now c.in-Some.place (sym c.get.ensures ∙ c.in-Some.is)

pub returns-in-None-clause-place : goal.returns-in-None-clause-place
returns-in-None-clause-place c =
    let f = c.self.inside in
    kept-place f.walked f.steps.items f.places c.args.self.now c.self.invariant c.self.view_is c.args.name.now None (sym c.get.ensures ∙ c.in-None.is)
