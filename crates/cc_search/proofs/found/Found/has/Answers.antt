use Rattle.std.proofs.Common.{◌∙◌, ap, is_some}
use Rattle.cc_search.proofs.Kept.{kept-found}
use Rattle.cc_search.proofs.found.Found.has.Goals as goal

pub returns : goal.returns
returns c =
    let f = c.self.inside in
    c.is_some.ensures ∙ (ap is_some c.get.ensures ∙ kept-found f.walked f.steps.items f.places c.args.self.now c.self.invariant c.self.view_is c.args.name.now)
