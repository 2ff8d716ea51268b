use Rattle.std.proofs.Common.{◌∙◌, ap, is_some}
use Rattle.cc_lists.specs.Members.{has}
use Rattle.cc_names.specs.Names.{same_name}
use Rattle.cc_listed.proofs.Finding.{found-has}
use Rattle.cc_listed.proofs.listed.Listed.has.Goals as goal

pub returns : goal.returns
returns c =
    c.is_some.ensures
    ∙ (ap is_some c.get.ensures
    ∙ (found-has c.self.inside.places.items c.self.inside.by_name c.args.name.now c.self.invariant.found
    ∙ ap (λ xs. has same_name xs c.args.name.now) c.self.view_is))
