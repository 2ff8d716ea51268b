use Rattle.std.proofs.Common.{◌∙◌, ap, is_some}
use Rattle.cc_lists.specs.Members.{has}
use Rattle.cc_names.specs.Names.{same_name}
use Rattle.cc_check.proofs.ended.Ended.has.Goals as goal

pub returns : goal.returns
returns c =
    c.is_some.ensures
    ∙ (ap is_some c.get.ensures
    ∙ (c.self.invariant c.args.name.now
    ∙ ap (λ xs. has same_name xs c.args.name.now) c.self.view_is))
