use Rattle.cc_model.specs.Deeds.{script_held}
use Rattle.cc_mutator.proofs.Carrying.{named-as}
use Rattle.cc_mutator.proofs.scripts.get_entry.Goals as goal

pub returns : goal.returns
returns c = λ t. named-as (script_held c.args.d) _ _ _ _ _ _ _ c.entry_value-content.ensures.name (c.hold.ensures t)
