use Rattle.std.proofs.Common.{arith, ◌≡◌, false}
use Rattle.cc_model.specs.Mutating.{class_of, is_deed, is_mutator}
use Rattle.cc_model.proofs.NoDeeds.{no_deed-steps}
use Rattle.cc_check.proofs.commands.leaves_graph.Goals as goal

pub returns-in-Forget : goal.returns-in-Forget
returns-in-Forget c = λ yes ended g. no_deed-steps c.args.command none unmoved ended g
  where
    none : is_deed (class_of c.args.command) ≡ false
    none = grind (arith, c.in-Forget.is)

    unmoved : is_mutator (class_of c.args.command) ≡ false
    unmoved = grind (arith, c.in-Forget.is)
