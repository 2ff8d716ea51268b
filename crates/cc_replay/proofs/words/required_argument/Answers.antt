use Rattle.std.proofs.Common.{◌∙◌, ap, Some, arith}
use Rattle.clap.specs.declared.builder.action.ArgAction.TheVariants.{Set}
use Rattle.clap.specs.declared.builder.arg.Arg.{Arg}
use Rattle.cc_replay.proofs.words.required_argument.Goals as goal

pub returns-clause-rule : goal.returns-clause-rule
returns-clause-rule c = grind arith

pub returns-clause-local : goal.returns-clause-local
returns-clause-local c = ap (λ (a : Arg). a.global) (c.action.ensures ∙ ap (λ (a : Arg). record a { action = Some Set }) c.required.ensures) ∙ c.new.ensures.optional.1
