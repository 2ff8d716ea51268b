use Rattle.std.proofs.Common.{◌∙◌, ap, arith}
use Rattle.clap.specs.declared.builder.arg.Arg.{Arg}
use Rattle.cc_replay.proofs.words.number_argument.Goals as goal

pub returns-clause-rule : goal.returns-clause-rule
returns-clause-rule c = grind arith

pub returns-clause-local : goal.returns-clause-local
returns-clause-local c = ap (λ (a : Arg). a.global) c.value_parser.ensures.others ∙ c.required_argument.ensures.local
