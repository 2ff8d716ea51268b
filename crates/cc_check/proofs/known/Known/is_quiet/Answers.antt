use Rattle.std.proofs.Common.{List, sym, subst}
use Rattle.std.specs.Prelude.{◌↔◌, IfOk, IsTrue}
use Rattle.cc_names.specs.declared.name.Name.{Name}
use Rattle.cc_model.specs.declared.command.Command.TheVariants.{Census}
use Rattle.cc_model.specs.Asks.{taken}
use Rattle.cc_model.specs.Quiet.{CensusIsQuiet}
use Rattle.cc_model.specs.Lawful.{state_of}
use Rattle.cc_check.specs.declared.row.Row.{Row}
use Rattle.cc_check.specs.Standing.{row_meant}
use Rattle.cc_check.proofs.known.Known.is_quiet.Goals as goal

pub returns-in-AfterAll-clause-quiet : goal.returns-in-AfterAll-clause-quiet
returns-in-AfterAll-clause-quiet c = subst
    (λ (r : Row). IfOk c.are_exactly.result (λ b. (ended : List Name) → IsTrue b ↔ CensusIsQuiet (row_meant r) (state_of c.args.graph.now c.args.listed.now ended) (taken Census)))
    (sym c.in-AfterAll.is) c.are_exactly.ensures.exactly
