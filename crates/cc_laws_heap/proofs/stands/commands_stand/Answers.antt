use Rattle.cc_laws_heap.proofs.CommandsStand.{empty-stands, command-stands, freed-unreached}
use Rattle.cc_laws_heap.proofs.stands.commands_stand.Goals as goal

pub returns-clause-start : goal.returns-clause-start
returns-clause-start c = λ limits. empty-stands limits

pub returns-clause-command : goal.returns-clause-command
returns-clause-command c = λ h g d sound m s r t. command-stands h g d sound m s r t

pub returns-clause-freed : goal.returns-clause-freed
returns-clause-freed c = λ h g d x sound m s r t told. freed-unreached h g d x sound m s r t told
