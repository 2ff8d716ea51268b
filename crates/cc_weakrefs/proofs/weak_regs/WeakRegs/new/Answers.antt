use Rattle.std.proofs.Common.{ap, sym, subst, ◌∙◌}
use Rattle.cc_names.specs.Sizes.{weak_length}
use Rattle.cc_weakrefs.specs.Noting.{HoldKeys, names_noted}
use Rattle.cc_weakrefs.proofs.Noting.{hold-empty, names-empty}
use Rattle.cc_weakrefs.proofs.weak_regs.WeakRegs.new.Goals as goal

pub returns-clause-names : goal.returns-clause-names
returns-clause-names c = ap names_noted c.in_ok-no_registers.ensures ∙ names-empty weak_length

pub returns-clause-keys : goal.returns-clause-keys
returns-clause-keys c = λ v. subst (λ xs. HoldKeys xs v) (sym c.in_ok-no_registers.ensures) (hold-empty weak_length v)
