use Rattle.std.proofs.Common.{None}
use Rattle.cc_weakrefs.proofs.Noting.{hold-set, names-set}
use Rattle.cc_weakrefs.proofs.weak_regs.WeakRegs.clear.Goals as goal

pub returns-clause-names : goal.returns-clause-names
returns-clause-names c = rw (← c.self.view_is) (names-set c.self.inside.registers.items c.args.w None)

pub returns-clause-keys : goal.returns-clause-keys
returns-clause-keys c = rw (← c.self.view_is) (λ v h. hold-set c.self.inside.registers.items c.args.w None v h (λ n e. absurd (cc)))
