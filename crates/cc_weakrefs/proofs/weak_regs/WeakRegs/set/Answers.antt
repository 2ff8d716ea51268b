use Rattle.std.proofs.Common.{Some}
use Rattle.cc_weakrefs.specs.Noting.{noted}
use Rattle.cc_weakrefs.proofs.Noting.{hold-set, names-set, one-held}
use Rattle.cc_weakrefs.proofs.weak_regs.WeakRegs.set.Goals as goal

pub returns-clause-names : goal.returns-clause-names
returns-clause-names c = rw (← c.self.view_is) (names-set c.self.inside.registers.items c.args.w (Some (noted c.args.key c.args.number)))

pub returns-clause-keys : goal.returns-clause-keys
returns-clause-keys c = rw (← c.self.view_is)
    (λ v h k. hold-set c.self.inside.registers.items c.args.w (Some (noted c.args.key c.args.number)) v h (one-held v (noted c.args.key c.args.number) k))
