use Rattle.std.proofs.Common.{None, ap, ◌∙◌, arith}
use Rattle.std.proofs.lemmas.List.{get_or_default}
use Rattle.cc_weakrefs.specs.Noting.{key_resolved}
use Rattle.cc_weakrefs.proofs.Noting.{resolved-usable}
use Rattle.cc_weakrefs.proofs.weak_regs.WeakRegs.resolve.Goals as goal

pub returns-clause-noted : goal.returns-clause-noted
returns-clause-noted c = λ owned. resolved-usable c.args.heaps.now owned c.args.self.now c.args.w c.find.result
    (c.find.ensures ∙ ap (key_resolved c.args.heaps.now) (rw (← c.self.view_is)
    (c.index.ensures ∙ get_or_default c.self.inside.registers.items c.args.w c.index.result.now None (omega (arith, c.ranges.w.fits, c.self.invariant)))))
