use Rattle.std.proofs.Common.{◌≡◌, None, get_or, sym, ◌∙◌, ap, subst, arith}
use Rattle.cc_heaps.specs.Changes.{IsNativeThere}
use Rattle.cc_heaps.specs.Fields.{keyed_of}
use Rattle.cc_heaps.proofs.Registers.{held-live, there-live}
use Rattle.cc_heaps.proofs.heaps.Heaps.native_reg.Goals as goal

pub returns-clause-there : goal.returns-clause-there
returns-clause-there c =
    let p = c.self.inside in
    let items = p.native_registers.items in
    let read : c.in_ok-get.field-0.now ≡ get_or items c.args.r None = c.in_ok-get.ensures.lookup.4 (omega arith) None ∙ ap (λ xs. get_or xs c.args.r None) c.deref.ensures.value in
    rw (← c.self.view_is) (subst (IsNativeThere (keyed_of p)) (sym read) (there-live (keyed_of p) _ (held-live p.counted.keys items c.self.invariant.native_registers c.args.r)))
