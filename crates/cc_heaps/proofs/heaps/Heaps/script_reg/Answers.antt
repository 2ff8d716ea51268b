use Rattle.std.proofs.Common.{◌≡◌, None, get_or, sym, ◌∙◌, ap, subst, arith}
use Rattle.cc_heaps.specs.Changes.{IsScriptThere}
use Rattle.cc_heaps.specs.Fields.{keyed_of}
use Rattle.cc_heaps.proofs.Registers.{script-live, script_there-live}
use Rattle.cc_heaps.proofs.heaps.Heaps.script_reg.Goals as goal

pub returns-clause-there : goal.returns-clause-there
returns-clause-there c =
    let p = c.self.inside in
    let items = p.script_registers.items in
    let read : c.in_ok-get.field-0.now ≡ get_or items c.args.r None = c.in_ok-get.ensures.lookup.4 (omega arith) None ∙ ap (λ xs. get_or xs c.args.r None) c.deref.ensures.value in
    rw (← c.self.view_is) (subst (IsScriptThere (keyed_of p)) (sym read) (script_there-live (keyed_of p) _ (script-live p.scripts items c.self.invariant.script_registers c.args.r)))
