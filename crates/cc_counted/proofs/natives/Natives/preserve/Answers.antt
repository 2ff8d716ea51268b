use Rattle.std.proofs.Common.{ap, refl, ◌∙◌}
use Rattle.cc_counted.specs.Lists.{with_flag}
use Rattle.cc_counted.specs.Scripts.{refers_by_reflector}
use Rattle.cc_counted.proofs.Scripts.{scripts-reflected}
use Rattle.cc_counted.proofs.Threading.{stored-written, room-written, kept-recounted}
use Rattle.cc_counted.proofs.natives.Natives.preserve.Goals as goal

pub recount-requires : goal.recount-requires
recount-requires c =
    room-written c.self.inside c.self.invariant _ c.self.view_is c.args.key.0 _ c.index_mut.ensures.value (with_flag c.args.on) _ (ap (with_flag c.args.on) c.cell.view_is) c.self.inside.holders refl refl

pub invariant_of-self : goal.invariant_of-self
invariant_of-self c =
    let cell = c.index_mut.result.now.cell in
    let change = (with_flag c.args.on) in
    kept-recounted c.self.inside c.self.invariant _ c.self.view_is c.args.key.0 _ c.index_mut.ensures.value change _ (ap change c.cell.view_is) c.recount.new.holders refl refl
    c.refers_by_reflector-before.result c.refers_by_reflector-after.result
    (rw (c.refers_by_reflector-before.ensures, c.refers_by_reflector-after.ensures ∙ ap (λ p. refers_by_reflector (change p)) c.cell.view_is) (scripts-reflected cell (change cell) refl))
    c.recount.ensures

pub returns : goal.returns
returns c = stored-written c.self.inside c.self.invariant _ c.self.view_is c.args.key.0 _ c.index_mut.ensures.value (with_flag c.args.on) _ (ap (with_flag c.args.on) c.cell.view_is) c.recount.new.holders
