use Rattle.std.proofs.Common.{◌≡◌, ◌<◌, None, length, get_or, sym, ◌∙◌, ap, subst, refl}
use Rattle.std.proofs.Math.ListN.{length-set}
use Rattle.std.proofs.lemmas.List.{get_or_default}
use Rattle.cc_counted.specs.Lists.{Placed, cell_at, slots_placed, with_slot}
use Rattle.cc_counted.specs.Stored.{Stored}
use Rattle.cc_counted.proofs.Scripts.{scripts-written}
use Rattle.cc_counted.proofs.Threading.{stored-written, placed-there, room-written, kept-recounted}
use Rattle.cc_counted.proofs.natives.Natives.write.Goals as goal

pub recount-requires : goal.recount-requires
recount-requires c = room-written c.self.inside c.self.invariant _ c.self.view_is c.args.key.0 _ c.index_mut.ensures.value (with_slot c.args.i c.args.item) _
    (ap (with_slot c.args.i c.of.result) c.cell.view_is ∙ ap (λ item. with_slot c.args.i item c.index_mut.result.now.cell) c.of.ensures)
    c.self.inside.holders refl (length-set c.index_mut.result.now.cell.slots c.args.i c.args.item)

pub invariant_of-self : goal.invariant_of-self
invariant_of-self c =
    let node = c.index_mut.result.now in
    let within : c.args.i < length node.cell.slots = subst (λ o. c.args.i < length (slots_placed o))
    (placed-there c.self.inside c.self.invariant _ c.self.view_is c.args.key.0 node c.index_mut.ensures.value (λ p. p) node.cell refl c.self.inside.holders)
    (subst (λ (v : Stored). c.args.i < length (slots_placed (cell_at v.lists.cells c.args.key.0))) (sym c.self.view_is) c.requires.within) in
    let held : c.held-old.result ≡ get_or node.cell.slots c.args.i None = c.held-old.ensures ∙ (c.index.ensures
    ∙ (get_or_default c.cell.inside.slots.items c.args.i c.index.result.now None (subst (λ (p : Placed). c.args.i < length p.slots) (sym c.cell.view_is) within)
    ∙ ap (λ (p : Placed). get_or p.slots c.args.i None) c.cell.view_is)) in
    kept-recounted c.self.inside c.self.invariant _ c.self.view_is c.args.key.0 node c.index_mut.ensures.value (with_slot c.args.i c.args.item) _
    (ap (with_slot c.args.i c.of.result) c.cell.view_is ∙ ap (λ item. with_slot c.args.i item c.index_mut.result.now.cell) c.of.ensures)
    c.recount.new.holders refl (length-set node.cell.slots c.args.i c.args.item) c.holds_script.result c.holds_script-2.result
    (rw (c.holds_script.ensures, c.holds_script-2.ensures) (scripts-written node.cell c.args.i c.args.item c.held-old.result within held))
    c.recount.ensures

pub returns-clause-lists : goal.returns-clause-lists
returns-clause-lists c = stored-written c.self.inside c.self.invariant _ c.self.view_is c.args.key.0 _ c.index_mut.ensures.value (with_slot c.args.i c.args.item) _
    (ap (with_slot c.args.i c.of.result) c.cell.view_is ∙ ap (λ item. with_slot c.args.i item c.index_mut.result.now.cell) c.of.ensures)
    c.recount.new.holders
