use Rattle.std.proofs.Common.{[], refl, ap, sym, subst}
use Rattle.cc_chain.proofs.Slots.{slots-none}
use Rattle.cc_walk.specs.Walks.{no_walk}
use Rattle.cc_script.specs.declared.parts.ScriptParts.{ScriptParts}
use Rattle.cc_script.specs.ColourOrder.{HasColourOrder}
use Rattle.cc_script.specs.Lists.{Lists, objects_of, IsPlaced}
use Rattle.cc_script.specs.Threads.{of_order, of_waiting, of_walk}
use Rattle.cc_script.specs.Cells.{cells_of, link_of}
use Rattle.cc_script.proofs.Making.{no_lists, IsPlaced-none}
use Rattle.cc_script.proofs.InOrder.{HasColourOrder-none}
use Rattle.cc_script.proofs.Chained.{are-lists}
use Rattle.cc_script.proofs.parts.ScriptParts.new.Goals as goal

pub returns-clause-at_rest : goal.returns-clause-at_rest
returns-clause-at_rest c =
    let p : ScriptParts = record { cells = c.new.result; order = c.new-2.result; waiting = c.new-3.result; walk = c.new-4.result } in
    let cells = ap cells_of c.new.ensures.empty in
    let order = c.new-2.ensures _ (slots-none (link_of of_order) c.new.result.slots c.new.ensures.empty) in
    let waiting = c.new-3.ensures _ (slots-none (link_of of_waiting) c.new.result.slots c.new.ensures.empty) in
    let walk = c.new-4.ensures _ (slots-none (link_of of_walk) c.new.result.slots c.new.ensures.empty) in
    let a = are-lists p no_lists [] no_walk cells order waiting walk refl in
    record {
      placed = subst IsPlaced (sym a.lists) IsPlaced-none;
      chained = a.chained;
      coloured = subst (λ (l : Lists). HasColourOrder (objects_of l)) (sym a.lists) HasColourOrder-none;
      emptied = a.waits;
    }
