use Rattle.std.proofs.Common.{◌≡◌, length, ap, sym, subst, true, ◌∙◌, arith}
use Rattle.cc_script.specs.Objects.{is_there, colour_at, IsNotBelow}
use Rattle.cc_script.specs.ColourOrder.{HasColourOrder}
use Rattle.cc_script.specs.Lists.{slots_placed, objects_of, IsPlaced}
use Rattle.cc_script.specs.Cells.{cells_of}
use Rattle.cc_script.specs.Parts.{lists_of, shows}
use Rattle.cc_script.proofs.Places.{live-cell, live-some, slots_at-placed, object_at-own}
use Rattle.cc_script.proofs.Reading.{held_key}
use Rattle.cc_script.proofs.Writing.{IsPlaced-written, objects-written, each-held}
use Rattle.cc_script.proofs.Chained.{lists-kept}
use Rattle.cc_script.proofs.InOrder.{HasColourOrder-written}
use Rattle.cc_script.proofs.parts.ScriptParts.set_slot.Goals as goal

pub write-requires-clause-live : goal.write-requires-clause-live
write-requires-clause-live c = live-some (lists_of c.args.self.now) c.requires.at_rest.placed c.args.key.0 c.requires.live

pub write-requires-clause-within : goal.write-requires-clause-within
write-requires-clause-within c =
    let l = lists_of c.args.self.now in
    let f = live-cell l c.requires.at_rest.placed c.args.key.0 c.requires.live in
    omega (arith, ap (λ o. length (slots_placed o)) f.1, ap length (slots_at-placed l c.requires.at_rest.placed c.args.key.0 f.0 f.1), c.requires.within)

pub returns-clause-shows : goal.returns-clause-shows
returns-clause-shows c =
    let p = c.args.self.now in
    let l = lists_of p in
    let changes = c.write.ensures.changes in
    let f = live-cell l c.requires.at_rest.placed c.args.key.0 c.requires.live in
    ap objects_of (lists-kept p c.requires.at_rest.chained c.write.new.self changes.links).lists
    ∙ objects-written l c.requires.at_rest.placed c.args.key.0 f.0 f.1 c.args.i (held_key c.args.item) (cells_of c.write.new.self.slots) changes.cells

pub returns-clause-at_rest : goal.returns-clause-at_rest
returns-clause-at_rest c =
    let p = c.args.self.now in
    let l = lists_of p in
    let objects = shows p in
    let changes = c.write.ensures.changes in
    let f = live-cell l c.requires.at_rest.placed c.args.key.0 c.requires.live in
    let a = lists-kept p c.requires.at_rest.chained c.write.new.self changes.links in
    record {
      placed = subst IsPlaced (sym a.lists)
          (IsPlaced-written l c.requires.at_rest.placed c.args.key.0 f.0 f.1 c.args.i (held_key c.args.item) (cells_of c.write.new.self.slots) changes.cells);
      chained = a.chained;
      coloured = subst HasColourOrder (sym (returns-clause-shows c))
          (HasColourOrder-written objects c.requires.at_rest.coloured (object_at-own l c.requires.at_rest.placed) c.args.key.0 c.args.i (held_key c.args.item)
          (each-held (λ q. is_there objects q ≡ true) c.args.item c.requires.item_live)
          (each-held (λ q. IsNotBelow (colour_at objects q) (colour_at objects c.args.key.0)) c.args.item c.requires.colours));
      emptied = a.waits ∙ c.requires.at_rest.emptied;
    }
