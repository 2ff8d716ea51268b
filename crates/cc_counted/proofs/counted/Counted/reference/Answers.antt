use Rattle.std.proofs.Common.{◌≡◌, ◌<◌, ◌≤◌, ℕ, List, Option, None, length, get_or, ap, ◌∙◌, arith}
use Rattle.std.proofs.lemmas.List.{get_or_default}
use Rattle.cc_counted.specs.declared.held.Held.{Held}
use Rattle.cc_counted.specs.Counts.{name_of, is_live, slots_of}
use Rattle.cc_counted.specs.Lists.{Placed, counts_of}
use Rattle.cc_counted.proofs.Reading.{length-slots_of, slot-name}
use Rattle.cc_counted.proofs.Writing.{slot-live}
use Rattle.cc_counted.proofs.Reflecting.{reference-slot, reference-last}
use Rattle.cc_counted.proofs.counted.Counted.reference.Goals as goal

-- the slot that was read
read : (xs ys : List (Option Held)) (i : ℕ) (x : Option Held) → xs ≡ ys → i < length xs → x ≡ get_or xs i x → x ≡ get_or ys i None
read xs ys i x e within r = r ∙ (get_or_default xs i x None within ∙ ap (λ zs. get_or zs i None) e)

pub returns-then-place-len-clause-name : goal.returns-then-place-len-clause-name
returns-then-place-len-clause-name c =
    let l = c.self.inside.natives.lists in
    let p = c.self.invariant.placed in
    let cell = c.at-cell.result.now in
    let same = ap (λ (p : Placed). p.slots) c.cell.view_is in
    let within : c.args.i < length c.cell.inside.slots.items = omega (arith, c.if-place-len.true, c.len.ensures) in
    rw (← c.self.view_is) (ap (name_of (counts_of l)) (c.held.ensures ∙ read c.cell.inside.slots.items cell.slots c.args.i c.index.result.now same within c.index.ensures)
    ∙ (slot-name l p c.args.key.0 cell c.at-cell.ensures c.args.i
    ∙ reference-slot l p c.args.key.0 cell c.at-cell.ensures c.args.i
    (omega (arith, within, ap (λ xs. length xs) same, length-slots_of l p c.args.key.0 cell c.at-cell.ensures))))

pub returns-then-place-len-clause-live : goal.returns-then-place-len-clause-live
returns-then-place-len-clause-live c =
    let l = c.self.inside.natives.lists in
    let p = c.self.invariant.placed in
    let cell = c.at-cell.result.now in
    let same = ap (λ (p : Placed). p.slots) c.cell.view_is in
    let within : c.args.i < length c.cell.inside.slots.items = omega (arith, c.if-place-len.true, c.len.ensures) in
    rw (← c.self.view_is) (ap (is_live (counts_of l)) (c.held.ensures ∙ read c.cell.inside.slots.items cell.slots c.args.i c.index.result.now same within c.index.ensures)
    ∙ slot-live l p c.args.key.0 cell c.at-cell.ensures c.args.i (omega (arith, within, ap (λ xs. length xs) same)))

pub returns-else-place-len-clause-name : goal.returns-else-place-len-clause-name
returns-else-place-len-clause-name c =
    let l = c.self.inside.natives.lists in
    let p = c.self.invariant.placed in
    let cell = c.at-cell.result.now in
    let same = ap (λ (p : Placed). length p.slots) c.cell.view_is in
    let shown : c.args.i ≤ length (slots_of (counts_of l) c.args.key.0) = rw (← c.self.view_is) at c.requires.within in
    rw (← c.self.view_is) (c.held_reflector.ensures.name (counts_of l)
    ∙ reference-last l p c.args.key.0 cell c.at-cell.ensures c.args.i
    (omega (arith, shown, c.if-place-len.false, c.len.ensures, same, length-slots_of l p c.args.key.0 cell c.at-cell.ensures)))
