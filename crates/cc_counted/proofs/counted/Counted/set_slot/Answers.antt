use Rattle.std.proofs.Common.{◌≡◌, ◌<◌, ℕ, Option, Some, None, length, get_or, ap, ◌∙◌, option_map, arith, subst, sym}
use Rattle.std.proofs.Math.ListN.{set}
use Rattle.cc_counted.specs.declared.held.Held.{Held}
use Rattle.cc_counted.specs.Counts.{is_live, name_of, numbers_held, slots_of}
use Rattle.cc_counted.specs.Lists.{Placed, Lists, cell_at, slots_placed, with_slot, counts_of}
use Rattle.cc_counted.specs.Stored.{Stored}
use Rattle.cc_counted.specs.Resting.{IsAtRest}
use Rattle.cc_counted.proofs.Reading.{live-found, length-slots_of, slot-name}
use Rattle.cc_counted.proofs.Writing.{slot-live, counts-written, placed-written}
use Rattle.cc_counted.specs.Owning.{Transfers}
use Rattle.cc_counted.proofs.Owned.{owned-written}
use Rattle.cc_counted.proofs.counted.Counted.set_slot.Goals as goal

-- the cells with a slot written
wrote : (l : Lists) (key i : ℕ) (x : Option Held) (c : Placed) → cell_at l.cells key ≡ Some c → set l.cells key (option_map (with_slot i x) (cell_at l.cells key)) ≡ set l.cells key (Some (with_slot i x c))
wrote l key i x c at = ap (λ o. set l.cells key (option_map (with_slot i x) o)) at

pub write-requires-clause-within : goal.write-requires-clause-within
write-requires-clause-within c =
    let l = c.self.inside.natives.lists in
    let f = live-found l c.args.key.0 (rw (← c.self.view_is) at c.requires.live) in
    let within : c.args.i < length (slots_of (counts_of l) c.args.key.0) = rw (← c.self.view_is) at c.requires.within in
    omega (arith, ap (λ o. length (slots_placed o)) f.1, length-slots_of l c.self.invariant.placed c.args.key.0 f.0 f.1, within)

pub returns-clause-slots : goal.returns-clause-slots
returns-clause-slots c =
    let l = c.self.inside.natives.lists in
    let f = live-found l c.args.key.0 (rw (← c.self.view_is) at c.requires.live) in
    rw (← c.self.view_is) (ap (λ (s : Stored). counts_of s.lists) c.write.ensures.lists
    ∙ counts-written l c.self.invariant.placed c.args.key.0 f.0 f.1 c.args.i c.args.item _ (wrote l c.args.key.0 c.args.i c.args.item f.0 f.1))

pub returns-clause-name : goal.returns-clause-name
returns-clause-name c =
    let l = c.self.inside.natives.lists in
    let f = live-found l c.args.key.0 (rw (← c.self.view_is) at c.requires.live) in
    let read : c.write.result ≡ get_or f.0.slots c.args.i None = c.write.ensures.value ∙ ap (λ o. get_or (slots_placed o) c.args.i None) f.1 in
    rw (← c.self.view_is) (ap (name_of (counts_of l)) read ∙ slot-name l c.self.invariant.placed c.args.key.0 f.0 f.1 c.args.i)

pub returns-clause-live : goal.returns-clause-live
returns-clause-live c =
    let l = c.self.inside.natives.lists in
    let f = live-found l c.args.key.0 (rw (← c.self.view_is) at c.requires.live) in
    let within : c.args.i < length (slots_of (counts_of l) c.args.key.0) = rw (← c.self.view_is) at c.requires.within in
    let read : c.write.result ≡ get_or f.0.slots c.args.i None = c.write.ensures.value ∙ ap (λ o. get_or (slots_placed o) c.args.i None) f.1 in
    rw (← c.self.view_is) (ap (is_live (counts_of l)) read ∙ slot-live l c.self.invariant.placed c.args.key.0 f.0 f.1 c.args.i (omega (arith, within, length-slots_of l c.self.invariant.placed c.args.key.0 f.0 f.1)))

pub invariant_of-self : goal.invariant_of-self
invariant_of-self c =
    let l = c.self.inside.natives.lists in
    let f = live-found l c.args.key.0 (rw (← c.self.view_is) at c.requires.live) in
    subst IsAtRest (sym c.write.ensures.lists)
    (record {
      placed = placed-written l c.self.invariant.placed c.args.key.0 f.0 f.1 c.args.i c.args.item _ (wrote l c.args.key.0 c.args.i c.args.item f.0 f.1) (rw (← c.self.view_is) at c.requires.item_live);
      emptied = c.self.invariant.emptied;
    })

pub returns-clause-owned : goal.returns-clause-owned
returns-clause-owned c =
    let l = c.self.inside.natives.lists in
    let f = live-found l c.args.key.0 (rw (← c.self.view_is) at c.requires.live) in
    let read : c.write.result ≡ get_or f.0.slots c.args.i None = c.write.ensures.value ∙ ap (λ o. get_or (slots_placed o) c.args.i None) f.1 in
    let shown : c.args.i < length (slots_of (counts_of l) c.args.key.0) = rw (← c.self.view_is) at c.requires.within in
    let within : c.args.i < length f.0.slots = omega (arith, length-slots_of l c.self.invariant.placed c.args.key.0 f.0 f.1, shown) in
    rw (← c.self.view_is) (subst (λ x. Transfers (numbers_held (counts_of l) c.args.item) (numbers_held (counts_of l) x) (counts_of l) (counts_of c.write.new.self.lists)) (sym read)
    (subst (λ (s : Stored). Transfers (numbers_held (counts_of l) c.args.item) (numbers_held (counts_of l) (get_or f.0.slots c.args.i None)) (counts_of l) (counts_of s.lists)) (sym c.write.ensures.lists)
    (owned-written l c.self.invariant.placed c.self.invariant.emptied c.args.key.0 f.0 f.1 c.args.i within c.args.item (rw (← c.self.view_is) at c.requires.item_live)
    _ (wrote l c.args.key.0 c.args.i c.args.item f.0 f.1))))
