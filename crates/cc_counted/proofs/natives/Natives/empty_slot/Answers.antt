use Rattle.std.proofs.Common.{◌≡◌, ◌<◌, ℕ, List, length, get_or, Option, Some, None, option_map, [], ◌∷◌, refl, ap, sym, subst, ◌∙◌}
use Rattle.std.proofs.Math.ListN.{set}
use Rattle.cc_names.specs.declared.number.NKey.{NKey}
use Rattle.cc_counted.specs.declared.held.Held.{Held}
use Rattle.cc_counted.specs.declared.held.Held.TheVariants as held
use Rattle.cc_counted.specs.Counts.{native_held}
use Rattle.cc_model.specs.Cascade.{cascade}
use Rattle.cc_laws_heap.specs.Balance.{IsBalanced}
use Rattle.cc_counted.specs.Counts.{the_number, heap_of}
use Rattle.cc_counted.specs.Lists.{Placed, Lists, cell_at, with_slot, slots_placed, keyed, counts_of, draining_of, IsPlaced}
use Rattle.cc_counted.specs.Stored.{Stored, with_cell}
use Rattle.cc_counted.specs.Steps.{ComesTo, EmptiesSlot}
use Rattle.cc_counted.proofs.Holding.{held-native}
use Rattle.cc_counted.proofs.Emptying.{placed-emptied, balanced-content, EmptiesSlot-none, EmptiesSlot-some}
use Rattle.cc_counted.proofs.natives.Natives.empty_slot.Goals as goal

-- the cells with the slot emptied
abbrev emptied_cells : (l : Lists) (key i : ℕ) (c : Placed) → List (Option Placed)
emptied_cells l key i c = set l.cells key (Some (with_slot i None c))

wrote : (s new : Stored) (key i : ℕ) (c : Placed) → cell_at s.lists.cells key ≡ Some c → new ≡ with_cell key (with_slot i None) s → new.lists ≡ record s.lists { cells = emptied_cells s.lists key i c }
wrote s new key i c at e = ap (λ (t : Stored). t.lists) e ∙ ap (λ o. record s.lists { cells = set s.lists.cells key (option_map (with_slot i None) o) }) at

-- what was in the slot
read : (l : Lists) (key i : ℕ) (c : Placed) (x : Option Held) → cell_at l.cells key ≡ Some c → x ≡ get_or (slots_placed (cell_at l.cells key)) i None → get_or c.slots i None ≡ x
read l key i c x at e = sym (e ∙ ap (λ o. get_or (slots_placed o) i None) at)

-- the native that was in it
read-native : (l : Lists) (key i : ℕ) (c : Placed) (x : Option Held) (native : NKey) → cell_at l.cells key ≡ Some c → x ≡ get_or (slots_placed (cell_at l.cells key)) i None → native_held x ≡ Some native →
    get_or c.slots i None ≡ Some (held.Native native)
read-native l key i c x native at e f = read l key i c x at e ∙ held-native x native f

-- or none
read-none : (l : Lists) (key i : ℕ) (c : Placed) (x : Option Held) → cell_at l.cells key ≡ Some c → x ≡ get_or (slots_placed (cell_at l.cells key)) i None → native_held x ≡ None →
    native_held (get_or c.slots i None) ≡ None
read-none l key i c x at e f = ap native_held (read l key i c x at e) ∙ f

-- the slot is there
inside : (l : Lists) (key i : ℕ) (c : Placed) → cell_at l.cells key ≡ Some c → i < length (slots_placed (cell_at l.cells key)) → i < length c.slots
inside l key i c at w = subst (λ n. i < n) (ap (λ o. length (slots_placed o)) at) w

pub release-requires-clause-placed : goal.release-requires-clause-placed
release-requires-clause-placed g c =
    let l = c.args.self.now.lists in
    let (others, was, at, b) = c.requires.owned in
    subst IsPlaced (sym (wrote c.args.self.now c.write-content.new.self c.args.key.0 c.args.i was at c.write-content.ensures.lists))
    (placed-emptied l c.requires.at_rest.placed c.args.key.0 was at c.args.i (inside l c.args.key.0 c.args.i was at c.requires.within) (emptied_cells l c.args.key.0 c.args.i was) refl)

pub release-requires-clause-balanced : goal.release-requires-clause-balanced
release-requires-clause-balanced g c =
    let l = c.args.self.now.lists in
    let (others, was, at, b) = c.requires.owned in
    subst (λ (n : Lists). (owned : List ℕ) × (d : Placed) × (cell_at n.cells c.in-Some.native.0 ≡ Some d) × IsBalanced (d.number ∷ owned) (draining_of n []))
    (sym (wrote c.args.self.now c.write-content.new.self c.args.key.0 c.args.i was at c.write-content.ensures.lists))
    (balanced-content l c.requires.at_rest.placed c.args.key.0 was at c.args.i (inside l c.args.key.0 c.args.i was at c.requires.within) (emptied_cells l c.args.key.0 c.args.i was) refl others b c.in-Some.native.0
    (read-native l c.args.key.0 c.args.i was c.write-content.result c.in-Some.native at c.write-content.ensures.value (sym c.native_held.ensures ∙ c.in-Some.is)))

pub returns-in-Some-clause-empties : goal.returns-in-Some-clause-empties
returns-in-Some-clause-empties g c =
    let l = c.args.self.now.lists in
    let (others, was, at, b) = c.requires.owned in
    EmptiesSlot-some l c.requires.at_rest.placed c.args.key.0 was at c.args.i (inside l c.args.key.0 c.args.i was at c.requires.within) (emptied_cells l c.args.key.0 c.args.i was) refl others b c.in-Some.native.0
    (read-native l c.args.key.0 c.args.i was c.write-content.result c.in-Some.native at c.write-content.ensures.value (sym c.native_held.ensures ∙ c.in-Some.is))
    c.release.new.self.lists (g.N.Notices.telling c.args.out.now) (g.N.Notices.telling c.release.new.out) c.requires.at_rest.emptied
    (subst (λ (n : Lists). ComesTo n c.release.new.self.lists (g.N.Notices.telling c.args.out.now) (g.N.Notices.telling c.release.new.out) (cascade (heap_of (counts_of n)) (the_number (keyed n.cells) c.in-Some.native.0)))
    (wrote c.args.self.now c.write-content.new.self c.args.key.0 c.args.i was at c.write-content.ensures.lists) c.release.ensures)

pub returns-in_default-clause-empties : goal.returns-in_default-clause-empties
returns-in_default-clause-empties g c =
    let l = c.args.self.now.lists in
    let (others, was, at, b) = c.requires.owned in
    subst (λ (n : Lists). EmptiesSlot l n c.args.key.0 c.args.i (g.N.Notices.telling c.args.out.now) (g.N.Notices.telling c.args.out.now))
    (sym (wrote c.args.self.now c.write-content.new.self c.args.key.0 c.args.i was at c.write-content.ensures.lists))
    (EmptiesSlot-none l c.requires.at_rest.placed c.args.key.0 was at c.args.i (inside l c.args.key.0 c.args.i was at c.requires.within) (emptied_cells l c.args.key.0 c.args.i was) refl others b (g.N.Notices.telling c.args.out.now)
    (read-none l c.args.key.0 c.args.i was c.write-content.result at c.write-content.ensures.value (sym c.native_held.ensures ∙ c.in_default.is)))

pub returns-in_default-clause-at_rest : goal.returns-in_default-clause-at_rest
returns-in_default-clause-at_rest g c =
    let l = c.args.self.now.lists in
    let (others, was, at, b) = c.requires.owned in
    let same = wrote c.args.self.now c.write-content.new.self c.args.key.0 c.args.i was at c.write-content.ensures.lists in
    record {
      placed = subst IsPlaced (sym same)
          (placed-emptied l c.requires.at_rest.placed c.args.key.0 was at c.args.i (inside l c.args.key.0 c.args.i was at c.requires.within) (emptied_cells l c.args.key.0 c.args.i was) refl);
      emptied = ap (λ (n : Lists). n.queue) same ∙ c.requires.at_rest.emptied;
    }
