-- WHAT IS READ OF A NATIVE at its key.
use Rattle.std.proofs.Common.{◌≡◌, ℕ, length, get_or, Option, Some, None, is_some, true, refl, sym, ◌∙◌, ap}
use Rattle.std.proofs.Math.ListN.{get_or-map}
use Rattle.std.proofs.lemmas.List.{length-map}
use Rattle.cc_model.specs.Heap.{native_at}
use Rattle.cc_counted.specs.declared.held.Held.{Held}
use Rattle.cc_counted.specs.Counts.{number_at, the_number, name_of, is_live, heap_of, slots_at, slots_of, count_at, count_of}
use Rattle.cc_counted.specs.Lists.{Placed, Lists, cell_at, keyed, names_in, counts_of, IsPlaced}
use Rattle.cc_counted.proofs.Places.{number_at-found, the_number-cell, native_at-cell}
use Rattle.cc_counted.proofs.Holding.{held-same}

-- a key that holds a number holds a native
pub live-found : (l : Lists) (key : ℕ) → is_some (number_at (counts_of l) key) ≡ true → (c : Placed) × (cell_at l.cells key ≡ Some c)
live-found l key live = go (number_at (keyed l.cells) key) refl live
  where
    go : (o : Option ℕ) → number_at (keyed l.cells) key ≡ o → is_some o ≡ true → (c : Placed) × (cell_at l.cells key ≡ Some c)
    go None e s = absurd (cc)
    go (Some k) e s = let f = number_at-found l.cells key k e in (f.0, f.1)

-- names are the same by the keys alone
pub name_of-keyed : (l : Lists) (x : Option Held) → name_of (counts_of l) x ≡ name_of (keyed l.cells) x
name_of-keyed l x = (held-same (keyed l.cells) (counts_of l) x (λ k e. refl)).0

pub is_live-keyed : (l : Lists) (x : Option Held) → is_live (counts_of l) x ≡ is_live (keyed l.cells) x
is_live-keyed l x = (held-same (keyed l.cells) (counts_of l) x (λ k e. refl)).1

module _ (l : Lists) (p : IsPlaced l) (key : ℕ) (c : Placed) (at : cell_at l.cells key ≡ Some c) where
  found-at : native_at (heap_of (counts_of l)) (the_number (counts_of l) key) ≡ native_at (heap_of (counts_of l)) c.number
  found-at = ap (native_at (heap_of (counts_of l))) (the_number-cell l.cells key c at)

  pub slots_of-cell : slots_of (counts_of l) key ≡ names_in (keyed l.cells) c.slots
  slots_of-cell = ap slots_at (found-at ∙ native_at-cell l p key c at)

  pub length-slots_of : length (slots_of (counts_of l) key) ≡ length c.slots
  length-slots_of = ap length slots_of-cell ∙ length-map c.slots (name_of (keyed l.cells))

  pub count_of-cell : count_of (counts_of l) key ≡ c.count
  count_of-cell = ap count_at (found-at ∙ native_at-cell l p key c at)

  -- the name in a slot
  pub slot-name : (i : ℕ) → name_of (counts_of l) (get_or c.slots i None) ≡ get_or (slots_of (counts_of l) key) i None
  slot-name i = name_of-keyed l (get_or c.slots i None) ∙ (sym (get_or-map (name_of (keyed l.cells)) c.slots i None) ∙ ap (λ ys. get_or ys i None) (sym slots_of-cell))
