-- A SLOT WRITTEN.
use Rattle.std.proofs.Common.{◌≡◌, ◌≤◌, ◌<◌, ℕ, List, map, length, get_or, Option, Some, None, true, refl, sym, ◌∙◌, ap, subst, ⊎_elim}
use Rattle.std.proofs.Math.ListN.{set}
use Rattle.std.proofs.lemmas.List.{map-set, length-set}
use Rattle.std.proofs.lemmas.List.Elements.{Contains-get_or}
use Rattle.cc_lists.proofs.Members.{Among-contains}
use Rattle.cc_lists.proofs.ListWrites.{Among-set_cases}
use Rattle.cc_names.specs.Names.{native}
use Rattle.cc_names.specs.Sizes.{most_slots}
use Rattle.cc_model.specs.Heap.{with_native_slot, set_slot}
use Rattle.cc_counted.specs.declared.held.Held.{Held}
use Rattle.cc_counted.specs.Counts.{Counts, the_number, name_of, is_live, heap_of, with_heap}
use Rattle.cc_counted.specs.Lists.{Placed, Lists, cell_at, with_slot, keyed, names_in, shown, marked_number, counts_of, IsPlaced}
use Rattle.cc_counted.proofs.Places.{the_number-cell}
use Rattle.cc_counted.proofs.Changing.{keyed-changed, reflectors-changed, walks-changed, IsPlaced-changed, natives-changed}
use Rattle.cc_counted.proofs.Reading.{name_of-keyed, is_live-keyed}
use Rattle.cc_counted.proofs.Adding.{counts-same}

module _ (l : Lists) (p : IsPlaced l) (key : ℕ) (c : Placed) (at : cell_at l.cells key ≡ Some c) where
  -- what a slot holds is there
  pub slot-live : (i : ℕ) → i < length c.slots → is_live (counts_of l) (get_or c.slots i None) ≡ true
  slot-live i within = is_live-keyed l (get_or c.slots i None) ∙ p.held key c (get_or c.slots i None) at (Among-contains (get_or c.slots i None) c.slots (Contains-get_or c.slots i None within))

  module _ (i : ℕ) (x : Option Held) (cells : List (Option Placed)) (e : cells ≡ set l.cells key (Some (with_slot i x c))) where
    pub counts-written : counts_of (record l { cells = cells }) ≡ with_heap (counts_of l) (set_slot (heap_of (counts_of l)) (Some (native (the_number (counts_of l) key))) i (name_of (counts_of l) x))
    counts-written =
        ap (λ cs. counts_of (record l { cells = cs })) e
        ∙ (counts-same _ _ _ _ _ _ _ _ _ _
        (natives-changed l p key c (with_slot i x c) at refl (with_native_slot i (name_of (counts_of l) x))
        (ap (λ ys. record (shown (keyed l.cells) (Some c)) { slots = ys })
        (ap (set (names_in (keyed l.cells) c.slots) i) (name_of-keyed l x) ∙ sym (map-set (name_of (keyed l.cells)) c.slots i x))))
        (ap (λ n. map (marked_number n) l.marks) (keyed-changed l p key c (with_slot i x c) at refl))
        (ap (λ (n : Counts). n.keys) (keyed-changed l p key c (with_slot i x c) at refl))
        (reflectors-changed l p key c (with_slot i x c) at refl refl) (walks-changed l p key c (with_slot i x c) at refl)
        ∙ ap (λ k. with_heap (counts_of l) (set_slot (heap_of (counts_of l)) (Some (native k)) i (name_of (counts_of l) x))) (sym (the_number-cell l.cells key c at)))

    pub placed-written : is_live (counts_of l) x ≡ true → IsPlaced (record l { cells = cells })
    placed-written live =
        subst (λ cs. IsPlaced (record l { cells = cs })) (sym e)
        (IsPlaced-changed l p key c (with_slot i x c) at refl
        (subst (λ n. n ≤ most_slots) (sym (length-set c.slots i x)) (p.small key c at))
        (λ y m. ⊎_elim
        (λ s. subst (λ z. is_live (keyed l.cells) z ≡ true) s (sym (is_live-keyed l x) ∙ live))
        (λ t. p.held key c y at t) (Among-set_cases c.slots i x y m))
        l.queue l.marks p.queued p.marked)
