-- ONE REFERENCE GIVEN UP at a key is one given up by its number.
use Rattle.std.proofs.Common.{◌≡◌, ℕ, ◌≤◌, true, List, [], ◌∷◌, ◌++◌, Some, refl, sym, ◌∙◌, ap, ⊎_elim, arith}
use Rattle.std.proofs.lemmas.List.{map-append}
use Rattle.cc_lists.proofs.Members.{Among-append}
use Rattle.cc_model.specs.declared.item.Event.{Event}
use Rattle.cc_model.specs.Heap.{HeapNative, Buffered, empty_heap}
use Rattle.cc_model.specs.Cascade.{Draining, fallen, given_up, give_up, draining_at}
use Rattle.cc_laws_heap.proofs.Face.{lower_native}
use Rattle.cc_counted.specs.Counts.{no_limits}
use Rattle.cc_counted.specs.Lists.{Placed, Lists, cell_at, with_one_less, draining_of, IsPlaced, suspected, waiting}
use Rattle.cc_counted.proofs.Places.{native_at-cell, the_number-cell}
use Rattle.cc_counted.proofs.Changing.{keyed-changed, IsPlaced-changed, natives-changed}
use Rattle.cc_counted.proofs.Marking.{buffer-with_mark, buffer-without_key, with_mark-there, without_key-there}

-- heaps with these natives and this buffer, and this queue, while natives are deleted
abbrev pub draining_with : List HeapNative → List Buffered → List ℕ → List Event → Draining
draining_with ns bs ks es = draining_at (record (empty_heap no_limits) { natives = ns; buffer = bs }) ks es

-- they are the same where their lists are
pub draining-same : (ns ms : List HeapNative) (bs cs : List Buffered) (ks js : List ℕ) (es : List Event) → ns ≡ ms → bs ≡ cs → ks ≡ js →
    draining_with ns bs ks es ≡ draining_with ms cs js es
draining-same ns ms bs cs ks js es n b k = search

module _ (l : Lists) (p : IsPlaced l) (key : ℕ) (c : Placed) (at : cell_at l.cells key ≡ Some c) where
  -- what is given up, by the count
  given_up-cell : (es : List Event) → give_up (draining_of l es) c.number ≡ fallen (draining_of l es) c.number c.count
  given_up-cell es = ap (given_up (draining_of l es) c.number) (native_at-cell l p key c at)

  -- not the last reference
  pub give_up-suspected : 2 ≤ c.count → (es : List Event) → draining_of (suspected l key c) es ≡ give_up (draining_of l es) c.number
  give_up-suspected more es = grind (arith, given_up-cell, draining-same, natives-changed, lower_native, keyed-changed, buffer-with_mark)

  -- the last one
  pub give_up-waiting : c.count ≡ 1 → (es : List Event) → draining_of (waiting l key c) es ≡ give_up (draining_of l es) c.number
  give_up-waiting one es =
      grind (arith, given_up-cell, draining-same, natives-changed, lower_native, keyed-changed, buffer-without_key, map-append, the_number-cell)

  -- the lists fit together after it
  pub IsPlaced-suspected : IsPlaced (suspected l key c)
  IsPlaced-suspected =
      IsPlaced-changed l p key c (with_one_less c) at refl (p.small key c at) (λ x m. p.held key c x at m) l.queue (suspected l key c).marks p.queued
      (λ m n. with_mark-there l p key c at true l.marks p.marked m n)

  pub IsPlaced-waiting : IsPlaced (waiting l key c)
  IsPlaced-waiting =
      IsPlaced-changed l p key c (with_one_less c) at refl (p.small key c at) (λ x m. p.held key c x at m) (l.queue ++ key ∷ []) (waiting l key c).marks
      (λ k m. ⊎_elim (λ t. p.queued k t) (λ t. ⊎_elim (λ e. (c, ap (cell_at l.cells) (sym e) ∙ at)) (λ r. absurd r) t) (Among-append k l.queue (key ∷ []) m))
      (λ m n. without_key-there l p key m n)
