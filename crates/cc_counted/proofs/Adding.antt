-- ONE MORE REFERENCE, and a native that is marked.
use Rattle.std.proofs.Common.{◌≡◌, ℕ, ◌+◌, List, map, Option, Some, Bool, false, refl, sym, ◌∙◌, ap, subst}
use Rattle.std.proofs.Math.ListN.{set}
use Rattle.cc_model.specs.Heap as heap
use Rattle.cc_model.specs.Heap.{HeapNative, Buffered}
use Rattle.cc_model.specs.Cascade.{add_ref}
use Rattle.cc_names.specs.declared.kind.Walked.{Walked}
use Rattle.cc_purple.specs.Marks.{with_mark}
use Rattle.cc_counted.specs.Counts.{Counts, the_number, heap_of, with_heap}
use Rattle.cc_counted.specs.Lists.{Placed, Lists, cell_at, with_one_more, marked_number, counts_of, IsPlaced}
use Rattle.cc_counted.proofs.Places.{the_number-cell}
use Rattle.cc_counted.proofs.Changing.{keyed-changed, reflectors-changed, walks-changed, IsPlaced-changed, natives-changed}
use Rattle.cc_counted.proofs.Marking.{buffer-with_mark, with_mark-there}

-- these natives, this buffer, these keys, these reflectors and this walk
abbrev pub counts_with : List HeapNative → List Buffered → List (Option ℕ) → List (Option ℕ) → List Walked → Counts
counts_with ns bs ks rs ws = record { natives = ns; buffer = bs; keys = ks; reflectors = rs; walks = ws }

-- counts are the same where their parts are
pub counts-same : (ns ms : List HeapNative) (bs cs : List Buffered) (ks js rs ss : List (Option ℕ)) (ws us : List Walked) → ns ≡ ms → bs ≡ cs → ks ≡ js → rs ≡ ss → ws ≡ us →
    counts_with ns bs ks rs ws ≡ counts_with ms cs js ss us
counts-same ns ms bs cs ks js rs ss ws us n b k r w = rw (n, b, k, r, w) refl

module _ (l : Lists) (p : IsPlaced l) (key : ℕ) (c : Placed) (at : cell_at l.cells key ≡ Some c) where
  abbrev number : ℕ
  number = the_number (counts_of l) key

  same_number : the_number (counts_of l) key ≡ c.number
  same_number = the_number-cell l.cells key c at

  -- one more reference
  pub counts-added : (cells : List (Option Placed)) → cells ≡ set l.cells key (Some (with_one_more c)) →
      counts_of (record l { cells = cells; marks = with_mark false key l.marks }) ≡ with_heap (counts_of l) (add_ref (heap_of (counts_of l)) (the_number (counts_of l) key))
  counts-added cells e =
      ap (λ cs. counts_of (record l { cells = cs; marks = with_mark false key l.marks })) e
      ∙ (counts-same _ _ _ _ _ _ _ _ _ _
      (natives-changed l p key c (with_one_more c) at refl (λ n. record n { count = n.count + 1 }) refl)
      (ap (λ n. map (marked_number n) (with_mark false key l.marks)) (keyed-changed l p key c (with_one_more c) at refl)
      ∙ buffer-with_mark l p key c at false l.marks p.marked)
      (ap (λ (n : Counts). n.keys) (keyed-changed l p key c (with_one_more c) at refl))
      (reflectors-changed l p key c (with_one_more c) at refl refl) (walks-changed l p key c (with_one_more c) at refl)
      ∙ ap (λ k. with_heap (counts_of l) (add_ref (heap_of (counts_of l)) k)) (sym same_number))

  pub placed-added : (cells : List (Option Placed)) → cells ≡ set l.cells key (Some (with_one_more c)) →
      IsPlaced (record l { cells = cells; marks = with_mark false key l.marks })
  placed-added cells e =
      subst (λ cs. IsPlaced (record l { cells = cs; marks = with_mark false key l.marks })) (sym e)
      (IsPlaced-changed l p key c (with_one_more c) at refl (p.small key c at) (λ x m. p.held key c x at m) l.queue (with_mark false key l.marks) p.queued
      (λ m n. with_mark-there l p key c at false l.marks p.marked m n))

  -- a mark alone
  pub counts-marked : (purple : Bool) → counts_of (record l { marks = with_mark purple key l.marks })
      ≡ record (counts_of l) { buffer = heap.with_mark purple (the_number (counts_of l) key) (counts_of l).buffer }
  counts-marked purple = search (counts-same, buffer-with_mark, same_number)

  pub placed-marked : (purple : Bool) → IsPlaced (record l { marks = with_mark purple key l.marks })
  placed-marked purple = record {
    in_order = p.in_order;
    ordered = p.ordered;
    rising = p.rising;
    small = p.small;
    held = p.held;
    queued = p.queued;
    marked = λ m n. with_mark-there l p key c at purple l.marks p.marked m n;
    walking = p.walking;
  }
