-- THE BUFFER BY KEYS AND BY NUMBERS: a mark that is set, a key that is taken out.
use Rattle.std.proofs.Common.{◌≡◌, ℕ, Bool, true, false, not, List, [], ◌∷◌, map, Some, refl, sym, ◌∙◌, ap, subst, ⊎_elim, inl, inr, ◌==◌, arith}
use Rattle.std.specs.List.{filter}
use Rattle.std.proofs.lemmas.Bool.{eq-eqb, ne_eqb}
use Rattle.std.proofs.lemmas.Bool.Decides.{eqb_tells}
use Rattle.cc_lists.specs.Members.{Among}
use Rattle.cc_lists.proofs.Members.{Among-filtered}
use Rattle.cc_lists.proofs.Filtering.{filter-agree}
use Rattle.cc_lists.proofs.Searching.{filter-map}
use Rattle.cc_model.specs.Heap as heap
use Rattle.cc_model.specs.Heap.{buffered_as}
use Rattle.cc_purple.specs.Marks.{Marked, marked_as, with_mark, without_key}
use Rattle.cc_counted.specs.Counts.{the_number}
use Rattle.cc_counted.specs.Lists.{Placed, Lists, cell_at, keyed, marked_number, IsPlaced}
use Rattle.cc_counted.proofs.Places.{the_number-cell, one_key}

module _ (l : Lists) (p : IsPlaced l) (key : ℕ) (c : Placed) (at : cell_at l.cells key ≡ Some c) where
  -- keys of natives are equal where their numbers are
  pub key-test : (k : ℕ) (b : Placed) → cell_at l.cells k ≡ Some b → (k == key) ≡ (the_number (keyed l.cells) k == c.number)
  key-test k b e = grind (arith, eq-eqb, the_number-cell, ne_eqb, one_key, eqb_tells)

  pub mark-test : (ms : List Marked) → ((m : Marked) → Among m ms → (b : Placed) × (cell_at l.cells m.key ≡ Some b)) →
      (m : Marked) → Among m ms → (m.key == key) ≡ (the_number (keyed l.cells) m.key == c.number)
  mark-test ms there m n = let f = there m n in key-test m.key f.0 f.1

  -- a mark set
  pub buffer-with_mark : (purple : Bool) (ms : List Marked) → ((m : Marked) → Among m ms → (b : Placed) × (cell_at l.cells m.key ≡ Some b)) →
      map (marked_number (keyed l.cells)) (with_mark purple key ms) ≡ heap.with_mark purple c.number (map (marked_number (keyed l.cells)) ms)
  buffer-with_mark purple [] there = let it = the_number-cell l.cells key c at in ap (λ k. buffered_as k purple ∷ []) it
  buffer-with_mark purple (m ∷ ms) there = go (buffer-with_mark purple ms (λ n w. there n (inr w))) (m.key == key) refl
    where
      shows : Marked → heap.Buffered
      shows n = marked_number (keyed l.cells) n

      after : Bool → List Marked
      after b = elim b [ true ↦ marked_as m.key purple ∷ ms | false ↦ m ∷ with_mark purple key ms ]

      after_number : Bool → List heap.Buffered
      after_number b = elim b [
        | true ↦ record (shows m) { purple = purple } ∷ map shows ms
        | false ↦ shows m ∷ heap.with_mark purple c.number (map shows ms)
      ]

      go : map shows (with_mark purple key ms) ≡ heap.with_mark purple c.number (map shows ms) → (b : Bool) → (m.key == key) ≡ b →
          map shows (after (m.key == key)) ≡ after_number (the_number (keyed l.cells) m.key == c.number)
      go ih true e =
          let f : (the_number (keyed l.cells) m.key == c.number) ≡ true = sym (mark-test (m ∷ ms) there m (inl refl)) ∙ e in
          rw (e, f) refl
      go ih false e =
          let f : (the_number (keyed l.cells) m.key == c.number) ≡ false = sym (mark-test (m ∷ ms) there m (inl refl)) ∙ e in
          rw (e, f) (ap (λ bs. shows m ∷ bs) ih)

  -- a key taken out
  pub buffer-without_key : map (marked_number (keyed l.cells)) (without_key key l.marks) ≡ filter (λ b. not (b.number == c.number)) (map (marked_number (keyed l.cells)) l.marks)
  buffer-without_key = grind (arith, filter-agree, mark-test, filter-map)

  -- what is marked after a mark is set: the key, or what was
  pub with_mark-there : (purple : Bool) (ms : List Marked) → ((m : Marked) → Among m ms → (b : Placed) × (cell_at l.cells m.key ≡ Some b)) →
      (m : Marked) → Among m (with_mark purple key ms) → (b : Placed) × (cell_at l.cells m.key ≡ Some b)
  with_mark-there purple [] there m n = ⊎_elim (λ e. (c, ap (λ (m : Marked). cell_at l.cells m.key) (sym e) ∙ at)) (λ r. absurd r) n
  with_mark-there purple (x ∷ xs) there m n = go (with_mark-there purple xs (λ y w. there y (inr w)) m) (x.key == key) n
    where
      there_at : Marked → Type 0
      there_at y = (b : Placed) × (cell_at l.cells y.key ≡ Some b)

      after : Bool → List Marked
      after b = elim b [ true ↦ marked_as x.key purple ∷ xs | false ↦ x ∷ with_mark purple key xs ]

      go : (Among m (with_mark purple key xs) → there_at m) → (b : Bool) → Among m (after b) → there_at m
      go ih true w = ⊎_elim (λ e. subst there_at e (there x (inl refl))) (λ r. there m (inr r)) w
      go ih false w = ⊎_elim (λ e. there m (inl e)) (λ r. ih r) w

-- what is marked after a key is taken out was before
pub without_key-there : (l : Lists) → IsPlaced l → (key : ℕ) (m : Marked) → Among m (without_key key l.marks) → (b : Placed) × (cell_at l.cells m.key ≡ Some b)
without_key-there l p key m n = p.marked m (Among-filtered (λ m. not (m.key == key)) m l.marks n)
