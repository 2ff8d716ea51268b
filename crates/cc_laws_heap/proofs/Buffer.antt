-- How often a number stands in the buffer after a mark was set, and after a native left.
use Rattle.std.proofs.Common.{◌≡◌, ℕ, ◌+◌, ◌≤◌, Bool, true, false, not, List, [], ◌∷◌, refl, sym, ◌∙◌, arith, ◌==◌}
use Rattle.std.specs.List.{filter}
use Rattle.std.proofs.lemmas.Bool.{eqb-true, eq-eqb, ne_eqb, not-true}
use Rattle.cc_lists.proofs.Counting.{count_by-cons}
use Rattle.cc_model.specs.Heap.{Buffered, with_mark, buffered_as}
use Rattle.cc_lists.proofs.Searching.{count_by-kept, count_by-dropped}
use Rattle.cc_laws_heap.specs.Balance.{has_place, places}

-- a native that was marked stands there once
pub places-with_mark_same : (m : Bool) (k : ℕ) (bs : List Buffered) → places k bs ≤ 1 → places k (with_mark m k bs) ≡ 1
places-with_mark_same m k [] few = rw (count_by-cons (has_place k) (buffered_as k m) [], eq-eqb k k refl) refl
places-with_mark_same m k (b ∷ bs) few = go (places-with_mark_same m k bs) (b.number == k) refl
  where
    go : (places k bs ≤ 1 → places k (with_mark m k bs) ≡ 1) → (c : Bool) → (b.number == k) ≡ c →
        places k (elim c [ true ↦ record b { purple = m } ∷ bs | false ↦ b ∷ with_mark m k bs ]) ≡ 1
    go ih true e =
        let before : places k (b ∷ bs) ≡ 1 + places k bs = rw (count_by-cons (has_place k) b bs, e) refl in
        rw (count_by-cons (has_place k) (record b { purple = m }) bs, e) (omega arith)
    go ih false e =
        let before : places k (b ∷ bs) ≡ 0 + places k bs = rw (count_by-cons (has_place k) b bs, e) refl in
        rw (count_by-cons (has_place k) b (with_mark m k bs), e) (omega (arith, ih (omega arith)))

-- any other as often as before
pub places-with_mark_other : (m : Bool) (k j : ℕ) (bs : List Buffered) → ¬ (j ≡ k) → places j (with_mark m k bs) ≡ places j bs
places-with_mark_other m k j [] d = rw (count_by-cons (has_place j) (buffered_as k m) [], ne_eqb k j (λ e. d (sym e))) refl
places-with_mark_other m k j (b ∷ bs) d = go (places-with_mark_other m k j bs d) (b.number == k)
  where
    go : places j (with_mark m k bs) ≡ places j bs → (c : Bool) →
        places j (elim c [ true ↦ record b { purple = m } ∷ bs | false ↦ b ∷ with_mark m k bs ]) ≡ places j (b ∷ bs)
    go ih true = count_by-cons (has_place j) (record b { purple = m }) bs ∙ sym (count_by-cons (has_place j) b bs)
    go ih false = rw (count_by-cons (has_place j) b (with_mark m k bs), count_by-cons (has_place j) b bs, ih) refl

-- a native that left stands there no more
pub places-forget_same : (k : ℕ) (bs : List Buffered) → places k (filter (λ b. not (b.number == k)) bs) ≡ 0
places-forget_same k bs = count_by-dropped (has_place k) (λ b. not (has_place k b)) bs (λ b e. not-true (has_place k b) e)

-- any other as often as before
pub places-forget_other : (k j : ℕ) (bs : List Buffered) → ¬ (j ≡ k) → places j (filter (λ b. not (b.number == k)) bs) ≡ places j bs
places-forget_other k j bs d = grind (arith, count_by-kept, eqb-true)
