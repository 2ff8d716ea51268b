-- NO PLACE OF A ROOT IS LOST: free places stay in one row.
use Rattle.std.proofs.Common.{◌≡◌, ◌≢◌, ℕ, zero, suc, ◌<◌, ◌≤◌, List, [], ◌∷◌, ◌++◌, length, map, Option, Some, None, refl, sym, ◌∙◌, ap, subst, inl, inr, ⊎_elim, arith, slice_index_or, slice_set, is_some}
use Rattle.std.specs.Prelude.{IsSome}
use Rattle.std.proofs.lemmas.Bool.{cases_eq, cases_lt, false≢true}
use Rattle.std.proofs.lemmas.List.{get_or_past, get_or-set_other, get_or-set_same, length-map, length-set, length-append, map-set}
use Rattle.cc_lists.specs.Members.{Among}
use Rattle.cc_host.specs.Places.{places}
use Rattle.cc_host.specs.declared.book.Place.{Place}
use Rattle.cc_host.specs.declared.book.Place.TheVariants.{Free, Taken}
use Rattle.cc_host.specs.Booking.{AreInRow, IsInRow, link_at, link_of, serial_of}

-- what is none is not some
none-some : (o : Option ℕ) → o ≡ None → IsSome o → ⊥
none-some o none some = false≢true (ap is_some (sym none) ∙ some)

some-same : (o : Option ℕ) (a b : ℕ) → o ≡ Some a → o ≡ Some b → a ≡ b
some-same o a b is also = cc

-- Links alone count

row-same : (f g : ℕ → Option ℕ) (next : ℕ) (xs : List ℕ) → ((i : ℕ) → Among i xs → g i ≡ f i) → AreInRow f next xs → AreInRow g next xs
row-same f g next [] same r = r
row-same f g next (x ∷ xs) same r = record {
  next_is = r.next_is;
  once = r.once;
  after = r.after;
  link_is = same x (inl refl) ∙ r.link_is;
  goes_on = row-same f g r.after xs (λ i among. same i (inr among)) r.goes_on;
}

-- who stands in the row is free
row-free : (f : ℕ → Option ℕ) (next : ℕ) (xs : List ℕ) → AreInRow f next xs → (i : ℕ) → Among i xs → IsSome (f i)
row-free f next [] r i among = absurd among
row-free f next (x ∷ xs) r i among = ⊎_elim
    (λ e. subst (λ j. IsSome (f j)) e (subst IsSome (sym r.link_is) refl))
    (λ later. row-free f r.after xs r.goes_on i later)
    among

-- where the next place is not free none is
row-over : (f : ℕ → Option ℕ) (next : ℕ) (xs : List ℕ) → AreInRow f next xs → f next ≡ None → (i : ℕ) → Among i xs → ⊥
row-over f next [] r none i among = among
row-over f next (x ∷ xs) r none i among = none-some (f x) (ap f r.next_is ∙ none) (subst IsSome (sym r.link_is) refl)

none-or : (o : Option ℕ) → (IsSome o → ⊥) → o ≡ None
none-or None not = refl
none-or (Some x) not = absurd (not refl)

-- A place is written

link-other : (ps : List Place) (at i : ℕ) (p : Place) → i ≢ at → link_at (slice_set ps at p) i ≡ link_at ps i
link-other ps at i p not = ap (λ (os : List (Option ℕ)). slice_index_or os i None) (map-set link_of ps at p) ∙ get_or-set_other (map link_of ps) at i (link_of p) None not

link-same : (ps : List Place) (at : ℕ) (p : Place) → at < length ps → link_at (slice_set ps at p) at ≡ link_of p
link-same ps at p there = ap (λ (os : List (Option ℕ)). slice_index_or os at None) (map-set link_of ps at p)
    ∙ get_or-set_same (map link_of ps) at (link_of p) None (omega (arith, there, length-map ps link_of))

-- or made at the end
link-made : (ps : List Place) (serial i : ℕ) → link_at (ps ++ Taken serial ∷ []) i ≡ link_at ps i
link-made [] serial zero = refl
link-made [] serial (suc i) = refl
link-made (p ∷ ps) serial zero = refl
link-made (p ∷ ps) serial (suc i) = link-made ps serial i

-- what is not free is taken
taken-there : (ps : List Place) (i : ℕ) → i < length ps → link_at ps i ≡ None → IsSome (slice_index_or (map serial_of ps) i None)
taken-there [] i there none = absurd (omega (arith, there))
taken-there (Free next ∷ ps) zero there none = absurd (none-some (Some next) none refl)
taken-there (Taken serial ∷ ps) zero there none = refl
taken-there (p ∷ ps) (suc i) there none = taken-there ps i (omega (arith, there)) none

-- WHERE THE NEXT PLACE IS NOT FREE each is taken
pub all-taken : (ps : List Place) (next : ℕ) → IsInRow ps next → link_at ps next ≡ None → (i : ℕ) → i < length ps → IsSome (slice_index_or (map serial_of ps) i None)
all-taken ps next r none i there =
    taken-there ps i there (none-or (link_at ps i) (λ some. row-over (link_at ps) next r.free r.row none i (r.each i some)))

-- THE NEXT PLACE IS TAKEN
pub row-taken : (ps : List Place) (next after serial : ℕ) → IsInRow ps next → next < length ps → link_at ps next ≡ Some after → IsInRow (slice_set ps next (Taken serial)) after
row-taken ps next after serial r there free = go r.free r.row r.each
  where
    go : (xs : List ℕ) → AreInRow (link_at ps) next xs → ((i : ℕ) → IsSome (link_at ps i) → Among i xs) → IsInRow (slice_set ps next (Taken serial)) after
    go [] row each = absurd (each next (subst IsSome (sym free) refl))
    go (x ∷ xs) row each = record {
      few = subst (λ n. n ≤ places) (sym (length-set ps next (Taken serial))) r.few;
      free = xs;
      row = subst (λ n. AreInRow (link_at (slice_set ps next (Taken serial))) n xs) (some-same (link_at ps x) row.after after row.link_is (ap (link_at ps) row.next_is ∙ free))
          (row-same (link_at ps) (link_at (slice_set ps next (Taken serial))) row.after xs
          (λ i among. link-other ps next i (Taken serial) (λ e. row.once (subst (λ j. Among j xs) (e ∙ sym row.next_is) among)))
          row.goes_on);
      each = λ i some. ⊎_elim
          (λ e. absurd (none-some _ (ap (link_at (slice_set ps next (Taken serial))) e ∙ link-same ps next (Taken serial) there) some))
          (λ other. ⊎_elim
          (λ e. absurd (other (sym e ∙ row.next_is)))
          (λ later. later)
          (each i (subst IsSome (link-other ps next i (Taken serial) other) some)))
          (cases_eq i next);
    }

-- ONE IS MADE AT THE END
pub row-made : (ps : List Place) (next serial : ℕ) → IsInRow ps next → length ps < places → IsInRow (ps ++ Taken serial ∷ []) next
row-made ps next serial r less = record {
  few = omega (arith, less, length-append ps (Taken serial ∷ []));
  free = r.free;
  row = row-same (link_at ps) (link_at (ps ++ Taken serial ∷ [])) next r.free (λ i among. link-made ps serial i) r.row;
  each = λ i some. r.each i (subst IsSome (link-made ps serial i) some);
}

-- ONE IS FREE AGAIN, and comes next
pub row-freed : (ps : List Place) (next at : ℕ) → IsInRow ps next → at < length ps → link_at ps at ≡ None → IsInRow (slice_set ps at (Free next)) at
row-freed ps next at r there taken = record {
  few = subst (λ n. n ≤ places) (sym (length-set ps at (Free next))) r.few;
  free = at ∷ r.free;
  row = record {
    next_is = refl;
    once = absent;
    after = next;
    link_is = link-same ps at (Free next) there;
    goes_on = row-same (link_at ps) (link_at (slice_set ps at (Free next))) next r.free
        (λ i among. link-other ps at i (Free next) (λ e. absent (subst (λ j. Among j r.free) e among))) r.row;
  };
  each = λ i some. ⊎_elim
      (λ e. inl (sym e))
      (λ other. inr (r.each i (subst IsSome (link-other ps at i (Free next) other) some)))
      (cases_eq i at);
}
  where
    absent : Among at r.free → ⊥
    absent among = none-some (link_at ps at) taken (row-free (link_at ps) next r.free r.row at among)

-- where a root is in use the place is not free
pub used-taken : (ps : List Place) (i : ℕ) → IsSome (slice_index_or (map serial_of ps) i None) → link_at ps i ≡ None
used-taken [] i used = refl
used-taken (Free next ∷ ps) zero used = absurd (false≢true used)
used-taken (Taken serial ∷ ps) zero used = refl
used-taken (p ∷ ps) (suc i) used = used-taken ps i used

-- nothing is free where there is nothing
pub row-none : IsInRow [] 0
row-none = record { few = omega arith; free = []; row = tt; each = λ i some. absurd (false≢true some) }

-- a free place is a place
pub link-there : (ps : List Place) (i after : ℕ) → link_at ps i ≡ Some after → i < length ps
link-there ps i after free = ⊎_elim
    (λ l. l)
    (λ past. absurd (none-some (link_at ps i) (get_or_past (map link_of ps) i None (omega (arith, past, length-map ps link_of))) (subst IsSome (sym free) refl)))
    (cases_lt i (length ps))
