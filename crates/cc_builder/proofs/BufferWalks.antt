-- The buffer from one of its natives on.
use Rattle.std.proofs.Common.{◌≡◌, ℕ, ◌+◌, ◌==◌, Bool, true, false, List, [], ◌∷◌, ◌++◌, map, length, Option, Some, refl, sym, ◌∙◌, ap, inl, inr, ⊎_elim, arith}
use Rattle.std.specs.List.{filter}
use Rattle.std.proofs.lemmas.Bool.{eqb-true, eq-eqb, false≢true}
use Rattle.cc_lists.specs.Members.{Among}
use Rattle.cc_lists.specs.Walks.{HasDistinctKeys, left_at}
use Rattle.cc_lists.proofs.Walks.{next_key-among, left-next}
use Rattle.cc_names.specs.declared.name.Name.{Name}
use Rattle.cc_names.specs.Names.{native}
use Rattle.cc_model.specs.Heap.{Heap, Buffered, buffered_as}
use Rattle.cc_counted.specs.Suspects.{number_behind, is_in_buffer, is_purple_in}
use Rattle.cc_builder.specs.BuildSteps.{purple_name}

-- the buffer from native k on
abbrev pub buffer_from : List Buffered → Option ℕ → List Buffered
buffer_from bs at = left_at (λ b. b.number) bs at

-- each native stands there at most once
abbrev pub IsOnceEach : List Buffered → Type 0
IsOnceEach bs = HasDistinctKeys (λ b. b.number) bs

abbrev place_of : ℕ → Bool → Buffered
place_of k purple = buffered_as k purple

-- what is buffered stands in the list,
buffered-among : (bs : List Buffered) (k : ℕ) → is_in_buffer bs k ≡ true → Among (place_of k (is_purple_in bs k)) bs
buffered-among [] k e = absurd (false≢true e)
buffered-among (b ∷ bs) k e = go (buffered-among bs k) (b.number == k) refl e
  where
    go : (is_in_buffer bs k ≡ true → Among (place_of k (is_purple_in bs k)) bs) → (t : Bool) → (b.number == k) ≡ t →
        elim t [ true ↦ true | false ↦ is_in_buffer bs k ] ≡ true → Among (place_of k (elim t [ true ↦ b.purple | false ↦ is_purple_in bs k ])) (b ∷ bs)
    go ih true t e = inl (ap (λ j. place_of j b.purple) (eqb-true b.number k t))
    go ih false t e = inr (ih e)

-- and what stands there is buffered
among-buffered : (bs : List Buffered) (b : Buffered) (k : ℕ) → Among b bs → b.number ≡ k → is_in_buffer bs k ≡ true
among-buffered [] b k m e = absurd m
among-buffered (c ∷ bs) b k m e = go (among-buffered bs b k) (c.number == k) refl
  where
    go : (Among b bs → b.number ≡ k → is_in_buffer bs k ≡ true) → (t : Bool) → (c.number == k) ≡ t → elim t [ true ↦ true | false ↦ is_in_buffer bs k ] ≡ true
    go ih true t = refl
    go ih false t = ih (⊎_elim (λ s. absurd (false≢true (sym t ∙ eq-eqb c.number k (ap (λ (d : Buffered). d.number) s ∙ e)))) (λ n. n) m) e

-- what stands behind another is there
pub after-there : (bs : List Buffered) (j k : ℕ) → number_behind bs j ≡ Some k → is_in_buffer bs k ≡ true
after-there bs j k e = let f = next_key-among (λ (b : Buffered). b.number) bs j k e in among-buffered bs f.0 k f.1 f.2

-- a native of the buffer, and from the one behind it on
pub from-next : (bs : List Buffered) (k : ℕ) → IsOnceEach bs → is_in_buffer bs k ≡ true →
    buffer_from bs (Some k) ≡ place_of k (is_purple_in bs k) ∷ buffer_from bs (number_behind bs k)
from-next bs k once e = left-next (λ (b : Buffered). b.number) bs (place_of k (is_purple_in bs k)) once (buffered-among bs k e)

-- the names of the purple ones
abbrev pub purple_names : List Buffered → List Name
purple_names bs = map native (map (λ b. b.number) (filter (λ b. b.purple) bs))

-- those of a native and of the ones behind it
pub names-next : (h : Heap) (k : ℕ) → IsOnceEach h.buffer → is_in_buffer h.buffer k ≡ true →
    purple_names (buffer_from h.buffer (Some k)) ≡ purple_name h k ++ purple_names (buffer_from h.buffer (number_behind h.buffer k))
names-next h k once e = ap purple_names (from-next h.buffer k once e) ∙ go (is_purple_in h.buffer k)
  where
    go : (t : Bool) → purple_names (place_of k t ∷ buffer_from h.buffer (number_behind h.buffer k))
        ≡ elim t [ true ↦ native k ∷ [] | false ↦ [] ] ++ purple_names (buffer_from h.buffer (number_behind h.buffer k))
    go true = refl
    go false = refl

-- there is one less behind a native
pub from-shorter : (bs : List Buffered) (k : ℕ) → IsOnceEach bs → is_in_buffer bs k ≡ true →
    length (buffer_from bs (Some k)) ≡ length (buffer_from bs (number_behind bs k)) + 1
from-shorter bs k once e = let f = ap (length {A = Buffered}) (from-next bs k once e) in omega (arith, f)
