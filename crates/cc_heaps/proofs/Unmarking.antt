-- A NATIVE LOSES ITS MARK in the buffer: to take the mark of one that is there is to touch it, and of one that is not there
-- nothing.
use Rattle.std.proofs.Common.{◌≡◌, ℕ, ◌+◌, ◌≤◌, ◌==◌, Bool, true, false, cond, List, [], ◌∷◌, map, Some, refl, sym, ap, subst, arith, count_by, if◌then◌else◌}
use Rattle.std.specs.Option.{is_some}
use Rattle.std.proofs.lemmas.Bool.{true≢false}
use Rattle.cc_lists.proofs.Counting.{count_by-cons}
use Rattle.cc_lists.specs.Members.{Among}
use Rattle.cc_names.specs.Names.{native}
use Rattle.cc_model.specs.Heap.{Buffered, touch, with_mark}
use Rattle.cc_model.specs.Skipping.{unmarked, without_mark}
use Rattle.cc_model.specs.WellFormed.{native_names}
use Rattle.cc_laws_heap.proofs.Face.{with_buffer}
use Rattle.cc_laws_snapshot.proofs.Face.{unmarked-colours, unmarked-fresh, unmarked-suspected}
use Rattle.cc_counted.specs.Suspects.{is_in_buffer}
use Rattle.cc_heaps.specs.Keyed.{Keyed, IsInOrder, changed_to, number_at, the_number}
use Rattle.cc_heaps.specs.Keeping.{KeepsAllIfReached}
use Rattle.cc_heaps.specs.Standing.{IsReached}
use Rattle.cc_heaps.proofs.Calls.{number-there}
use Rattle.cc_heaps.proofs.FewCounts.{few-owned}
use Rattle.cc_heaps.proofs.KeysKept.{KeepsKeys-changed}
use Rattle.cc_heaps.proofs.MarksKept.{marks-changed}
use Rattle.cc_heaps.proofs.Ordered.{IsInOrder-marked}

-- how often a native stands in the buffer
abbrev times_in : ℕ → List Buffered → ℕ
times_in k bs = count_by (λ (b : Buffered). b.number == k) bs

-- the buffer with the mark of native k taken
abbrev taken : ℕ → List Buffered → List Buffered
taken k bs = map (without_mark k) bs

-- one place of the buffer, by whether it is that of the native
abbrev at_place : Bool → Buffered → Buffered
at_place t b = if t then record b { purple = false } else b

-- a native that is not in the buffer has no mark to lose
pub taken-absent : (k : ℕ) (bs : List Buffered) → is_in_buffer bs k ≡ false → taken k bs ≡ bs
taken-absent k [] e = refl
taken-absent k (b ∷ bs) e = go (taken-absent k bs) (b.number == k) refl e
  where
    go : (is_in_buffer bs k ≡ false → taken k bs ≡ bs) → (t : Bool) → (b.number == k) ≡ t → elim t [ true ↦ true | false ↦ is_in_buffer bs k ] ≡ false →
        at_place t b ∷ taken k bs ≡ b ∷ bs
    go ih true t e = absurd (true≢false e)
    go ih false t e = ap (λ cs. b ∷ cs) (ih e)

-- one that stands there no time is not in the buffer
absent-times : (k : ℕ) (bs : List Buffered) → times_in k bs ≡ 0 → is_in_buffer bs k ≡ false
absent-times k [] e = refl
absent-times k (b ∷ bs) e = go (absent-times k bs) (b.number == k) refl
  where
    counted : (t : Bool) → (b.number == k) ≡ t → times_in k (b ∷ bs) ≡ cond t 1 0 + times_in k bs
    counted t is = subst (λ u. times_in k (b ∷ bs) ≡ cond u 1 0 + times_in k bs) is (count_by-cons (λ (c : Buffered). c.number == k) b bs)

    go : (times_in k bs ≡ 0 → is_in_buffer bs k ≡ false) → (t : Bool) → (b.number == k) ≡ t → elim t [ true ↦ true | false ↦ is_in_buffer bs k ] ≡ false
    go ih true is = absurd (omega (arith, e, counted true is))
    go ih false is = ih (omega (arith, e, counted false is))

-- TO TAKE THE MARK of a native that stands in the buffer once is to touch it
pub taken-touched : (k : ℕ) (bs : List Buffered) → times_in k bs ≤ 1 → is_in_buffer bs k ≡ true → with_mark false k bs ≡ taken k bs
taken-touched k [] once e = absurd (true≢false (sym e))
taken-touched k (b ∷ bs) once e = go (taken-touched k bs) (b.number == k) refl e
  where
    counted : (t : Bool) → (b.number == k) ≡ t → times_in k (b ∷ bs) ≡ cond t 1 0 + times_in k bs
    counted t is = subst (λ u. times_in k (b ∷ bs) ≡ cond u 1 0 + times_in k bs) is (count_by-cons (λ (c : Buffered). c.number == k) b bs)

    go : (times_in k bs ≤ 1 → is_in_buffer bs k ≡ true → with_mark false k bs ≡ taken k bs) → (t : Bool) → (b.number == k) ≡ t →
        elim t [ true ↦ true | false ↦ is_in_buffer bs k ] ≡ true →
        elim t [ true ↦ record b { purple = false } ∷ bs | false ↦ b ∷ with_mark false k bs ] ≡ at_place t b ∷ taken k bs
    go ih true is e =
        let none : times_in k bs ≡ 0 = omega (arith, once, counted true is) in
        ap (λ cs. record b { purple = false } ∷ cs) (sym (taken-absent k bs (absent-times k bs none)))
    go ih false is e = ap (λ cs. b ∷ cs) (ih (omega (arith, once, counted false is)) e)

-- HEAPS IN ORDER in which a native loses its mark

-- one that is in the buffer is touched
pub touched-unmarked : (owned : List ℕ) (v : Keyed) (k : ℕ) → IsInOrder owned v → is_in_buffer v.heap.buffer k ≡ true → touch v.heap k ≡ unmarked v.heap k
touched-unmarked owned v k o e = ap (with_buffer v.heap) (taken-touched k v.heap.buffer (o.sound.well_formed.buffered_once k) e)

-- one that is not in it has no mark to lose
pub absent-unmarked : (v : Keyed) (k : ℕ) → is_in_buffer v.heap.buffer k ≡ false → v ≡ changed_to v (unmarked v.heap k)
absent-unmarked v k e = sym (ap (λ bs. changed_to v (with_buffer v.heap bs)) (taken-absent k v.heap.buffer e))

-- they stay in order
order-unmarked : (owned : List ℕ) (v : Keyed) (k : ℕ) → Among (native k) (native_names v.heap) → IsInOrder owned v → IsInOrder owned (changed_to v (unmarked v.heap k))
order-unmarked owned v k there o = go (is_in_buffer v.heap.buffer k) refl
  where
    go : (t : Bool) → is_in_buffer v.heap.buffer k ≡ t → IsInOrder owned (changed_to v (unmarked v.heap k))
    go true e = subst (λ h. IsInOrder owned (changed_to v h)) (touched-unmarked owned v k o e) (IsInOrder-marked owned v false k there o)
    go false e = subst (IsInOrder owned) (absent-unmarked v k e) o

-- and keep all, where the native is reached
unmarked-all : (owned : List ℕ) (v : Keyed) (k : ℕ) → IsInOrder owned v → Among (native k) (native_names v.heap) →
    KeepsAllIfReached (IsReached v.heap (Some (native k))) v (changed_to v (unmarked v.heap k))
unmarked-all owned v k o there = record {
  keys = KeepsKeys-changed v (changed_to v (unmarked v.heap k)) (unmarked v.heap k) refl;
  order = λ others p. order-unmarked others v k there p;
  counts = few-owned (changed_to v (unmarked v.heap k));
  colours = unmarked-colours v.heap k;
  fresh = λ s. unmarked-fresh v.heap s k;
  suspected = λ reached candidates. unmarked-suspected v.heap k candidates o.sound.well_formed reached;
  marks = marks-changed v (changed_to v (unmarked v.heap k)) (unmarked v.heap k) refl;
}

-- the native at a key
pub unmarked-keeps : (v w : Keyed) (key : ℕ) → is_some (number_at v key) ≡ true → ((owned : List ℕ) × IsInOrder owned v) → w ≡ changed_to v (unmarked v.heap (the_number v key)) →
    KeepsAllIfReached (IsReached v.heap (Some (native (the_number v key)))) v w
unmarked-keeps v w key live ready e = subst (KeepsAllIfReached (IsReached v.heap (Some (native (the_number v key)))) v) (sym e)
    (unmarked-all ready.0 v (the_number v key) ready.1 (number-there ready.0 v key ready.1 live))
