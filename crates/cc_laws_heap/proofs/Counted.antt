-- THE COUNT OF EACH NUMBER IS THAT OF ITS REFERENCES: for heaps that are sound this says the same of every number,
-- those of natives that are not there too, which have count zero and no reference.
use Rattle.std.proofs.Common.{◌≡◌, ℕ, ◌+◌, ◌≤◌, List, Option, Some, None, refl, sym, ◌∙◌, ap, subst, ⊎_elim, arith}
use Rattle.std.proofs.lemmas.Bool.{cases_lt}
use Rattle.cc_lists.specs.Members.{Among}
use Rattle.cc_names.specs.Names.{native}
use Rattle.cc_model.specs.Heap.{Heap, HeapNative, native_at}
use Rattle.cc_model.specs.WellFormed.{IsWellFormed, native_names}
use Rattle.cc_model.specs.Counts.{refs_to, times}
use Rattle.cc_laws_heap.specs.Sound.{IsSound}
use Rattle.cc_laws_heap.proofs.Natives.{native_at-there, native_at-number, native_at-named, native_at-member, named-found, IsWellFormed-distinct}
use Rattle.cc_laws_heap.proofs.References.{refs_to-there, times-among, times-some}
use Rattle.cc_laws_heap.specs.Balance.{count_of, count_at, IsCounted}

-- a number with a count is there
pub count_at-found : (h : Heap) (k : ℕ) → 1 ≤ count_at h k → (n : HeapNative) × (native_at h k ≡ Some n)
count_at-found h k some = grind arith

-- and so is its name
count_at-there : (h : Heap) (k : ℕ) → 1 ≤ count_at h k → Among (native k) (native_names h)
count_at-there h k some = let f = count_at-found h k some in native_at-named h k f.0 f.1

-- what is referred to, or owned, has a count
pub IsCounted-referred : (owned : List ℕ) (h : Heap) → IsCounted owned h → (k : ℕ) → 1 ≤ refs_to h k → Among (native k) (native_names h)
IsCounted-referred owned h c k some = count_at-there h k (omega (arith, c k))

-- what is owned is there
pub IsCounted-owned : (owned : List ℕ) (h : Heap) → IsCounted owned h → (k : ℕ) → 1 ≤ times k owned → Among (native k) (native_names h)
IsCounted-owned owned h c k some = count_at-there h k (omega (arith, c k))

-- in sound heaps every number is counted
pub IsSound-counted : (owned : List ℕ) (h : Heap) → IsSound owned h → IsCounted owned h
IsSound-counted owned h s k = go (native_at h k) refl
  where
    not_there : native_at h k ≡ None → Among (native k) (native_names h) → ⊥
    not_there e m = let f = named-found h k m in let both : None ≡ Some f.0 = sym e ∙ f.1 in cc

    go : (o : Option HeapNative) → native_at h k ≡ o → count_of o ≡ refs_to h k + times k owned
    go None e = ⊎_elim (λ some. absurd (not_there e (refs_to-there h k s.well_formed some)))
        (λ none. ⊎_elim (λ some. absurd (not_there e (s.owned_there k (times-among k owned some)))) (λ empty. omega arith) (cases_lt 0 (times k owned)))
        (cases_lt 0 (refs_to h k))
    go (Some n) e = subst (λ j. n.count ≡ refs_to h j + times j owned) (native_at-number h k n e) (s.counts n (native_at-there h k n e))

-- and heaps in which every number is counted are sound, where they are well formed and no native has count zero
pub IsSound-from_counted : (owned : List ℕ) (h : Heap) → IsWellFormed h → IsCounted owned h → ((n : HeapNative) → Among n h.natives → 1 ≤ n.count) → IsSound owned h
IsSound-from_counted owned h w c above = record {
  well_formed = w;
  counts = λ n m. let here : native_at h n.number ≡ Some n = native_at-member h (IsWellFormed-distinct h w) n m in
      ap count_of (sym here) ∙ c n.number;
  none_zero = above;
  owned_there = λ k m. IsCounted-owned owned h c k (times-some k owned m);
}
