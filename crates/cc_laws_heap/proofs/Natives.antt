-- Natives by their numbers: looked up, changed and taken out; and the count that a number has.
use Rattle.std.proofs.Common.{arith, ◌≡◌, ◌≢◌, ℕ, ◌≤◌, not, map, Some, None, option_map, refl, sym, ◌∙◌, ap, subst, count_by, ◌==◌, if◌then◌else◌}
use Rattle.std.proofs.Math.Path.{fun_ext}
use Rattle.std.proofs.lemmas.Bool.{eqb-true, eq-eqb, not-true}
use Rattle.std.proofs.lemmas.Simd.{map-map}
use Rattle.cc_lists.specs.Members.{Among}
use Rattle.cc_lists.proofs.Members.{Among-map, Among-map_cases}
use Rattle.cc_lists.proofs.Counting.{count_by-map}
use Rattle.cc_names.specs.Names.{native}
use Rattle.cc_model.specs.Heap.{Heap, HeapNative, native_at, change_native}
use Rattle.cc_model.specs.Cascade.{removed}
use Rattle.cc_model.specs.WellFormed.{IsRising, IsWellFormed, native_names}
use Rattle.cc_lists.proofs.ListWrites.{map-kept}
use Rattle.cc_laws_heap.specs.Freeing.{uncounted}
use Rattle.cc_lists.proofs.Filtering.{find-among, find-passes}
use Rattle.cc_lists.proofs.Searching.{find-some, find-only, find-map, find-filter, find-dropped}
use Rattle.cc_laws_heap.proofs.Rising.{IsRising-once}
use Rattle.cc_laws_heap.specs.Balance.{has_number, HasDistinctNumbers}

-- natives by rising number have distinct numbers
pub IsRising-distinct : (h : Heap) → IsRising (map (λ n. n.number) h.natives) → HasDistinctNumbers h
IsRising-distinct h r k = subst (λ c. c ≤ 1) (count_by-map (λ j. j == k) (λ (n : HeapNative). n.number) h.natives) (IsRising-once (map (λ n. n.number) h.natives) r k)

-- so have those of well formed heaps
pub IsWellFormed-distinct : (h : Heap) → IsWellFormed h → HasDistinctNumbers h
IsWellFormed-distinct h w = IsRising-distinct h w.rising

-- The native that is found at a number

-- it is there
pub native_at-there : (h : Heap) (k : ℕ) (n : HeapNative) → native_at h k ≡ Some n → Among n h.natives
native_at-there h k n e = find-among (has_number k) h.natives n e

-- it has this number
pub native_at-number : (h : Heap) (k : ℕ) (n : HeapNative) → native_at h k ≡ Some n → n.number ≡ k
native_at-number h k n e = eqb-true n.number k (find-passes (has_number k) h.natives n e)

-- the name of what is found is there
pub native_at-named : (h : Heap) (k : ℕ) (n : HeapNative) → native_at h k ≡ Some n → Among (native k) (native_names h)
native_at-named h k n e = grind (arith, native_at-number, Among-map, native_at-there)

-- each native is found at its number
pub native_at-member : (h : Heap) → HasDistinctNumbers h → (n : HeapNative) → Among n h.natives → native_at h n.number ≡ Some n
native_at-member h d n m = find-only (has_number n.number) h.natives n (d n.number) m (eq-eqb n.number n.number refl)

-- a name that is there is that of a native
pub named-member : (h : Heap) (k : ℕ) → Among (native k) (native_names h) → (n : HeapNative) × Among n h.natives × (n.number ≡ k)
named-member h k m = grind (arith, Among-map_cases)

-- at a name that is there something is found
pub named-found : (h : Heap) (k : ℕ) → Among (native k) (native_names h) → (n : HeapNative) × (native_at h k ≡ Some n)
named-found h k m =
    let f = named-member h k m in
    find-some (has_number k) h.natives f.0 f.1 (eq-eqb f.0.number k f.2)

-- One native changed

-- the native with number k changed, any other left
abbrev pub changed_at : ℕ → (HeapNative → HeapNative) → HeapNative → HeapNative
changed_at k f n = if n.number == k then f n else n

-- a change that leaves each native its number
abbrev pub KeepsNumber : (HeapNative → HeapNative) → Type 0
KeepsNumber f = (n : HeapNative) → (f n).number ≡ n.number

-- then a change of one native leaves each its number
pub changed_at-number : (k : ℕ) (f : HeapNative → HeapNative) → KeepsNumber f → KeepsNumber (changed_at k f)
changed_at-number k f h n = grind arith

-- what is found after one native changed
native_at-change : (h : Heap) (k : ℕ) (f : HeapNative → HeapNative) → KeepsNumber f → (j : ℕ) →
    native_at (change_native h k f) j ≡ option_map (changed_at k f) (native_at h j)
native_at-change h k f e j = grind (arith, changed_at-number, find-map)

-- what is found at the number of the native that changed
pub native_at-change_same : (h : Heap) (k : ℕ) (f : HeapNative → HeapNative) → KeepsNumber f →
    native_at (change_native h k f) k ≡ option_map f (native_at h k)
native_at-change_same h k f e = grind (arith, native_at-change, eq-eqb, native_at-number)

-- and at any other
pub native_at-change_other : (h : Heap) (k : ℕ) (f : HeapNative → HeapNative) → KeepsNumber f → (j : ℕ) → j ≢ k →
    native_at (change_native h k f) j ≡ native_at h j
native_at-change_other h k f e j d = grind (arith, native_at-change, native_at-number)

-- natives keep their names
pub native_names-change : (h : Heap) (k : ℕ) (f : HeapNative → HeapNative) → KeepsNumber f → native_names (change_native h k f) ≡ native_names h
native_names-change h k f e = map-kept (λ (n : HeapNative). native n.number) (changed_at k f) h.natives (λ n. ap native (changed_at-number k f e n))

-- a change that keeps the number of each native keeps them distinct
pub HasDistinctNumbers-change : (h : Heap) (k : ℕ) (f : HeapNative → HeapNative) → KeepsNumber f → HasDistinctNumbers h → HasDistinctNumbers (change_native h k f)
HasDistinctNumbers-change h k f e d j =
    let same : (λ n. has_number j (changed_at k f n)) ≡ has_number j = fun_ext (λ n. ap (λ i. i == j) (changed_at-number k f e n)) in
    subst (λ c. c ≤ 1) (sym (count_by-map (has_number j) (changed_at k f) h.natives ∙ ap (λ p. count_by p h.natives) same)) (d j)

-- a change of counts alone
abbrev pub KeepsUncounted : (HeapNative → HeapNative) → Type 0
KeepsUncounted f = (n : HeapNative) → uncounted (f n) ≡ uncounted n

-- leaves the natives as they are but for their counts
pub uncounted-change : (h : Heap) (k : ℕ) (f : HeapNative → HeapNative) → KeepsUncounted f → map uncounted (change_native h k f).natives ≡ map uncounted h.natives
uncounted-change h k f e = grind (arith, map-map)

-- One native taken out

-- nothing is found at the number that was taken out
pub native_at-removed_same : (h : Heap) (k : ℕ) → native_at (removed h k) k ≡ None
native_at-removed_same h k = find-dropped (has_number k) (λ n. not (has_number k n)) h.natives (λ n e. not-true (has_number k n) e)

-- and at any other what was found before
pub native_at-removed_other : (h : Heap) (k j : ℕ) → j ≢ k → native_at (removed h k) j ≡ native_at h j
native_at-removed_other h k j d = grind (arith, find-filter, eqb-true)
