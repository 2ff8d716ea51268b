-- A CASCADE LEAVES SOUND HEAPS.
use Rattle.std.proofs.Common.{◌≡◌, ℕ, ◌<◌, ◌≤◌, not, List, ◌∷◌, Option, Some, None, refl, sym, ◌∙◌, ap, subst, ⊎_elim, arith, ◌==◌, map, Bool}
use Rattle.std.proofs.lemmas.Bool.{cases_lt, eqb-true}
use Rattle.cc_lists.specs.Members.{Among, has}
use Rattle.cc_lists.proofs.Counting.{counted_is}
use Rattle.cc_names.specs.Names.{native}
use Rattle.cc_model.specs.Heap.{Heap, HeapNative, native_at}
use Rattle.cc_model.specs.Cascade.{at_rest, cascade}
use Rattle.cc_model.specs.WellFormed.{IsWellFormed, native_names}
use Rattle.cc_model.specs.Counts.{refs_to}
use Rattle.cc_laws_heap.specs.Sound.{IsSound}
use Rattle.cc_laws_heap.specs.Freeing.{Frees, uncounted, SameBeside}
use Rattle.cc_laws_heap.proofs.Natives.{native_at-there, native_at-named, native_at-member, named-found, IsWellFormed-distinct}
use Rattle.cc_laws_heap.proofs.Beside.{SameBeside-is}
use Rattle.cc_laws_heap.proofs.Counted.{IsCounted-referred, IsSound-counted, IsSound-from_counted}
use Rattle.cc_laws_heap.proofs.GiveUp.{living-one}
use Rattle.cc_laws_heap.specs.Balance.{one_at_zero, one_above_zero, waiting, living, IsBalanced, has_place, places, IsSteady}
use Rattle.cc_laws_heap.proofs.Drain.{cascade-steady}
use Rattle.cc_laws_heap.proofs.CascadeTakesOut.{cascade-frees_steady, TakesOut-cascade}
use Rattle.cc_laws_heap.proofs.WellFormedStays.{IsPart, IsWellFormed-part}
use Rattle.std.specs.List.{filter}

-- a count above zero is not that of a native that waits
pub one_at_zero-above : (c : ℕ) → 1 ≤ c → one_at_zero c ≡ 0
one_at_zero-above c s = grind arith

-- a count above zero is that of a native that lives
pub one_above_zero-above : (c : ℕ) → 1 ≤ c → one_above_zero c ≡ 1
one_above_zero-above c s = grind arith

-- the count of a native that does not wait is above zero
pub above-one_at_zero : (c : ℕ) → one_at_zero c ≡ 0 → 1 ≤ c
above-one_at_zero c e = grind arith

-- sound heaps at rest are balanced
pub IsBalanced-at_rest : (owned : List ℕ) (h : Heap) → IsSound owned h → IsBalanced owned (at_rest h)
IsBalanced-at_rest owned h s = record {
  distinct = IsWellFormed-distinct h s.well_formed;
  counts = IsSound-counted owned h s;
  queue = λ k. sym (none_waits k (native_at h k) refl);
  buffer = buffer;
}
  where
    none_waits : (k : ℕ) (o : Option HeapNative) → native_at h k ≡ o → waiting o ≡ 0
    none_waits k None e = refl
    none_waits k (Some n) e = one_at_zero-above n.count (s.none_zero n (native_at-there h k n e))

    buffer : (k : ℕ) → places k h.buffer ≤ living (native_at h k)
    buffer k = ⊎_elim lives (λ none. omega arith) (cases_lt 0 (places k h.buffer))
      where
        lives : 0 < places k h.buffer → places k h.buffer ≤ living (native_at h k)
        lives some =
            let f = counted_is (has_place k) h.buffer some in
            let named : Among (native k) (native_names h) =
            subst (λ j. Among (native j) (native_names h)) (eqb-true f.0.number k f.2) (s.well_formed.buffered f.0 f.1) in
            let n = named-found h k named in
            omega (
              arith,
              s.well_formed.buffered_once k,
              ap living n.1 ∙ one_above_zero-above n.0.count (s.none_zero n.0 (native_at-there h k n.0 n.1)),
            )

-- steady heaps are sound that are a part of well formed ones: natives whose numbers pass a test, and the same beside
pub IsSound-steady : (owned : List ℕ) (h g : Heap) (p : ℕ → Bool) → IsWellFormed h →
    map uncounted g.natives ≡ filter (λ (u : HeapNative). p u.number) (map uncounted h.natives) → SameBeside h g → IsSteady owned g → IsSound owned g
IsSound-steady owned h g p w natives beside b = IsSound-from_counted owned g well_formed b.counts above
  where
    is_whole : g ≡ record h { natives = g.natives; buffer = g.buffer }
    is_whole = SameBeside-is h g beside

    lives : (k : ℕ) → 1 ≤ places k g.buffer → Among (native k) (native_names g)
    lives k some = go (native_at g k) refl (omega (arith, b.buffer k))
      where
        go : (o : Option HeapNative) → native_at g k ≡ o → 1 ≤ living o → Among (native k) (native_names g)
        go None e l = absurd (omega arith)
        go (Some n) e l = native_at-named g k n e

    part : IsPart h p g.natives g.buffer
    part = record {
      natives = natives;
      referred = subst (λ f. (k : ℕ) → 1 ≤ refs_to f k → Among (native k) (native_names f)) is_whole (IsCounted-referred owned g b.counts);
      buffered = lives;
      buffered_once = λ k. omega (arith, b.buffer k, living-one (native_at g k));
    }

    well_formed : IsWellFormed g
    well_formed = subst IsWellFormed (sym is_whole) (IsWellFormed-part h p g.natives g.buffer part w)

    above : (n : HeapNative) → Among n g.natives → 1 ≤ n.count
    above n m = above-one_at_zero n.count (sym (ap waiting (native_at-member g b.distinct n m)) ∙ sym (b.queue n.number))

module _ (owned : List ℕ) (h : Heap) (k : ℕ) (s : IsSound (k ∷ owned) h) where
  -- What a cascade tells is what it takes out.
  pub cascade-frees : (ks : List ℕ) × Frees h ks (cascade h k)
  cascade-frees = cascade-frees_steady owned h k (IsBalanced-at_rest (k ∷ owned) h s)

  -- A cascade leaves sound heaps.
  pub cascade-sound : IsSound owned (cascade h k).heap
  cascade-sound =
      let t = TakesOut-cascade h k in
      IsSound-steady owned h (cascade h k).heap (λ j. not (has ◌==◌ t.0 j)) s.well_formed t.1.natives t.1.beside
      (cascade-steady owned h k (IsBalanced-at_rest (k ∷ owned) h s))
