-- A DRAIN KEEPS THE BALANCE, and each of its steps takes one native out.
use Rattle.std.proofs.Common.{◌≡◌, ℕ, ◌<◌, Bool, false, not, List, [], ◌∷◌, map, length, Some, sym, ◌∙◌, ap, arith, ◌==◌}
use Rattle.std.specs.List.{filter}
use Rattle.std.proofs.lemmas.Bool.{eq-eqb, not_from_true}
use Rattle.std.proofs.lemmas.List.{length-map}
use Rattle.cc_model.specs.Heap.{Heap, HeapNative, native_at}
use Rattle.cc_model.specs.Cascade.{Draining, give_up, give_up_each, natives_of_slots, told_free, free_front, at_rest, drained, cascade}
use Rattle.cc_model.specs.Counts.{times}
use Rattle.cc_model.proofs.Draining.{drained-empties}
use Rattle.cc_laws_heap.specs.Freeing.{uncounted}
use Rattle.cc_lists.proofs.Filtering.{length-filter-less}
use Rattle.cc_lists.proofs.Searching.{filter-map}
use Rattle.cc_laws_heap.proofs.Natives.{native_at-there, native_at-number}
use Rattle.cc_laws_heap.proofs.References.{times-cons_same}
use Rattle.cc_laws_heap.specs.Balance.{IsBalanced, IsSteady, has_number}
use Rattle.cc_laws_heap.proofs.GiveUp.{IsBalanced-give_up}
use Rattle.cc_laws_heap.proofs.FreeFront.{waiting-found, IsBalanced-free_front}
use Rattle.cc_laws_heap.proofs.DrainingAlike.{IsAlike, IsAlike-give_up_each}
use Rattle.cc_laws_heap.proofs.Folding.{drain-keeps}

-- alike heaps are as long where the natives of one number are left out
length-others : (ns ms : List HeapNative) (k : ℕ) → map uncounted ms ≡ map uncounted ns →
    length (filter (λ n. not (has_number k n)) ms) ≡ length (filter (λ n. not (has_number k n)) ns)
length-others ns ms k e = sym (length-uncounted ms) ∙ (ap (λ us. length (filter others us)) e ∙ length-uncounted ns)
  where
    others : HeapNative → Bool
    others u = not (u.number == k)

    length-uncounted : (xs : List HeapNative) → length (filter others (map uncounted xs)) ≡ length (filter (λ n. not (has_number k n)) xs)
    length-uncounted xs = ap length (filter-map others uncounted xs) ∙ length-map (filter (λ n. not (has_number k n)) xs) uncounted

-- what waits in front is there
pub front-found : (owned : List ℕ) (d : Draining) (k : ℕ) (ks : List ℕ) → IsBalanced owned d → d.queue ≡ k ∷ ks →
    (n : HeapNative) × (native_at d.heap k ≡ Some n) × (n.count ≡ 0)
front-found owned d k ks b q = waiting-found d.heap k (omega (arith, b.queue k, ap (times k) q, times-cons_same k ks))

-- a step leaves fewer natives
pub free_front-fewer : (owned : List ℕ) (d : Draining) (k : ℕ) (ks : List ℕ) → IsBalanced owned d → d.queue ≡ k ∷ ks →
    length (free_front d k ks).heap.natives < length d.heap.natives
free_front-fewer owned d k ks b q =
    let f = front-found owned d k ks b q in
    let held : List ℕ = natives_of_slots (native_at d.heap k) in
    let a : IsAlike (told_free d k ks) (give_up_each (told_free d k ks) held) = IsAlike-give_up_each (told_free d k ks) held in
    let out : not (has_number k f.0) ≡ false = not_from_true (has_number k f.0) (eq-eqb f.0.number k (native_at-number d.heap k f.0 f.1)) in
    omega (
      arith,
      length-others d.heap.natives (give_up_each (told_free d k ks) held).heap.natives k a.natives,
      length-filter-less (λ n. not (has_number k n)) d.heap.natives f.0 (native_at-there d.heap k f.0 f.1) out,
    )

-- A CASCADE OF A REFERENCE IN HAND leaves a balance, and none that waits.
pub drained-balanced : (owned : List ℕ) (h : Heap) (k : ℕ) → IsSteady (k ∷ owned) h → IsBalanced owned (drained h k) × ((drained h k).queue ≡ [])
unfolding drained
drained-balanced owned h k b = (
  drain-keeps (IsBalanced owned) (λ d j ks e c. IsBalanced-free_front owned d j ks c e) (length h.natives) (give_up (at_rest h) k)
      (IsBalanced-give_up owned (at_rest h) k b),
  drained-empties h k,
)

-- Heaps are steady after a cascade of a reference in hand.
pub cascade-steady : (owned : List ℕ) (h : Heap) (k : ℕ) → IsSteady (k ∷ owned) h → IsSteady owned (cascade h k).heap
cascade-steady owned h k b =
    let d = drained-balanced owned h k b in
    record { distinct = d.0.distinct; counts = d.0.counts; queue = λ j. ap (times j) (sym d.1) ∙ d.0.queue j; buffer = d.0.buffer }
