-- A CASCADE CONSISTS OF SUCH CHANGES, where each count is that of the references and no native waits. The balance is that of `all`, of which some
-- are in hand.
use Rattle.std.proofs.Common.{◌≡◌, ℕ, zero, suc, ◌≤◌, List, [], ◌∷◌, ◌++◌, length, Some, refl, sym, ◌∙◌, ap, subst, arith}
use Rattle.std.proofs.lemmas.List.{append-nil}
use Rattle.cc_names.specs.Names.{native}
use Rattle.cc_model.specs.declared.item.Event.{Event}
use Rattle.cc_model.specs.declared.item.Event.TheVariants.{Freed}
use Rattle.cc_model.specs.Heap.{Heap, HeapNative, native_at}
use Rattle.cc_model.specs.Cascade.{Draining, lowered, queued, fallen, given_up, give_up, give_up_each, natives_of_slots, told_free, without_native, free_front, at_rest, drained, cascade}
use Rattle.cc_model.specs.Counts.{refs_to, times}
use Rattle.cc_laws_heap.specs.Balance.{IsBalanced, IsSteady, count_of, count_at}
use Rattle.cc_laws_heap.specs.Stages.{Stage, stage, Done, NothingBesides}
use Rattle.cc_laws_heap.specs.Stages.Done.{nothing, followed, suspected, waits, freed}
use Rattle.cc_laws_heap.proofs.References.{times-cons_same, refs_to-removed}
use Rattle.cc_laws_heap.proofs.Counted.{count_at-found}
use Rattle.cc_laws_heap.proofs.GiveUp.{IsBalanced-give_up}
use Rattle.cc_laws_heap.proofs.FreeFront.{IsBalanced-removed, IsBalanced-free_front, without_native-give_up_each}
use Rattle.cc_laws_heap.proofs.Drain.{front-found, drained-balanced}
use Rattle.cc_laws_heap.proofs.Folding.{IsKept, done-keeps, drain-keeps}

-- a change more of which nothing is told
pub quietly : (B : Stage → List Event → Stage → Type 0) (s t u : Stage) (xs : List Event) → Done B s xs t → Done B t [] u → Done B s xs u
quietly B s t u xs a b = subst (λ es. Done B s es u) (append-nil xs) (followed s t u xs [] a b)

module _ (B : Stage → List Event → Stage → Type 0) (s : Stage) where
  -- done so far
  abbrev DoneSo : List ℕ → Draining → Type 0
  DoneSo hand d = Done B s d.events (stage hand d.queue d.heap)

  -- a reference in hand is given up
  give_up-done : (hand all : List ℕ) (d : Draining) (k : ℕ) → IsBalanced (k ∷ all) d → DoneSo (k ∷ hand) d → DoneSo hand (give_up d k)
  give_up-done hand all d k b so =
      let some : 1 ≤ count_at d.heap k = omega (arith, b.counts k, times-cons_same k all) in
      let f = count_at-found d.heap k some in
      subst (λ o. DoneSo hand (given_up d k o)) (sym f.1) (fall f.0 f.1 (subst (λ c. 1 ≤ c) (ap count_of f.1) some) f.0.count refl)
    where
      here : Stage
      here = stage (k ∷ hand) d.queue d.heap

      fall : (n : HeapNative) → native_at d.heap k ≡ Some n → 1 ≤ n.count → (c : ℕ) → n.count ≡ c → DoneSo hand (fallen d k c)
      fall n e l zero z = absurd (omega arith)
      fall n e l (suc zero) z = quietly B s here (stage hand (queued d k).queue (queued d k).heap) d.events so (waits hand d.queue d.heap k n e z)
      fall n e l (suc (suc c)) z = quietly B s here (stage hand d.queue (lowered d k).heap) d.events so (suspected hand d.queue d.heap k n e (omega arith))

  -- several are given up
  give_up_each-done : (hand all : List ℕ) (d : Draining) (js : List ℕ) → IsBalanced (js ++ all) d → DoneSo (js ++ hand) d → DoneSo hand (give_up_each d js)
  give_up_each-done hand all d [] b so = so
  give_up_each-done hand all d (j ∷ js) b so =
      give_up_each-done hand all (give_up d j) js (IsBalanced-give_up (js ++ all) d j b) (give_up-done (js ++ hand) (js ++ all) d j b so)

  -- the front is freed
  free_front-done : (hand all : List ℕ) (d : Draining) (k : ℕ) (ks : List ℕ) → IsBalanced all d → d.queue ≡ k ∷ ks → DoneSo hand d → DoneSo hand (free_front d k ks)
  free_front-done hand all d k ks b q so =
      let f = front-found all d k ks b q in
      let held : List ℕ = natives_of_slots (Some f.0) in
      let out : Draining = without_native (told_free d k ks) k in
      let none : refs_to d.heap k ≡ 0 = omega (arith, b.counts k, ap count_of f.1 ∙ f.2) in
      let itself : times k held ≡ 0 = omega (arith, none, refs_to-removed d.heap k f.0 b.distinct f.1 k) in
      let first : DoneSo (held ++ hand) out = followed s (stage hand (k ∷ ks) d.heap) (stage (held ++ hand) ks out.heap) d.events (Freed (native k) ∷ [])
      (subst (λ xs. Done B s d.events (stage hand xs d.heap)) q so) (freed hand ks d.heap k f.0 f.1 b.distinct none) in
      subst (λ o. DoneSo hand (without_native (give_up_each (told_free d k ks) (natives_of_slots o)) k)) (sym f.1)
      (subst (DoneSo hand) (sym (without_native-give_up_each (told_free d k ks) held k itself))
      (give_up_each-done hand all out held (IsBalanced-removed all d k ks f.0 b q f.1 f.2) first))

-- WHAT A CASCADE DOES: a reference in hand is given up, and in the end no native waits.
pub cascade-done : (B : Stage → List Event → Stage → Type 0) (hand all : List ℕ) (h : Heap) (k : ℕ) → IsSteady (k ∷ all) h →
    Done B (stage (k ∷ hand) [] h) (cascade h k).events (stage hand [] (cascade h k).heap)
unfolding drained
cascade-done B hand all h k b =
    let start : Stage = stage (k ∷ hand) [] h in
    subst (λ q. Done B start (drained h k).events (stage hand q (drained h k).heap)) (drained-balanced all h k b).1
    (drain-keeps (λ d. IsBalanced all d × DoneSo B start hand d)
    (λ d j ks e so. (IsBalanced-free_front all d j ks so.0 e, free_front-done B start hand all d j ks so.0 e so.1))
    (length h.natives) (give_up (at_rest h) k) (IsBalanced-give_up all (at_rest h) k b, give_up-done B start hand all (at_rest h) k b (nothing start))).1

-- WHAT EACH KIND OF CHANGE KEEPS, A CASCADE KEEPS.
pub cascade-keeps : (R : Stage → List Event → Stage → Type 0) → IsKept R → (hand all : List ℕ) (h : Heap) (k : ℕ) → IsSteady (k ∷ all) h →
    R (stage (k ∷ hand) [] h) (cascade h k).events (stage hand [] (cascade h k).heap)
cascade-keeps R each hand all h k b = done-keeps R NothingBesides each (λ s es t n. absurd n) (stage (k ∷ hand) [] h) (cascade h k).events (stage hand [] (cascade h k).heap)
    (cascade-done NothingBesides hand all h k b)
