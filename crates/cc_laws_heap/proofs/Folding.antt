-- WHAT EACH KIND OF CHANGE KEEPS, ALL THAT IS DONE KEEPS: a property of what is done is one lemma for each kind.
use Rattle.std.proofs.Common.{arith, ◌≡◌, ℕ, zero, suc, ◌≤◌, List, [], ◌∷◌, ◌++◌, Some}
use Rattle.cc_names.specs.Names.{native}
use Rattle.cc_model.specs.declared.item.Event.{Event}
use Rattle.cc_model.specs.declared.item.Event.TheVariants.{Freed}
use Rattle.cc_model.specs.Heap.{Heap, HeapNative, native_at, suspect, forget}
use Rattle.cc_model.specs.Cascade.{Draining, lower, removed, natives_of_slots, free_front, drain}
use Rattle.cc_model.specs.Counts.{refs_to}
use Rattle.cc_laws_heap.specs.Balance.{HasDistinctNumbers}
use Rattle.cc_laws_heap.specs.Stages.{Stage, stage, Done}
use Rattle.cc_laws_heap.specs.Stages.Done.{nothing, followed, suspected, waits, freed, besides}

-- it holds where nothing is done, of one thing after another, and of each kind that a cascade consists of
pub record IsKept (R : Stage → List Event → Stage → Type 0) : Type 0 where
  pub nothing : (s : Stage) → R s [] s
  pub followed : (s t u : Stage) (xs ys : List Event) → R s xs t → R t ys u → R s (xs ++ ys) u
  pub suspected : (hand queue : List ℕ) (h : Heap) (k : ℕ) (n : HeapNative) → native_at h k ≡ Some n → 2 ≤ n.count →
      R (stage (k ∷ hand) queue h) [] (stage hand queue (suspect (lower h k) k))
  pub waits : (hand queue : List ℕ) (h : Heap) (k : ℕ) (n : HeapNative) → native_at h k ≡ Some n → n.count ≡ 1 →
      R (stage (k ∷ hand) queue h) [] (stage hand (queue ++ k ∷ []) (forget (lower h k) k))
  pub freed : (hand ks : List ℕ) (h : Heap) (k : ℕ) (n : HeapNative) → native_at h k ≡ Some n → HasDistinctNumbers h → refs_to h k ≡ 0 →
      R (stage hand (k ∷ ks) h) (Freed (native k) ∷ []) (stage (natives_of_slots (Some n) ++ hand) ks (removed h k))

-- IT HOLDS OF ALL THAT IS DONE, where it holds of what is done besides.
pub done-keeps : (R B : Stage → List Event → Stage → Type 0) → IsKept R → ((s : Stage) (es : List Event) (t : Stage) → B s es t → R s es t) →
    (s : Stage) (es : List Event) (t : Stage) → Done B s es t → R s es t
done-keeps R B each more _ _ _ (nothing s) = each.nothing s
done-keeps R B each more _ _ _ (followed s t u xs ys a b) = each.followed s t u xs ys (done-keeps R B each more s xs t a) (done-keeps R B each more t ys u b)
done-keeps R B each more _ _ _ (suspected hand queue h k n e c) = each.suspected hand queue h k n e c
done-keeps R B each more _ _ _ (waits hand queue h k n e c) = each.waits hand queue h k n e c
done-keeps R B each more _ _ _ (freed hand ks h k n e d r) = each.freed hand ks h k n e d r
done-keeps R B each more _ _ _ (besides s es t b) = more s es t b

-- WHAT THE FREEING OF A NATIVE KEEPS, A DRAIN KEEPS, whatever the counts.
pub drain-keeps : (Q : Draining → Type 0) → ((d : Draining) (k : ℕ) (ks : List ℕ) → d.queue ≡ k ∷ ks → Q d → Q (free_front d k ks)) →
    (n : ℕ) (d : Draining) → Q d → Q (drain n d)
unfolding drain
drain-keeps Q step zero d q = q
drain-keeps Q step (suc n) d q = grind (arith, drain-keeps Q step n)
