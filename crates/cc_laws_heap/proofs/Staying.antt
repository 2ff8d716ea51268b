-- NATIVES THAT ARE LEFT ARE AS THEY WERE, but for counts and where they were unlinked; and what was emptied stays so.
use Rattle.std.proofs.Common.{arith, ◌≡◌, ℕ, suc, not, List, ◌∷◌, set, None, refl, ◌∙◌, ap, subst}
use Rattle.std.proofs.lemmas.Bool.{eqb-true}
use Rattle.std.proofs.lemmas.List.{length-set}
use Rattle.cc_lists.specs.Members.{Among}
use Rattle.cc_lists.proofs.Members.{Among-map_cases, Among-filtered}
use Rattle.cc_model.specs.declared.item.Event.{Event}
use Rattle.cc_model.specs.Slots.{empty_slots}
use Rattle.cc_model.specs.Heap.{Heap, HeapNative, change_native, with_native_slot, as_unlinked, suspect, forget}
use Rattle.cc_model.specs.Cascade.{add_ref, lower}
use Rattle.cc_model.specs.StandsFor.{IsEmptied}
use Rattle.cc_laws_heap.specs.Balance.{has_number}
use Rattle.cc_laws_heap.specs.Freeing.{uncounted}
use Rattle.cc_laws_heap.specs.Stages.{Stage, Done, Ending}
use Rattle.cc_laws_heap.specs.Stages.Ending.{reordered, raised, told, emptied, unlinked}
use Rattle.cc_laws_heap.proofs.Natives.{KeepsNumber, uncounted-change}
use Rattle.cc_laws_heap.proofs.GiveUp.{lower_native}
use Rattle.cc_laws_heap.proofs.HoldsTheSame.{HoldsTheSame-add_ref}
use Rattle.cc_laws_heap.proofs.Folding.{done-keeps}
use Rattle.cc_laws_heap.proofs.Leaving.{IsOf, IsOf-alike}

-- a native that is as one that was emptied is, but for its count, is emptied
pub uncounted-emptied : (m n : HeapNative) → uncounted m ≡ uncounted n → IsEmptied m → IsEmptied n
uncounted-emptied m n e t = grind arith

-- empty slots stay so where one of them is emptied
empty_slots-set : (l i : ℕ) → set (empty_slots l) i None ≡ empty_slots l
empty_slots-set (suc l) (suc i) = ap (λ slots. None ∷ slots) (empty_slots-set l i)
empty_slots-set _ _ = refl

-- what is emptied stays so where a slot of it is emptied
IsEmptied-slot : (i : ℕ) (n : HeapNative) → IsEmptied n → IsEmptied (with_native_slot i None n)
IsEmptied-slot i n t = grind (arith, empty_slots-set, length-set)

-- what is emptied and unlinked again stays so
IsEmptied-again : (n : HeapNative) → IsEmptied n → IsEmptied (as_unlinked n)
IsEmptied-again n t = record { unlinked = refl; slots = t.slots; preserved = refl }

-- a native is as one of the heaps was, but for its count, unless it is one of these; and it is emptied where that was
pub record ComesFrom (ks : List ℕ) (h : Heap) (n : HeapNative) : Type 0 where
  pub was : HeapNative
  pub there : Among was h.natives
  pub number : was.number ≡ n.number
  pub same : ¬ (Among n.number ks) → uncounted was ≡ uncounted n
  pub still : IsEmptied was → IsEmptied n

module _ (ks : List ℕ) where
  -- what is as it was
  from-of : (h : Heap) (n : HeapNative) → IsOf h n → ComesFrom ks h n
  from-of h n i = record { was = i.0; there = i.1; number = ap (λ (u : HeapNative). u.number) i.2; same = λ d. i.2; still = uncounted-emptied i.0 n i.2 }

  -- what comes from heaps that come from others
  from-then : (h g : Heap) (n : HeapNative) → ((m : HeapNative) → Among m g.natives → ComesFrom ks h m) → ComesFrom ks g n → ComesFrom ks h n
  from-then h g n a b =
      let c = a b.was b.there in
      record {
        was = c.was;
        there = c.there;
        number = c.number ∙ b.number;
        same = λ d. c.same (λ m. d (subst (λ j. Among j ks) b.number m)) ∙ b.same d;
        still = λ e. b.still (c.still e);
      }

  -- what one of these natives was changed to
  from-changed : (h : Heap) (k : ℕ) (f : HeapNative → HeapNative) → KeepsNumber f → ((n : HeapNative) → IsEmptied n → IsEmptied (f n)) → Among k ks →
      (n : HeapNative) → Among n (change_native h k f).natives → ComesFrom ks h n
  from-changed h k f number keeps own n m = grind (arith, Among-map_cases, eqb-true, from-of)

  -- each native of the second stage comes from one of the first
  abbrev StaysTo : Stage → List Event → Stage → Type 0
  StaysTo s es t = (n : HeapNative) → Among n t.heap.natives → ComesFrom ks s.heap n

  -- what the end of a collection does besides
  ending-stays : (s : Stage) (es : List Event) (t : Stage) → Ending ks s es t → StaysTo s es t
  ending-stays _ _ _ (reordered early late h same) = λ n m. from-of h n (n, m, refl)
  ending-stays _ _ _ (raised hand h k own) = λ n m. from-of h n (IsOf-alike h (add_ref h k) (HoldsTheSame-add_ref h k).natives n m)
  ending-stays _ _ _ (told hand h k own) = λ n m. from-of h n (n, m, refl)
  ending-stays _ _ _ (emptied hand h k i n x own d e room content) = from-changed h k (with_native_slot i None) (λ o. refl) (IsEmptied-slot i) own
  ending-stays _ _ _ (unlinked hand h k own) = from-changed h k as_unlinked (λ n. refl) IsEmptied-again own

  -- NATIVES STAY AS THEY WERE, unless they are unlinked: in cascades, and in ends of collections.
  pub done-stays : (s : Stage) (es : List Event) (t : Stage) → Done (Ending ks) s es t → (n : HeapNative) → Among n t.heap.natives → ComesFrom ks s.heap n
  done-stays = done-keeps StaysTo (Ending ks) (record {
    nothing = λ s. λ n m. from-of s.heap n (n, m, refl);
    followed = λ s t u xs ys a b. λ n m. from-then s.heap t.heap n a (b n m);
    suspected = λ hand queue h k o e c. λ n m. from-of h n (IsOf-alike h (suspect (lower h k) k) (uncounted-change h k lower_native (λ o. refl)) n m);
    waits = λ hand queue h k o e c. λ n m. from-of h n (IsOf-alike h (forget (lower h k) k) (uncounted-change h k lower_native (λ o. refl)) n m);
    freed = λ hand queue h k o e d r. λ n m. from-of h n (n, Among-filtered (λ p. not (has_number k p)) n h.natives m, refl);
  }) ending-stays
