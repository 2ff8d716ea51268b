-- WHAT THE END OF A COLLECTION TELLS: the numbers of unlinked and of freed natives, list by list.
use Rattle.std.proofs.Common.{arith, ◌≡◌, ℕ, List, [], ◌∷◌, map, refl, ap, subst, ⊎_elim}
use Rattle.cc_lists.specs.Members.{Among}
use Rattle.cc_lists.proofs.Members.{Among-append}
use Rattle.cc_model.specs.declared.item.Event.{Event}
use Rattle.cc_model.specs.Lawful.{unlinked_numbers}
use Rattle.cc_laws_heap.specs.Ending.{freed_numbers, NamesNative}
use Rattle.cc_laws_heap.specs.Stages.{Stage, Done, Ending}
use Rattle.cc_laws_heap.proofs.Folding.{done-keeps}
use Rattle.cc_laws_heap.proofs.Freed.{freed_event}

-- these natives are told unlinked, those freed, each in this order
pub record TellsOf (es : List Event) (us ks : List ℕ) : Type 0 where
  pub unlinked_told : unlinked_numbers es ≡ us
  pub freed_told : freed_numbers es ≡ ks

-- free lines tell what was freed
pub TellsOf-freed : (ks : List ℕ) → TellsOf (map freed_event ks) [] ks
TellsOf-freed ks = record { unlinked_told = none ks; freed_told = all ks }
  where
    none : (js : List ℕ) → unlinked_numbers (map freed_event js) ≡ []
    none [] = refl
    none (j ∷ js) = none js

    all : (js : List ℕ) → freed_numbers (map freed_event js) ≡ js
    all [] = refl
    all (j ∷ js) = ap (λ ls. j ∷ ls) (all js)

-- What is done

-- each event names a native
abbrev TellsTo : Stage → List Event → Stage → Type 0
TellsTo s es t = (e : Event) → Among e es → NamesNative e

-- what the end of a collection does besides tells an unlink line at most
ending-tells : (ks : List ℕ) (s : Stage) (es : List Event) (t : Stage) → Ending ks s es t → TellsTo s es t
ending-tells ks _ es t e = grind arith

-- NATIVES ALONE ARE TOLD in cascades and in ends of collections.
pub done-tells : (ks : List ℕ) (s : Stage) (es : List Event) (t : Stage) → Done (Ending ks) s es t → (e : Event) → Among e es → NamesNative e
done-tells ks = done-keeps TellsTo (Ending ks) (record {
  nothing = λ s. λ e m. absurd m;
  followed = λ s t u xs ys a b. λ e m. ⊎_elim (a e) (b e) (Among-append e xs ys m);
  suspected = λ hand queue h k n f c. λ e m. absurd m;
  waits = λ hand queue h k n f c. λ e m. absurd m;
  freed = λ hand ks h k n f d r. λ e m. ⊎_elim (λ s. subst NamesNative s (k, refl)) (λ x. absurd x) m;
}) (ending-tells ks)
