-- WHAT IS WRITTEN ALONE, by one change after another.
use Rattle.std.proofs.Common.{◌≡◌, ℕ, Bool, true, false, List, [], ◌∷◌, Option, Some, None, refl, sym, ◌∙◌, subst, ⊎_elim, ◌==◌}
use Rattle.std.proofs.lemmas.Bool.{eqb-true, eq-eqb, true≢false}
use Rattle.cc_lists.specs.Members.{Among}
use Rattle.cc_names.specs.declared.name.Name.{Name}
use Rattle.cc_names.specs.declared.register.Reg.TheVariants.{N, S, W}
use Rattle.cc_model.specs.Heap.{Heap, register}
use Rattle.cc_heaps.specs.Leaving.{NoneCame}
use Rattle.cc_host.specs.Spots.{HasSpot, HasOwner, IsWritten, Spot, WritesOnly, owner, reads}

-- a spot that is there was there where no object came
has-before : (h k : Heap) → NoneCame h k → (s : Spot) → HasSpot k s → HasSpot h s
has-before h k came s has = go (owner s) has
  where
    go : (o : Option Name) → HasOwner k o → HasOwner h o
    go None t = tt
    go (Some x) t = came x t

pub writes-same : (h : Heap) → WritesOnly [] h h
writes-same h = record { others = λ s has out. refl }

-- where more may be written
pub writes-more : (few many : List Spot) (h k : Heap) → ((s : Spot) → Among s few → Among s many) → WritesOnly few h k → WritesOnly many h k
writes-more few many h k all w = record { others = λ s has out. w.others s has (λ i. out (all s i)) }

-- after each spot reads as before
pub writes-after : (spots : List Spot) (h k m : Heap) → ((s : Spot) → reads k s ≡ reads h s) → WritesOnly spots k m → WritesOnly spots h m
writes-after spots h k m same w = record { others = λ s has out. w.others s has out ∙ same s }

module _ (spots : List Spot) (h k m : Heap) (came : NoneCame k m) where
  -- ONE AFTER ANOTHER
  pub writes-then : WritesOnly spots h k → WritesOnly spots k m → WritesOnly spots h m
  writes-then f g = record { others = λ s has out. g.others s has out ∙ f.others s (has-before k m came s has) out }

-- what was written before is still so
pub written-then : (spots : List Spot) (k m : Heap) → NoneCame k m → (s : Spot) (x : Option Name) → ¬ (Among s spots) → IsWritten s x k → WritesOnly spots k m → IsWritten s x m
written-then spots k m came s x out w g = record { holds = λ has. g.others s has out ∙ w.holds (has-before k m came s has) }

-- A REGISTER THAT HOLDS NOTHING BEFORE AND AFTERWARDS reads as before.
pub writes-but : (r : ℕ) (spots : List Spot) (h k : Heap) → register h (N r) ≡ None → register k (N r) ≡ None → WritesOnly (Spot.register (N r) ∷ spots) h k → WritesOnly spots h k
writes-but r spots h k before late w = record { others = others }
  where
    others : (s : Spot) → HasSpot k s → ¬ (Among s spots) → reads k s ≡ reads h s
    others (Spot.register (N q)) has out = go (r == q) refl
      where
        go : (b : Bool) → (r == q) ≡ b → register k (N q) ≡ register h (N q)
        go true e = let same = eqb-true r q e in subst (λ i. register k (N i) ≡ register h (N i)) same (late ∙ sym before)
        go false e = w.others (Spot.register (N q)) has (λ i. ⊎_elim (λ d. true≢false (sym (eq-eqb r q (same d)) ∙ e)) out i)
          where
            same : Spot.register (N r) ≡ Spot.register (N q) → r ≡ q
            same d = cc
    others (Spot.register (S q)) has out = w.others (Spot.register (S q)) has (λ i. ⊎_elim (λ d. absurd (cc)) out i)
    others (Spot.register (W q)) has out = w.others (Spot.register (W q)) has (λ i. ⊎_elim (λ d. absurd (cc)) out i)
    others (Spot.slot x i) has out = w.others (Spot.slot x i) has (λ m. ⊎_elim (λ d. absurd (cc)) out m)
    others (Spot.entry x y) has out = w.others (Spot.entry x y) has (λ i. ⊎_elim (λ d. absurd (cc)) out i)
    others (Spot.delegate x) has out = w.others (Spot.delegate x) has (λ i. ⊎_elim (λ d. absurd (cc)) out i)
    others (Spot.preserved x) has out = w.others (Spot.preserved x) has (λ i. ⊎_elim (λ d. absurd (cc)) out i)
