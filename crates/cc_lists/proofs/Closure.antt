-- The closure by rules used one after another is the least set.
use Rattle.std.proofs.Common.{◌≡◌, ℕ, zero, suc, ◌≤◌, Bool, true, false, List, [], ◌∷◌, length, Option, Some, None, refl, sym, ◌∙◌, ap, subst, arith, inl, inr, ◌⊎◌, ⊎_elim}
use Rattle.std.specs.Prelude.{IsTrue, ◌↔◌}
use Rattle.std.proofs.lemmas.Bool.{and_parts, and_from, true≢false}
use Rattle.cc_lists.specs.Members.{Among, has, IsEqualityTest}
use Rattle.cc_lists.specs.Least.{Rule, Least, by_rule, all_in, pick, close, closure}
use Rattle.cc_lists.proofs.Members.{has-among, has-there}
use Rattle.cc_lists.proofs.Least.{Least-within}

-- what `pick` says
record IsPicked {X : Type 0} (same : X → X → Bool) (found : List X) (rs : List (Rule X)) (c : Rule X × List (Rule X)) : Type 0 where
  ready : all_in same found c.0.premises ≡ true
  there : Among c.0 rs
  fewer : length rs ≡ suc (length c.1)
  others : (r : Rule X) → Among r rs → (c.0 ≡ r) ⊎ Among r c.1
  kept : (r : Rule X) → Among r c.1 → Among r rs

abbrev Picked : {X : Type 0} (same : X → X → Bool) (found : List X) (rs : List (Rule X)) → Option (Rule X × List (Rule X)) → Type 0
Picked {X} same found rs None = (r : Rule X) → Among r rs → all_in same found r.premises ≡ false
Picked same found rs (Some c) = IsPicked same found rs c

picked : {X : Type 0} (same : X → X → Bool) (found : List X) (rs : List (Rule X)) → Picked same found rs (pick same found rs)
picked same found [] = λ r m. absurd m
picked {X} same found (r ∷ rs) = go (pick same found rs) (picked same found rs) (all_in same found r.premises) refl
  where
    go : (o : Option (Rule X × List (Rule X))) → Picked same found rs o → (b : Bool) → all_in same found r.premises ≡ b →
        Picked same found (r ∷ rs) (elim b [ true ↦ Some (r, rs) | false ↦ elim o [ None ↦ None | Some c ↦ Some (c.0, r ∷ c.1) ] ])
    go o ih true e = record { ready = e; there = inl refl; fewer = refl; others = λ q m. m; kept = λ q m. inr m }
    go None ih false e = λ q m. ⊎_elim (λ s. subst (λ z. all_in same found z.premises ≡ false) s e) (λ t. ih q t) m
    go (Some c) ih false e = record {
      ready = ih.ready;
      there = inr ih.there;
      fewer = ap suc ih.fewer;
      others = λ q m. ⊎_elim (λ s. inr (inl s)) (λ t. ⊎_elim (λ l. inl l) (λ l. inr (inr l)) (ih.others q t)) m;
      kept = λ q m. ⊎_elim (λ s. inl s) (λ t. inr (ih.kept q t)) m;
    }

module _ {X : Type 0} (same : X → X → Bool) (exact : IsEqualityTest same) where
  pub all_in-each : (found xs : List X) → all_in same found xs ≡ true → (x : X) → Among x xs → Among x found
  all_in-each found [] h x m = absurd m
  all_in-each found (y ∷ ys) h x m =
      let k = and_parts (has same found y) (all_in same found ys) h in
      ⊎_elim (λ e. subst (λ z. Among z found) e (has-among same exact found y k.0)) (λ t. all_in-each found ys k.1 x t) m

  all_in-from : (found xs : List X) → ((x : X) → Among x xs → Among x found) → all_in same found xs ≡ true
  all_in-from found [] h = refl
  all_in-from found (y ∷ ys) h = and_from (has same found y) (all_in same found ys)
      (has-there same exact found y (h y (inl refl))) (all_in-from found ys (λ x m. h x (inr m)))

  -- what is found stays
  close-keeps : (n : ℕ) (rs : List (Rule X)) (found : List X) (x : X) → Among x found → Among x (close same n rs found)
  close-keeps zero rs found x m = m
  close-keeps (suc n) rs found x m = go (λ c. close-keeps n c.1 (c.0.gives ∷ found) x (inr m)) (pick same found rs)
    where
      go : ((c : Rule X × List (Rule X)) → Among x (close same n c.1 (c.0.gives ∷ found))) → (o : Option (Rule X × List (Rule X))) →
          Among x (elim o [ None ↦ found | Some c ↦ close same n c.1 (c.0.gives ∷ found) ])
      go ih None = m
      go ih (Some c) = ih c

  -- only what the rules derive is found
  close-derived : (all : List (Rule X)) (n : ℕ) (rs : List (Rule X)) (found : List X) →
      ((r : Rule X) → Among r rs → Among r all) → ((x : X) → Among x found → Least all x) →
      (x : X) → Among x (close same n rs found) → Least all x
  close-derived all zero rs found sub have = have
  close-derived all (suc n) rs found sub have = go (λ c. close-derived all n c.1 (c.0.gives ∷ found)) (pick same found rs) (picked same found rs)
    where
      go : ((c : Rule X × List (Rule X)) → ((r : Rule X) → Among r c.1 → Among r all) → ((x : X) → Among x (c.0.gives ∷ found) → Least all x) →
          (x : X) → Among x (close same n c.1 (c.0.gives ∷ found)) → Least all x) →
          (o : Option (Rule X × List (Rule X))) → Picked same found rs o →
          (x : X) → Among x (elim o [ None ↦ found | Some c ↦ close same n c.1 (c.0.gives ∷ found) ]) → Least all x
      go ih None p x m = have x m
      go ih (Some c) p x m = ih c (λ r i. sub r (p.kept r i))
          (λ y i. ⊎_elim
          (λ e. subst (Least all) e (by_rule c.0 (sub c.0 p.there) (λ z j. have z (all_in-each found c.0.premises p.ready z j))))
          (λ t. have y t) i) x m

  -- nothing more can be derived
  close-closed : (n : ℕ) (rs : List (Rule X)) (found : List X) → length rs ≤ n →
      (r : Rule X) → Among r rs → ((y : X) → Among y r.premises → Among y (close same n rs found)) → Among r.gives (close same n rs found)
  close-closed zero [] found small = λ r i f. absurd i
  close-closed zero (q ∷ rs) found small = absurd (omega arith)
  close-closed (suc n) rs found small = go (λ c. close-closed n c.1 (c.0.gives ∷ found)) (λ c. close-keeps n c.1 (c.0.gives ∷ found)) (pick same found rs) (picked same found rs)
    where
      go : ((c : Rule X × List (Rule X)) → length c.1 ≤ n → (r : Rule X) → Among r c.1 →
          ((y : X) → Among y r.premises → Among y (close same n c.1 (c.0.gives ∷ found))) → Among r.gives (close same n c.1 (c.0.gives ∷ found))) →
          ((c : Rule X × List (Rule X)) → (x : X) → Among x (c.0.gives ∷ found) → Among x (close same n c.1 (c.0.gives ∷ found))) →
          (o : Option (Rule X × List (Rule X))) → Picked same found rs o →
          (r : Rule X) → Among r rs → ((y : X) → Among y r.premises → Among y (elim o [ None ↦ found | Some c ↦ close same n c.1 (c.0.gives ∷ found) ])) →
          Among r.gives (elim o [ None ↦ found | Some c ↦ close same n c.1 (c.0.gives ∷ found) ])
      go ih keeps None p r i f = absurd (true≢false (sym (all_in-from found r.premises f) ∙ p r i))
      go ih keeps (Some c) p r i f = ⊎_elim
          (λ e. subst (λ z. Among z (close same n c.1 (c.0.gives ∷ found))) (ap (λ (z : Rule X). z.gives) e) (keeps c c.0.gives (inl refl)))
          (λ t. ih c (omega (arith, p.fewer)) r t f) (p.others r i)

  -- The closure is the least set.
  pub closure-derived : (rs : List (Rule X)) (x : X) → Among x (closure same rs) → Least rs x
  unfolding closure
  closure-derived rs = close-derived rs (length rs) rs [] (λ r i. i) (λ x m. absurd m)

  pub derived-closure : (rs : List (Rule X)) (x : X) → Least rs x → Among x (closure same rs)
  unfolding closure
  derived-closure rs = Least-within rs (λ x. Among x (closure same rs)) (close-closed (length rs) rs [] (omega arith))

  pub closure-decides : (rs : List (Rule X)) (x : X) → IsTrue (has same (closure same rs) x) ↔ Least rs x
  closure-decides rs x = (λ e. closure-derived rs x (has-among same exact (closure same rs) x e), λ d. has-there same exact (closure same rs) x (derived-closure rs x d))
