-- A list to which elements go last where they are not there yet: what stands in it, and that each stands once.
use Rattle.std.proofs.Common.{◌≡◌, ◌+◌, ◌≤◌, Bool, true, false, cond, List, [], ◌∷◌, ◌++◌, refl, sym, ◌∙◌, subst, inl, inr, ◌⊎◌, ⊎_elim, arith, count_by}
use Rattle.std.proofs.lemmas.Bool.{true≢false}
use Rattle.cc_lists.specs.Members.{Among, has, with_last, with_all_last, IsEqualityTest}
use Rattle.cc_lists.proofs.Members.{Among-left, Among-right, Among-append, has-there, has-among}
use Rattle.cc_lists.proofs.Counting.{count_by-cons, count_by-append}
use Rattle.cc_lists.proofs.CountsOf.{false-left, count_by-none}

module _ {X : Type 0} (same : X → X → Bool) (exact : IsEqualityTest same) where
  -- what was there stays
  pub with_last-keeps : (xs : List X) (y x : X) → Among x xs → Among x (with_last same xs y)
  with_last-keeps xs y x m = go (has same xs y)
    where
      go : (b : Bool) → Among x (elim b [ true ↦ xs | false ↦ xs ++ y ∷ [] ])
      go true = m
      go false = Among-left x xs (y ∷ []) m

  -- what was added is there
  with_last-there : (xs : List X) (y : X) → Among y (with_last same xs y)
  with_last-there xs y = go (has same xs y) refl
    where
      go : (b : Bool) → has same xs y ≡ b → Among y (elim b [ true ↦ xs | false ↦ xs ++ y ∷ [] ])
      go true e = has-among same exact xs y e
      go false e = Among-right y xs (y ∷ []) (inl refl)

  -- and nothing else is
  with_last-cases : (xs : List X) (y x : X) → Among x (with_last same xs y) → Among x xs ⊎ (y ≡ x)
  with_last-cases xs y x m = go (has same xs y) m
    where
      go : (b : Bool) → Among x (elim b [ true ↦ xs | false ↦ xs ++ y ∷ [] ]) → Among x xs ⊎ (y ≡ x)
      go true i = inl i
      go false i = ⊎_elim (λ l. inl l) (λ r. ⊎_elim (λ e. inr e) (λ t. absurd t) r) (Among-append x xs (y ∷ []) i)

  -- what stands once at most goes on standing once at most
  with_last-once : (xs : List X) (y x : X) → count_by (same x) xs ≤ 1 → count_by (same x) (with_last same xs y) ≤ 1
  with_last-once xs y x few = go (has same xs y) refl
    where
      other : has same xs y ≡ false → (b : Bool) → same x y ≡ b → count_by (same x) xs + (cond b 1 0 + 0) ≤ 1
      other e true f =
          let it : x ≡ y = (exact x y).0 f in
          let none : count_by (same x) xs ≡ 0 = count_by-none (same x) xs (λ z m. false-left (same x z) (λ t.
          let here : Among y xs = subst (λ w. Among w xs) (sym ((exact x z).0 t) ∙ it) m in
          true≢false (sym (has-there same exact xs y here) ∙ e))) in
          omega arith
      other e false f = omega arith

      go : (b : Bool) → has same xs y ≡ b → count_by (same x) (elim b [ true ↦ xs | false ↦ xs ++ y ∷ [] ]) ≤ 1
      go true e = few
      go false e = rw (count_by-append (same x) xs (y ∷ []), count_by-cons (same x) y []) (other e (same x y) refl)

  -- what was there stays,
  pub with_all_last-keeps : (xs ys : List X) (x : X) → Among x xs → Among x (with_all_last same xs ys)
  with_all_last-keeps xs [] x m = m
  with_all_last-keeps xs (y ∷ ys) x m = with_all_last-keeps (with_last same xs y) ys x (with_last-keeps xs y x m)

  -- what was added is there,
  pub with_all_last-there : (xs ys : List X) (x : X) → Among x ys → Among x (with_all_last same xs ys)
  with_all_last-there xs [] x m = absurd m
  with_all_last-there xs (y ∷ ys) x m = ⊎_elim
      (λ e. with_all_last-keeps (with_last same xs y) ys x (subst (λ z. Among z (with_last same xs y)) e (with_last-there xs y)))
      (λ t. with_all_last-there (with_last same xs y) ys x t) m

  -- nothing else is,
  pub with_all_last-cases : (xs ys : List X) (x : X) → Among x (with_all_last same xs ys) → Among x xs ⊎ Among x ys
  with_all_last-cases xs [] x m = inl m
  with_all_last-cases xs (y ∷ ys) x m = ⊎_elim
      (λ l. ⊎_elim (λ a. inl a) (λ e. inr (inl e)) (with_last-cases xs y x l))
      (λ r. inr (inr r)) (with_all_last-cases (with_last same xs y) ys x m)

  -- and what stands once at most goes on standing once at most.
  pub with_all_last-once : (xs ys : List X) (x : X) → count_by (same x) xs ≤ 1 → count_by (same x) (with_all_last same xs ys) ≤ 1
  with_all_last-once xs [] x few = few
  with_all_last-once xs (y ∷ ys) x few = with_all_last-once (with_last same xs y) ys x (with_last-once xs y x few)
