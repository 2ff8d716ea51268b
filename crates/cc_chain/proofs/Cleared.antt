-- A chain while its links are taken away from the front: the keys that are left.
use Rattle.std.proofs.Common.{◌≡◌, ℕ, zero, suc, ◌+◌, ◌<◌, ◌≤◌, Bool, true, false, cond, List, [], ◌∷◌, Option, Some, None, is_some, option_and_then, refl, sym, ◌∙◌, ap, subst, ⊎_elim, if◌then◌else◌, arith}
use Rattle.std.specs.Prelude.{◌==◌}
use Rattle.std.proofs.lemmas.Bool.{true≢false, eq-eqb}
use Rattle.std.proofs.lemmas.Bool.Decides.{eqb_tells}
use Rattle.cc_lists.specs.Members.{Among}
use Rattle.cc_lists.specs.Walks.{first_of}
use Rattle.cc_chain.specs.declared.link.Link.{Link}
use Rattle.cc_chain.specs.Links.{Links, is_linked, link_at, with_link}
use Rattle.cc_chain.specs.Chains.{AllDiffer, link_from}
use Rattle.cc_chain.proofs.Links.{link_at-with_link}
use Rattle.cc_chain.proofs.Rows.{link_from-absent}

-- the keys from `next` on are left: they have the links that they had, and no other key has one
pub record AreLeft (links : Links) (next : Option ℕ) : Type 0 where
  pub before : Option ℕ
  pub keys : List ℕ
  pub differ : AllDiffer keys
  pub first : next ≡ first_of keys
  pub linked : (key : ℕ) → link_at links key ≡ link_from before keys key

-- the first that is left has a link, which leads to the one behind it
left-link : (links : Links) (next : Option ℕ) (key : ℕ) → next ≡ Some key → (l : AreLeft links next) →
    (rest : List ℕ) × (l.keys ≡ key ∷ rest) × (link_at links key ≡ Some (record { before = l.before; after = first_of rest }))
left-link links next key n l = go l.keys (sym n ∙ l.first) l.linked
  where
    go : (keys : List ℕ) → Some key ≡ first_of keys → ((k : ℕ) → link_at links k ≡ link_from l.before keys k) →
        (rest : List ℕ) × (keys ≡ key ∷ rest) × (link_at links key ≡ Some (record { before = l.before; after = first_of rest }))
    go [] e linked = absurd (cc)
    go (k ∷ ks) e linked = let same : k ≡ key = cc in (ks, ap (λ j. j ∷ ks) same, linked key ∙ rw (eq-eqb k key same) refl)

pub left-linked : (links : Links) (next : Option ℕ) (key : ℕ) → next ≡ Some key → AreLeft links next → is_linked links key ≡ true
left-linked links next key n l = ap is_some ((left-link links next key n l).2)

-- once its link is taken away, the others are left
pub one-taken : (links new : Links) (next after : Option ℕ) (key : ℕ) → next ≡ Some key → AreLeft links next →
    after ≡ option_and_then (λ (link : Link). link.after) (link_at links key) → new ≡ with_link links key None → AreLeft new after
one-taken links new next after key n l f e =
    let r = left-link links next key n l in
    let d : AllDiffer (key ∷ r.0) = subst AllDiffer r.1 l.differ in
    let old : (k : ℕ) → link_at links k ≡ link_from l.before (key ∷ r.0) k = λ k. l.linked k ∙ ap (λ ks. link_from l.before ks k) r.1 in
    record {
      before = Some key;
      keys = r.0;
      differ = d.1;
      first = f ∙ ap (option_and_then (λ (link : Link). link.after)) r.2;
      linked = λ k. ap (λ (m : Links). link_at m k) e ∙ (link_at-with_link links key None k ∙ ⊎_elim
          (λ t. rw t.0 (sym (link_from-absent (Some key) r.0 k (subst (λ j. ¬ (Among j r.0)) t.1 d.0))))
          (λ t. rw t.0 (old k ∙ rw t.0 refl))
          (eqb_tells key k));
    }

-- How many numbers below n pass a test
pub passing : ℕ → (ℕ → Bool) → ℕ
passing zero p = 0
passing (suc n) p = cond (p n) 1 0 + passing n p

passing-at : (n : ℕ) (p : ℕ → Bool) → passing (suc n) p ≡ cond (p n) 1 0 + passing n p
unfolding passing
passing-at n p = refl

-- there are no more where fewer pass
passing-le : (n : ℕ) (p q : ℕ → Bool) → ((k : ℕ) → p k ≡ true → q k ≡ true) → passing n p ≤ passing n q
unfolding passing
passing-le zero p q h = omega arith
passing-le (suc n) p q h = go (passing-le n p q h) (p n) refl (q n) refl
  where
    go : passing n p ≤ passing n q → (a : Bool) → p n ≡ a → (b : Bool) → q n ≡ b → cond a 1 0 + passing n p ≤ cond b 1 0 + passing n q
    go ih true e true f = omega (arith, ih)
    go ih true e false f = absurd (true≢false (sym (h n e) ∙ f))
    go ih false e b f = omega (arith, ih)

-- and fewer where one that passed does not
passing-less : (n key : ℕ) (p q : ℕ → Bool) → ((k : ℕ) → p k ≡ true → q k ≡ true) → key < n → p key ≡ false → q key ≡ true → passing n p < passing n q
passing-less zero key p q h l off on = absurd (omega arith)
passing-less (suc n) key p q h l off on = rw (passing-at n p, passing-at n q) (⊎_elim
    (λ t. rw (ap p t.1 ∙ off, ap q t.1 ∙ on) (omega (arith, passing-le n p q h)))
    (λ t. go (passing-less n key p q h (omega arith) off on) (p n) refl (q n) refl)
    (eqb_tells n key))
  where
    go : passing n p < passing n q → (a : Bool) → p n ≡ a → (b : Bool) → q n ≡ b → cond a 1 0 + passing n p < cond b 1 0 + passing n q
    go ih true e true f = omega (arith, ih)
    go ih true e false f = absurd (true≢false (sym (h n e) ∙ f))
    go ih false e b f = omega (arith, ih)

-- so fewer keys are in the list once the link of one is taken away
pub fewer-linked : (n key : ℕ) (links new : Links) → key < n → is_linked links key ≡ true → new ≡ with_link links key None →
    passing n (is_linked new) < passing n (is_linked links)
fewer-linked n key links new l on e = passing-less n key (is_linked new) (is_linked links) (λ k. go k (key == k) refl) l (seen key ∙ rw (eq-eqb key key refl) refl) on
  where
    seen : (k : ℕ) → is_linked new k ≡ is_some (if key == k then None else link_at links k)
    seen k = ap is_some (ap (λ (m : Links). link_at m k) e ∙ link_at-with_link links key None k)

    go : (k : ℕ) (b : Bool) → (key == k) ≡ b → is_linked new k ≡ true → is_linked links k ≡ true
    go k true s t = absurd (true≢false (sym t ∙ (seen k ∙ rw s refl)))
    go k false s t = sym (seen k ∙ rw s refl) ∙ t
