-- A chain after each call: what its store has then is the list that the call leaves.
use Rattle.std.proofs.Common.{◌≡◌, ℕ, ◌+◌, count_by, Bool, true, false, not, zero, suc, ◌≤◌, List, [], ◌∷◌, ◌++◌, length, arith, Option, Some, None, is_some, drop, refl, sym, ◌∙◌, ap, subst, inl, inr, ⊎_elim, if◌then◌else◌}
use Rattle.std.specs.Prelude.{◌==◌, IsTrue, IfSome}
use Rattle.std.specs.Option.{option_flatten}
use Rattle.std.proofs.lemmas.Bool.{true≢false, eqb-true, eq-eqb, ne_eqb}
use Rattle.std.proofs.lemmas.Bool.Decides.{eqb_tells}
use Rattle.cc_lists.specs.Members.{Among, has, without}
use Rattle.cc_lists.proofs.Counting.{count_by-cons}
use Rattle.cc_lists.proofs.CountsOf.{count_by-none}
use Rattle.cc_lists.proofs.Places.{once-few}
use Rattle.cc_chain.specs.declared.link.Link.{Link}
use Rattle.cc_chain.specs.Links.{AreBelow, Links, is_live, is_linked, link_at, is_key, with_link, with_changed, with_before, with_after, IsFree, SameLinks}
use Rattle.cc_chain.specs.declared.chain.Chain.{Chain}
use Rattle.cc_lists.specs.Walks.{first_of}
use Rattle.cc_chain.specs.Chains.{AllDiffer, IsChain, last_or, behind, link_from, with_next, with_previous, walked}
use Rattle.cc_chain.proofs.Links.{changed_at, link_at-with_link, link_at-with_changed}
use Rattle.cc_chain.proofs.Rows.{AllDiffer-push, AllDiffer-filter, without-first, without-leaves, last-among, link_from-absent, link_from-among, link_from-has, before-among, after-among, after-behind, link_from-push, last-push, first-push, closed_over, closed_over-none, link_from-without, first-without, last-without}

-- Who is live, and who is in the list

pub linked-live : (links : Links) (key : ℕ) → is_linked links key ≡ true → IsTrue (is_live links key)
linked-live links key = grind arith

-- a walk from the first key of a part of the list gives that part
walked-from : (links : Links) (n : ℕ) (before : Option ℕ) (keys : List ℕ) → AllDiffer keys → ((k : ℕ) → Among k keys → link_at links k ≡ link_from before keys k) →
    length keys ≤ n → walked n links (first_of keys) ≡ keys
walked-from links zero before [] d linked enough = refl
walked-from links (suc n) before [] d linked enough = refl
walked-from links zero before (k ∷ ks) d linked enough = absurd (omega arith)
walked-from links (suc n) before (k ∷ ks) d linked enough =
    let here : link_at links k ≡ Some (record { before = before; after = first_of ks }) = linked k (inl refl) ∙ rw (eq-eqb k k refl) refl in
    let later : (j : ℕ) → Among j ks → link_at links j ≡ link_from (Some k) ks j =
    λ j m. linked j (inr m) ∙ rw (ne_eqb k j (λ e. d.0 (subst (λ z. Among z ks) (sym e) m))) refl in
    rw (here) (ap (λ xs. k ∷ xs) (walked-from links n (Some k) ks d.1 later (omega arith)))

module _ {R : Type 0} (links : Links) (chain : Chain R) (keys : List ℕ) (c : IsChain links chain keys) where
  pub chain-holds : (key : ℕ) → is_linked links key ≡ has ◌==◌ keys key
  chain-holds key = ap is_some (c.linked key) ∙ link_from-has None keys key

  pub chain-live : (key : ℕ) → Among key keys → IsTrue (is_live links key)
  chain-live key m = linked-live links key (ap is_some (c.linked key) ∙ link_from-among None keys key m)

  absent-free : (key : ℕ) → IsFree links key → ¬ (Among key keys)
  absent-free key free m = true≢false (sym (ap is_some (c.linked key) ∙ link_from-among None keys key m) ∙ ap (λ o. is_some (option_flatten o)) free)

  found-in : (key : ℕ) (link : Link) → links key ≡ Some (Some link) → link_from None keys key ≡ Some link
  found-in key link e = sym (c.linked key) ∙ ap option_flatten e

  pub chain-last_live : IfSome chain.last (λ key. IsTrue (is_live links key))
  chain-last_live = go chain.last c.last
    where
      go : (o : Option ℕ) → o ≡ last_or None keys → IfSome o (λ key. IsTrue (is_live links key))
      go None e = tt
      go (Some key) e = chain-live key (⊎_elim (λ s. absurd (true≢false (sym s))) (λ m. m)
          (last-among None keys key (ap (λ o. is_key o key) (sym e) ∙ eq-eqb key key refl)))

  -- the neighbours of a key of the list
  pub chain-before_live : (key : ℕ) (link : Link) → links key ≡ Some (Some link) → IfSome link.before (λ k. IsTrue (is_live links k))
  chain-before_live key link e = go link.before refl
    where
      go : (o : Option ℕ) → link.before ≡ o → IfSome o (λ k. IsTrue (is_live links k))
      go None f = tt
      go (Some k) f = chain-live k (⊎_elim (λ s. absurd (true≢false (sym s))) (λ m. m)
          (before-among None keys key link k (found-in key link e) (ap (λ o. is_key o k) f ∙ eq-eqb k k refl)))

  pub chain-after_live : (key : ℕ) (link : Link) → links key ≡ Some (Some link) → IfSome link.after (λ k. IsTrue (is_live links k))
  chain-after_live key link e = go link.after refl
    where
      go : (o : Option ℕ) → link.after ≡ o → IfSome o (λ k. IsTrue (is_live links k))
      go None f = tt
      go (Some k) f = chain-live k (after-among None keys key link k (found-in key link e) (ap (λ o. is_key o k) f ∙ eq-eqb k k refl))

  pub chain-next : (key : ℕ) (link : Link) → links key ≡ Some (Some link) → link.after ≡ first_of (behind key keys)
  chain-next key link e = after-behind None keys key link (found-in key link e)

  -- A key goes last
  push : (key : ℕ) → IsFree links key →
      IsChain (with_changed (with_link links key (Some (record { before = chain.last; after = None }))) chain.last (with_after (Some key)))
      (record (with_next chain chain.last (Some key)) { last = Some key }) (keys ++ key ∷ [])
  push key free = record {
    differ = AllDiffer-push keys key c.differ absent;
    first = go chain.last c.last;
    last = sym (last-push None keys key);
    linked = λ k. link_at-with_changed (with_link links key link) chain.last (with_after (Some key)) k ∙
        (ap (changed_at chain.last (with_after (Some key)) k) (link_at-with_link links key link k) ∙ seen k);
  }
    where
      link : Option Link
      link = Some (record { before = chain.last; after = None })

      absent : ¬ (Among key keys)
      absent = absent-free key free

      seen : (k : ℕ) → changed_at chain.last (with_after (Some key)) k (if key == k then link else link_at links k) ≡ link_from None (keys ++ key ∷ []) k
      seen k = rw (c.linked k, c.last) (sym (link_from-push None keys key k c.differ absent refl))

      go : (o : Option ℕ) → o ≡ last_or None keys → (with_next chain o (Some key)).first ≡ first_of (keys ++ key ∷ [])
      go None e = rw (first-push keys key, ← e) refl
      go (Some k) e = rw (first-push keys key, ← e) c.first

  pub chain-push : (key : ℕ) → IsFree links key → (written new : Links) (moved : Chain R) →
      written ≡ with_link links key (Some (record { before = chain.last; after = None })) →
      new ≡ with_changed written chain.last (with_after (Some key)) →
      moved ≡ with_next chain chain.last (Some key) →
      IsChain new (record moved { last = Some key }) (keys ++ key ∷ [])
  chain-push key free written new moved e f m = rw (f, e, m) (push key free)

  -- A key leaves
  leave : (key : ℕ) (link : Link) → links key ≡ Some (Some link) →
      IsChain (with_changed (with_changed (with_link links key None) link.before (with_after link.after)) link.after (with_before link.before))
      (with_previous (with_next chain link.before link.after) link.after link.before) (without ◌==◌ key keys)
  leave key link e = record {
    differ = AllDiffer-filter (λ k. not (k == key)) keys c.differ;
    first = begins link.before link.after ∙ sym (first-without keys key link c.differ found);
    last = closes link.before link.after ∙ sym (last-without None keys key link c.differ found);
    linked = λ k. link_at-with_changed (with_changed gone link.before (with_after link.after)) link.after (with_before link.before) k ∙
        (ap (changed_at link.after (with_before link.before) k) (link_at-with_changed gone link.before (with_after link.after) k ∙
        ap (changed_at link.before (with_after link.after) k) (link_at-with_link links key None k)) ∙ seen k (key == k) refl);
  }
    where
      gone : Links
      gone = with_link links key None

      found : link_from None keys key ≡ Some link
      found = found-in key link e

      seen : (k : ℕ) (b : Bool) → (key == k) ≡ b → closed_over link k (if b then None else link_at links k) ≡ link_from None (without ◌==◌ key keys) k
      seen k true s =
          let same : key ≡ k = eqb-true key k s in
          closed_over-none link k ∙ sym (link_from-absent None (without ◌==◌ key keys) k (subst (λ z. ¬ (Among z (without ◌==◌ key keys))) same (without-leaves key keys)))
      seen k false s = rw (c.linked k) (sym (link_from-without None keys key link k c.differ (λ j f. absurd (true≢false (sym f))) found
          (λ same. true≢false (sym (eq-eqb key k (sym same)) ∙ s))))

      begins : (before after : Option ℕ) → (with_previous (with_next chain before after) after before).first ≡ (elim before [ None ↦ after | Some _ ↦ first_of keys ])
      begins None None = refl
      begins None (Some a) = refl
      begins (Some b) None = c.first
      begins (Some b) (Some a) = c.first

      closes : (before after : Option ℕ) → (with_previous (with_next chain before after) after before).last ≡ (elim after [ None ↦ before | Some _ ↦ last_or None keys ])
      closes None None = refl
      closes None (Some a) = c.last
      closes (Some b) None = refl
      closes (Some b) (Some a) = c.last

  pub chain-leave : (key : ℕ) (link : Link) → links key ≡ Some (Some link) → (gone half new : Links) (moved last : Chain R) →
      gone ≡ with_link links key None →
      half ≡ with_changed gone link.before (with_after link.after) →
      new ≡ with_changed half link.after (with_before link.before) →
      moved ≡ with_next chain link.before link.after →
      last ≡ with_previous moved link.after link.before →
      IsChain new last (without ◌==◌ key keys)
  chain-leave key link found gone half new moved last e f h m l = rw (h, f, e, l, m) (leave key link found)

  -- The front leaves
  pub chain-front : (key : ℕ) → chain.first ≡ Some key → without ◌==◌ key keys ≡ drop 1 keys
  chain-front key e = grind (arith, without-first)

  -- The list is read from the store
  pub chain-walked : (n : ℕ) → length keys ≤ n → walked n links chain.first ≡ keys
  chain-walked n enough = rw c.first (walked-from links n None keys c.differ (λ k m. c.linked k) enough)

-- Distinct keys stand once each
differ-once : (keys : List ℕ) (v : ℕ) → AllDiffer keys → count_by (λ k. v == k) keys ≤ 1
differ-once [] v d = omega arith
differ-once (k ∷ ks) v d = ⊎_elim
    (λ s. let none : count_by (λ j. v == j) ks ≡ 0 = count_by-none (λ j. v == j) ks (λ j m. ne_eqb v j (λ e. d.0 (subst (λ z. Among z ks) (sym e ∙ s.1) m))) in
    rw (count_by-cons (λ j. v == j) k ks, s.0, none) (omega arith))
    (λ o. rw (count_by-cons (λ j. v == j) k ks, o.0) (omega (arith, differ-once ks v d.1)))
    (eqb_tells v k)

-- Where each live key is below n, the list is read in n steps
pub chain-bounded : {R : Type 0} (links : Links) (chain : Chain R) (keys : List ℕ) (n : ℕ) → IsChain links chain keys → AreBelow n links →
    walked n links chain.first ≡ keys
chain-bounded links chain keys n c small = chain-walked links chain keys c n (once-few n keys (λ v. differ-once keys v c.differ) (λ k m. small k (chain-live links chain keys c k m)))

-- A chain is told by the links alone
pub chain-kept : {R : Type 0} (links new : Links) (chain : Chain R) (keys : List ℕ) → SameLinks links new → IsChain links chain keys → IsChain new chain keys
chain-kept links new chain keys same c = record { differ = c.differ; first = c.first; last = c.last; linked = λ key. same key ∙ c.linked key }

-- No two lists fit one chain
pub chain-one_list : {R : Type 0} (links : Links) (chain : Chain R) (xs ys : List ℕ) → IsChain links chain xs → IsChain links chain ys → xs ≡ ys
chain-one_list links chain xs ys c d =
    sym (chain-walked links chain xs c (length xs + length ys) (omega arith)) ∙ chain-walked links chain ys d (length xs + length ys) (omega arith)
