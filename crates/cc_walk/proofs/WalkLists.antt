-- A list for a walk after each call: what its store has then is the set that the call leaves.
use Rattle.std.proofs.Common.{◌≡◌, ◌≢◌, ℕ, true, false, List, [], ◌∷◌, ◌++◌, Option, Some, None, refl, sym, ◌∙◌, ap, subst, inl, ⊎_elim}
use Rattle.std.specs.Prelude.{◌==◌, IsTrue}
use Rattle.std.specs.Option.{option_eq}
use Rattle.std.proofs.lemmas.Bool.{true≢false, eqb-true, eq-eqb, ne_eqb, false_from_ne_true}
use Rattle.cc_lists.specs.Members.{Among, has, without}
use Rattle.cc_lists.specs.Walks.{first_of}
use Rattle.cc_lists.proofs.Members.{has-there, Among-left, Among-right}
use Rattle.cc_lists.proofs.Numbers.{number-exact}
use Rattle.cc_lists.proofs.Walks.{first-among}
use Rattle.cc_chain.specs.Links.{AreBelow, Links, is_key, is_live, is_linked, IsFree}
use Rattle.cc_chain.specs.Chains.{AllDiffer, IsChain, behind, walked}
use Rattle.cc_chain.specs.declared.chain.Chain.{Chain}
use Rattle.cc_chain.proofs.Rows.{without-absent, without-first, first_is-among}
use Rattle.cc_chain.proofs.Chains.{chain-bounded}
use Rattle.cc_chain.proofs.Slots.{among-linked, absent-free}
use Rattle.cc_walk.specs.declared.walk_list.WalkList.{WalkList}
use Rattle.cc_walk.specs.Walks.{Walk, walk_of, members, with_member, without_member, gone_on, split_at}
use Rattle.cc_walk.specs.WalkLists.{IsWalk}
use Rattle.cc_walk.proofs.Sets.{members-push, members-given, members-without}

-- A key goes last: the first that waits is the one that was, or that key
first-push : (waiting : List ℕ) (key : ℕ) → first_of (waiting ++ key ∷ []) ≡ (elim (first_of waiting) [ None ↦ Some key | Some k ↦ Some k ])
first-push [] key = refl
first-push (x ∷ xs) key = refl

-- no key that waits was given
pub differ-given : (given waiting : List ℕ) (key : ℕ) → AllDiffer (given ++ waiting) → first_of waiting ≡ Some key → ¬ (Among key given)
differ-given [] waiting key d e m = m
differ-given (x ∷ xs) waiting key d e m = ⊎_elim
    (λ s. d.0 (subst (λ k. Among k (xs ++ waiting)) (sym s) (Among-right key xs waiting (first-among waiting key e))))
    (λ t. differ-given xs waiting key d.1 e t) m

differ-waiting : (given waiting : List ℕ) → AllDiffer (given ++ waiting) → AllDiffer waiting
differ-waiting [] waiting d = d
differ-waiting (x ∷ xs) waiting d = differ-waiting xs waiting d.1

-- behind the first that waits stand the others that do
behind-first : (given : List ℕ) (key : ℕ) (keys : List ℕ) → AllDiffer (given ++ key ∷ keys) → behind key (given ++ key ∷ keys) ≡ keys
behind-first [] key keys d = rw (eq-eqb key key refl) refl
behind-first (x ∷ xs) key keys d =
    rw (ne_eqb x key (λ s. d.0 (subst (λ k. Among k (xs ++ key ∷ keys)) (sym s) (Among-right key xs (key ∷ keys) (inl refl))))) (behind-first xs key keys d.1)

behind-waiting : (given waiting : List ℕ) (key : ℕ) → AllDiffer (given ++ waiting) → first_of waiting ≡ Some key →
    (keys : List ℕ) × (waiting ≡ key ∷ keys) × (behind key (given ++ waiting) ≡ keys)
behind-waiting given [] key d e = absurd (cc)
behind-waiting given (x ∷ xs) key d e =
    let same : x ≡ key = cc in
    (xs, ap (λ k. k ∷ xs) same, subst (λ k. behind k (given ++ x ∷ xs) ≡ xs) same (behind-first given x xs d))

-- another key leaves
first-kept : (waiting : List ℕ) (key : ℕ) → first_of waiting ≢ Some key → first_of (without ◌==◌ key waiting) ≡ first_of waiting
first-kept [] key n = refl
first-kept (x ∷ xs) key n = rw (ne_eqb x key (λ s. n (ap Some s))) refl

-- the members are those that were given and those that wait
split-members : (given waiting : List ℕ) → AllDiffer (given ++ waiting) → split_at (first_of waiting) (given ++ waiting) ≡ walk_of given waiting
split-members [] [] d = refl
split-members [] (key ∷ keys) d = rw (eq-eqb key key refl) refl
split-members (x ∷ xs) waiting d =
    let other : is_key (first_of waiting) x ≡ false = false_from_ne_true _ (λ e. d.0 (Among-right x xs waiting (first_is-among waiting x e))) in
    rw (other, split-members xs waiting d.1) refl

module _ {R : Type 0} (links : Links) (list : WalkList R) (w : Walk) (i : IsWalk links list w) where
  -- where each live key is below n, the set is read in n steps
  pub walk-bounded : (n : ℕ) → AreBelow n links → split_at list.next (walked n links list.chain.first) ≡ w
  walk-bounded n small =
      ap (λ o. split_at o (walked n links list.chain.first)) i.next
      ∙ (ap (split_at (first_of w.waiting)) (chain-bounded links list.chain (members w) n i.chain small) ∙ split-members w.given w.waiting i.chain.differ)

  -- the first that waits was not given
  pub first-waits : (key : ℕ) → first_of w.waiting ≡ Some key → ¬ (Among key w.given)
  first-waits key e = differ-given w.given w.waiting key i.chain.differ e

  -- who is a member, and who may come in
  pub member-linked : (key : ℕ) → list.next ≡ Some key → IsTrue (is_linked links key)
  member-linked key e = among-linked links list.chain (members w) i.chain key
      (Among-right key w.given w.waiting (first-among w.waiting key (sym i.next ∙ e)))

  absent : (key : ℕ) → has ◌==◌ (members w) key ≡ false → ¬ (Among key (members w))
  absent key e m = true≢false (sym (has-there ◌==◌ number-exact (members w) key m) ∙ e)

  pub stranger-free : (key : ℕ) → has ◌==◌ (members w) key ≡ false → IsTrue (is_live links key) → IsFree links key
  stranger-free key e live = absent-free links list.chain (members w) i.chain key (absent key e) live

  -- a member stays as it stands where it is added
  pub walk-known : (key : ℕ) → has ◌==◌ (members w) key ≡ true → IsWalk links list (with_member key w)
  walk-known key e = rw e i

  -- another key is added
  pub walk-added : (key : ℕ) → has ◌==◌ (members w) key ≡ false → (new : Links) (chain : Chain R) (next : Option ℕ) → IsChain new chain (members w ++ key ∷ []) →
      next ≡ (elim list.next [ None ↦ Some key | Some k ↦ Some k ]) → IsWalk new (record { chain = chain; next = next }) (with_member key w)
  walk-added key e new chain next c f = rw e (record {
    chain = subst (IsChain new chain) (sym (members-push w.given w.waiting key)) c;
    next = f ∙ (ap (λ (o : Option ℕ). elim o [ None ↦ Some key | Some k ↦ Some k ]) i.next ∙ sym (first-push w.waiting key));
  })

  -- the first that waits is given
  pub walk-given : (key : ℕ) → list.next ≡ Some key → (new : WalkList R) → new.chain ≡ list.chain → new.next ≡ first_of (behind key (members w)) → IsWalk links new (gone_on w)
  walk-given key e new same f =
      let b = behind-waiting w.given w.waiting key i.chain.differ (sym i.next ∙ e) in
      record {
        chain = subst (λ (c : Chain R). IsChain links c (members (gone_on w))) (sym same) (subst (IsChain links list.chain) (sym (members-given w.given w.waiting)) i.chain);
        next = f ∙ (ap first_of b.2 ∙ sym (ap first_of (rest b.0 b.1)));
      }
    where
      rest : (keys : List ℕ) → w.waiting ≡ key ∷ keys → (gone_on w).waiting ≡ keys
      rest keys s = rw s refl

  -- a key that is no member leaves
  pub walk-absent : (key : ℕ) → has ◌==◌ (members w) key ≡ false → IsWalk links list (without_member key w)
  walk-absent key e = subst (IsWalk links list) (sym same) i
    where
      same : without_member key w ≡ w
      same = rw (
        without-absent key w.given (λ m. absent key e (Among-left key w.given w.waiting m)),
        without-absent key w.waiting (λ m. absent key e (Among-right key w.given w.waiting m)),
      ) refl

  -- a member leaves, where the first that waits is the one that does then
  pub walk-left : (key : ℕ) (new : Links) (left : WalkList R) → IsChain new left.chain (without ◌==◌ key (members w)) →
      left.next ≡ first_of (without ◌==◌ key w.waiting) → IsWalk new left (without_member key w)
  walk-left key new left c f = record { chain = subst (IsChain new left.chain) (sym (members-without key w)) c; next = f }

  -- it was that one,
  pub next-left : (key : ℕ) → list.next ≡ Some key → (next : Option ℕ) → next ≡ first_of (behind key (members w)) → next ≡ first_of (without ◌==◌ key w.waiting)
  next-left key e next f =
      let b = behind-waiting w.given w.waiting key i.chain.differ (sym i.next ∙ e) in
      let apart : ¬ (Among key b.0) = (subst AllDiffer b.1 (differ-waiting w.given w.waiting i.chain.differ)).0 in
      f ∙ (ap first_of b.2 ∙ sym (ap first_of (ap (without ◌==◌ key) b.1 ∙ without-first key b.0 apart)))

  -- or another
  pub next-stays : (key : ℕ) → list.next ≢ Some key → list.next ≡ first_of (without ◌==◌ key w.waiting)
  next-stays key n = i.next ∙ sym (first-kept w.waiting key (λ e. n (i.next ∙ e)))

-- a key is compared with the first that waits
pub is-next : (next : Option ℕ) (key : ℕ) → option_eq ◌==◌ next (Some key) ≡ true → next ≡ Some key
is-next None key e = absurd (true≢false (sym e))
is-next (Some k) key e = ap Some (eqb-true k key e)

pub is-not-next : (next : Option ℕ) (key : ℕ) → option_eq ◌==◌ next (Some key) ≡ false → next ≢ Some key
is-not-next next key e s = true≢false (sym (ap (λ o. option_eq ◌==◌ o (Some key)) s ∙ eq-eqb key key refl) ∙ e)

-- a list that was passed on has the chain that it had
pub chain-passed : {R : Type 0} (links : Links) (old mid now : WalkList R) (keys : List ℕ) → mid.chain ≡ old.chain → now ≡ mid → IsChain links old.chain keys → IsChain links now.chain keys
chain-passed links old mid now keys same is c = subst (λ (l : WalkList _). IsChain links l.chain keys) (sym is) (subst (λ ch. IsChain links ch keys) (sym same) c)
