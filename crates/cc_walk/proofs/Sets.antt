-- How keys stand in a set for a walk once one comes in, is given or leaves.
use Rattle.std.proofs.Common.{◌≡◌, ◌≢◌, ℕ, Bool, true, false, not, ◌||◌, List, [], ◌∷◌, ◌++◌, Some, None, refl, sym, ◌∙◌, ap, subst, inl, inr, ◌⊎◌, ⊎_elim, if◌then◌else◌, arith}
use Rattle.std.specs.Prelude.{◌==◌}
use Rattle.std.proofs.Math.Path.{fun_ext}
use Rattle.std.proofs.lemmas.Bool.{true≢false, eqb-true, eq-eqb, ne_eqb, false_from_ne_true}
use Rattle.std.proofs.lemmas.List.{append_assoc}
use Rattle.std.proofs.lemmas.List.Elements.{filter-append}
use Rattle.cc_lists.specs.Members.{Among, has, without}
use Rattle.cc_lists.specs.Walks.{first_of}
use Rattle.cc_lists.proofs.Members.{has-there, has-among, Among-append, Among-filtered, Among-passes}
use Rattle.cc_lists.proofs.Walks.{first-among}
use Rattle.cc_lists.proofs.Numbers.{number-exact}
use Rattle.cc_names.specs.declared.kind.Walked.{Walked}
use Rattle.cc_names.specs.declared.kind.Walked.TheVariants.{Out, Waiting, Given}
use Rattle.cc_walk.specs.Walks.{Walk, walk_of, members, with_member, without_member, given_first, gone_on, Walks, state_if, states_of, with_state, entered, is_walked, NoneWaits}

-- Two truths

or-false : (b : Bool) → (b || false) ≡ b
or-false true = refl
or-false false = refl

or-true : (b : Bool) → (b || true) ≡ true
or-true true = refl
or-true false = refl

or-none : (a b : Bool) → (a || b) ≡ false → (a ≡ false) × (b ≡ false)
or-none true b e = absurd (true≢false e)
or-none false b e = (refl, e)

-- What has a key

pub has-append : (xs ys : List ℕ) (k : ℕ) → has ◌==◌ (xs ++ ys) k ≡ (has ◌==◌ xs k || has ◌==◌ ys k)
has-append [] ys k = refl
has-append (x ∷ xs) ys k = go (has-append xs ys k) (x == k)
  where
    go : has ◌==◌ (xs ++ ys) k ≡ (has ◌==◌ xs k || has ◌==◌ ys k) → (b : Bool) → (b || has ◌==◌ (xs ++ ys) k) ≡ ((b || has ◌==◌ xs k) || has ◌==◌ ys k)
    go ih true = refl
    go ih false = ih

has-without : (key : ℕ) (xs : List ℕ) (k : ℕ) → has ◌==◌ (without ◌==◌ key xs) k ≡ (if key == k then false else has ◌==◌ xs k)
has-without key [] k = grind arith
has-without key (x ∷ xs) k = grind (arith, eqb-true, eq-eqb, ne_eqb, has-without key xs k)

absent-has : (xs : List ℕ) (k : ℕ) → ¬ (Among k xs) → has ◌==◌ xs k ≡ false
absent-has xs k n = false_from_ne_true _ (λ e. n (has-among ◌==◌ number-exact xs k e))

-- The members

pub members-push : (given waiting : List ℕ) (key : ℕ) → members (walk_of given (waiting ++ key ∷ [])) ≡ members (walk_of given waiting) ++ key ∷ []
members-push given waiting key = sym (append_assoc given waiting (key ∷ []))

pub members-given : (given waiting : List ℕ) → members (given_first given waiting) ≡ given ++ waiting
members-given given [] = refl
members-given given (key ∷ keys) = append_assoc given (key ∷ []) keys

pub members-without : (key : ℕ) (w : Walk) → members (without_member key w) ≡ without ◌==◌ key (members w)
members-without key w = sym (filter-append (λ k. not (k == key)) w.given w.waiting)

-- a member was one before, or is the key that came
pub member-came : (key : ℕ) (w : Walk) (k : ℕ) → Among k (members (with_member key w)) → (k ≡ key) ⊎ Among k (members w)
member-came key w k m = go (has ◌==◌ (members w) key) m
  where
    go : (b : Bool) → Among k (members (if b then w else walk_of w.given (w.waiting ++ key ∷ []))) → (k ≡ key) ⊎ Among k (members w)
    go true n = inr n
    go false n = ⊎_elim
        (λ t. inr t)
        (λ t. ⊎_elim (λ e. inl (sym e)) (λ none. absurd none) t)
        (Among-append k (members w) (key ∷ []) (subst (Among k) (members-push w.given w.waiting key) n))

-- and once a key left it was one before, and is another
pub member-left : (key : ℕ) (w : Walk) (k : ℕ) → Among k (members (without_member key w)) → Among k (members w) × (k ≢ key)
member-left key w k m =
    let n : Among k (without ◌==◌ key (members w)) = subst (Among k) (members-without key w) m in (
      Among-filtered (λ j. not (j == key)) k (members w) n,
      λ e. true≢false (sym (Among-passes (λ j. not (j == key)) k (members w) n) ∙ ap not (eq-eqb k key e)),
    )

pub member-given : (w : Walk) (k : ℕ) → Among k (members (gone_on w)) → Among k (members w)
member-given w k m = subst (Among k) (members-given w.given w.waiting) m

-- The states

-- a key is in the set where it is a member
pub walked-member : (w : Walk) (key : ℕ) → is_walked (states_of w key) ≡ has ◌==◌ (members w) key
walked-member w key = go (has ◌==◌ w.given key) (has ◌==◌ w.waiting key) ∙ sym (has-append w.given w.waiting key)
  where
    go : (a b : Bool) → is_walked (state_if a b) ≡ (a || b)
    go true b = refl
    go false true = refl
    go false false = refl

-- and out of it where it is none
pub states-absent : (w : Walk) (key : ℕ) → ¬ (Among key (members w)) → states_of w key ≡ Out
states-absent w key n =
    let none = or-none (has ◌==◌ w.given key) (has ◌==◌ w.waiting key) (sym (has-append w.given w.waiting key) ∙ absent-has (members w) key n) in
    rw (none.0, none.1) refl

-- other keys stand as they did
pub with_state-other : (walks : Walks) (key : ℕ) (state : Walked) (k : ℕ) → k ≢ key → with_state walks key state k ≡ walks k
with_state-other walks key state k o = rw (ne_eqb key k (λ e. o (sym e))) refl

-- the state that a key has is no other
with_state-here : (walks : Walks) (key : ℕ) → with_state walks key (walks key) ≡ walks
with_state-here walks key = fun_ext (λ k. go k (key == k) refl)
  where
    go : (k : ℕ) (b : Bool) → (key == k) ≡ b → (if b then walks key else walks k) ≡ walks k
    go k true e = ap walks (eqb-true key k e)
    go k false e = refl

entered-member : (a b : Bool) → (a || b) ≡ true → entered (state_if a b) ≡ state_if a b
entered-member true b e = refl
entered-member false true e = refl
entered-member false false e = absurd (true≢false (sym e))

-- a key comes in
states-push : (given waiting : List ℕ) (key : ℕ) → has ◌==◌ (given ++ waiting) key ≡ false →
    states_of (walk_of given (waiting ++ key ∷ [])) ≡ with_state (states_of (walk_of given waiting)) key Waiting
states-push given waiting key e = fun_ext (λ k. at k (key == k) refl)
  where
    none : (has ◌==◌ given key ≡ false) × (has ◌==◌ waiting key ≡ false)
    none = or-none (has ◌==◌ given key) (has ◌==◌ waiting key) (sym (has-append given waiting key) ∙ e)

    here : states_of (walk_of given (waiting ++ key ∷ [])) key ≡ Waiting
    here = rw (none.0, has-append waiting (key ∷ []) key, eq-eqb key key refl, none.1) refl

    at : (k : ℕ) (b : Bool) → (key == k) ≡ b →
        states_of (walk_of given (waiting ++ key ∷ [])) k ≡ (if b then Waiting else states_of (walk_of given waiting) k)
    at k true s = subst (λ j. states_of (walk_of given (waiting ++ key ∷ [])) j ≡ Waiting) (eqb-true key k s) here
    at k false s = ap (state_if (has ◌==◌ given k)) (has-append waiting (key ∷ []) k ∙ (ap (λ b. has ◌==◌ waiting k || (b || false)) s ∙ or-false (has ◌==◌ waiting k)))

pub states-with_member : (key : ℕ) (w : Walk) → states_of (with_member key w) ≡ with_state (states_of w) key (entered (states_of w key))
states-with_member key w = go (has ◌==◌ (members w) key) refl
  where
    go : (b : Bool) → has ◌==◌ (members w) key ≡ b →
        states_of (if b then w else walk_of w.given (w.waiting ++ key ∷ [])) ≡ with_state (states_of w) key (entered (states_of w key))
    go true e =
        let in_it : (has ◌==◌ w.given key || has ◌==◌ w.waiting key) ≡ true = sym (has-append w.given w.waiting key) ∙ e in
        sym (ap (with_state (states_of w) key) (entered-member (has ◌==◌ w.given key) (has ◌==◌ w.waiting key) in_it) ∙ with_state-here (states_of w) key)
    go false e =
        let none = or-none (has ◌==◌ w.given key) (has ◌==◌ w.waiting key) (sym (has-append w.given w.waiting key) ∙ e) in
        let out : entered (states_of w key) ≡ Waiting = rw (none.0, none.1) refl in
        states-push w.given w.waiting key e ∙ ap (with_state (states_of w) key) (sym out)

-- the first that waits is given
states-given : (given waiting : List ℕ) (key : ℕ) → first_of waiting ≡ Some key →
    states_of (given_first given waiting) ≡ with_state (states_of (walk_of given waiting)) key Given
states-given given [] key e = absurd (cc)
states-given given (x ∷ xs) key e =
    let same : x ≡ key = cc in
    subst (λ j. states_of (given_first given (x ∷ xs)) ≡ with_state (states_of (walk_of given (x ∷ xs))) j Given) same (fun_ext (λ k. at k (x == k) refl))
  where
    at : (k : ℕ) (b : Bool) → (x == k) ≡ b →
        states_of (walk_of (given ++ x ∷ []) xs) k ≡ (if b then Given else state_if (has ◌==◌ given k) (b || has ◌==◌ xs k))
    at k true s = ap (λ b. state_if b (has ◌==◌ xs k)) (has-append given (x ∷ []) k ∙ (ap (λ b. has ◌==◌ given k || (b || false)) s ∙ or-true (has ◌==◌ given k)))
    at k false s = ap (λ b. state_if b (has ◌==◌ xs k)) (has-append given (x ∷ []) k ∙ (ap (λ b. has ◌==◌ given k || (b || false)) s ∙ or-false (has ◌==◌ given k)))

pub states-gone_on : (w : Walk) (key : ℕ) → first_of w.waiting ≡ Some key → states_of (gone_on w) ≡ with_state (states_of w) key Given
states-gone_on w key e = states-given w.given w.waiting key e

-- and has waited
pub states-first : (w : Walk) (key : ℕ) → first_of w.waiting ≡ Some key → ¬ (Among key w.given) → states_of w key ≡ Waiting
states-first w key e n =
    let waits : has ◌==◌ w.waiting key ≡ true = has-there ◌==◌ number-exact w.waiting key (first-among w.waiting key e) in
    rw (absent-has w.given key n, waits) refl

-- where there is none, none waits
pub states-none : (w : Walk) → first_of w.waiting ≡ None → NoneWaits (states_of w)
states-none w e key = go w.waiting e (has ◌==◌ w.given key)
  where
    go : (waiting : List ℕ) → first_of waiting ≡ None → (b : Bool) → state_if b (has ◌==◌ waiting key) ≢ Waiting
    go [] e true s = absurd (cc)
    go [] e false s = absurd (cc)
    go (x ∷ xs) e b s = absurd (cc)

pub gone_on-none : (w : Walk) → first_of w.waiting ≡ None → gone_on w ≡ w
gone_on-none w e = go w.given w.waiting e
  where
    go : (given waiting : List ℕ) → first_of waiting ≡ None → given_first given waiting ≡ walk_of given waiting
    go given [] e = refl
    go given (x ∷ xs) e = absurd (cc)

-- a key leaves
pub states-without : (key : ℕ) (w : Walk) → states_of (without_member key w) ≡ with_state (states_of w) key Out
states-without key w = fun_ext (λ k. rw (has-without key w.given k, has-without key w.waiting k) (go k (key == k)))
  where
    go : (k : ℕ) (b : Bool) → state_if (if b then false else has ◌==◌ w.given k) (if b then false else has ◌==◌ w.waiting k) ≡ (if b then Out else states_of w k)
    go k true = refl
    go k false = refl
