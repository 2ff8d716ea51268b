-- The links of the keys of a list, and of the list once a key goes last or leaves.
use Rattle.std.proofs.Common.{◌≡◌, ◌≢◌, ℕ, Bool, true, false, not, List, [], ◌∷◌, ◌++◌, Option, Some, None, is_some, refl, sym, ◌∙◌, ap, subst, inl, inr, ◌⊎◌, ⊎_elim, if◌then◌else◌, arith}
use Rattle.std.specs.Prelude.{◌==◌}
use Rattle.std.specs.List.{filter}
use Rattle.std.proofs.lemmas.Bool.{true≢false, eqb-true, eq-eqb, ne_eqb, false_from_ne_true}
use Rattle.cc_lists.specs.Members.{Among, has, without}
use Rattle.cc_lists.proofs.Members.{Among-append, Among-filtered, Among-passes}
use Rattle.cc_lists.proofs.Filtering.{filter-each}
use Rattle.cc_chain.specs.declared.link.Link.{Link}
use Rattle.cc_chain.specs.Links.{is_key, with_before, with_after}
use Rattle.cc_lists.specs.Walks.{first_of}
use Rattle.cc_chain.specs.Chains.{AllDiffer, last_or, behind, link_from}
use Rattle.cc_chain.proofs.Links.{changed_at, changed_at-none}

-- Lists of distinct elements

pub AllDiffer-push : {X : Type 0} (xs : List X) (y : X) → AllDiffer xs → ¬ (Among y xs) → AllDiffer (xs ++ y ∷ [])
AllDiffer-push [] y d n = (λ m. m, tt)
AllDiffer-push (x ∷ xs) y d n = (
  λ m. ⊎_elim d.0 (λ t. ⊎_elim (λ e. n (inl (sym e))) (λ r. r) t) (Among-append x xs (y ∷ []) m),
  AllDiffer-push xs y d.1 (λ m. n (inr m)),
)

pub AllDiffer-filter : {X : Type 0} (p : X → Bool) (xs : List X) → AllDiffer xs → AllDiffer (filter p xs)
AllDiffer-filter p [] d = d
AllDiffer-filter p (x ∷ xs) d = grind (arith, Among-filtered, AllDiffer-filter p xs d.1)

-- a key that is not there leaves nothing out
pub without-absent : (key : ℕ) (xs : List ℕ) → ¬ (Among key xs) → without ◌==◌ key xs ≡ xs
without-absent key xs n = filter-each (λ x. not (x == key)) xs (λ x m. rw (ne_eqb x key (λ e. n (subst (λ y. Among y xs) e m))) refl)

-- the first of distinct keys leaves the others
pub without-first : (key : ℕ) (xs : List ℕ) → ¬ (Among key xs) → without ◌==◌ key (key ∷ xs) ≡ xs
without-first key xs n = rw (eq-eqb key key refl) (without-absent key xs n)

pub without-leaves : (key : ℕ) (xs : List ℕ) → ¬ (Among key (without ◌==◌ key xs))
without-leaves key xs m = true≢false (sym (Among-passes (λ x. not (x == key)) key xs m) ∙ rw (eq-eqb key key refl) refl)

pub first_is-among : (xs : List ℕ) (k : ℕ) → is_key (first_of xs) k ≡ true → Among k xs
first_is-among xs k e = grind (arith, true≢false, eqb-true)

pub last-among : (before : Option ℕ) (xs : List ℕ) (k : ℕ) → is_key (last_or before xs) k ≡ true → (is_key before k ≡ true) ⊎ Among k xs
last-among before [] k e = inl e
last-among before (x ∷ xs) k e = inr (⊎_elim (λ s. inl (eqb-true x k s)) (λ t. inr t) (last-among (Some x) xs k e))

-- Who has a link

pub link_from-absent : (before : Option ℕ) (xs : List ℕ) (k : ℕ) → ¬ (Among k xs) → link_from before xs k ≡ None
link_from-absent before [] k n = refl
link_from-absent before (x ∷ xs) k n = rw (ne_eqb x k (λ e. n (inl e))) (link_from-absent (Some x) xs k (λ m. n (inr m)))

pub link_from-among : (before : Option ℕ) (xs : List ℕ) (k : ℕ) → Among k xs → is_some (link_from before xs k) ≡ true
link_from-among before [] k m = absurd m
link_from-among before (x ∷ xs) k m = grind (arith, true≢false, eq-eqb, link_from-among (Some x) xs k)

pub link_from-has : (before : Option ℕ) (xs : List ℕ) (k : ℕ) → is_some (link_from before xs k) ≡ has ◌==◌ xs k
link_from-has before [] k = refl
link_from-has before (x ∷ xs) k = grind (arith, link_from-has (Some x) xs k)

-- What a link says

-- of two cases, the first key of the list has the link, or a later one
link_from-cases : (before : Option ℕ) (x : ℕ) (xs : List ℕ) (k : ℕ) (link : Link) → link_from before (x ∷ xs) k ≡ Some link →
    ((x ≡ k) × (record { before = before; after = first_of xs } ≡ link)) ⊎ ((x ≢ k) × (link_from (Some x) xs k ≡ Some link))
link_from-cases before x xs k link = grind (arith, eqb-true, true≢false, eq-eqb)

pub before-among : (before : Option ℕ) (xs : List ℕ) (k : ℕ) (link : Link) (j : ℕ) → link_from before xs k ≡ Some link →
    is_key link.before j ≡ true → (is_key before j ≡ true) ⊎ Among j xs
before-among before [] k link j found e = absurd (cc)
before-among before (x ∷ xs) k link j found e = ⊎_elim
    (λ h. inl (subst (λ (l : Link). is_key l.before j ≡ true) (sym h.1) e))
    (λ t. inr (⊎_elim (λ s. inl (eqb-true x j s)) (λ r. inr r) (before-among (Some x) xs k link j t.1 e)))
    (link_from-cases before x xs k link found)

pub after-among : (before : Option ℕ) (xs : List ℕ) (k : ℕ) (link : Link) (j : ℕ) → link_from before xs k ≡ Some link →
    is_key link.after j ≡ true → Among j xs
after-among before [] k link j found e = absurd (cc)
after-among before (x ∷ xs) k link j found e = ⊎_elim
    (λ h. inr (first_is-among xs j (subst (λ (l : Link). is_key l.after j ≡ true) (sym h.1) e)))
    (λ t. inr (after-among (Some x) xs k link j t.1 e))
    (link_from-cases before x xs k link found)

-- the key after another is the first of what stands behind it
pub after-behind : (before : Option ℕ) (xs : List ℕ) (k : ℕ) (link : Link) → link_from before xs k ≡ Some link → link.after ≡ first_of (behind k xs)
after-behind before [] k link found = absurd (cc)
after-behind before (x ∷ xs) k link found = ⊎_elim
    (λ h. rw (eq-eqb x k h.0) (ap (λ (l : Link). l.after) (sym h.1)))
    (λ t. rw (ne_eqb x k t.0) (after-behind (Some x) xs k link t.1))
    (link_from-cases before x xs k link found)

-- A key goes last

-- a list of distinct keys does not end with its first key, if it has another
last-other : (x y : ℕ) (ys : List ℕ) → ¬ (Among x (y ∷ ys)) → is_key (last_or (Some y) ys) x ≡ false
last-other x y ys n = false_from_ne_true _ (λ e. ⊎_elim (λ s. n (inl (eqb-true y x s))) (λ t. n (inr t)) (last-among (Some y) ys x e))

-- the first key of a list to which a key goes last: its link is changed only where it is alone
push-first : (before : Option ℕ) (x : ℕ) (xs : List ℕ) (key : ℕ) → ¬ (Among x xs) →
    Some (record { before = before; after = first_of (xs ++ key ∷ []) }) ≡
    changed_at (last_or (Some x) xs) (with_after (Some key)) x (Some (record { before = before; after = first_of xs }))
push-first before x xs key n = grind (arith, eq-eqb, last-other)

pub link_from-push : (before : Option ℕ) (xs : List ℕ) (key k : ℕ) → AllDiffer xs → ¬ (Among key xs) → is_key before key ≡ false →
    link_from before (xs ++ key ∷ []) k ≡
    changed_at (last_or before xs) (with_after (Some key)) k (if key == k then Some (record { before = last_or before xs; after = None }) else link_from before xs k)
link_from-push before [] key k d n apart = grind (arith, changed_at, eqb-true, changed_at-none)
link_from-push before (x ∷ xs) key k d n apart = go (link_from-push (Some x) xs key k d.1 (λ m. n (inr m)) (ne_eqb x key (λ e. n (inl e)))) (x == k) refl
  where
    alone : Option Link
    alone = Some (record { before = last_or (Some x) xs; after = None })

    go : link_from (Some x) (xs ++ key ∷ []) k ≡ changed_at (last_or (Some x) xs) (with_after (Some key)) k (if key == k then alone else link_from (Some x) xs k) →
        (b : Bool) → (x == k) ≡ b →
        (if b then Some (record { before = before; after = first_of (xs ++ key ∷ []) }) else link_from (Some x) (xs ++ key ∷ []) k) ≡
        changed_at (last_or (Some x) xs) (with_after (Some key)) k
        (if key == k then alone else (if b then Some (record { before = before; after = first_of xs }) else link_from (Some x) xs k))
    go ih true e =
        let same : x ≡ k = eqb-true x k e in
        let other : (key == k) ≡ false = ne_eqb key k (λ s. n (inl (same ∙ sym s))) in
        rw (other, ← same) (push-first before x xs key d.0)
    go ih false e = ih

pub last-push : (before : Option ℕ) (xs : List ℕ) (key : ℕ) → last_or before (xs ++ key ∷ []) ≡ Some key
last-push before [] key = refl
last-push before (x ∷ xs) key = last-push (Some x) xs key

pub first-push : (xs : List ℕ) (key : ℕ) → first_of (xs ++ key ∷ []) ≡ (elim (last_or None xs) [ None ↦ Some key | Some _ ↦ first_of xs ])
first-push [] key = refl
first-push (x ∷ xs) key = go (last_or (Some x) xs) (some x xs)
  where
    some : (x : ℕ) (xs : List ℕ) → is_some (last_or (Some x) xs) ≡ true
    some x [] = refl
    some x (y ∷ ys) = some y ys

    go : (o : Option ℕ) → is_some o ≡ true → Some x ≡ (elim o [ None ↦ Some key | Some _ ↦ Some x ])
    go None e = absurd (true≢false (sym e))
    go (Some y) e = refl

-- A key leaves

-- the neighbours of a key that leaves come to stand side by side
abbrev pub closed_over : Link → ℕ → Option Link → Option Link
closed_over left k link = changed_at left.after (with_before left.before) k (changed_at left.before (with_after left.after) k link)

pub closed_over-none : (left : Link) (k : ℕ) → closed_over left k None ≡ None
closed_over-none left k = search (changed_at-none)

-- another key before the list
other-before : (before other : Option ℕ) (xs : List ℕ) (k : ℕ) → link_from before xs k ≡ changed_at (first_of xs) (with_before before) k (link_from other xs k)
other-before before other xs k = grind arith

-- the first key leaves
first-left : (before : Option ℕ) (key : ℕ) (xs : List ℕ) (k : ℕ) → ((j : ℕ) → is_key before j ≡ true → ¬ (Among j xs)) →
    link_from before xs k ≡ closed_over (record { before = before; after = first_of xs }) k (link_from (Some key) xs k)
first-left before key xs k apart = grind (arith, changed_at, link_from-absent, changed_at-none, other-before)

-- a later key leaves: what the first key sees
later-left : (before : Option ℕ) (x : ℕ) (xs : List ℕ) (key : ℕ) (left : Link) → ¬ (Among x xs) → AllDiffer xs → link_from (Some x) xs key ≡ Some left →
    Some (record { before = before; after = first_of (without ◌==◌ key xs) }) ≡ closed_over left x (Some (record { before = before; after = first_of xs }))
later-left before x [] key left n d found = absurd (cc)
later-left before x (y ∷ ys) key left n d found =
    let after_other : is_key left.after x ≡ false = false_from_ne_true _ (λ e. n (after-among (Some x) (y ∷ ys) key left x found e)) in
    ⊎_elim
    (λ h.
    let here : left.before ≡ Some x = ap (λ (l : Link). l.before) (sym h.1) in
    let next : left.after ≡ first_of ys = ap (λ (l : Link). l.after) (sym h.1) in
    rw (eq-eqb y key h.0, without-absent key ys (subst (λ z. ¬ (Among z ys)) h.0 d.0), after_other, here, eq-eqb x x refl, next) refl)
    (λ t.
    let before_other : is_key left.before x ≡ false = false_from_ne_true _ (λ e.
    n (⊎_elim (λ s. inl (eqb-true y x s)) (λ r. inr r) (before-among (Some y) ys key left x t.1 e))) in
    rw (ne_eqb y key t.0, after_other, before_other) refl)
    (link_from-cases (Some x) y ys key left found)

pub link_from-without : (before : Option ℕ) (xs : List ℕ) (key : ℕ) (left : Link) (k : ℕ) → AllDiffer xs →
    ((j : ℕ) → is_key before j ≡ true → ¬ (Among j xs)) → link_from before xs key ≡ Some left → k ≢ key →
    link_from before (without ◌==◌ key xs) k ≡ closed_over left k (link_from before xs k)
link_from-without before [] key left k d apart found other = absurd (cc)
link_from-without before (x ∷ xs) key left k d apart found other =
    let rest : link_from (Some x) xs key ≡ Some left → link_from (Some x) (without ◌==◌ key xs) k ≡ closed_over left k (link_from (Some x) xs k) =
    λ t. link_from-without (Some x) xs key left k d.1 (λ j e m. d.0 (subst (λ z. Among z xs) (sym (eqb-true x j e)) m)) t other in
    ⊎_elim
    (λ h.
    let absent : ¬ (Among key xs) = subst (λ z. ¬ (Among z xs)) h.0 d.0 in
    let unlike : (x == k) ≡ false = ne_eqb x k (λ s. other (sym s ∙ h.0)) in
    rw (eq-eqb x key h.0, without-absent key xs absent, unlike) (subst (λ (l : Link). link_from before xs k ≡ closed_over l k (link_from (Some x) xs k)) h.1
    (first-left before x xs k (λ j e m. apart j e (inr m)))))
    (λ t. rw (ne_eqb x key t.0) (seen (rest t.1) t.1 (x == k) refl))
    (link_from-cases before x xs key left found)
  where
    seen : link_from (Some x) (without ◌==◌ key xs) k ≡ closed_over left k (link_from (Some x) xs k) → link_from (Some x) xs key ≡ Some left → (b : Bool) → (x == k) ≡ b →
        (if b then Some (record { before = before; after = first_of (without ◌==◌ key xs) }) else link_from (Some x) (without ◌==◌ key xs) k) ≡
        closed_over left k (if b then Some (record { before = before; after = first_of xs }) else link_from (Some x) xs k)
    seen ih t true e = rw (← eqb-true x k e) (later-left before x xs key left d.0 d.1 t)
    seen ih t false e = ih

-- and at the ends
before-some : (x : ℕ) (xs : List ℕ) (key : ℕ) (left : Link) → link_from (Some x) xs key ≡ Some left → is_some left.before ≡ true
before-some x [] key left found = absurd (cc)
before-some x (y ∷ ys) key left found = ⊎_elim
    (λ h. ap (λ (l : Link). is_some l.before) (sym h.1))
    (λ t. before-some y ys key left t.1)
    (link_from-cases (Some x) y ys key left found)

pub first-without : (xs : List ℕ) (key : ℕ) (left : Link) → AllDiffer xs → link_from None xs key ≡ Some left →
    first_of (without ◌==◌ key xs) ≡ (elim left.before [ None ↦ left.after | Some _ ↦ first_of xs ])
first-without [] key left d found = absurd (cc)
first-without (x ∷ xs) key left d found = ⊎_elim
    (λ h.
    let absent : ¬ (Among key xs) = subst (λ z. ¬ (Among z xs)) h.0 d.0 in
    let here : left.before ≡ None = ap (λ (l : Link). l.before) (sym h.1) in
    let next : left.after ≡ first_of xs = ap (λ (l : Link). l.after) (sym h.1) in
    rw (eq-eqb x key h.0, without-absent key xs absent, here) (sym next))
    (λ t. rw (ne_eqb x key t.0) (go left.before (before-some x xs key left t.1)))
    (link_from-cases None x xs key left found)
  where
    go : (o : Option ℕ) → is_some o ≡ true → Some x ≡ (elim o [ None ↦ left.after | Some _ ↦ Some x ])
    go None e = absurd (true≢false (sym e))
    go (Some y) e = refl

pub last-without : (before : Option ℕ) (xs : List ℕ) (key : ℕ) (left : Link) → AllDiffer xs → link_from before xs key ≡ Some left →
    last_or before (without ◌==◌ key xs) ≡ (elim left.after [ None ↦ left.before | Some _ ↦ last_or before xs ])
last-without before [] key left d found = absurd (cc)
last-without before (x ∷ xs) key left d found =
    let rest : link_from (Some x) xs key ≡ Some left → last_or (Some x) (without ◌==◌ key xs) ≡ (elim left.after [ None ↦ left.before | Some _ ↦ last_or (Some x) xs ]) =
    λ t. last-without (Some x) xs key left d.1 t in
    ⊎_elim
    (λ h.
    let absent : ¬ (Among key xs) = subst (λ z. ¬ (Among z xs)) h.0 d.0 in
    let here : left.before ≡ before = ap (λ (l : Link). l.before) (sym h.1) in
    let next : left.after ≡ first_of xs = ap (λ (l : Link). l.after) (sym h.1) in
    rw (eq-eqb x key h.0, without-absent key xs absent, next) (go left.before here xs))
    (λ t. rw (ne_eqb x key t.0) (rest t.1))
    (link_from-cases before x xs key left found)
  where
    go : (o : Option ℕ) → o ≡ before → (ys : List ℕ) → last_or before ys ≡ (elim (first_of ys) [ None ↦ o | Some _ ↦ last_or (Some x) ys ])
    go o e [] = sym e
    go o e (y ∷ ys) = refl
