-- HOW OFTEN ENTRIES ARE LOOKED AT by who goes over the entries of objects, of each object once: at most three times each.
use Rattle.std.proofs.Common.{◌≡◌, ℕ, ◌+◌, ◌*◌, ◌≤◌, ◌==◌, zero, suc, Bool, true, false, ◌||◌, cond, List, [], ◌∷◌, length, count_by, Option, Some, None, option_map, refl, sym, ◌∙◌, ap, subst, arith}
use Rattle.std.specs.Prelude.{slice_get}
use Rattle.std.proofs.lemmas.Bool.{true≢false, false≢true, eqb-true, eq-eqb}
use Rattle.cc_lists.proofs.Counting.{count_by-cons}
use Rattle.cc_weakmaps.specs.Entries.{KeyedEntry}
use Rattle.cc_weakmaps.specs.Index.{has_object, is_it, place_below}
use Rattle.cc_weakmaps.proofs.Below.{or-true, or-false}
use Rattle.cc_marking.specs.Looking.{side_left, sides_left}

-- at first at most three for each entry
pub sides-all : (looked : ℕ → Bool) (es : List KeyedEntry) → sides_left looked es ≤ 3 * length es
sides-all looked [] = omega arith
sides-all looked (e ∷ es) = grind (arith, sides-all looked es)

-- one object more: at least as many sides less as it has entries
pub sides-fewer : (before after : ℕ → Bool) (k : ℕ) (es : List KeyedEntry) → before k ≡ false → ((j : ℕ) → after j ≡ (before j || k == j)) →
    sides_left after es + count_by (has_object k) es ≤ sides_left before es
sides-fewer before after k [] off more = omega arith
sides-fewer before after k (e ∷ es) off more =
    omega (
      arith,
      sides-fewer before after k es off more,
      count_by-cons (has_object k) e es,
      all e.the_map e.key e.delegate (is_it k e.delegate) refl,
    )
  where
    weight : Bool → ℕ
    weight b = cond b 0 1

    fewer : (d f : Bool) → weight (d || f) ≤ weight d
    fewer true f = omega arith
    fewer false true = omega arith
    fewer false false = omega arith

    read : (j : ℕ) (b c : Bool) → before j ≡ b → (k == j) ≡ c → after j ≡ (b || c)
    read j b c p q = more j ∙ (ap (λ x. x || k == j) p ∙ ap (λ x. b || x) q)

    -- a side that is k is left before, and not after
    gone : (i : ℕ) → (k == i) ≡ true → (weight (before i) ≡ 1) × (weight (after i) ≡ 0)
    gone i same =
        let off_i : before i ≡ false = subst (λ z. before z ≡ false) (eqb-true k i same) off in
        (ap weight off_i, ap weight (read i false true off_i same))

    kept : (i : ℕ) → weight (after i) ≤ weight (before i)
    kept i = let e : weight (after i) ≡ weight (before i || k == i) = ap weight (more i) in omega (arith, e, fewer (before i) (k == i))

    turned : (i : ℕ) (c : Bool) → (k == i) ≡ c → (i == k) ≡ c
    turned i true q = eq-eqb i k (sym (eqb-true k i q))
    turned i false q = go (i == k) refl
      where
        go : (b : Bool) → (i == k) ≡ b → b ≡ false
        go true e = absurd (true≢false (sym (eq-eqb k i (sym (eqb-true i k e))) ∙ q))
        go false e = refl

    side : (i j : ℕ) (c : Bool) → (k == i) ≡ c → (f : Bool) → (k == j) ≡ f → weight (after i) + weight (after j) + cond (i == k || j == k) 1 0 ≤ weight (before i) + weight (before j)
    side i j true q f s =
        let g = gone i q in
        let e : ◌≡◌ {A = ℕ} (cond (i == k || j == k) 1 0) 1 = ap (λ b. cond (b || j == k) 1 0) (turned i true q) in
        omega (arith, g.0, g.1, e, kept j)
    side i j false q true s =
        let g = gone j s in
        let e : ◌≡◌ {A = ℕ} (cond (i == k || j == k) 1 0) 1 = ap (λ b. cond (b || j == k) 1 0) (turned i false q) ∙ ap (λ b. cond b 1 0) (turned j true s) in
        omega (arith, g.0, g.1, e, kept i)
    side i j false q false s =
        let e : ◌≡◌ {A = ℕ} (cond (i == k || j == k) 1 0) 0 = ap (λ b. cond (b || j == k) 1 0) (turned i false q) ∙ ap (λ b. cond b 1 0) (turned j false s) in
        omega (arith, e, kept i, kept j)

    -- the delegate, where it is there
    it-kept : (o : Option ℕ) → side_left after o ≤ side_left before o
    it-kept None = omega arith
    it-kept (Some i) = kept i

    it-gone : (o : Option ℕ) → is_it k o ≡ true → (side_left before o ≡ 1) × (side_left after o ≡ 0)
    it-gone None e = absurd (false≢true e)
    it-gone (Some i) e = gone i (eq-eqb k i (sym (eqb-true i k e)))

    all : (i j : ℕ) (o : Option ℕ) (c : Bool) → is_it k o ≡ c →
        weight (after i) + weight (after j) + side_left after o + cond ((i == k || j == k) || is_it k o) 1 0 ≤ weight (before i) + weight (before j) + side_left before o
    all i j o true q =
        let g = it-gone o q in
        let e : ◌≡◌ {A = ℕ} (cond ((i == k || j == k) || is_it k o) 1 0) 1 = ap (λ b. cond ((i == k || j == k) || b) 1 0) q ∙ ap (λ b. cond b 1 0) (or-true (i == k || j == k)) in
        omega (arith, g.0, g.1, e, kept i, kept j)
    all i j o false q =
        let e : ◌≡◌ {A = ℕ} (cond ((i == k || j == k) || is_it k o) 1 0) (cond (i == k || j == k) 1 0) =
        ap (λ b. cond ((i == k || j == k) || b) 1 0) q ∙ ap (λ b. cond b 1 0) (or-false (i == k || j == k)) in
        omega (arith, e, it-kept o, side i j (k == i) refl (k == j) refl)

-- Over the chain of one object

abbrev test_weight : Option Bool → ℕ
test_weight o = elim o [ None ↦ 0 | Some b ↦ cond b 1 0 ]

-- how many places below n are its places
abbrev pub count_below : List KeyedEntry → ℕ → ℕ → ℕ
count_below es k zero = 0
count_below es k (suc n) = test_weight (option_map (has_object k) (slice_get es n)) + count_below es k n

-- the next place is one of them, and the others are below it
pub count-next : (es : List KeyedEntry) (k n i : ℕ) → place_below es k n ≡ Some i → count_below es k n ≡ 1 + count_below es k i
count-next es k zero i e = absurd (cc)
count-next es k (suc n) i e = grind (arith, count-next es k n i)

count-cons : (e : KeyedEntry) (es : List KeyedEntry) (k n : ℕ) → count_below (e ∷ es) k (suc n) ≡ cond (has_object k e) 1 0 + count_below es k n
count-cons e es k zero = refl
count-cons e es k (suc n) = grind (arith, count-cons e es k n)

-- none is one where there is no last place
pub count-none : (es : List KeyedEntry) (k n : ℕ) → place_below es k n ≡ None → count_below es k n ≡ 0
count-none es k zero e = refl
count-none es k (suc n) e = grind (arith, count-none es k n)

-- below the end they are all
pub count-all : (es : List KeyedEntry) (k : ℕ) → count_below es k (length es) ≡ count_by (has_object k) es
count-all [] k = refl
count-all (e ∷ es) k = count-cons e es k (length es) ∙ (ap (λ n. cond (has_object k e) 1 0 + n) (count-all es k) ∙ sym (count_by-cons (has_object k) e es))

-- a test that passes more leaves no more sides
pub sides-less : (before after : ℕ → Bool) (es : List KeyedEntry) → ((k : ℕ) → before k ≡ true → after k ≡ true) → sides_left after es ≤ sides_left before es
sides-less before after [] more = omega arith
sides-less before after (e ∷ es) more = grind (arith, true≢false, sides-less before after es more)
