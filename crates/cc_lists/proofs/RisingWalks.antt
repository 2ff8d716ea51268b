-- WALKS BY RISING NUMBER: the next is the first with a greater number.
use Rattle.std.proofs.Common.{◌≡◌, ℕ, ◌<◌, Bool, true, false, ◌&&◌, List, [], ◌∷◌, ◌++◌, map, length, nat_lt, Option, Some, None, refl, sym, ◌∙◌, ap, subst, inl, arith}
use Rattle.std.specs.List.{filter}
use Rattle.std.proofs.Math.Bool.{and-false}
use Rattle.std.proofs.Math.Path.{fun_ext}
use Rattle.std.proofs.lemmas.Bool.{lt-ltb, ltb-true, le-ltb}
use Rattle.cc_lists.specs.Members.{Among}
use Rattle.cc_lists.specs.Walks.{first_of, first_key, next_key, IsRising, is_above, left_from}
use Rattle.cc_lists.proofs.Members.{Among-map, Among-right, Among-passes}
use Rattle.cc_lists.proofs.Filtering.{filter-each}
use Rattle.cc_lists.proofs.Searching.{filter-map, filter-filter, filter-swap}
use Rattle.cc_lists.proofs.Rising.{IsRising-tail, IsRising-first, IsRising-filter, rising-distinct}
use Rattle.cc_lists.proofs.Walks.{among-between, others-around, next-between}

-- what is above a number that is above is above
pub is_above-more : (o : Option ℕ) (i j : ℕ) → is_above o i ≡ true → i < j → is_above o j ≡ true
is_above-more None i j e l = refl
is_above-more (Some k) i j e l = let below : k < i = ltb-true k i e in lt-ltb k j (omega arith)

-- so what is above both is what is above the greater one
is_above-both : (o : Option ℕ) (i j : ℕ) → is_above o i ≡ true → (is_above o j && nat_lt i j) ≡ nat_lt i j
is_above-both o i j e = go (nat_lt i j) refl
  where
    go : (b : Bool) → nat_lt i j ≡ b → (is_above o j && b) ≡ b
    go true h = rw (is_above-more o i j e (ltb-true i j h)) refl
    go false h = and-false (is_above o j)

-- all are above none
pub all-above : (ks : List ℕ) → filter (is_above None) ks ≡ ks
all-above ks = filter-each (is_above None) ks (λ k m. refl)

module _ {X : Type 0} (number : X → ℕ) where
  -- those with a number above another, where there is one
  abbrev pub those_above : Option ℕ → List X → List X
  those_above o xs = filter (λ x. is_above o (number x)) xs

  -- those above a member stand behind it,
  pub between-above : (xs : List X) (x : X) (ys : List X) → IsRising (map number (xs ++ x ∷ ys)) → those_above (Some (number x)) (xs ++ x ∷ ys) ≡ ys
  between-above [] x ys r =
      let small : nat_lt (number x) (number x) ≡ false = le-ltb (number x) (number x) (omega arith) in
      rw small (filter-each (λ y. nat_lt (number x) (number y)) ys
      (λ y m. lt-ltb (number x) (number y) (IsRising-first (number x) (map number ys) r (number y) (Among-map number y ys m))))
  between-above (z ∷ zs) x ys r =
      let below : number z < number x = IsRising-first (number z) (map number (zs ++ x ∷ ys)) r (number x)
      (Among-map number x (zs ++ x ∷ ys) (Among-right x zs (x ∷ ys) (inl refl))) in
      let small : nat_lt (number x) (number z) ≡ false = le-ltb (number x) (number z) (omega arith) in
      rw small (between-above zs x ys (IsRising-tail (number z) (map number (zs ++ x ∷ ys)) r))

  module _ (xs : List X) (r : IsRising (map number xs)) where
    -- so the first of them is the next.
    pub next-above : (x : X) → Among x xs → next_key number xs (number x) ≡ first_key number (those_above (Some (number x)) xs)
    next-above x m =
        let b = among-between x xs m in
        let rising : IsRising (map number (b.before ++ x ∷ b.behind)) = subst (λ zs. IsRising (map number zs)) b.whole r in
        let apart = others-around number b.before x b.behind (rising-distinct number (b.before ++ x ∷ b.behind) rising) in
        ap (λ zs. next_key number zs (number x)) b.whole
        ∙ (next-between number x b.behind b.before apart.0
        ∙ ap (first_key number) (sym (between-above b.before x b.behind rising) ∙ ap (those_above (Some (number x))) (sym b.whole)))

    -- Those above the first of some that are above a number are the others of these.
    pub above-first : (o : Option ℕ) (x : X) (ys : List X) → those_above o xs ≡ x ∷ ys → those_above (Some (number x)) xs ≡ ys
    above-first o x ys e =
        sym (ap (λ t. filter t xs) (fun_ext (λ (y : X). is_above-both o (number x) (number y) first)))
        ∙ (sym (filter-filter later above xs) ∙ (ap (filter later) e ∙ between-above [] x ys rising))
      where
        above : X → Bool
        above y = is_above o (number y)

        later : X → Bool
        later y = nat_lt (number x) (number y)

        first : is_above o (number x) ≡ true
        first = Among-passes above x xs (subst (Among x) (sym e) (inl refl))

        rising : IsRising (map number (x ∷ ys))
        rising = subst IsRising (filter-map (is_above o) number xs ∙ ap (map number) e) (IsRising-filter (is_above o) (map number xs) r)

-- NUMBERS ALONE

-- the numbers above another are those from the first of them on
pub left_from-first : (ks : List ℕ) → IsRising ks → (o : Option ℕ) → left_from ks (first_of (filter (is_above o) ks)) ≡ filter (is_above o) ks
left_from-first ks r o = go (filter (is_above o) ks) refl
  where
    go : (js : List ℕ) → filter (is_above o) ks ≡ js → left_from ks (first_of js) ≡ js
    go [] e = refl
    go (j ∷ js) e = ap (λ is. j ∷ is) (above-first (λ k. k) ks (subst IsRising (sym (same ks)) r) o j js e)
      where
        same : (is : List ℕ) → map (λ k. k) is ≡ is
        same [] = refl
        same (i ∷ is) = ap (λ ls. i ∷ ls) (same is)

-- what is looked for, above a number or of all, is the first that passes of those that are left
abbrev pub LooksFrom : (ℕ → Bool) → List ℕ → Option ℕ → Option ℕ → Type 0
LooksFrom test ks after at = first_of (filter (is_above after) (filter test ks)) ≡ first_of (filter test (left_from ks at))

module _ (ks : List ℕ) (r : IsRising ks) where
  -- at a number this one, and what is left at the next,
  pub left_from-next : (at next : Option ℕ) (k : ℕ) → at ≡ Some k → next ≡ first_of (filter (is_above at) ks) → left_from ks at ≡ k ∷ left_from ks next
  left_from-next at next k is e =
      ap (left_from ks) is
      ∙ ap (λ js. k ∷ js) (sym (ap (left_from ks) (e ∙ ap (λ o. first_of (filter (is_above o) ks)) is) ∙ left_from-first ks r (Some k)))

  -- which is less.
  pub left_from-fewer : (at next : Option ℕ) (k : ℕ) → at ≡ Some k → next ≡ first_of (filter (is_above at) ks) → length (left_from ks next) < length (left_from ks at)
  left_from-fewer at next k is e =
      let whole : length (left_from ks at) ≡ length (k ∷ left_from ks next) = ap length (left_from-next at next k is e) in
      omega arith

  -- A search for the next that passes a test begins with the first above a number, where there is one,
  pub LooksFrom-start : (test : ℕ → Bool) (after at : Option ℕ) → at ≡ first_of (filter (is_above after) ks) → LooksFrom test ks after at
  LooksFrom-start test after at e =
      ap first_of (filter-swap (is_above after) test ks)
      ∙ ap (λ js. first_of (filter test js)) (sym (ap (left_from ks) e ∙ left_from-first ks r after))

  -- and goes on to the next where one does not pass.
  pub LooksFrom-next : (test : ℕ → Bool) (after at next : Option ℕ) (k : ℕ) → at ≡ Some k → LooksFrom test ks after at → test k ≡ false → next ≡ first_of (filter (is_above at) ks) →
      LooksFrom test ks after next
  LooksFrom-next test after at next k is l w e = l ∙ (ap (λ js. first_of (filter test js)) (left_from-next at next k is e) ∙ rw w refl)

-- It ends with the first that passes
pub LooksFrom-found : (test : ℕ → Bool) (ks : List ℕ) (after at : Option ℕ) (k : ℕ) → at ≡ Some k → LooksFrom test ks after at → test k ≡ true →
    at ≡ first_of (filter (is_above after) (filter test ks))
LooksFrom-found test ks after at k is l w = is ∙ sym (l ∙ (ap (λ o. first_of (filter test (left_from ks o))) is ∙ rw w refl))
