-- WALKS: what is left of a walk at its first, at the next, and while others leave or go last.
use Rattle.std.proofs.Common.{◌≡◌, ℕ, ◌+◌, ◌≤◌, ◌==◌, Bool, true, false, not, cond, List, [], ◌∷◌, ◌++◌, map, Option, Some, None, refl, sym, ◌∙◌, ap, subst, inl, inr, ⊎_elim, arith, count_by}
use Rattle.std.specs.List.{filter, find}
use Rattle.std.proofs.lemmas.Bool.{eq-eqb}
use Rattle.std.proofs.lemmas.List.{append_assoc}
use Rattle.std.proofs.lemmas.List.Elements.{filter-append}
use Rattle.cc_lists.specs.Members.{Among}
use Rattle.cc_lists.specs.Walks.{first_of, HasDistinctKeys, first_key, next_key, left_at}
use Rattle.cc_lists.proofs.Counting.{count_by-cons, count_by-append}
use Rattle.cc_lists.proofs.CountsOf.{count_by-none_passes}
use Rattle.cc_lists.proofs.Filtering.{filter-each}

-- the first stands in the list
pub first-among : {X : Type 0} (xs : List X) (x : X) → first_of xs ≡ Some x → Among x xs
first-among [] x e = absurd (cc)
first-among (y ∷ ys) x e = let same : y ≡ x = cc in inl same

-- where a member stands in its list
pub record IsBetween (X : Type 0) (x : X) (xs : List X) : Type 0 where
  pub before : List X
  pub behind : List X
  pub whole : xs ≡ before ++ x ∷ behind

pub among-between : {X : Type 0} (x : X) (xs : List X) → Among x xs → IsBetween X x xs
among-between x [] m = absurd m
among-between x (y ∷ ys) m = ⊎_elim
    (λ e. record { before = []; behind = ys; whole = ap (λ z. z ∷ ys) e })
    (λ t. let b = among-between x ys t in record { before = y ∷ b.before; behind = b.behind; whole = ap (λ zs. y ∷ zs) b.whole }) m

module _ {X : Type 0} (key : X → ℕ) where
  -- A member between others

  -- none of them has the key
  abbrev pub AreOthers : ℕ → List X → Type 0
  AreOthers k xs = (x : X) → Among x xs → (key x == k) ≡ false

  -- others stand around a member, where keys are distinct
  pub others-around : (xs : List X) (x : X) (ys : List X) → HasDistinctKeys key (xs ++ x ∷ ys) → AreOthers (key x) xs × AreOthers (key x) ys
  others-around xs x ys once = (λ y m. count_by-none_passes at_key xs y (omega (arith, whole)) m, λ y m. count_by-none_passes at_key ys y (omega (arith, whole)) m)
    where
      at_key : X → Bool
      at_key y = key y == key x

      whole : count_by at_key xs + (1 + count_by at_key ys) ≤ 1
      whole = subst (λ n. n ≤ 1)
          (count_by-append at_key xs (x ∷ ys)
          ∙ ap (λ n. count_by at_key xs + n) (count_by-cons at_key x ys ∙ ap (λ b. cond b 1 0 + count_by at_key ys) (eq-eqb (key x) (key x) refl)))
          (once (key x))

  module _ (x : X) (ys : List X) where
    -- it is found by its key,
    pub found-between : (xs : List X) → AreOthers (key x) xs → find (λ y. key y == key x) (xs ++ x ∷ ys) ≡ Some x
    found-between [] apart = rw (eq-eqb (key x) (key x) refl) refl
    found-between (z ∷ zs) apart = rw (apart z (inl refl)) (found-between zs (λ y m. apart y (inr m)))

    -- the next key is that of the first behind it,
    pub next-between : (xs : List X) → AreOthers (key x) xs → next_key key (xs ++ x ∷ ys) (key x) ≡ first_key key ys
    next-between [] apart = rw (eq-eqb (key x) (key x) refl, next_key) refl
    next-between (z ∷ zs) apart = rw (apart z (inl refl), next_key) (next-between zs (λ y m. apart y (inr m)))

    -- it is left at its key, and those behind it,
    pub left-between : (xs : List X) → AreOthers (key x) xs → left_at key (xs ++ x ∷ ys) (Some (key x)) ≡ x ∷ ys
    left-between [] apart = rw (eq-eqb (key x) (key x) refl, left_at) refl
    left-between (z ∷ zs) apart = rw (apart z (inl refl), left_at) (left-between zs (λ y m. apart y (inr m)))

    -- and without it the others are left
    pub without-between : (xs : List X) → AreOthers (key x) xs → AreOthers (key x) ys → filter (λ y. not (key y == key x)) (xs ++ x ∷ ys) ≡ xs ++ ys
    without-between xs before behind =
        filter-append other xs (x ∷ ys)
        ∙ (λ i. filter-each other xs (λ y m. ap not (before y m)) i ++ last i)
      where
        other : X → Bool
        other y = not (key y == key x)

        last : filter other (x ∷ ys) ≡ ys
        last = rw (eq-eqb (key x) (key x) refl) (filter-each other ys (λ y m. ap not (behind y m)))

  -- THE CURSOR

  -- a walk that stands at the first of a rest has this rest left:
  pub left-rest : (xs ys : List X) → HasDistinctKeys key (xs ++ ys) → left_at key (xs ++ ys) (first_key key ys) ≡ ys
  left-rest xs [] once = refl
  left-rest xs (y ∷ ys) once = left-between y ys xs (others-around xs y ys once).0

  -- at the start all is left,
  pub left-first : (xs : List X) → left_at key xs (first_key key xs) ≡ xs
  left-first [] = refl
  left-first (x ∷ xs) = rw (eq-eqb (key x) (key x) refl, left_at) refl

  -- what stands behind a member is left at the next,
  left-behind : (before : List X) (x : X) (behind : List X) → HasDistinctKeys key (before ++ x ∷ behind) → left_at key (before ++ x ∷ behind) (first_key key behind) ≡ behind
  left-behind before x behind once =
      let whole : before ++ x ∷ behind ≡ (before ++ x ∷ []) ++ behind = sym (append_assoc before (x ∷ []) behind) in
      ap (λ zs. left_at key zs (first_key key behind)) whole ∙ left-rest (before ++ x ∷ []) behind (subst (HasDistinctKeys key) whole once)

  -- what is left stands in the list
  pub left-among : (xs : List X) (at : Option ℕ) (x : X) → Among x (left_at key xs at) → Among x xs
  left-among xs None x m = absurd m
  left-among [] (Some k) x m = m
  left-among (y ∷ ys) (Some k) x m = go (left-among ys (Some k) x) (key y == k) m
    where
      go : (Among x (left_at key ys (Some k)) → Among x ys) → (b : Bool) → Among x (elim b [ true ↦ y ∷ ys | false ↦ left_at key ys (Some k) ]) → Among x (y ∷ ys)
      go ih true n = n
      go ih false n = inr (ih n)

  module _ (xs : List X) (x : X) (once : HasDistinctKeys key xs) (m : Among x xs) where
    place : IsBetween X x xs
    place = among-between x xs m

    distinct : HasDistinctKeys key (place.before ++ x ∷ place.behind)
    distinct = subst (HasDistinctKeys key) place.whole once

    apart : AreOthers (key x) place.before × AreOthers (key x) place.behind
    apart = others-around place.before x place.behind distinct

    next_is : next_key key xs (key x) ≡ first_key key place.behind
    next_is = ap (λ zs. next_key key zs (key x)) place.whole ∙ next-between x place.behind place.before apart.0

    rest_is : left_at key xs (next_key key xs (key x)) ≡ place.behind
    rest_is = (λ i. left_at key (place.whole i) (next_is i)) ∙ left-behind place.before x place.behind distinct

    -- at a member this one is left, and what is left at the next;
    pub left-next : left_at key xs (Some (key x)) ≡ x ∷ left_at key xs (next_key key xs (key x))
    left-next = ap (λ zs. left_at key zs (Some (key x))) place.whole ∙ (left-between x place.behind place.before apart.0 ∙ ap (λ zs. x ∷ zs) (sym rest_is))

    -- The first that is left at the next has its key,
    pub next-stands : first_key key (left_at key xs (next_key key xs (key x))) ≡ next_key key xs (key x)
    next-stands = ap (first_key key) rest_is ∙ sym next_is

  -- as the first that is left at the first has,
  pub first-stands : (xs : List X) → first_key key (left_at key xs (first_key key xs)) ≡ first_key key xs
  first-stands xs = ap (first_key key) (left-first xs)

  -- and where a walk so stands at a key, there is a member with it
  pub record StandsAt (xs : List X) (k : ℕ) : Type 0 where
    pub this : X
    pub behind : List X
    pub left : left_at key xs (Some k) ≡ this ∷ behind
    pub here : key this ≡ k
    pub there : Among this xs

  pub stands-at : (xs : List X) (k : ℕ) → first_key key (left_at key xs (Some k)) ≡ Some k → StandsAt xs k
  stands-at xs k e = go (left_at key xs (Some k)) refl e
    where
      go : (left : List X) → left_at key xs (Some k) ≡ left → first_key key left ≡ Some k → StandsAt xs k
      go [] l f = absurd (cc)
      go (x ∷ ys) l f = record { this = x; behind = ys; left = l; here = cc; there = left-among xs (Some k) x (subst (Among x) (sym l) (inl refl)) }

  -- the first key is that of a member, and so is the next
  pub first_key-among : (xs : List X) (k : ℕ) → first_key key xs ≡ Some k → (x : X) × Among x xs × (key x ≡ k)
  first_key-among [] k e = absurd (cc)
  first_key-among (x ∷ xs) k e = let same : key x ≡ k = cc in (x, inl refl, same)

  pub next_key-among : (xs : List X) (j k : ℕ) → next_key key xs j ≡ Some k → (x : X) × Among x xs × (key x ≡ k)
  next_key-among [] j k e = absurd (cc)
  next_key-among (x ∷ xs) j k e = go (next_key-among xs j k) (key x == j) e
    where
      further : (y : X) × Among y xs × (key y ≡ k) → (y : X) × Among y (x ∷ xs) × (key y ≡ k)
      further f = (f.0, inr f.1, f.2)

      go : (next_key key xs j ≡ Some k → (y : X) × Among y xs × (key y ≡ k)) → (b : Bool) →
          elim b [ true ↦ first_key key xs | false ↦ next_key key xs j ] ≡ Some k → (y : X) × Among y (x ∷ xs) × (key y ≡ k)
      go ih true f = further (first_key-among xs k f)
      go ih false f = further (ih f)

-- A walk over a list that was mapped

module _ {X Y : Type 0} (key : Y → ℕ) (f : X → Y) where
  pub first_key-map : (xs : List X) → first_key key (map f xs) ≡ first_key (λ x. key (f x)) xs
  first_key-map [] = refl
  first_key-map (x ∷ xs) = refl

  pub next_key-map : (xs : List X) (k : ℕ) → next_key key (map f xs) k ≡ next_key (λ x. key (f x)) xs k
  next_key-map [] k = refl
  next_key-map (x ∷ xs) k = λ i. elim (key (f x) == k) [ true ↦ first_key-map xs i | false ↦ next_key-map xs k i ]
