-- The elements of a list that pass a test, one place after another.
use Rattle.std.specs.Prelude.{slice_get, position}
use Rattle.std.proofs.Common.{◌≡◌, ℕ, zero, suc, ◌+◌, ◌-◌, ◌<◌, ◌≤◌, Bool, true, false, cond, List, [], ◌∷◌, length, drop, filter, Option, Some, None, refl, sym, ◌∙◌, ap, subst, arith, option_map}
use Rattle.std.proofs.lemmas.List.{drop-drop}
use Rattle.std.proofs.lemmas.Option.{slice_get_within}
use Rattle.cc_graph.specs.Shown.{place_by}
use Rattle.cc_graph.proofs.Chains.{position-cons}

-- an element of what is left of a list
slice_get-drop : {X : Type 0} (xs : List X) (n k : ℕ) → slice_get (drop n xs) k ≡ slice_get xs (n + k)
slice_get-drop xs zero k = let e : k ≡ zero + k = omega arith in ap (slice_get xs) e
slice_get-drop [] (suc n) k = refl
slice_get-drop (x ∷ xs) (suc n) k = let e : suc (n + k) ≡ suc n + k = omega arith in slice_get-drop xs n k ∙ ap (slice_get (x ∷ xs)) e

-- what the search finds is the first that passes
record IsFirst {X : Type 0} (p : X → Bool) (xs : List X) (k : ℕ) : Type 0 where
  element : X
  there : slice_get xs k ≡ Some element
  passes : p element ≡ true
  rest : filter p xs ≡ element ∷ filter p (drop (suc k) xs)

position-first : {X : Type 0} (p : X → Bool) (xs : List X) (k : ℕ) → position p xs ≡ Some k → IsFirst p xs k
position-first p [] k e = absurd (cc)
position-first {X} p (x ∷ xs) k e = go (position-first p xs) (p x) refl (position p xs) refl (sym (position-cons p x xs) ∙ e)
  where
    go : ((j : ℕ) → position p xs ≡ Some j → IsFirst p xs j) → (b : Bool) → p x ≡ b → (o : Option ℕ) → position p xs ≡ o →
        cond b (Some 0) (option_map suc o) ≡ Some k → IsFirst p (x ∷ xs) k
    go ih true f o q h =
        let first : zero ≡ k = cc in
        subst (IsFirst p (x ∷ xs)) first (record { element = x; there = refl; passes = f; rest = rw f refl })
    go ih false f None q h = absurd (cc)
    go ih false f (Some j) q h =
        let next : suc j ≡ k = cc in
        let i = ih j q in
        subst (IsFirst p (x ∷ xs)) next (record { element = i.element; there = i.there; passes = i.passes; rest = rw f i.rest })

-- where the search finds nothing, nothing passes
position-none : {X : Type 0} (p : X → Bool) (xs : List X) → position p xs ≡ None → filter p xs ≡ []
position-none p [] e = refl
position-none {X} p (x ∷ xs) e = go (position-none p xs) (p x) refl (position p xs) refl (sym (position-cons p x xs) ∙ e)
  where
    go : (position p xs ≡ None → filter p xs ≡ []) → (b : Bool) → p x ≡ b → (o : Option ℕ) → position p xs ≡ o →
        cond b (Some 0) (option_map suc o) ≡ None → filter p (x ∷ xs) ≡ []
    go ih true f o q h = absurd (cc)
    go ih false f None q h = rw f (ih q)
    go ih false f (Some j) q h = absurd (cc)

-- a place of an element that passes, and what is left of such ones behind it
pub record IsNextPlace {X : Type 0} (p : X → Bool) (xs : List X) (start place : ℕ) : Type 0 where
  pub element : X
  pub there : slice_get xs place ≡ Some element
  pub within : place < length xs
  pub behind : start ≤ place
  pub passes : p element ≡ true
  pub left : filter p (drop start xs) ≡ element ∷ filter p (drop (place + 1) xs)

pub place-next : {X : Type 0} (p : X → Bool) (xs : List X) (start place : ℕ) → place_by p xs start ≡ Some place → IsNextPlace p xs start place
place-next {X} p xs start place e = go (position p (drop start xs)) refl e
  where
    go : (o : Option ℕ) → position p (drop start xs) ≡ o → option_map (λ k. start + k) o ≡ Some place → IsNextPlace p xs start place
    go None q h = absurd (cc)
    go (Some k) q h =
        let first = position-first p (drop start xs) k q in
        let at : start + k ≡ place = cc in
        let there : slice_get xs place ≡ Some first.element =
        subst (λ z. slice_get xs z ≡ Some first.element) at (sym (slice_get-drop xs start k) ∙ first.there) in
        record {
          element = first.element;
          there = there;
          within = slice_get_within xs place first.element there;
          behind = omega (arith, at);
          passes = first.passes;
          left = first.rest ∙ ap (λ l. first.element ∷ filter p l) (drop-drop (suc k) start xs ∙ ap (λ z. drop z xs) (omega (arith, at)));
        }

pub place-none : {X : Type 0} (p : X → Bool) (xs : List X) (start : ℕ) → place_by p xs start ≡ None → filter p (drop start xs) ≡ []
place-none p xs start e = go (position p (drop start xs)) refl e
  where
    go : (o : Option ℕ) → position p (drop start xs) ≡ o → option_map (λ k. start + k) o ≡ None → filter p (drop start xs) ≡ []
    go None q h = position-none p (drop start xs) q
    go (Some k) q h = absurd (cc)

-- how many places may be left from a place on
abbrev pub places_left : {X : Type 0} → List X → Option ℕ → ℕ
places_left xs None = 0
places_left xs (Some place) = length xs - place
