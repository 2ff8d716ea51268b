-- Counts over lists that were made of others: where nothing passes, where one element alone has what passes, where two tests agree.
use Rattle.std.proofs.Common.{◌≡◌, ◌≢◌, ◌+◌, ◌<◌, ◌≤◌, Bool, true, false, cond, List, [], ◌∷◌, refl, ◌∙◌, ap, inl, inr, ⊎_elim, arith, count_by}
use Rattle.std.specs.List.{flat_map}
use Rattle.cc_lists.specs.Members.{Among}
use Rattle.cc_lists.proofs.Counting.{count_by-cons, count_by-append, count_by-some}

-- a test that is not true is false
pub false-left : (b : Bool) → b ≢ true → b ≡ false
false-left true h = absurd (h refl)
false-left false h = refl

-- where nothing passes, nothing is counted
pub count_by-none : {X : Type 0} (p : X → Bool) (xs : List X) → ((x : X) → Among x xs → p x ≡ false) → count_by p xs ≡ 0
count_by-none p [] h = refl
count_by-none p (x ∷ xs) h = rw (count_by-cons p x xs, h x (inl refl), count_by-none p xs (λ y m. h y (inr m))) refl

-- where nothing is counted, nothing passes
pub count_by-none_passes : {X : Type 0} (p : X → Bool) (xs : List X) (x : X) → count_by p xs ≤ 0 → Among x xs → p x ≡ false
count_by-none_passes p xs x none m = false-left (p x) (λ e. let some : 0 < count_by p xs = count_by-some p x xs m e in absurd (omega arith))

-- tests that agree on the members count the same
pub count_by-agree : {X : Type 0} (p q : X → Bool) (xs : List X) → ((x : X) → Among x xs → p x ≡ q x) → count_by p xs ≡ count_by q xs
count_by-agree p q [] h = refl
count_by-agree p q (x ∷ xs) h = rw (count_by-cons p x xs, count_by-cons q x xs, h x (inl refl), count_by-agree p q xs (λ y m. h y (inr m))) refl

-- where no element has something that passes, nothing passes
pub count_by-flat_map_none : {X Y : Type 0} (p : Y → Bool) (f : X → List Y) (xs : List X) → ((x : X) → Among x xs → count_by p (f x) ≡ 0) →
    count_by p (flat_map f xs) ≡ 0
count_by-flat_map_none p f [] h = refl
count_by-flat_map_none p f (x ∷ xs) h =
    rw (count_by-append p (f x) (flat_map f xs), h x (inl refl), count_by-flat_map_none p f xs (λ y m. h y (inr m))) refl

-- elements of each of which as much is counted in two ways
pub count_by-flat_map_same : {X Y Z : Type 0} (p : Y → Bool) (f : X → List Y) (q : Z → Bool) (g : X → List Z) (xs : List X) →
    ((x : X) → Among x xs → count_by p (f x) ≡ count_by q (g x)) → count_by p (flat_map f xs) ≡ count_by q (flat_map g xs)
count_by-flat_map_same p f q g [] h = refl
count_by-flat_map_same p f q g (x ∷ xs) h =
    rw (count_by-append p (f x) (flat_map f xs), count_by-append q (g x) (flat_map g xs), h x (inl refl), count_by-flat_map_same p f q g xs (λ y m. h y (inr m))) refl

-- elements that have one thing that passes where they pass a test themselves, and none where they don't
pub count_by-flat_map_test : {X Y : Type 0} (p : Y → Bool) (f : X → List Y) (t : X → Bool) (xs : List X) →
    ((x : X) → Among x xs → count_by p (f x) ≡ cond (t x) 1 0) → count_by p (flat_map f xs) ≡ count_by t xs
count_by-flat_map_test p f t [] h = refl
count_by-flat_map_test p f t (x ∷ xs) h =
    rw (count_by-append p (f x) (flat_map f xs), count_by-cons t x xs, h x (inl refl), count_by-flat_map_test p f t xs (λ y m. h y (inr m))) refl

-- where one element alone has what passes, the count is that of this element
pub count_by-flat_map_only : {X Y : Type 0} (p : Y → Bool) (f : X → List Y) (t : X → Bool) (xs : List X) (x : X) →
    count_by t xs ≤ 1 → Among x xs → t x ≡ true → ((y : X) → Among y xs → t y ≡ false → count_by p (f y) ≡ 0) →
    count_by p (flat_map f xs) ≡ count_by p (f x)
count_by-flat_map_only p f t [] x few m e none = absurd m
count_by-flat_map_only p f t (z ∷ zs) x few m e none = ⊎_elim
    (λ s.
    let on : t z ≡ true = ap t s ∙ e in
    let here : count_by t (z ∷ zs) ≡ 1 + count_by t zs = rw (count_by-cons t z zs, on) refl in
    let rest : count_by p (flat_map f zs) ≡ 0 =
    count_by-flat_map_none p f zs (λ y n. none y (inr n) (count_by-none_passes t zs y (omega arith) n)) in
    let first : count_by p (f z) ≡ count_by p (f x) = ap (λ w. count_by p (f w)) s in
    omega (arith, count_by-append p (f z) (flat_map f zs)))
    (λ r.
    let some : 0 < count_by t zs = count_by-some t x zs r e in
    let off : t z ≡ false = false-left (t z)
    (λ on. let here : count_by t (z ∷ zs) ≡ 1 + count_by t zs = rw (count_by-cons t z zs, on) refl in absurd (omega arith)) in
    let first : count_by p (f z) ≡ 0 = none z (inl refl) off in
    let rest : count_by p (flat_map f zs) ≡ count_by p (f x) =
    count_by-flat_map_only p f t zs x (omega (arith, count_by-cons t z zs)) r e (λ y n. none y (inr n)) in
    omega (arith, count_by-append p (f z) (flat_map f zs))) m
