-- Searches, filters and sums over a list that was mapped or filtered.
use Rattle.std.proofs.Common.{◌≡◌, ℕ, ◌+◌, ◌≤◌, Bool, true, false, cond, not, ◌&&◌, List, [], ◌∷◌, map, Some, None, option_map, refl, sym, ◌∙◌, ap, ⊎_elim, arith, count_by, sum_by}
use Rattle.std.specs.List.{filter, find}
use Rattle.std.proofs.Math.Path.{fun_ext}
use Rattle.std.proofs.lemmas.Bool.{true≢false}
use Rattle.std.proofs.lemmas.List.Sums.{sum_by-cons}
use Rattle.cc_lists.specs.Members.{Among}
use Rattle.cc_lists.proofs.Counting.{count_by-cons, count_by-filter, count_by-some}

-- where something passes, something is found
pub find-some : {X : Type 0} (p : X → Bool) (xs : List X) (x : X) → Among x xs → p x ≡ true → (y : X) × (find p xs ≡ Some y)
find-some p [] x m e = absurd m
find-some {X} p (z ∷ zs) x m e = go (find-some p zs x) (p z) refl
  where
    go : (Among x zs → p x ≡ true → (y : X) × (find p zs ≡ Some y)) → (b : Bool) → p z ≡ b → (y : X) × (cond b (Some z) (find p zs) ≡ Some y)
    go ih true t = (z, refl)
    go ih false t = ⊎_elim (λ s. absurd (true≢false (sym e ∙ (ap p (sym s) ∙ t)))) (λ r. ih r e) m

-- a member that passes, where at most one passes, is found
pub find-only : {X : Type 0} (p : X → Bool) (xs : List X) (x : X) → count_by p xs ≤ 1 → Among x xs → p x ≡ true → find p xs ≡ Some x
find-only p [] x few m e = absurd m
find-only {X} p (z ∷ zs) x few m e = go (find-only p zs x) (p z) refl
  where
    go : (count_by p zs ≤ 1 → Among x zs → p x ≡ true → find p zs ≡ Some x) → (b : Bool) → p z ≡ b → cond b (Some z) (find p zs) ≡ Some x
    go ih true t =
        let here : count_by p (z ∷ zs) ≡ 1 + count_by p zs = rw (count_by-cons p z zs, t) refl in
        ⊎_elim (λ s. ap (λ w. Some w) s) (λ r. absurd (omega (arith, count_by-some p x zs r e))) m
    go ih false t =
        let here : count_by p (z ∷ zs) ≡ 0 + count_by p zs = rw (count_by-cons p z zs, t) refl in
        ⊎_elim (λ s. absurd (true≢false (sym e ∙ (ap p (sym s) ∙ t)))) (λ r. ih (omega arith) r e) m

-- a search in a mapped list
pub find-map : {X Y : Type 0} (p : Y → Bool) (f : X → Y) (xs : List X) → find p (map f xs) ≡ option_map f (find (λ x. p (f x)) xs)
find-map p f [] = refl
find-map {X} {Y} p f (x ∷ xs) = go (find-map p f xs) (p (f x))
  where
    go : find p (map f xs) ≡ option_map f (find (λ x. p (f x)) xs) → (b : Bool) →
        cond b (Some (f x)) (find p (map f xs)) ≡ option_map f (cond b (Some x) (find (λ x. p (f x)) xs))
    go ih true = refl
    go ih false = ih

-- a filter that keeps all that passes does not change what is found
pub find-filter : {X : Type 0} (p q : X → Bool) (xs : List X) → ((x : X) → p x ≡ true → q x ≡ true) → find p (filter q xs) ≡ find p xs
find-filter p q [] h = refl
find-filter {X} p q (x ∷ xs) h = go (find-filter p q xs h) (q x) refl (p x) refl
  where
    go : find p (filter q xs) ≡ find p xs → (b : Bool) → q x ≡ b → (c : Bool) → p x ≡ c →
        find p (cond b (x ∷ filter q xs) (filter q xs)) ≡ cond c (Some x) (find p xs)
    go ih true e true d = rw d refl
    go ih true e false d = rw d ih
    go ih false e true d = absurd (true≢false (sym (h x d) ∙ e))
    go ih false e false d = ih

-- a filter that drops all that passes leaves nothing to be found
pub find-dropped : {X : Type 0} (p q : X → Bool) (xs : List X) → ((x : X) → q x ≡ true → p x ≡ false) → find p (filter q xs) ≡ None
find-dropped p q [] h = refl
find-dropped {X} p q (x ∷ xs) h = go (find-dropped p q xs h) (q x) refl
  where
    go : find p (filter q xs) ≡ None → (b : Bool) → q x ≡ b → find p (cond b (x ∷ filter q xs) (filter q xs)) ≡ None
    go ih true e = rw (h x e) ih
    go ih false e = ih

-- a filter of a mapped list
pub filter-map : {X Y : Type 0} (p : Y → Bool) (f : X → Y) (xs : List X) → filter p (map f xs) ≡ map f (filter (λ x. p (f x)) xs)
filter-map p f [] = refl
filter-map {X} {Y} p f (x ∷ xs) = go (filter-map p f xs) (p (f x))
  where
    go : filter p (map f xs) ≡ map f (filter (λ x. p (f x)) xs) → (b : Bool) →
        cond b (f x ∷ filter p (map f xs)) (filter p (map f xs)) ≡ map f (cond b (x ∷ filter (λ x. p (f x)) xs) (filter (λ x. p (f x)) xs))
    go ih true = ap (λ ys. f x ∷ ys) ih
    go ih false = ih

-- a filter that everything passes drops nothing
pub filter-true : {X : Type 0} (p : X → Bool) (xs : List X) → ((x : X) → p x ≡ true) → filter p xs ≡ xs
filter-true p [] h = refl
filter-true p (x ∷ xs) h = rw (h x) (ap (λ ys. x ∷ ys) (filter-true p xs h))

-- two filters are one
pub filter-filter : {X : Type 0} (p q : X → Bool) (xs : List X) → filter p (filter q xs) ≡ filter (λ x. q x && p x) xs
filter-filter p q [] = refl
filter-filter {X} p q (x ∷ xs) = go (filter-filter p q xs) (q x)
  where
    both : X → Bool
    both y = q y && p y

    go : filter p (filter q xs) ≡ filter both xs → (b : Bool) →
        filter p (cond b (x ∷ filter q xs) (filter q xs)) ≡ cond (b && p x) (x ∷ filter both xs) (filter both xs)
    go ih true = ap (λ ys. cond (p x) (x ∷ ys) ys) ih
    go ih false = ih

-- and it is the same which comes first
pub filter-swap : {X : Type 0} (p q : X → Bool) (xs : List X) → filter p (filter q xs) ≡ filter q (filter p xs)
filter-swap {X} p q xs = filter-filter p q xs ∙ (ap (λ r. filter r xs) (fun_ext (λ x. go (q x) (p x))) ∙ sym (filter-filter q p xs))
  where
    go : (a b : Bool) → (a && b) ≡ (b && a)
    go true true = refl
    go true false = refl
    go false true = refl
    go false false = refl

-- a filter that drops only what passes a test, which nothing does
pub filter-all : {X : Type 0} (p q : X → Bool) (xs : List X) → ((x : X) → q x ≡ false → p x ≡ true) → count_by q xs ≤ 0 → filter p xs ≡ xs
filter-all p q [] h none = refl
filter-all {X} p q (x ∷ xs) h none = go (filter-all p q xs h) (q x) refl
  where
    go : (count_by q xs ≤ 0 → filter p xs ≡ xs) → (b : Bool) → q x ≡ b → cond (p x) (x ∷ filter p xs) (filter p xs) ≡ x ∷ xs
    go ih true e =
        let here : count_by q (x ∷ xs) ≡ 1 + count_by q xs = rw (count_by-cons q x xs, e) refl in
        absurd (omega arith)
    go ih false e =
        let here : count_by q (x ∷ xs) ≡ 0 + count_by q xs = rw (count_by-cons q x xs, e) refl in
        rw (h x e) (ap (λ ys. x ∷ ys) (ih (omega arith)))

-- A sum loses the term of the only element that is taken out.
pub sum_by-taken_out : {X : Type 0} (f : X → ℕ) (p : X → Bool) (xs : List X) (x : X) → count_by p xs ≤ 1 → find p xs ≡ Some x →
    sum_by f (filter (λ y. not (p y)) xs) + f x ≡ sum_by f xs
sum_by-taken_out f p [] x few e = absurd (cc)
sum_by-taken_out {X} f p (y ∷ ys) x few e = go (sum_by-taken_out f p ys x) (p y) refl
  where
    others : X → Bool
    others z = not (p z)

    go : (count_by p ys ≤ 1 → find p ys ≡ Some x → sum_by f (filter (λ y. not (p y)) ys) + f x ≡ sum_by f ys) → (b : Bool) → p y ≡ b →
        sum_by f (cond (not b) (y ∷ filter (λ y. not (p y)) ys) (filter (λ y. not (p y)) ys)) + f x ≡ sum_by f (y ∷ ys)
    go ih true t =
        let here : count_by p (y ∷ ys) ≡ 1 + count_by p ys = rw (count_by-cons p y ys, t) refl in
        let found : Some y ≡ Some x = sym (rw t refl) ∙ e in
        let same : y ≡ x = cc in
        rw (sum_by-cons f y ys, same, filter-all others p ys (λ z n. rw n refl) (omega arith)) (omega arith)
    go ih false t =
        let here : count_by p (y ∷ ys) ≡ 0 + count_by p ys = rw (count_by-cons p y ys, t) refl in
        let found : find p ys ≡ Some x = sym (rw t refl) ∙ e in
        rw (sum_by-cons f y ys, sum_by-cons f y (filter others ys)) (omega (arith, ih (omega arith) found))

-- a filter that keeps all that passes does not change their count
pub count_by-kept : {X : Type 0} (p q : X → Bool) (xs : List X) → ((x : X) → p x ≡ true → q x ≡ true) → count_by p (filter q xs) ≡ count_by p xs
count_by-kept {X} p q xs h = count_by-filter p q xs ∙ ap (λ r. count_by r xs) (fun_ext (λ x. go x (q x) refl (p x) refl))
  where
    go : (x : X) → (b : Bool) → q x ≡ b → (c : Bool) → p x ≡ c → (b && c) ≡ c
    go x true e c d = refl
    go x false e true d = absurd (true≢false (sym (h x d) ∙ e))
    go x false e false d = refl

-- a filter that drops all that passes leaves none to count
pub count_by-dropped : {X : Type 0} (p q : X → Bool) (xs : List X) → ((x : X) → q x ≡ true → p x ≡ false) → count_by p (filter q xs) ≡ 0
count_by-dropped {X} p q xs h = count_by-filter p q xs ∙ (ap (λ r. count_by r xs) (fun_ext (λ x. go x (q x) refl)) ∙ none xs)
  where
    go : (x : X) → (b : Bool) → q x ≡ b → (b && p x) ≡ false
    go x true e = h x e
    go x false e = refl

    none : (ys : List X) → count_by (λ _. false) ys ≡ 0
    none [] = refl
    none (y ∷ ys) = none ys
