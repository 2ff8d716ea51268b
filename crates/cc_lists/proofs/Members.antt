-- What stands in a list that was made of others.
use Rattle.std.specs.List.{Contains, flat_map, filter}
use Rattle.std.proofs.Common.{get_or, ◌≡◌, ℕ, zero, suc, ◌<◌, Bool, true, false, cond, List, [], ◌∷◌, ◌++◌, length, map, refl, sym, ◌∙◌, ap, subst, inl, inr, ◌⊎◌, ⊎_elim, arith}
use Rattle.std.proofs.lemmas.Bool.{cases_Bool, or_cases, or_left, or_right, false≢true, true≢false}
use Rattle.cc_lists.specs.Members.{Among, has, IsEqualityTest}

pub Among-map : {X Y : Type 0} (f : X → Y) (x : X) (xs : List X) → Among x xs → Among (f x) (map f xs)
Among-map f x [] h = h
Among-map f x (y ∷ ys) h = ⊎_elim (λ e. inl (ap f e)) (λ t. inr (Among-map f x ys t)) h

pub Among-map_cases : {X Y : Type 0} (f : X → Y) (xs : List X) (y : Y) → Among y (map f xs) → (x : X) × Among x xs × (f x ≡ y)
Among-map_cases f [] y h = absurd h
Among-map_cases f (x ∷ xs) y h =
    ⊎_elim (λ e. (x, inl refl, e)) (λ t. let k = Among-map_cases f xs y t in (k.0, inr k.1, k.2)) h

pub Among-left : {X : Type 0} (x : X) (xs ys : List X) → Among x xs → Among x (xs ++ ys)
Among-left x [] ys h = absurd h
Among-left x (z ∷ zs) ys h = ⊎_elim (λ e. inl e) (λ t. inr (Among-left x zs ys t)) h

pub Among-right : {X : Type 0} (x : X) (xs ys : List X) → Among x ys → Among x (xs ++ ys)
Among-right x [] ys h = h
Among-right x (z ∷ zs) ys h = inr (Among-right x zs ys h)

pub Among-append : {X : Type 0} (x : X) (xs ys : List X) → Among x (xs ++ ys) → Among x xs ⊎ Among x ys
Among-append x [] ys h = inr h
Among-append x (z ∷ zs) ys h = ⊎_elim (λ e. inl (inl e)) (λ t. ⊎_elim (λ l. inl (inr l)) (λ r. inr r) (Among-append x zs ys t)) h

pub Among-filter : {X : Type 0} (p : X → Bool) (x : X) (xs : List X) → Among x xs → p x ≡ true → Among x (filter p xs)
Among-filter p x [] h e = absurd h
Among-filter p x (y ∷ ys) h e = go (λ t. Among-filter p x ys t e) (p y) refl
  where
    go : (Among x ys → Among x (filter p ys)) → (b : Bool) → p y ≡ b → Among x (cond b (y ∷ filter p ys) (filter p ys))
    go ih true k = ⊎_elim (λ s. inl s) (λ t. inr (ih t)) h
    go ih false k = ⊎_elim (λ s. absurd (true≢false (sym e ∙ (ap p (sym s) ∙ k)))) (λ t. ih t) h

pub Among-filtered : {X : Type 0} (p : X → Bool) (x : X) (xs : List X) → Among x (filter p xs) → Among x xs
Among-filtered p x [] h = h
Among-filtered p x (y ∷ ys) h = go (Among-filtered p x ys) (p y) h
  where
    go : (Among x (filter p ys) → Among x ys) → (b : Bool) → Among x (cond b (y ∷ filter p ys) (filter p ys)) → Among x (y ∷ ys)
    go ih true k = ⊎_elim (λ s. inl s) (λ t. inr (ih t)) k
    go ih false k = inr (ih k)

pub Among-passes : {X : Type 0} (p : X → Bool) (x : X) (xs : List X) → Among x (filter p xs) → p x ≡ true
Among-passes p x [] h = absurd h
Among-passes p x (y ∷ ys) h = go (Among-passes p x ys) (p y) refl h
  where
    go : (Among x (filter p ys) → p x ≡ true) → (b : Bool) → p y ≡ b → Among x (cond b (y ∷ filter p ys) (filter p ys)) → p x ≡ true
    go ih true e k = ⊎_elim (λ s. ap p (sym s) ∙ e) (λ t. ih t) k
    go ih false e k = ih k

pub Among-flat_map : {X Y : Type 0} (f : X → List Y) (x : X) (y : Y) (xs : List X) → Among x xs → Among y (f x) → Among y (flat_map f xs)
Among-flat_map f x y [] h m = absurd h
Among-flat_map f x y (z ∷ zs) h m = ⊎_elim
    (λ e. Among-left y (f z) (flat_map f zs) (subst (λ w. Among y (f w)) (sym e) m))
    (λ t. Among-right y (f z) (flat_map f zs) (Among-flat_map f x y zs t m)) h

pub Among-flat_map_cases : {X Y : Type 0} (f : X → List Y) (xs : List X) (y : Y) → Among y (flat_map f xs) → (x : X) × Among x xs × Among y (f x)
Among-flat_map_cases f [] y m = absurd m
Among-flat_map_cases f (x ∷ xs) y m = ⊎_elim
    (λ l. (x, inl refl, l))
    (λ r. let k = Among-flat_map_cases f xs y r in (k.0, inr k.1, k.2))
    (Among-append y (f x) (flat_map f xs) m)

module _ {X : Type 0} (same : X → X → Bool) (exact : IsEqualityTest same) where
  pub has-there : (xs : List X) (x : X) → Among x xs → has same xs x ≡ true
  has-there [] x h = absurd h
  has-there (y ∷ ys) x h = ⊎_elim
      (λ e. or_left (same y x) (has same ys x) ((exact y x).1 e))
      (λ t. or_right (same y x) (has same ys x) (has-there ys x t)) h

  pub has-among : (xs : List X) (x : X) → has same xs x ≡ true → Among x xs
  has-among [] x h = absurd (false≢true h)
  has-among (y ∷ ys) x h = ⊎_elim (λ e. inl ((exact y x).0 e)) (λ t. inr (has-among ys x t)) (or_cases (same y x) (has same ys x) h)

  pub has-decides : (xs : List X) (x : X) → (has same xs x ≡ true → Among x xs) × (Among x xs → has same xs x ≡ true)
  has-decides xs x = (has-among xs x, has-there xs x)

  pub Among_or_not : (xs : List X) (x : X) → Among x xs ⊎ (¬ (Among x xs))
  Among_or_not xs x = ⊎_elim (λ e. inl (has-among xs x e)) (λ e. inr (λ m. true≢false (sym (has-there xs x m) ∙ e))) (cases_Bool (has same xs x))

-- the same membership, by the word of std that goes by index
pub Among-contains : {X : Type 0} (x : X) (xs : List X) → Contains xs x → Among x xs
Among-contains x [] c = absurd (omega (arith, c.1))
Among-contains x (y ∷ ys) c = go (Among-contains x ys) c.0 c.1 c.2
  where
    go : (Contains ys x → Among x ys) → (k : ℕ) → k < length (y ∷ ys) → get_or (y ∷ ys) k x ≡ x → Among x (y ∷ ys)
    go rest zero l e = inl e
    go rest (suc k) l e = inr (rest (k, omega (arith, l), e))
