-- A list of which one element was written: by its place, or by a test that it alone passes; and lists that were mapped.
use Rattle.std.proofs.Common.{◌≡◌, ℕ, zero, suc, ◌+◌, ◌*◌, ◌<◌, ◌≤◌, Bool, true, false, List, [], ◌∷◌, ◌++◌, map, length, set, get_or, Some, refl, sym, ◌∙◌, ap, subst, inl, inr, ◌⊎◌, ⊎_elim, arith, count_by, sum_by, length-append, if◌then◌else◌}
use Rattle.std.specs.List.{flat_map, find}
use Rattle.std.proofs.lemmas.List.Sums.{sum_by-cons, sum_by-set}
use Rattle.cc_lists.specs.Members.{Among}
use Rattle.cc_lists.proofs.Members.{Among-left, Among-right, Among-append, Among-map_cases, Among-flat_map, Among-flat_map_cases}
use Rattle.cc_lists.proofs.Counting.{count_by-cons, count_by-flat_map, count_by-some}

-- By its place

-- after a write there is what was written, and nothing else that was not there
pub Among-set_cases : {X : Type 0} (xs : List X) (i : ℕ) (y z : X) → Among z (set xs i y) → (y ≡ z) ⊎ Among z xs
Among-set_cases [] i y z m = absurd m
Among-set_cases (x ∷ xs) zero y z m = ⊎_elim (λ e. inl e) (λ t. inr (inr t)) m
Among-set_cases (x ∷ xs) (suc i) y z m = ⊎_elim
    (λ e. inr (inl e))
    (λ t. ⊎_elim (λ e. inl e) (λ r. inr (inr r)) (Among-set_cases xs i y z t)) m

-- the same of what the elements hold
pub Among-flat_map_set : {X Y : Type 0} (f : X → List Y) (xs : List X) (i : ℕ) (x : X) (y : Y) →
    Among y (flat_map f (set xs i x)) → Among y (f x) ⊎ Among y (flat_map f xs)
Among-flat_map_set f xs i x y m =
    let k = Among-flat_map_cases f (set xs i x) y m in
    ⊎_elim
    (λ e. inl (subst (λ z. Among y (f z)) (sym e) k.2))
    (λ t. inr (Among-flat_map f k.0 y xs t k.2))
    (Among-set_cases xs i x k.0 k.1)

-- what the element at a place holds is held by the list, where the default holds nothing
pub Among-flat_map_at : {X Y : Type 0} (f : X → List Y) (xs : List X) (i : ℕ) (d : X) (y : Y) → ¬ (Among y (f d)) →
    Among y (f (get_or xs i d)) → Among y (flat_map f xs)
Among-flat_map_at f [] i d y none m = absurd (none m)
Among-flat_map_at f (x ∷ xs) zero d y none m = Among-left y (f x) (flat_map f xs) m
Among-flat_map_at f (x ∷ xs) (suc i) d y none m = Among-right y (f x) (flat_map f xs) (Among-flat_map_at f xs i d y none m)

-- how a write changes the count of what the elements hold
pub count_by-flat_map_set : {X Y : Type 0} (p : Y → Bool) (f : X → List Y) (xs : List X) (i : ℕ) (y d : X) → i < length xs →
    count_by p (flat_map f (set xs i y)) + count_by p (f (get_or xs i d)) ≡ count_by p (flat_map f xs) + count_by p (f y)
count_by-flat_map_set p f xs i y d l = rw (count_by-flat_map p f (set xs i y), count_by-flat_map p f xs) (sum_by-set (λ x. count_by p (f x)) xs i y d l)

-- By a test

-- the element changed where it passes the test
abbrev pub changed_where : {X : Type 0} → (X → Bool) → (X → X) → X → X
changed_where t g x = if t x then g x else x

-- what holds of the element and of the changed one holds of either
pub changed_where-either : {X : Type 0} (P : X → Type 0) (t : X → Bool) (g : X → X) (x : X) → (t x ≡ true → P (g x)) → P x → P (changed_where t g x)
changed_where-either {X} P t g x h k = go (t x) refl
  where
    go : (b : Bool) → t x ≡ b → P (if b then g x else x)
    go true e = h e
    go false e = k

-- where nothing passes the test, nothing changes
pub map-changed_none : {X : Type 0} (t : X → Bool) (g : X → X) (xs : List X) → count_by t xs ≤ 0 → map (changed_where t g) xs ≡ xs
map-changed_none t g [] none = refl
map-changed_none {X} t g (x ∷ xs) none = go (map-changed_none t g xs) (t x) refl
  where
    go : (count_by t xs ≤ 0 → map (changed_where t g) xs ≡ xs) → (b : Bool) → t x ≡ b → (if b then g x else x) ∷ map (changed_where t g) xs ≡ x ∷ xs
    go ih true e = let here : count_by t (x ∷ xs) ≡ 1 + count_by t xs = rw (count_by-cons t x xs, e) refl in absurd (omega arith)
    go ih false e = let here : count_by t (x ∷ xs) ≡ 0 + count_by t xs = rw (count_by-cons t x xs, e) refl in ap (λ ys. x ∷ ys) (ih (omega arith))

-- a sum changes by the terms of the only element that passes
pub sum_by-changed : {X : Type 0} (f : X → ℕ) (t : X → Bool) (g : X → X) (xs : List X) (x : X) → count_by t xs ≤ 1 → find t xs ≡ Some x →
    sum_by f (map (changed_where t g) xs) + f x ≡ sum_by f xs + f (g x)
sum_by-changed f t g [] x few e = absurd (cc)
sum_by-changed {X} f t g (y ∷ ys) x few e = go (sum_by-changed f t g ys x) (t y) refl
  where
    go : (count_by t ys ≤ 1 → find t ys ≡ Some x → sum_by f (map (changed_where t g) ys) + f x ≡ sum_by f ys + f (g x)) → (b : Bool) → t y ≡ b →
        sum_by f ((if b then g y else y) ∷ map (changed_where t g) ys) + f x ≡ sum_by f (y ∷ ys) + f (g x)
    go ih true s =
        let here : count_by t (y ∷ ys) ≡ 1 + count_by t ys = rw (count_by-cons t y ys, s) refl in
        let found : Some y ≡ Some x = sym (rw s refl) ∙ e in
        let same : y ≡ x = cc in
        rw (map-changed_none t g ys (omega arith), sum_by-cons f (g y) ys, sum_by-cons f y ys, same) (omega arith)
    go ih false s =
        let here : count_by t (y ∷ ys) ≡ 0 + count_by t ys = rw (count_by-cons t y ys, s) refl in
        let found : find t ys ≡ Some x = sym (rw s refl) ∙ e in
        rw (sum_by-cons f y (map (changed_where t g) ys), sum_by-cons f y ys) (omega (arith, ih (omega arith) found))

-- the same of a count of what the elements hold
pub count_by-flat_map_changed : {X Y : Type 0} (p : Y → Bool) (f : X → List Y) (t : X → Bool) (g : X → X) (xs : List X) (x : X) →
    count_by t xs ≤ 1 → find t xs ≡ Some x →
    count_by p (flat_map f (map (changed_where t g) xs)) + count_by p (f x) ≡ count_by p (flat_map f xs) + count_by p (f (g x))
count_by-flat_map_changed p f t g xs x few e =
    rw (count_by-flat_map p f (map (changed_where t g) xs), count_by-flat_map p f xs) (sum_by-changed (λ y. count_by p (f y)) t g xs x few e)

-- two members that pass a test that at most one passes are the same
pub only-member : {X : Type 0} (p : X → Bool) (xs : List X) (x y : X) → count_by p xs ≤ 1 → Among x xs → p x ≡ true → Among y xs → p y ≡ true → x ≡ y
only-member p [] x y few m e n f = absurd m
only-member p (z ∷ zs) x y few m e n f = ⊎_elim
    (λ s. ⊎_elim
    (λ r. sym s ∙ r)
    (λ r. absurd (omega (arith, first s e, count_by-some p y zs r f))) n)
    (λ s. ⊎_elim
    (λ r. absurd (omega (arith, first r f, count_by-some p x zs s e)))
    (λ r. only-member p zs x y (omega (arith, count_by-cons p z zs)) s e r f) n) m
  where
    first : {w : _} → z ≡ w → p w ≡ true → count_by p (z ∷ zs) ≡ 1 + count_by p zs
    first s e = let k : p z ≡ true = ap p s ∙ e in rw (count_by-cons p z zs, k) refl

-- Lists that were mapped

-- what holds of each image holds of each member of the mapped list
pub each-map : {X Y : Type 0} (P : Y → Type 0) (f : X → Y) (xs : List X) → ((x : X) → Among x xs → P (f x)) → (y : Y) → Among y (map f xs) → P y
each-map P f xs h y m = let k = Among-map_cases f xs y m in subst P k.2 (h k.0 k.1)

-- what a change of the elements keeps, it keeps of the list
pub map-kept : {X Y : Type 0} (f : X → Y) (g : X → X) (xs : List X) → ((x : X) → f (g x) ≡ f x) → map f (map g xs) ≡ map f xs
map-kept f g [] h = refl
map-kept f g (x ∷ xs) h = ap (λ y. y ∷ map f (map g xs)) (h x) ∙ ap (λ ys. f x ∷ ys) (map-kept f g xs h)

-- the same of what the elements hold
pub flat_map-kept : {X Y : Type 0} (f : X → List Y) (g : X → X) (xs : List X) → ((x : X) → f (g x) ≡ f x) → flat_map f (map g xs) ≡ flat_map f xs
flat_map-kept f g [] h = refl
flat_map-kept f g (x ∷ xs) h = ap (λ ys. ys ++ flat_map f (map g xs)) (h x) ∙ ap (λ ys. f x ++ ys) (flat_map-kept f g xs h)

-- the same of a count
pub count_by-kept_map : {X : Type 0} (p : X → Bool) (g : X → X) (xs : List X) → ((x : X) → p (g x) ≡ p x) → count_by p (map g xs) ≡ count_by p xs
count_by-kept_map p g [] h = refl
count_by-kept_map p g (x ∷ xs) h = rw (count_by-cons p (g x) (map g xs), count_by-cons p x xs, h x, count_by-kept_map p g xs h) refl

-- lists that hold at most so many each
pub length-flat_map_le : {X Y : Type 0} (f : X → List Y) (n : ℕ) (xs : List X) → ((x : X) → Among x xs → length (f x) ≤ n) →
    length (flat_map f xs) ≤ n * length xs
length-flat_map_le f n [] h = omega arith
length-flat_map_le f n (x ∷ xs) h =
    let first : length (f x) ≤ n = h x (inl refl) in
    let rest : length (flat_map f xs) ≤ n * length xs = length-flat_map_le f n xs (λ y m. h y (inr m)) in
    omega (arith, length-append (f x) (flat_map f xs))

-- what holds of each member and of one more holds of each member once that stands last
pub each-push : {X : Type 0} (P : X → Type 0) (xs : List X) (y : X) → ((x : X) → Among x xs → P x) → P y → (x : X) → Among x (xs ++ y ∷ []) → P x
each-push P xs y h k x m = ⊎_elim (h x) (λ t. ⊎_elim (λ e. subst P e k) (λ n. absurd n) t) (Among-append x xs (y ∷ []) m)

-- functions that agree on the members map alike
pub map-agree : {X Y : Type 0} (f g : X → Y) (xs : List X) → ((x : X) → Among x xs → f x ≡ g x) → map f xs ≡ map g xs
map-agree f g [] h = refl
map-agree f g (x ∷ xs) h = ap (λ y. y ∷ map f xs) (h x (inl refl)) ∙ ap (λ ys. g x ∷ ys) (map-agree f g xs (λ y m. h y (inr m)))

-- a function that leaves each member maps to the list itself
pub map-unchanged : {X : Type 0} (f : X → X) (xs : List X) → ((x : X) → Among x xs → f x ≡ x) → map f xs ≡ xs
map-unchanged f [] h = refl
map-unchanged f (x ∷ xs) h = ap (λ y. y ∷ map f xs) (h x (inl refl)) ∙ ap (λ ys. x ∷ ys) (map-unchanged f xs (λ y m. h y (inr m)))
