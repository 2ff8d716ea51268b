-- What a search in a list finds, and how filters and tests compare by what they count.
use Rattle.std.proofs.Common.{◌≡◌, ◌<◌, ◌≤◌, Bool, true, false, cond, ◌&&◌, List, [], ◌∷◌, ◌++◌, length, Some, refl, sym, ◌∙◌, ap, inl, inr, ⊎_elim, arith, count_by}
use Rattle.std.specs.List.{filter, find}
use Rattle.std.proofs.lemmas.Bool.{and_parts, true≢false}
use Rattle.std.proofs.lemmas.List.Sums.{length-filter, count_by-le-length}
use Rattle.cc_lists.specs.Members.{Among, has, IsEqualityTest}
use Rattle.cc_lists.proofs.Members.{Among-left, has-there, has-among}
use Rattle.cc_lists.proofs.Counting.{count_by-cons, count_by-filter}

-- what is found stands in the list
pub find-among : {X : Type 0} (p : X → Bool) (xs : List X) (x : X) → find p xs ≡ Some x → Among x xs
find-among p [] x e = absurd (cc)
find-among {X} p (y ∷ ys) x e = go (find-among p ys x) (p y) e
  where
    go : (find p ys ≡ Some x → Among x ys) → (b : Bool) → cond b (Some y) (find p ys) ≡ Some x → Among x (y ∷ ys)
    go ih true k = inl (cc)
    go ih false k = inr (ih k)

-- what is found passes the test
pub find-passes : {X : Type 0} (p : X → Bool) (xs : List X) (x : X) → find p xs ≡ Some x → p x ≡ true
find-passes p [] x e = absurd (cc)
find-passes {X} p (y ∷ ys) x e = go (find-passes p ys x) (p y) refl e
  where
    go : (find p ys ≡ Some x → p x ≡ true) → (b : Bool) → p y ≡ b → cond b (Some y) (find p ys) ≡ Some x → p x ≡ true
    go ih true t k = let same : y ≡ x = cc in ap p (sym same) ∙ t
    go ih false t k = ih k

-- a test that passes wherever another passes counts no fewer
pub count_by-weaker : {X : Type 0} (p q : X → Bool) (xs : List X) → ((x : X) → p x ≡ true → q x ≡ true) → count_by p xs ≤ count_by q xs
count_by-weaker p q [] h = omega arith
count_by-weaker p q (x ∷ xs) h = go (count_by-weaker p q xs h) (p x) refl
  where
    go : count_by p xs ≤ count_by q xs → (b : Bool) → p x ≡ b → count_by p (x ∷ xs) ≤ count_by q (x ∷ xs)
    go ih true e = rw (count_by-cons p x xs, count_by-cons q x xs, e, h x e) (omega arith)
    go ih false e = rw (count_by-cons p x xs, count_by-cons q x xs, e) (omega arith)

-- a test that passes wherever another passes counts more, where it alone passes some element
pub count_by-wider : {X : Type 0} (p q : X → Bool) (xs : List X) (x : X) → ((y : X) → p y ≡ true → q y ≡ true) →
    Among x xs → p x ≡ false → q x ≡ true → count_by p xs < count_by q xs
count_by-wider p q [] x h m e f = absurd m
count_by-wider p q (y ∷ ys) x h m e f = ⊎_elim
    (λ s.
    let off : p y ≡ false = ap p s ∙ e in
    let on : q y ≡ true = ap q s ∙ f in
    let rest : count_by p ys ≤ count_by q ys = count_by-weaker p q ys h in
    rw (count_by-cons p y ys, count_by-cons q y ys, off, on) (omega arith))
    (λ t. go (count_by-wider p q ys x h t e f) (p y) refl) m
  where
    go : count_by p ys < count_by q ys → (b : Bool) → p y ≡ b → count_by p (y ∷ ys) < count_by q (y ∷ ys)
    go ih true k = rw (count_by-cons p y ys, count_by-cons q y ys, k, h y k) (omega arith)
    go ih false k = rw (count_by-cons p y ys, count_by-cons q y ys, k) (omega arith)

-- a part of a list counts no more than the list
pub count_by-filter-le : {X : Type 0} (p q : X → Bool) (xs : List X) → count_by p (filter q xs) ≤ count_by p xs
count_by-filter-le {X} p q xs = rw (count_by-filter p q xs) (count_by-weaker both p xs (λ x e. (and_parts (q x) (p x) e).1))
  where
    both : X → Bool
    both x = q x && p x

-- a test that passes at each member keeps all
pub filter-each : {X : Type 0} (p : X → Bool) (xs : List X) → ((x : X) → Among x xs → p x ≡ true) → filter p xs ≡ xs
filter-each p [] h = refl
filter-each p (x ∷ xs) h = rw (h x (inl refl)) (ap (λ ys. x ∷ ys) (filter-each p xs (λ y m. h y (inr m))))

-- one that passes at none keeps nothing
pub filter-nothing : {X : Type 0} (p : X → Bool) (xs : List X) → ((x : X) → Among x xs → p x ≡ false) → filter p xs ≡ []
filter-nothing p [] h = refl
filter-nothing p (x ∷ xs) h = rw (h x (inl refl)) (filter-nothing p xs (λ y m. h y (inr m)))

-- tests that agree on the members keep the same
pub filter-agree : {X : Type 0} (p q : X → Bool) (xs : List X) → ((x : X) → Among x xs → p x ≡ q x) → filter p xs ≡ filter q xs
filter-agree p q [] h = refl
filter-agree p q (x ∷ xs) h = rw (h x (inl refl), filter-agree p q xs (λ y m. h y (inr m))) refl

-- a filter that drops an element shortens the list
pub length-filter-less : {X : Type 0} (p : X → Bool) (xs : List X) (x : X) → Among x xs → p x ≡ false → length (filter p xs) < length xs
length-filter-less p [] x m e = absurd m
length-filter-less {X} p (y ∷ ys) x m e = go (length-filter-less p ys x) (p y) refl
  where
    go : (Among x ys → p x ≡ false → length (filter p ys) < length ys) → (b : Bool) → p y ≡ b →
        length (cond b (y ∷ filter p ys) (filter p ys)) < length (y ∷ ys)
    go ih true k = ⊎_elim (λ s. absurd (true≢false (sym k ∙ (ap p s ∙ e)))) (λ t. let less : length (filter p ys) < length ys = ih t e in omega arith) m
    go ih false k = omega (arith, length-filter p ys, count_by-le-length p ys)

-- a longer list has what a shorter one has
pub has-left : {X : Type 0} (same : X → X → Bool) → IsEqualityTest same → (xs ys : List X) (x : X) → has same xs x ≡ true → has same (xs ++ ys) x ≡ true
has-left same exact xs ys x h = has-there same exact (xs ++ ys) x (Among-left x xs ys (has-among same exact xs x h))
