-- How often something stands in a list that was made of others; and: a list that has each key at most
-- as often as another has it is at most as long, and shorter where one key is rarer.
use Rattle.std.proofs.Common.{◌≡◌, ◌+◌, ◌<◌, ◌≤◌, Bool, true, false, cond, ◌&&◌, List, [], ◌∷◌, ◌++◌, map, length, refl, sym, ◌∙◌, ap, subst, inl, inr, ⊎_elim, arith, count_by}
use Rattle.std.specs.List.{filter, flat_map, sum_by}
use Rattle.std.proofs.lemmas.Bool.{and_parts}
use Rattle.std.proofs.lemmas.List.Sums.{sum_by-append, sum_by-cons}
use Rattle.cc_lists.specs.Members.{Among, IsEqualityTest}
use Rattle.cc_lists.specs.Counts.{keyed}

pub count_by-cons : {R : Type 0} (q : R → Bool) (r : R) (rs : List R) → count_by q (r ∷ rs) ≡ cond (q r) 1 0 + count_by q rs
count_by-cons q r rs = sum_by-cons (λ x. cond (q x) 1 0) r rs

-- everything is counted
pub count_by-all : {X : Type 0} (xs : List X) → count_by (λ x. true) xs ≡ length xs
count_by-all [] = refl
count_by-all {X} (x ∷ xs) = omega (arith, count_by-cons (λ (y : X). true) x xs, count_by-all xs)

pub count_by-append : {X : Type 0} (p : X → Bool) (xs ys : List X) → count_by p (xs ++ ys) ≡ count_by p xs + count_by p ys
count_by-append p xs ys = sum_by-append (λ x. cond (p x) 1 0) xs ys

pub count_by-map : {X Y : Type 0} (p : Y → Bool) (f : X → Y) (xs : List X) → count_by p (map f xs) ≡ count_by (λ x. p (f x)) xs
count_by-map p f [] = refl
count_by-map p f (x ∷ xs) = count_by-cons p (f x) (map f xs) ∙ (ap (λ n. cond (p (f x)) 1 0 + n) (count_by-map p f xs) ∙ sym (count_by-cons (λ x. p (f x)) x xs))

pub count_by-filter : {X : Type 0} (p q : X → Bool) (xs : List X) → count_by p (filter q xs) ≡ count_by (λ x. q x && p x) xs
count_by-filter p q [] = refl
count_by-filter {X} p q (x ∷ xs) = go (count_by-filter p q xs) (q x) refl
  where
    both : X → Bool
    both y = q y && p y

    go : count_by p (filter q xs) ≡ count_by both xs → (b : Bool) → q x ≡ b →
        count_by p (cond b (x ∷ filter q xs) (filter q xs)) ≡ count_by both (x ∷ xs)
    go ih true e = rw (count_by-cons p x (filter q xs), ih, count_by-cons both x xs, e) refl
    go ih false e = rw (ih, count_by-cons both x xs, e) (omega arith)

pub count_by-flat_map : {X Y : Type 0} (p : Y → Bool) (f : X → List Y) (xs : List X) → count_by p (flat_map f xs) ≡ sum_by (λ x. count_by p (f x)) xs
count_by-flat_map p f [] = refl
count_by-flat_map p f (x ∷ xs) = count_by-append p (f x) (flat_map f xs) ∙ (ap (λ n. count_by p (f x) + n) (count_by-flat_map p f xs) ∙ sym (sum_by-cons (λ x. count_by p (f x)) x xs))

-- an element that passes is counted, and what is counted is there
pub count_by-some : {X : Type 0} (p : X → Bool) (x : X) (xs : List X) → Among x xs → p x ≡ true → 0 < count_by p xs
count_by-some p x [] h e = absurd h
count_by-some p x (y ∷ ys) h e = ⊎_elim
    (λ s. let k : p y ≡ true = ap p s ∙ e in rw (count_by-cons p y ys, k) (omega arith))
    (λ t. omega (arith, count_by-cons p y ys, count_by-some p x ys t e)) h

pub counted_is : {X : Type 0} (p : X → Bool) (xs : List X) → 0 < count_by p xs → (x : X) × Among x xs × (p x ≡ true)
counted_is p [] h = absurd (omega arith)
counted_is p (y ∷ ys) h = go (counted_is p ys) (p y) refl
  where
    go : (0 < count_by p ys → (x : _) × Among x ys × (p x ≡ true)) → (b : Bool) → p y ≡ b → (x : _) × Among x (y ∷ ys) × (p x ≡ true)
    go ih true e = (y, inl refl, e)
    go ih false e =
        let some : 0 < count_by p ys = omega (arith, subst (λ v. count_by p (y ∷ ys) ≡ cond v 1 0 + count_by p ys) e (count_by-cons p y ys)) in
        let k = ih some in (k.0, inr k.1, k.2)

-- the list without its first element that passes
abbrev pub without : {R : Type 0} → (R → Bool) → List R → List R
without t [] = []
without t (r ∷ rs) = cond (t r) rs (r ∷ without t rs)

pub count_by-without : {R : Type 0} (t q : R → Bool) (b : Bool) → ((r : R) → t r ≡ true → q r ≡ b) → (rs : List R) → 0 < count_by t rs →
    count_by q (without t rs) + cond b 1 0 ≡ count_by q rs
count_by-without t q b h [] some = absurd (omega arith)
count_by-without t q b h (r ∷ rs) some = go (count_by-without t q b h rs) (t r) refl
  where
    go : (0 < count_by t rs → count_by q (without t rs) + cond b 1 0 ≡ count_by q rs) →
        (v : Bool) → t r ≡ v → count_by q (cond v rs (r ∷ without t rs)) + cond b 1 0 ≡ count_by q (r ∷ rs)
    go ih true e = rw (count_by-cons q r rs, h r e) (omega arith)
    go ih false e =
        let some' : 0 < count_by t rs = omega (arith, subst (λ v. count_by t (r ∷ rs) ≡ cond v 1 0 + count_by t rs) e (count_by-cons t r rs)) in
        omega (arith, ih some', count_by-cons q r rs, count_by-cons q r (without t rs))

module _ {Y A B : Type 0} (same : Y → Y → Bool) (exact : IsEqualityTest same)
    (p : A → Bool) (from : A → Y) (q : B → Bool) (source : B → Y) where
  keyed-pass : (v : Y) (b : B) → keyed same q source v b ≡ true → q b ≡ true
  keyed-pass v b e = (and_parts (q b) (same (source b) v) e).0

  keyed-at : (v w : Y) (b : B) → keyed same q source v b ≡ true → keyed same q source w b ≡ same v w
  keyed-at v w b e =
      let k = and_parts (q b) (same (source b) v) e in
      let s : source b ≡ v = (exact (source b) v).0 k.1 in
      rw (k.0, s) refl

  -- one element less on both sides
  rest-below : (x : A) (xs : List A) (ys : List B) → p x ≡ true →
      ((v : Y) → count_by (keyed same p from v) (x ∷ xs) ≤ count_by (keyed same q source v) ys) →
      (0 < count_by (keyed same q source (from x)) ys) ×
      ((v : Y) → count_by (keyed same p from v) xs ≤ count_by (keyed same q source v) (without (keyed same q source (from x)) ys))
  rest-below x xs ys e h =
      let self : same (from x) (from x) ≡ true = (exact (from x) (from x)).1 refl in
      let here : (v : Y) → count_by (keyed same p from v) (x ∷ xs) ≡ cond (same (from x) v) 1 0 + count_by (keyed same p from v) xs =
      λ v. rw (count_by-cons (keyed same p from v) x xs, e) refl in
      let first : 0 < count_by (keyed same q source (from x)) ys =
      let k : count_by (keyed same p from (from x)) (x ∷ xs) ≡ 1 + count_by (keyed same p from (from x)) xs =
      here (from x) ∙ ap (λ b. cond b 1 0 + count_by (keyed same p from (from x)) xs) self in
      omega (arith, h (from x)) in (
        first,
        λ v. omega (
          arith,
          h v,
          here v,
          count_by-without (keyed same q source (from x)) (keyed same q source v) (same (from x) v) (keyed-at (from x) v) ys first,
        ),
      )

  tail-below : (x : A) (xs : List A) (ys : List B) → p x ≡ false →
      ((v : Y) → count_by (keyed same p from v) (x ∷ xs) ≤ count_by (keyed same q source v) ys) →
      (v : Y) → count_by (keyed same p from v) xs ≤ count_by (keyed same q source v) ys
  tail-below x xs ys e h v =
      let k : count_by (keyed same p from v) (x ∷ xs) ≡ count_by (keyed same p from v) xs = rw (count_by-cons (keyed same p from v) x xs, e) (omega arith) in
      omega (arith, h v)

  -- A list that has each key at most as often is at most as long.
  pub count_by-below : (xs : List A) (ys : List B) →
      ((v : Y) → count_by (keyed same p from v) xs ≤ count_by (keyed same q source v) ys) →
      count_by p xs ≤ count_by q ys
  count_by-below [] ys h = omega arith
  count_by-below (x ∷ xs) ys h = go (count_by-below xs) (p x) refl
    where
      go : ((zs : List B) → ((v : Y) → count_by (keyed same p from v) xs ≤ count_by (keyed same q source v) zs) → count_by p xs ≤ count_by q zs) →
          (v : Bool) → p x ≡ v → count_by p (x ∷ xs) ≤ count_by q ys
      go ih true e =
          let k = rest-below x xs ys e h in
          rw (count_by-cons p x xs, e) (omega (
            arith,
            ih (without (keyed same q source (from x)) ys) k.1,
            count_by-without (keyed same q source (from x)) q true (keyed-pass (from x)) ys k.0,
          ))
      go ih false e = rw (count_by-cons p x xs, e) (omega (arith, ih ys (tail-below x xs ys e h)))

  -- It is shorter where one key is rarer.
  pub count_by-less : (xs : List A) (ys : List B) (w : Y) →
      ((v : Y) → count_by (keyed same p from v) xs ≤ count_by (keyed same q source v) ys) →
      count_by (keyed same p from w) xs < count_by (keyed same q source w) ys →
      count_by p xs < count_by q ys
  count_by-less xs ys w h less =
      let some : 0 < count_by (keyed same q source w) ys = omega arith in
      let zs : List B = without (keyed same q source w) ys in
      let below : (v : Y) → count_by (keyed same p from v) xs ≤ count_by (keyed same q source v) zs = λ v. fewer v (same w v) refl some in
      omega (arith, count_by-below xs zs below, count_by-without (keyed same q source w) q true (keyed-pass w) ys some)
    where
      fewer : (v : Y) (b : Bool) → same w v ≡ b → 0 < count_by (keyed same q source w) ys →
          count_by (keyed same p from v) xs ≤ count_by (keyed same q source v) (without (keyed same q source w) ys)
      fewer v true e some =
          let s : w ≡ v = (exact w v).0 e in
          let k = count_by-without (keyed same q source w) (keyed same q source v) true (λ b t. keyed-at w v b t ∙ e) ys some in
          let l = subst (λ z. count_by (keyed same p from z) xs < count_by (keyed same q source z) ys) s less in
          omega (arith, k, l)
      fewer v false e some =
          let k = count_by-without (keyed same q source w) (keyed same q source v) false (λ b t. keyed-at w v b t ∙ e) ys some in
          omega (arith, k, h v)
