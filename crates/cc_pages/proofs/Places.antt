-- What stands at a place of a list: where an element is written, and where empty lists are added.
use Rattle.std.specs.Prelude.{Vec, Result, Ok, Err, IfOk, OnErr, OnOk}
use Rattle.std.proofs.Common.{◌≡◌, ◌≢◌, ℕ, zero, suc, ◌<◌, ◌⊎◌, List, [], ◌∷◌, ◌++◌, length, get_or, set, slice_get, Option, Some, None, option_and_then, refl, sym, ◌∙◌, ap, inl, inr, ⊎_elim, arith}
use Rattle.std.proofs.lemmas.Option.{slice_get-get_or}
use Rattle.cc_pages.specs.Values.{HasEmpty}

got-set_same : {X : Type 0} (xs : List X) (k : ℕ) (y : X) → k < length xs → slice_get (set xs k y) k ≡ Some y
got-set_same [] k y l = absurd (omega (arith, l))
got-set_same (x ∷ xs) zero y l = refl
got-set_same (x ∷ xs) (suc k) y l = got-set_same xs k y (omega (arith, l))

got-set_other : {X : Type 0} (xs : List X) (k n : ℕ) (y : X) → n ≢ k → slice_get (set xs k y) n ≡ slice_get xs n
got-set_other [] k n y other = refl
got-set_other (x ∷ xs) zero zero y other = absurd (other refl)
got-set_other (x ∷ xs) zero (suc n) y other = refl
got-set_other (x ∷ xs) (suc k) zero y other = refl
got-set_other (x ∷ xs) (suc k) (suc n) y other = got-set_other xs k n y (λ e. other (ap suc e))

-- What is read of the element at a place

-- of one that is there
pub read-at : {X : Type 0} (f : X → Option ℕ) (xs : List X) (k : ℕ) (d : X) → k < length xs → d ≡ get_or xs k d → option_and_then f (slice_get xs k) ≡ f d
read-at f xs k d inside here = ap (option_and_then f) (slice_get-get_or xs k d inside ∙ ap Some (sym here))

-- of one that was written
pub read-written : {X : Type 0} (f : X → Option ℕ) (xs : List X) (k : ℕ) (y : X) → k < length xs → option_and_then f (slice_get (set xs k y) k) ≡ f y
read-written f xs k y inside = ap (option_and_then f) (got-set_same xs k y inside)

-- of another
pub read-other : {X : Type 0} (f : X → Option ℕ) (xs : List X) (k n : ℕ) (y : X) → n ≢ k → option_and_then f (slice_get (set xs k y) n) ≡ option_and_then f (slice_get xs n)
read-other f xs k n y other = ap (option_and_then f) (got-set_other xs k n y other)

-- Empty lists are added

-- nothing is read of them
pub read-added : {X Z : Type 0} (f : Vec X Z → Option ℕ) → ((b : Vec X Z) → b.items ≡ [] → f b ≡ None) → (xs ys : List (Vec X Z)) → HasEmpty xs ys → (k : ℕ) →
    option_and_then f (slice_get ys k) ≡ option_and_then f (slice_get xs k)
read-added f none xs ys added k = ⊎_elim
    (λ same. ap (option_and_then f) same)
    (λ new. ap (option_and_then f) new.there ∙ (none new.list new.empty ∙ sym (ap (option_and_then f) new.vacant)))
    (added k)

got-pushed : {X : Type 0} (xs : List X) (y : X) (k : ℕ) → (slice_get (xs ++ y ∷ []) k ≡ slice_get xs k) ⊎ ((slice_get xs k ≡ None) × (slice_get (xs ++ y ∷ []) k ≡ Some y))
got-pushed [] y zero = inr (refl, refl)
got-pushed [] y (suc k) = inl refl
got-pushed (x ∷ xs) y zero = inl refl
got-pushed (x ∷ xs) y (suc k) = got-pushed xs y k

pub added-one : {X Z : Type 0} (xs : List (Vec X Z)) (b : Vec X Z) → b.items ≡ [] → HasEmpty xs (xs ++ b ∷ [])
added-one xs b empty k = ⊎_elim
    (λ same. inl same)
    (λ new. inr (record { list = b; vacant = new.0; there = new.1; empty = empty }))
    (got-pushed xs b k)

-- and more of them
pub added-more : {X Z : Type 0} (xs ys zs : List (Vec X Z)) → HasEmpty xs ys → HasEmpty ys zs → HasEmpty xs zs
added-more xs ys zs one more k = ⊎_elim
    (λ same. ⊎_elim
    (λ e. inl (same ∙ e))
    (λ new. inr (record { list = new.list; vacant = new.vacant; there = same ∙ new.there; empty = new.empty }))
    (one k))
    (λ new. ⊎_elim
    (λ e. inr (record { list = new.list; vacant = sym e ∙ new.vacant; there = new.there; empty = new.empty }))
    (λ early. absurd (let there = early.there in let vacant = new.vacant in cc))
    (one k))
    (more k)

-- What follows where a call went well

pub ok-then : {A E P Q : Type 0} (r : Result A E) → OnOk r P → (P → Q) → OnOk r Q
ok-then (Ok a) h f = f h
ok-then (Err e) h f = tt

pub err-always : {A E P : Type 0} (r : Result A E) → P → OnErr r P
err-always (Ok a) h = tt
err-always (Err e) h = h

pub err-then : {A E P Q : Type 0} (r : Result A E) → OnErr r P → (P → Q) → OnErr r Q
err-then (Ok a) h f = tt
err-then (Err e) h f = f h

pub ok-both : {A E P Q R : Type 0} (r : Result A E) → OnOk r P → OnOk r Q → (P → Q → R) → OnOk r R
ok-both (Ok a) g h f = f g h
ok-both (Err e) g h f = tt

pub value-then : {A E : Type 0} {P Q : A → Type 0} (r : Result A E) → IfOk r P → ((a : A) → P a → Q a) → IfOk r Q
value-then (Ok a) h f = f a h
value-then (Err e) h f = tt

pub value-both : {A E P : Type 0} {Q R : A → Type 0} (r : Result A E) → IfOk r Q → OnOk r P → ((a : A) → Q a → P → R a) → IfOk r R
value-both (Ok a) g h f = f a g h
value-both (Err e) g h f = tt
