-- LISTS WRITTEN: what a list comes to where one place, or some members, are changed.
use Rattle.std.proofs.Common.{◌≡◌, ℕ, zero, suc, ◌<◌, Bool, true, false, List, [], ◌∷◌, map, length, get_or, refl, ap, subst, sym, arith, count_by}
use Rattle.std.proofs.Math.ListN.{set}
use Rattle.cc_lists.specs.Members.{Among}
use Rattle.cc_lists.proofs.Counting.{count_by-cons, count_by-map}
use Rattle.cc_lists.proofs.Filtering.{count_by-wider}

-- where every member is read alike, it is not seen that one was written
pub map-written : {X Y : Type 0} (y : Y) (xs : List X) (i : ℕ) (x : X) → map (λ z. y) (set xs i x) ≡ map (λ z. y) xs
map-written y [] i x = refl
map-written y (z ∷ zs) zero x = refl
map-written y (z ∷ zs) (suc i) x = ap (λ ys. y ∷ ys) (map-written y zs i x)

-- as many pass, where what is written passes as what stood there
pub count-written : {X : Type 0} (p : X → Bool) (xs : List X) (i : ℕ) (d x : X) → p x ≡ p (get_or xs i d) → count_by p (set xs i x) ≡ count_by p xs
count-written p [] i d x e = refl
count-written p (z ∷ zs) zero d x e = rw (count_by-cons p x zs, count_by-cons p z zs, e) refl
count-written p (z ∷ zs) (suc i) d x e = rw (count_by-cons p z (set zs i x), count_by-cons p z zs, count-written p zs i d x e) refl

-- fewer pass, where what stood there passes and what is written does not
pub count-less : {X : Type 0} (p : X → Bool) (xs : List X) (i : ℕ) (d x : X) → i < length xs → p (get_or xs i d) ≡ true → p x ≡ false → count_by p (set xs i x) < count_by p xs
count-less p [] i d x l t f = absurd (omega arith)
count-less p (z ∷ zs) zero d x l t f = rw (count_by-cons p x zs, count_by-cons p z zs, t, f) (omega arith)
count-less p (z ∷ zs) (suc i) d x l t f = omega (arith, count_by-cons p z (set zs i x), count_by-cons p z zs, count-less p zs i d x (omega arith) t f)

-- fewer pass, where none passes that did not and one no longer does
pub count-fewer : {X : Type 0} (p : X → Bool) (g : X → X) (xs : List X) (x : X) → ((y : X) → p (g y) ≡ true → p y ≡ true) →
    Among x xs → p (g x) ≡ false → p x ≡ true → count_by p (map g xs) < count_by p xs
count-fewer p g xs x weaker m off on = subst (λ n. n < count_by p xs) (sym (count_by-map p g xs)) (count_by-wider (λ y. p (g y)) p xs x weaker m off on)
