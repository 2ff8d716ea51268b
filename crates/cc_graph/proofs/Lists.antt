-- Lists of which one element was written or added.
use Rattle.std.proofs.Common.{◌≡◌, ◌≢◌, ℕ, ◌<◌, suc, Bool, false, List, [], ◌∷◌, ◌++◌, length, get_or, refl, sym, inr, arith, count_by}
use Rattle.std.specs.Prelude.{◌==◌}
use Rattle.std.proofs.Math.ListN.{set}
use Rattle.std.proofs.lemmas.Bool.{ne_eqb}
use Rattle.std.proofs.lemmas.Bool.Decides.{eqb_tells}
use Rattle.std.proofs.lemmas.List.{length-set, length_push, get_or-set_same, get_or-set_other, get_or_push, get_or_append_left}
use Rattle.std.proofs.lemmas.List.Sums.{count_by-le-length}
use Rattle.cc_lists.specs.Members.{Among, has}
use Rattle.cc_lists.proofs.Members.{has-among}
use Rattle.cc_lists.proofs.Counting.{count_by-cons}
use Rattle.cc_lists.proofs.CountsOf.{false-left}
use Rattle.cc_lists.proofs.Numbers.{number-exact}

-- what holds of what is written, and of the other elements, holds of each
pub each-set : {X : Type 0} (P : ℕ → X → Type 0) (xs : List X) (i : ℕ) (y : X) → i < length xs → P i y →
    ((j : ℕ) (d : X) → j < length xs → j ≢ i → P j (get_or xs j d)) → (j : ℕ) (d : X) → j < length (set xs i y) → P j (get_or (set xs i y) j d)
each-set P xs i y inside here others j d within = grind (arith, get_or-set_same, get_or-set_other, length-set, eqb_tells)

-- what holds of each and of one more holds of each once that stands last
pub each-added : {X : Type 0} (P : ℕ → X → Type 0) (xs : List X) (y : X) → ((j : ℕ) (d : X) → j < length xs → P j (get_or xs j d)) → P (length xs) y →
    (j : ℕ) (d : X) → j < length (xs ++ y ∷ []) → P j (get_or (xs ++ y ∷ []) j d)
each-added P xs y each last j d within = grind (arith, get_or_push, length_push, get_or_append_left, eqb_tells)

-- a number that is not there is told so
pub has-none : (xs : List ℕ) (i : ℕ) → ((k : ℕ) → Among k xs → k ≢ i) → has ◌==◌ xs i ≡ false
has-none xs i h = false-left (has ◌==◌ xs i) (λ e. h i (has-among ◌==◌ number-exact xs i e) refl)

-- another number last makes no difference
pub has-other : (xs : List ℕ) (i k : ℕ) → k ≢ i → has ◌==◌ (xs ++ i ∷ []) k ≡ has ◌==◌ xs k
has-other [] i k h = rw (ne_eqb i k (λ e. h (sym e))) refl
has-other (x ∷ xs) i k h = rw (has-other xs i k h) refl

-- where one element does not pass, fewer pass than there are
pub count_by-fewer : {X : Type 0} (p : X → Bool) (xs : List X) (i : ℕ) (d : X) → i < length xs → p (get_or xs i d) ≡ false → count_by p xs < length xs
count_by-fewer p (x ∷ xs) (suc i) d within off = grind (arith, count_by, count_by-cons, count_by-fewer p xs i d (omega (arith, within)) off)
count_by-fewer p xs i d within off = grind (arith, count_by, count_by-cons, count_by-le-length)

-- what stands at a place is among the elements
pub among-at : {X : Type 0} (xs : List X) (i : ℕ) (d : X) → i < length xs → Among (get_or xs i d) xs
among-at (y ∷ ys) (suc i) d within = inr (among-at ys i d (omega (arith, within)))
among-at xs i d within = grind (arith)
