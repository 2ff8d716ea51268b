-- HOW MANY LINES OF A SCRIPT WERE ASKED.
use Rattle.std.proofs.Common.{◌≡◌, ℕ, zero, suc, ◌+◌, false, List, [], ◌∷◌, drop, Some, slice_get, sym, ◌∙◌, ap, subst, arith}
use Rattle.cc_model.specs.Asks.{Ask}
use Rattle.cc_check.specs.declared.script.Script.{Script}
use Rattle.cc_check.specs.Judging.{HasAnswer, asks_nothing}
use Rattle.cc_check.specs.Standing.{asks_left}

-- what is left stands behind as many asks as were asked
abbrev pub LeavesAlong : Script → Script → Type 0
LeavesAlong old new = (asks : List Ask) → asks_left old ≡ drop old.asked asks → asks_left new ≡ drop new.asked asks

drop-next : {X : Type 0} (xs ys : List X) (x : X) (n : ℕ) → x ∷ ys ≡ drop n xs → ys ≡ drop (suc n) xs
drop-next [] ys x zero e = absurd (cc)
drop-next [] ys x (suc n) e = absurd (cc)
drop-next (z ∷ xs) ys x zero e = let same : ys ≡ xs = cc in same
drop-next (z ∷ xs) ys x (suc n) e = drop-next xs ys x n e

drop-first : {X : Type 0} (xs ys : List X) (x : X) (n : ℕ) → x ∷ ys ≡ drop n xs → slice_get xs n ≡ Some x
drop-first [] ys x zero e = absurd (cc)
drop-first [] ys x (suc n) e = absurd (cc)
drop-first (z ∷ xs) ys x zero e = let same : z ≡ x = cc in ap Some same
drop-first (z ∷ xs) ys x (suc n) e = drop-first xs ys x n e

-- the script is read on by one line
pub one-on : (old new : Script) (ask : Ask) → asks_left old ≡ ask ∷ asks_left new → new.asked ≡ old.asked + 1 → LeavesAlong old new
one-on old new ask is count = λ asks e.
    let next : suc old.asked ≡ new.asked = omega arith in
    drop-next asks (asks_left new) ask old.asked (sym is ∙ e) ∙ ap (λ n. drop n asks) next

-- and that line has an answer
pub last-on : (old new : Script) (ask : Ask) (asks : List Ask) → asks_left old ≡ ask ∷ asks_left new → new.asked ≡ old.asked + 1 → asks_nothing ask ≡ false →
    asks_left old ≡ drop old.asked asks → HasAnswer asks new.asked
last-on old new ask asks is count answered e =
    let next : suc old.asked ≡ new.asked = omega arith in
    subst (HasAnswer asks) next (ask, drop-first asks (asks_left new) ask old.asked (sym is ∙ e), answered)
