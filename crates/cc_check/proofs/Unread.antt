-- WHERE NO ASK READS A WEAK REGISTER, none that is left does.
use Rattle.std.proofs.Common.{◌≡◌, ℕ, zero, suc, Bool, true, false, ◌||◌, List, [], ◌∷◌, drop, refl, subst, inl, inr}
use Rattle.std.proofs.lemmas.Bool.{true≢false}
use Rattle.cc_lists.specs.Members.{Among}
use Rattle.cc_model.specs.Asks.{Ask, long, bad, taken}
use Rattle.cc_verdict.specs.GoingOn.{ReadNone}
use Rattle.cc_check.specs.Judging.{asks_nothing, from_next}
use Rattle.cc_check.specs.Standing.{ask_reads}

-- neither of two is the case
pub neither-left : (a b : Bool) → (a || b) ≡ false → a ≡ false
neither-left true b e = absurd (true≢false e)
neither-left false b e = refl

pub neither-right : (a b : Bool) → (a || b) ≡ false → b ≡ false
neither-right true b e = absurd (true≢false e)
neither-right false b e = e

pub neither : (a b : Bool) → a ≡ false → b ≡ false → (a || b) ≡ false
neither true b e f = absurd (true≢false e)
neither false b e f = f

-- what is asked next is among the asks
next-among : (asks left : List Ask) (ask : Ask) → from_next asks ≡ ask ∷ left → Among ask asks
next-among [] left ask e = absurd (cc)
next-among (a ∷ asks) left ask e = go (λ f. next-among asks left ask f) (asks_nothing a) e
  where
    go : (from_next asks ≡ ask ∷ left → Among ask asks) → (b : Bool) → elim b [ true ↦ from_next asks | false ↦ a ∷ asks ] ≡ ask ∷ left → Among ask (a ∷ asks)
    go later true e = inr (later e)
    go later false e = let same : a ≡ ask = cc in inl same

-- SO IT READS NONE.
pub next-unread : (asks left : List Ask) (ask : Ask) → ReadNone asks → from_next asks ≡ ask ∷ left → ask_reads ask ≡ false
next-unread asks left long none e = refl
next-unread asks left bad none e = refl
next-unread asks left (taken c) none e = none c (next-among asks left (taken c) e)

-- what is left of a list was there
drop-among : {X : Type 0} (n : ℕ) (xs : List X) (x : X) → Among x (drop n xs) → Among x xs
drop-among zero xs x m = m
drop-among (suc n) [] x m = m
drop-among (suc n) (y ∷ ys) x m = inr (drop-among n ys x m)

-- WHAT IS LEFT READS NONE.
pub ReadNone-left : (n : ℕ) (asks left : List Ask) → left ≡ drop n asks → ReadNone asks → ReadNone left
ReadNone-left n asks left is none c m = none c (drop-among n asks (taken c) (subst (Among (taken c)) is m))
