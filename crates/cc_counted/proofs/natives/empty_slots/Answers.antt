use Rattle.std.proofs.Common.{◌≡◌, ℕ, zero, suc, ◌++◌, ◌∷◌, [], replicate, refl, ap, arith}
use Rattle.cc_counted.proofs.natives.empty_slots.Goals as goal

-- one more goes last
replicate-last : {X : Type 0} (n : ℕ) (x : X) → replicate n x ++ x ∷ [] ≡ replicate (suc n) x
replicate-last zero x = refl
replicate-last (suc n) x = ap (λ ys. x ∷ ys) (replicate-last n x)

pub loop-preserved : goal.loop-preserved
loop-preserved c = grind (arith, replicate-last)
