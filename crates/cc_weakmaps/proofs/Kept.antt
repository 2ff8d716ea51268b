-- The last places that are kept.
use Rattle.std.proofs.Common.{◌≡◌, ℕ, ◌<◌, zero, suc, List, [], ◌∷◌, length, Option, Some, arith}
use Rattle.cc_weakmaps.specs.Index.{last_kept}

-- an object that has one is known
pub known-last : (kept : List (Option ℕ)) (k i : ℕ) → last_kept kept k ≡ Some i → k < length kept
known-last [] k i h = absurd (cc)
known-last (o ∷ kept) zero i h = omega arith
known-last (o ∷ kept) (suc k) i h = omega (arith, known-last kept k i h)
