-- COUNTS ARE FEW in heaps that are in order.
use Rattle.std.proofs.Common.{ℕ, List, [], arith}
use Rattle.cc_laws_heap.proofs.Face.{count-bound}
use Rattle.cc_heaps.specs.Keyed.{Keyed, IsInOrder}
use Rattle.cc_heaps.specs.Few.{AreFew, AreFewIfOwnedOnce, AreOwnedOnce}

-- where no native is owned twice
pub few-owned : (v : Keyed) → AreFewIfOwnedOnce v
few-owned v owned order once n m = omega (arith, count-bound owned v.heap n order.sound order.limits.0 m, once n.number)

-- and where none is owned
pub few-alone : (v : Keyed) → IsInOrder [] v → AreFew v.heap
few-alone v order = few-owned v [] order (λ k. omega arith)

-- Where none is owned, none is owned twice.
pub none-owned : (v : Keyed) → IsInOrder [] v → (owned : List ℕ) × IsInOrder owned v × AreOwnedOnce owned
none-owned v order = ([], order, λ k. omega arith)
