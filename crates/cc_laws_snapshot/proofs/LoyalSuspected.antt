-- A LOYAL CHANGE FORGETS NO NATIVE: what the registers reached, or was covered, is so afterwards, or gone; and changes
-- that only lose references are loyal.
use Rattle.std.proofs.Common.{arith, ℕ, List, inl, inr, ⊎_elim}
use Rattle.cc_model.specs.Heap.{Heap}
use Rattle.cc_model.specs.View.{View, view}
use Rattle.cc_model.specs.WellFormed.{IsWellFormed}
use Rattle.cc_model.specs.Suspected.{IsSuspected}
use Rattle.cc_laws_snapshot.proofs.KindsLoyal.{HasScriptNames-well_formed, buffers-suspected}
use Rattle.cc_laws_snapshot.specs.Losing.{Loses, IsLoyal}

-- A LOYAL CHANGE KEEPS EVERY UNREACHED NATIVE SUSPECTED.
pub loyal-suspected : (h k : Heap) (candidates : List ℕ) → IsWellFormed h → IsWellFormed k → IsLoyal (view h) (view k) →
    IsSuspected (view h) candidates → IsSuspected (view k) candidates
loyal-suspected h k candidates before later loyal s = search (buffers-suspected, HasScriptNames-well_formed)

-- Changes that only lose references

-- they are loyal
pub loses-loyal : (v w : View) → Loses v w → IsLoyal v w
loses-loyal v w l = record {
  edge = λ x i m. ⊎_elim (λ e. inl e) (λ p. inr (inl p)) (l.edge x i m);
  register = λ i m. ⊎_elim (λ e. inl e) (λ p. inr (inl p)) (l.register i m);
  purple = λ i m. inl (l.purple i m);
  buffer = λ x m. ⊎_elim (λ b. inl b) (λ p. inr (inl p)) (l.buffer x m);
  living = λ x a. inl (l.living x a);
}

-- where nothing changes, nothing is lost
pub loses-same : (v : View) → Loses v v
loses-same v = grind arith
