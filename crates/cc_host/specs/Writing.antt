-- ONE REGISTER WRITTEN: each other one holds what it held.
use Rattle.std.specs.Prelude.{◌≡◌, ◌≢◌, ℕ}
use Rattle.cc_names.specs.declared.register.Reg.TheVariants.{N, S}
use Rattle.cc_model.specs.Heap.{Heap, register}

-- one of natives
pub record WritesNative (r : ℕ) (old new : Heap) : Type 0 where
  pub natives : (q : ℕ) → q ≢ r → register new (N q) ≡ register old (N q)
  pub scripts : (q : ℕ) → register new (S q) ≡ register old (S q)

-- one of script objects
pub record WritesScript (r : ℕ) (old new : Heap) : Type 0 where
  pub natives : (q : ℕ) → register new (N q) ≡ register old (N q)
  pub scripts : (q : ℕ) → q ≢ r → register new (S q) ≡ register old (S q)
