-- WHAT CHANGES OF COUNTS AND OF THE BUFFER LEAVE: natives but for their counts, all beside natives and buffer, and
-- what was told.
use Rattle.std.proofs.Common.{arith, ◌≡◌, ℕ, List, [], ◌∷◌, map, refl}
use Rattle.cc_model.specs.Cascade.{Draining, fallen, give_up, give_up_each}
use Rattle.cc_laws_heap.specs.Freeing.{uncounted, SameBeside}
use Rattle.cc_laws_heap.proofs.Natives.{uncounted-change}
use Rattle.cc_laws_heap.proofs.Beside.{SameBeside-with, SameBeside-refl, SameBeside-trans}

-- the same natives but for their counts, the same beside, and nothing told
pub record IsAlike (d e : Draining) : Type 0 where
  pub natives : map uncounted e.heap.natives ≡ map uncounted d.heap.natives
  pub beside : SameBeside d.heap e.heap
  pub events : e.events ≡ d.events

-- what did not change is alike
IsAlike-refl : (d : Draining) → IsAlike d d
IsAlike-refl d = record { natives = refl; beside = SameBeside-refl d.heap; events = refl }

-- one change after another
IsAlike-trans : (d e f : Draining) → IsAlike d e → IsAlike e f → IsAlike d f
IsAlike-trans d e f a b = grind (arith, SameBeside-trans)

-- a count that falls leaves the heaps alike
IsAlike-fallen : (d : Draining) (k c : ℕ) → IsAlike d (fallen d k c)
IsAlike-fallen d k c = grind (arith, IsAlike-refl, uncounted-change, SameBeside-with)

-- a reference given up leaves the heaps alike
pub IsAlike-give_up : (d : Draining) (k : ℕ) → IsAlike d (give_up d k)
IsAlike-give_up d k = grind (arith, IsAlike-refl, IsAlike-fallen)

-- and so do several
pub IsAlike-give_up_each : (d : Draining) (js : List ℕ) → IsAlike d (give_up_each d js)
IsAlike-give_up_each d [] = IsAlike-refl d
IsAlike-give_up_each d (j ∷ js) = IsAlike-trans d (give_up d j) (give_up_each (give_up d j) js) (IsAlike-give_up d j) (IsAlike-give_up_each (give_up d j) js)
