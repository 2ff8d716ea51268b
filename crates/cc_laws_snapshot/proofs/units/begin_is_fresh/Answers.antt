use Rattle.std.proofs.Common.{◌≡◌, Bool, None, arith}
use Rattle.cc_model.specs.Heap.{Heap}
use Rattle.cc_model.specs.End.{refused, unit}
use Rattle.cc_laws_snapshot.proofs.Beginning.{begun-fresh}
use Rattle.cc_laws_snapshot.proofs.units.begin_is_fresh.Goals as goal

-- a refused begin leaves the heaps
refused-left : (h : Heap) (memory : Bool) → (unit h None memory).progress ≡ refused → (unit h None memory).heap ≡ h
unfolding unit
refused-left h memory = grind arith

pub returns-clause-fresh : goal.returns-clause-fresh
returns-clause-fresh c = begun-fresh

pub returns-clause-refused : goal.returns-clause-refused
returns-clause-refused c = refused-left
