-- PLACES OF ROOTS WITHOUT NUMBER: registers behind those of the numbered roots, one of each bank for each place. An object stands in
-- the register of its kind.
use Rattle.std.specs.Prelude.{◌≡◌, ◌≢◌, ℕ, ◌+◌, true, false, Option, Some, None}
use Rattle.cc_names.specs.declared.name.Name.{Name}
use Rattle.cc_names.specs.declared.register.Reg.{Reg}
use Rattle.cc_names.specs.declared.register.Reg.TheVariants.{N, S}
use Rattle.cc_names.specs.Names.{is_native}
use Rattle.cc_model.specs.Graph as graph
use Rattle.cc_model.specs.Graph.{Graph}
use Rattle.cc_model.specs.Heap.{Heap, register}
use Rattle.cc_host.specs.declared.runtime.rooted.TheConstants.{FIRST_PLACE, PLACES}

-- so many places there are, counted from 0; the registers before them are the numbered roots, and the host's own
abbrev pub places : ℕ
places = PLACES

-- the register of the first of them
abbrev pub first_place : ℕ
first_place = FIRST_PLACE

abbrev pub native_place : ℕ → Reg
native_place p = N (FIRST_PLACE + p)

abbrev pub script_place : ℕ → Reg
script_place p = S (FIRST_PLACE + p)

-- the register of a place in which such an object stands
abbrev pub place_for : ℕ → Name → Reg
place_for p x = elim (is_native x) [ true ↦ native_place p | false ↦ script_place p ]

-- WHAT A PLACE HOLDS
abbrev pub held_at : Heap → ℕ → Option Name
held_at h p = elim (register h (native_place p)) [ Some x ↦ Some x | None ↦ register h (script_place p) ]

-- it holds nothing, in either register
pub record IsFree (h : Heap) (p : ℕ) : Type 0 where
  pub native : register h (native_place p) ≡ None
  pub script : register h (script_place p) ≡ None

-- WHAT PLACES HOLD STAYS as it is
pub record KeepsPlaces (old new : Heap) : Type 0 where
  pub natives : (p : ℕ) → register new (native_place p) ≡ register old (native_place p)
  pub scripts : (p : ℕ) → register new (script_place p) ≡ register old (script_place p)

-- and so does what all but one hold
pub record KeepsOtherPlaces (q : ℕ) (old new : Heap) : Type 0 where
  pub natives : (p : ℕ) → p ≢ q → register new (native_place p) ≡ register old (native_place p)
  pub scripts : (p : ℕ) → p ≢ q → register new (script_place p) ≡ register old (script_place p)

-- A PLACE TAKES AN OBJECT, in the register of its kind, and the other register of the place stays
pub record TakesPlace (p : ℕ) (x : Name) (old new : Heap) : Type 0 where
  pub holds : register new (place_for p x) ≡ Some x
  pub native : is_native x ≡ false → register new (native_place p) ≡ register old (native_place p)
  pub script : is_native x ≡ true → register new (script_place p) ≡ register old (script_place p)
  pub others : KeepsOtherPlaces p old new

-- in the graph: the bank is lengthened where the place is beyond its end
abbrev pub placed : ℕ → Name → Graph → Graph
placed p x g = graph.root_at g (place_for p x) (Some x)

-- and both registers of a place are emptied
abbrev pub unplaced : ℕ → Graph → Graph
unplaced p g = graph.set_register (graph.set_register g (native_place p) None) (script_place p) None
