-- ONE UNIT TELLS FEW ITEMS: none where it goes on, those of an end, or that the collection was given up.
use Rattle.std.proofs.Common.{ℕ, ◌+◌, ◌≤◌, Bool, [], ◌∷◌, length, Option, Some, None, refl, sym, subst, arith}
use Rattle.cc_names.specs.declared.name.Name.{Name}
use Rattle.cc_model.specs.declared.item.Event.TheVariants.{Abandoned}
use Rattle.cc_model.specs.Heap.{Heap}
use Rattle.cc_model.specs.Snapshot.{Snapshot}
use Rattle.cc_model.specs.Units.{first_untraversed}
use Rattle.cc_model.specs.End.{Progress, went_on, at_end, refused, UnitDone, abandoned, granted, node_or_end, unit}
use Rattle.cc_laws_heap.specs.Sound.{IsSound}
use Rattle.cc_laws_heap.proofs.Kept.{IsBuffer-own}
use Rattle.cc_laws_snapshot.proofs.GivingBack.{given_back, give_back-buffer, given_back-buffer}
use Rattle.cc_laws_run.proofs.UnitLawful.{unit-cases, DropsAt}
use Rattle.cc_laws_told.proofs.Few.{IsFew, IsFew-none, IsFew-buffer}
use Rattle.cc_laws_told.proofs.EndTells.{end-tells}

-- how many items may be told besides, of so many natives, by what the last unit came to
abbrev pub allowed : Progress → ℕ → ℕ
allowed went_on n = 0
allowed at_end n = n
allowed refused n = 1

-- more natives allow no fewer
pub allowed-le : (p : Progress) (m n : ℕ) → m ≤ n → allowed p m ≤ allowed p n
allowed-le went_on m n few = omega arith
allowed-le at_end m n few = few
allowed-le refused m n few = omega arith

-- and never more than the natives and one
pub allowed-few : (p : Progress) (n : ℕ) → allowed p n ≤ n + 1
allowed-few went_on n = omega arith
allowed-few at_end n = omega arith
allowed-few refused n = omega arith

-- what a unit tells is few
abbrev pub UnitIsFew : Heap → UnitDone → Type 0
UnitIsFew h u = IsFew (allowed u.progress (length h.natives)) h u.events u.heap

-- a unit that is refused
abandoned-tells : (h : Heap) (s : Option Snapshot) → IsSound [] h → UnitIsFew h (abandoned h s)
abandoned-tells h None sound = IsFew-buffer 1 h h.buffer (Abandoned ∷ []) sound (IsBuffer-own h sound.well_formed) (omega arith)
abandoned-tells h (Some s) sound = subst (λ k. IsFew 1 h (Abandoned ∷ []) k) (sym (give_back-buffer s.candidates h h.buffer))
    (IsFew-buffer 1 h (given_back s.candidates h h.buffer) (Abandoned ∷ []) sound (given_back-buffer h s.candidates h.buffer (IsBuffer-own h sound.well_formed)) (omega arith))

-- a node tells nothing, an end tells few items
node_or_end-tells : (h : Heap) (s : Snapshot) (o : Option Name) → IsSound [] h → UnitIsFew h (node_or_end h s o)
node_or_end-tells h s None sound = end-tells h s sound
node_or_end-tells h s (Some x) sound = IsFew-none h sound

-- a unit that has its memory
granted-tells : (h : Heap) (s : Option Snapshot) → IsSound [] h → UnitIsFew h (granted h s)
granted-tells h None sound = IsFew-buffer 0 h [] [] sound (record { there = λ b i. absurd i; once = λ k. omega arith }) (omega arith)
granted-tells h (Some s) sound = node_or_end-tells h s (first_untraversed s.nodes) sound

-- A UNIT TELLS FEW ITEMS,
pub unit-tells : (h : Heap) (s : Option Snapshot) (memory : Bool) → IsSound [] h → UnitIsFew h (unit h s memory)
unit-tells h s memory sound = unit-cases h s memory (UnitIsFew h) (abandoned-tells h s sound) (granted-tells h s sound)

-- what has its memory drops the snapshot where the collection ends
node_or_end-drops : (h : Heap) (s : Snapshot) (o : Option Name) → DropsAt (node_or_end h s o).progress (node_or_end h s o).snapshot
node_or_end-drops h s None = refl
node_or_end-drops h s (Some x) = tt

granted-drops : (h : Heap) (s : Option Snapshot) → DropsAt (granted h s).progress (granted h s).snapshot
granted-drops h None = tt
granted-drops h (Some s) = node_or_end-drops h s (first_untraversed s.nodes)

-- and after the last of a collection no snapshot is there.
pub unit-drops : (h : Heap) (s : Option Snapshot) (memory : Bool) → DropsAt (unit h s memory).progress (unit h s memory).snapshot
unit-drops h s memory = unit-cases h s memory (λ u. DropsAt u.progress u.snapshot) refl (granted-drops h s)
