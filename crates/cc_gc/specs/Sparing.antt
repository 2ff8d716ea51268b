-- WHAT A COLLECTION SPARES, said of the registers and of what they reach in the heaps' own lists.
use Rattle.std.specs.Prelude.{◌≡◌, ◌↔◌, List}
use Rattle.cc_lists.specs.Members.{Among}
use Rattle.cc_names.specs.declared.name.Name.{Name}
use Rattle.cc_model.specs.declared.item.Event.{Event}
use Rattle.cc_model.specs.declared.item.Event.TheVariants.{Unlinked, Freed}
use Rattle.cc_model.specs.Entries.{value_in}
use Rattle.cc_model.specs.Heap.{Heap}
use Rattle.cc_model.specs.View.{view, ReachedIn}
use Rattle.cc_model.specs.WellFormed.{names_there}
use Rattle.cc_model.specs.StandsFor.{shape_at}

-- WHAT IS REACHED STAYS AS IT WAS
pub record KeepsWhatIsReached (old new : Heap) : Type 0 where
  -- the registers hold what they held, and reach what they reached
  pub native_registers : new.native_registers ≡ old.native_registers
  pub script_registers : new.script_registers ≡ old.script_registers
  pub alike : (x : Name) → ReachedIn (view old) x ↔ ReachedIn (view new) x
  -- each of these objects is there, with the slots, the delegate and the flag that it had
  pub there : (x : Name) → ReachedIn (view old) x → Among x (names_there new)
  pub shape : (x : Name) → ReachedIn (view old) x → shape_at new x ≡ shape_at old x
  -- and a map has the value for a key that it had, or none
  pub value : (m k : Name) → ReachedIn (view old) m → ReachedIn (view old) k → value_in new.entries m k ≡ value_in old.entries m k

-- no register reaches it, before or after
pub record IsUnreached (old new : Heap) (x : Name) : Type 0 where
  pub before : ¬ (ReachedIn (view old) x)
  pub afterwards : ¬ (ReachedIn (view new) x)

-- THESE EVENTS SPARE WHAT IS REACHED: no register reaches what they unlink or free, and what they free is all that leaves
pub record SparesWhatIsReached (old new : Heap) (events : List Event) : Type 0 where
  pub unlinked : (x : Name) → Among (Unlinked x) events → IsUnreached old new x
  pub freed : (x : Name) → Among (Freed x) events → IsUnreached old new x
  pub left : (x : Name) → Among x (names_there new) ↔ (Among x (names_there old) × (¬ (Among (Freed x) events)))
