-- NOTHING COMES BACK: what is gone stays gone, and numbers made never fall.
use Rattle.std.specs.Prelude.{◌≡◌, ◌≢◌, ℕ, ◌≤◌, List, Option, Some, None, IsTrue}
use Rattle.cc_lists.specs.Members.{Among}
use Rattle.cc_names.specs.declared.name.Name.{Name}
use Rattle.cc_names.specs.declared.name.Name.TheVariants as name
use Rattle.cc_names.specs.Names.{native}
use Rattle.cc_model.specs.Checks.{reflector_of}
use Rattle.cc_model.specs.Given.{is_usable}
use Rattle.cc_model.specs.Heap.{Heap}
use Rattle.cc_model.specs.Telling.{Telling, TellsEvents}
use Rattle.cc_model.specs.WellFormed.{names_there, native_names}
use Rattle.cc_model.specs.declared.item.Event.{Event}
use Rattle.cc_laws_told.specs.Lasting.{FreesOnce}
use Rattle.cc_host.specs.declared.object.Object.{Object}
use Rattle.cc_host.specs.declared.stop.Stop.TheVariants.{Gone}
use Rattle.cc_host.specs.Hosted.{Hosted}
use Rattle.cc_host.specs.Stops.{stop_at}

-- whether an object's name was given by then: its number is not above those made. A reflector has the number of its native
abbrev pub WasGiven : Heap → Name → Type 0
WasGiven h (name.Native k) = k.0 ≤ h.natives_made
WasGiven h (name.Script k) = k.0 ≤ h.scripts_made
WasGiven h (name.Reflector k) = k.0 ≤ h.natives_made

-- WHAT IS GONE STAYS GONE, but for this name: that of a reflector, which `wrap` makes again. And numbers made never fall, so that
-- none is given twice
pub record Lasts (but : Option Name) (old new : Hosted) : Type 0 where
  pub natives : old.heaps.heap.natives_made ≤ new.heaps.heap.natives_made
  pub scripts : old.heaps.heap.scripts_made ≤ new.heaps.heap.scripts_made
  -- what was freed is there never again
  pub away : (x : Name) → WasGiven old.heaps.heap x → Some x ≢ but → ¬ (Among x (names_there old.heaps.heap)) → ¬ (Among x (names_there new.heaps.heap))
  -- and what a call answers `Gone` for, freed or unlinked, it answers so for ever
  pub gone : (x : Object) → WasGiven old.heaps.heap x.name → Some x.name ≢ but → stop_at old x ≡ Some Gone → stop_at new x ≡ Some Gone

-- A NATIVE THAT IS USABLE and stays is usable still: no change unlinks it
pub record KeepsUsable (old new : Heap) : Type 0 where
  pub usable : (k : ℕ) → IsTrue (is_usable old (native k)) → Among (native k) (native_names new) → IsTrue (is_usable new (native k))

-- WHAT WAS THERE FOR A CALL, and is in the heaps still, is there for each call still. Only a collection unlinks what stays
pub record StaysUsable (old new : Hosted) : Type 0 where
  pub stays : (x : Object) → stop_at old x ≡ None → Among x.name (names_there new.heaps.heap) → stop_at new x ≡ None

-- WHAT A COLLECTION TELLS AS FREED IS FREED ONCE: it was there, it is there no more, and it is told once
pub record TellsFreedOnce (old new : Hosted) (before after : Telling) : Type 0 where
  pub events : List Event
  pub told : TellsEvents before after events
  pub frees : FreesOnce old.heaps.heap new.heaps.heap events

-- CALLS, IN ANY ORDER, lead from one host to another: each lasts, but for the reflector that `wrap` makes of a native
pub data Later (old : Hosted) : Hosted → Type 0 where
  none_called : Later old old
  called : (new last : Hosted) (x : Option Name) → Later old new → Lasts (reflector_of x) new last → Later old last
