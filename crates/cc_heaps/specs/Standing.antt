-- WHAT A CHANGE PROMISES: of the graph that the heaps stand for, of snapshots, of suspicion and of colours.
use Rattle.std.specs.Prelude.{◌≡◌, ◌⊎◌, IsTrue, true, ℕ, List, Option, Some, None}
use Rattle.cc_names.specs.declared.name.Name.{Name}
use Rattle.cc_names.specs.declared.name.Name.TheVariants as name
use Rattle.cc_names.specs.Names.{native}
use Rattle.cc_model.specs.Graph.{Graph}
use Rattle.cc_model.specs.WellMade.{IsWellMade}
use Rattle.cc_model.specs.Heap.{Heap, HeapNative, native_at}
use Rattle.cc_model.specs.Given.{is_usable}
use Rattle.cc_model.specs.View.{view, ReachedIn}
use Rattle.cc_model.specs.StandsFor.{StandsFor}
use Rattle.cc_model.specs.Colours.{HasColourInvariant}
use Rattle.cc_model.specs.Snapshot.{Snapshot}
use Rattle.cc_model.specs.Fresh.{IsFresh}
use Rattle.cc_model.specs.Suspected.{IsSuspected}

-- what is handed in is reached from the registers
abbrev pub IsReached : Heap → Option Name → Type 0
IsReached h None = Unit {0}
IsReached h (Some x) = ReachedIn (view h) x

-- or it is a native of the heaps that was not unlinked, as a weak reference may bring back
abbrev pub MayBeHeld : Heap → Option Name → Type 0
MayBeHeld h None = Unit {0}
MayBeHeld h (Some x) = ReachedIn (view h) x ⊎ IsTrue (is_usable h x)

-- what is handed in is reached, or it is the reflector of a native that is reached
abbrev pub IsReachedOrReflects : Heap → Option Name → Type 0
IsReachedOrReflects h None = Unit {0}
IsReachedOrReflects h (Some (name.Native k)) = ReachedIn (view h) (name.Native k)
IsReachedOrReflects h (Some (name.Script k)) = ReachedIn (view h) (name.Script k)
IsReachedOrReflects h (Some (name.Reflector k)) = ReachedIn (view h) (name.Reflector k) ⊎ ReachedIn (view h) (native k.0)

-- a slot of an object may be written: a reflector that is not preserved stays blank
abbrev pub MayHold : Heap → Option Name → Type 0
MayHold h None = Unit {0}
MayHold h (Some (name.Native k)) = Unit {0}
MayHold h (Some (name.Script k)) = Unit {0}
MayHold h (Some (name.Reflector k)) = (n : HeapNative) → native_at h k.0 ≡ Some n → n.preserved ≡ true

-- after a change the heaps stand for what it makes of each graph that they stood for, which is well made again
abbrev pub StandsAfter : Heap → Heap → (Graph → Graph) → Type 0
StandsAfter old new change = (g : Graph) → IsWellMade g → StandsFor old g → IsWellMade (change g) × StandsFor new (change g)

-- the heaps go on standing for the same graphs
abbrev pub StillStands : Heap → Heap → Type 0
StillStands old new = (g : Graph) → IsWellMade g → StandsFor old g → StandsFor new g

-- each snapshot that was fresh is fresh
abbrev pub KeepsFresh : Heap → Heap → Type 0
KeepsFresh old new = (s : Snapshot) → IsFresh old.natives_made (view old) s → IsFresh new.natives_made (view new) s

-- no native that nothing reaches is forgotten, whatever the candidates of a running collection are
abbrev pub KeepsSuspected : Heap → Heap → Type 0
KeepsSuspected old new = (candidates : List ℕ) → IsSuspected (view old) candidates → IsSuspected (view new) candidates

-- the colour invariant stays
abbrev pub KeepsColours : Heap → Heap → Type 0
KeepsColours old new = HasColourInvariant (view old) → HasColourInvariant (view new)
