-- A NATIVE IS BROUGHT BACK: whether something reaches it or not, it gets a reference, and a register holds it, in one change. Snapshots
-- stay fresh, and no native is forgotten.
use Rattle.std.proofs.Common.{ℕ, ◌<◌, List, length, Option}
use Rattle.cc_names.specs.declared.name.Name.{Name}
use Rattle.cc_model.specs.Heap.{Heap}
use Rattle.cc_model.specs.Deeds.{native_held}
use Rattle.cc_model.specs.Effects.{done_in, hold_native}
use Rattle.cc_model.specs.Snapshot.{Snapshot}
use Rattle.cc_laws_heap.specs.Sound.{IsSound}
use Rattle.cc_laws_heap.proofs.NativeCommands.{hold_native-sound}
use Rattle.cc_laws_snapshot.specs.Kinds.{IsFreshIn, IsNativeThere}
use Rattle.cc_laws_snapshot.specs.KindsSuspected.{IsSuspectedIn}
use Rattle.cc_laws_snapshot.proofs.CommandsGentle.{done_in-fresh}
use Rattle.cc_laws_snapshot.proofs.CommandsLoyal.{hold_native-loyal}
use Rattle.cc_laws_snapshot.proofs.LoyalSuspected.{loyal-suspected}

-- Snapshots stay fresh,
pub brought_back-fresh : (owned : List ℕ) (h : Heap) (s : Snapshot) (d : ℕ) (x : Option Name) → IsSound owned h → d < length h.native_registers →
    IsNativeThere h x → IsFreshIn h s → IsFreshIn (hold_native h d x).heap s
unfolding done_in
brought_back-fresh owned h s d x sound room there f = done_in-fresh h s (native_held d x) sound f (room, there)

-- and unreached natives suspected.
pub brought_back-suspected : (owned : List ℕ) (h : Heap) (candidates : List ℕ) (d : ℕ) (x : Option Name) → IsSound owned h → d < length h.native_registers →
    IsNativeThere h x → IsSuspectedIn h candidates → IsSuspectedIn (hold_native h d x).heap candidates
brought_back-suspected owned h candidates d x sound room there covered =
    loyal-suspected h (hold_native h d x).heap candidates sound.well_formed (hold_native-sound owned h d x room there sound).well_formed
    (hold_native-loyal h d x room there sound) covered
