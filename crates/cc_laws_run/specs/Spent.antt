-- WHAT A COLLECTION HAS UNLINKED, until a script collection takes it away.
use Rattle.std.specs.Prelude.{◌≡◌, ℕ, ◌≤◌, true, ◌⊎◌, List}
use Rattle.cc_lists.specs.Members.{Among}
use Rattle.cc_names.specs.declared.name.Name.{Name}
use Rattle.cc_names.specs.Names.{native, object}
use Rattle.cc_model.specs.Entries.{Joint, joints}
use Rattle.cc_model.specs.Heap.{Heap, HeapNative}
use Rattle.cc_model.specs.View.{view}
use Rattle.cc_model.specs.Asks.{Ask}
use Rattle.cc_model.specs.Lawful.{State}
use Rattle.cc_model.specs.Collecting.{Machine}
use Rattle.cc_model.specs.Run.{machine_after}
use Rattle.cc_laws_run.specs.Missing.{AreLeftOf, graph_then, met_then}

-- names that only such names hold and that no register has, whose natives hold nothing; they may be gone by now
pub record IsSpent (h : Heap) (ds : List Name) : Type 0 where
  -- no number of them is given out again
  pub natives_made : (i : ℕ) → Among (native i) ds → i ≤ h.natives_made
  pub scripts_made : (i : ℕ) → Among (object i) ds → i ≤ h.scripts_made
  pub unregistered : (x : Name) → Among x ds → ¬ (Among x (view h).registers)
  -- who holds one is one; so is a member of a joint that gives one
  pub holder : (x y : Name) → Among (x, y) (view h).edges → Among y ds → Among x ds
  pub joint : (e : Joint) → Among e (joints h.entries) → Among e.value ds → Among e.the_map ds ⊎ Among e.key ds
  -- a native of them has no slot that holds something, and preserves nothing
  pub empty : (i : ℕ) (y : Name) → Among (native i) ds → ¬ (Among (native i, y) (view h).edges)
  -- one that is there was unlinked, so that no weak register gives it
  pub unlinked : (n : HeapNative) → Among n h.natives → Among (native n.number) ds → n.unlinked ≡ true

-- of names that a collection could not miss some are left that are spent after these asks, and the others may be back
abbrev pub LeavesSpent : List Name → List Name → Machine → State → List Ask → Type 0
LeavesSpent ds met m s asks = (left : List Name) × AreLeftOf (graph_then m s asks) (met_then met m s asks) ds left × IsSpent (machine_after m asks).heap left
