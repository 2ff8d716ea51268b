-- WHAT WAS UNLINKED, until the next `gc` frees it: that it is out of reach, and what that frees.
use Rattle.std.specs.Prelude.{◌≡◌, ℕ, ◌≤◌, ◌<◌, ◌⊎◌, IsTrue, true, false, List, ◌++◌}
use Rattle.cc_lists.specs.Members.{Among}
use Rattle.cc_names.specs.declared.name.Name.{Name}
use Rattle.cc_names.specs.Names.{native, object}
use Rattle.cc_model.specs.declared.item.Event.{Event}
use Rattle.cc_model.specs.declared.item.Event.TheVariants.{Unlinked}
use Rattle.cc_model.specs.Entries.{Joint}
use Rattle.cc_model.specs.Given.{is_usable, living_names}
use Rattle.cc_model.specs.Heap.{Heap, HeapNative}
use Rattle.cc_model.specs.StandsFor.{IsEmptied}
use Rattle.cc_model.specs.Telling.{Telling, TellsEvents}
use Rattle.cc_model.specs.View.{LedFrom, view}
use Rattle.cc_model.specs.WellFormed.{names_there}
use Rattle.cc_laws_run.specs.Doomed.{KeepsReflectors}

-- NAMES OUT OF REACH: no register has one, only such names lead to one, and natives of them were unlinked and hold nothing. Some of them may be
-- gone by now
pub record AreOutOfReach (h : Heap) (ds : List Name) : Type 0 where
  pub unregistered : (x : Name) → Among x ds → ¬ (Among x (view h).registers)
  -- who holds one is one; so is a member of a joint that gives one
  pub holder : (x y : Name) → Among (x, y) (view h).edges → Among y ds → Among x ds
  pub joint : (e : Joint) → Among e (view h).joints → Among e.value ds → Among e.the_map ds ⊎ Among e.key ds
  -- a native of them that is there was unlinked, and holds nothing
  pub emptied : (n : HeapNative) → Among n h.natives → Among (native n.number) ds → IsEmptied n
  -- a reflector is one of them only with its native: else `wrap` could bring it back
  pub reflectors : KeepsReflectors ds
  -- no number of them is given out again
  pub natives_made : (k : ℕ) → Among (native k) ds → k ≤ h.natives_made
  pub scripts_made : (k : ℕ) → Among (object k) ds → k ≤ h.scripts_made

-- each native that was unlinked is one of these
abbrev pub HaveTheUnlinked : Heap → List Name → Type 0
HaveTheUnlinked h ds = (n : HeapNative) → Among n h.natives → n.unlinked ≡ true → Among (native n.number) ds

-- WHAT WAS UNLINKED IS OUT OF REACH, with all that leads to it
pub record UnlinkedIsOutOfReach (h : Heap) : Type 0 where
  pub names : List Name
  pub out_of_reach : AreOutOfReach h names
  pub unlinked : HaveTheUnlinked h names

-- A NATIVE THAT WAS UNLINKED, AND WHAT LEADS TO IT, over slots, reflectors and delegates
pub data LeadsToUnlinked (h : Heap) : Name → Type 0 where
  unlinked : (n : HeapNative) → Among n h.natives → n.unlinked ≡ true → LeadsToUnlinked h (native n.number)
  holds : (x y : Name) → Among (x, y) (view h).edges → LeadsToUnlinked h y → LeadsToUnlinked h x

-- A NATIVE HAS ENDED: it was made, and it is not there, or it was unlinked
pub record HasEndedIn (h : Heap) (k : ℕ) : Type 0 where
  pub made : k ≤ h.natives_made
  pub unlinked : (n : HeapNative) → Among n h.natives → n.number ≡ k → n.unlinked ≡ true

-- WHAT THE NEXT `gc` FREES: no native is left that was unlinked, and nothing that led to one; nor a native that has ended, nor anything that was
-- out of reach
pub record FreesTheUnlinked (old new : Heap) : Type 0 where
  pub natives : (k : ℕ) → Among (native k) (names_there new) → IsTrue (is_usable new (native k))
  pub gone : (x : Name) → LeadsToUnlinked old x → ¬ (Among x (names_there new))
  pub ended : (k : ℕ) → HasEndedIn old k → ¬ (Among (native k) (names_there new))
  pub out_of_reach : (ds : List Name) → AreOutOfReach old ds → (x : Name) → Among x ds → ¬ (Among x (names_there new))
  -- all that is left is led to by what registers hold and by natives that were not unlinked
  pub left : (x : Name) → Among x (names_there new) → LedFrom (view new) ((view new).registers ++ living_names new) x

-- each native that is told unlinked has ended then
unfoldable pub TellsEnded : Heap → Telling → Telling → Type 0
TellsEnded new before after = (es : List Event) × TellsEvents before after es × ((k : ℕ) → Among (Unlinked (native k)) es → HasEndedIn new k)

-- NO NATIVE COMES BACK OR IS UNLINKED: each that is there was there, unlinked or not as it is, or was made since
pub record BringsNoneBack (old new : Heap) : Type 0 where
  pub made : old.natives_made ≤ new.natives_made
  pub natives : (n : HeapNative) → Among n new.natives → ((m : HeapNative) × Among m old.natives × (m.number ≡ n.number) × (m.unlinked ≡ n.unlinked))
      ⊎ ((old.natives_made < n.number) × (n.unlinked ≡ false))
