-- WHAT THE RUNNING COLLECTION CAN'T MISS: that calls leave it alone, and that its end takes it.
use Rattle.std.specs.Prelude.{◌≡◌, ◌⊎◌, ℕ, false, List, ◌∷◌, Option, None, Some}
use Rattle.cc_lists.specs.Members.{Among}
use Rattle.cc_names.specs.declared.name.Name.{Name}
use Rattle.cc_model.specs.declared.item.Event.{Event}
use Rattle.cc_model.specs.declared.item.Event.TheVariants.{Abandoned}
use Rattle.cc_model.specs.Graph.{Graph}
use Rattle.cc_model.specs.WellMade.{IsWellMade}
use Rattle.cc_model.specs.StandsFor.{StandsFor}
use Rattle.cc_model.specs.Heap.{Heap}
use Rattle.cc_model.specs.View.{view}
use Rattle.cc_model.specs.Snapshot.{Snapshot}
use Rattle.cc_model.specs.Units.{begun, with_empty_buffer}
use Rattle.cc_model.specs.End.{Progress, went_on, at_end, refused}
use Rattle.cc_model.specs.Telling.{Telling, TellsEvents}
use Rattle.cc_laws_run.specs.Doomed.{AreUnlinked, IsDoomed, IsDoomedNow, KeepsReflectors, garbage}
use Rattle.cc_laws_run.specs.Missing.{lost}
use Rattle.cc_host.specs.Hosted.{Hosted, machine}
use Rattle.cc_host.specs.Later.{AreLost}
use Rattle.cc_host.specs.Next.{AreOutOfReach, BringsNoneBack, HasEndedIn, UnlinkedIsOutOfReach}

-- what is doomed stays so, in each snapshot: names that only such names hold, which a collection can't miss. A reflector is to be one of
-- them only where its native is, since a reached native may be wrapped again
abbrev pub LeavesDoomed : Heap → Heap → Type 0
LeavesDoomed old new = (s : Snapshot) (ds : List Name) → KeepsReflectors ds → IsDoomed (view old) s ds → IsDoomed (view new) s ds

-- what is out of reach stays so
abbrev pub LeavesOutOfReach : Heap → Heap → Type 0
LeavesOutOfReach old new = (ds : List Name) → AreOutOfReach old ds → AreOutOfReach new ds

-- WHAT WAS UNLINKED IS OUT OF REACH FOR GOOD, with all that leads to it; and a native that has ended has ended for good
pub record LeavesUnlinked (old new : Heap) : Type 0 where
  pub out_of_reach : LeavesOutOfReach old new
  pub ended : (k : ℕ) → HasEndedIn old k → HasEndedIn new k

-- what is lost stays so
abbrev pub LeavesLost : Heap → Heap → Type 0
LeavesLost old new = (ds : List Name) → KeepsReflectors ds → AreLost (view old) ds → AreLost (view new) ds

-- A CHANGE LEAVES DOOMED WHAT IS DOOMED, out of reach what is, and lost what is; it unlinks no native, and brings none back
unfoldable pub KeepsDoomed : Heap → Heap → Type 0
KeepsDoomed old new = LeavesDoomed old new × LeavesOutOfReach old new × LeavesLost old new × BringsNoneBack old new

-- what is brought is none of these
unfoldable pub IsNoneOf : List Name → Option Name → Type 0
IsNoneOf ds None = Unit {0}
IsNoneOf ds (Some x) = ¬ (Among x ds)

abbrev pub LeavesDoomedBut : Option Name → Heap → Heap → Type 0
LeavesDoomedBut x old new = (s : Snapshot) (ds : List Name) → KeepsReflectors ds → IsNoneOf ds x → IsDoomed (view old) s ds → IsDoomed (view new) s ds

abbrev pub LeavesOutOfReachBut : Option Name → Heap → Heap → Type 0
LeavesOutOfReachBut x old new = (ds : List Name) → IsNoneOf ds x → AreOutOfReach old ds → AreOutOfReach new ds

abbrev pub LeavesLostBut : Option Name → Heap → Heap → Type 0
LeavesLostBut x old new = (ds : List Name) → KeepsReflectors ds → IsNoneOf ds x → AreLost (view old) ds → AreLost (view new) ds

-- A CHANGE THAT BRINGS A NATIVE BACK leaves doomed what is doomed and does not have it; so what is out of reach, and what is lost. It leads to
-- none of them then, since only such names lead to such
unfoldable pub KeepsDoomedBut : Option Name → Heap → Heap → Type 0
KeepsDoomedBut x old new = LeavesDoomedBut x old new × LeavesOutOfReachBut x old new × LeavesLostBut x old new × BringsNoneBack old new

-- the heaps stand for a graph, which is well made
abbrev pub IsOfAGraph : Hosted → Type 0
IsOfAGraph h = (g : Graph) × IsWellMade g × StandsFor h.heaps.heap g

-- A HOST WHOSE CALLS WERE HANDED WHAT IS REACHED: its heaps stand for a graph, and what was unlinked is out of reach
pub record IsUsedWell (h : Hosted) : Type 0 where
  pub graph : IsOfAGraph h
  pub unlinked : UnlinkedIsOutOfReach h.heaps.heap

-- THE RUNNING COLLECTION CAN'T MISS THESE
pub record CannotMiss (h : Hosted) (ds : List Name) : Type 0 where
  pub graph : IsOfAGraph h
  pub reflectors : KeepsReflectors ds
  pub doomed : IsDoomedNow (machine h) ds

-- what nothing reaches, each native of it among these, but for the reflectors of reached natives, which may be wrapped again
abbrev pub lost_in : Hosted → List Name
lost_in h = lost h.heaps.heap

-- A COLLECTION THAT BEGINS NOW can't miss what nothing reaches now: none runs, and its first unit would doom it. No script marking
-- goes on, whose end would free some of it before
pub record TakesGarbage (h : Hosted) : Type 0 where
  pub idle : h.running ≡ None
  pub unmarked : h.marking ≡ false
  pub garbage_doomed : IsDoomed (view (with_empty_buffer h.heaps.heap)) (begun h.heaps.heap) (garbage h.heaps.heap)

-- WHAT A COLLECTION TAKES THAT BEGINS LATER, where none runs and no script marking goes on: names that are lost. Calls that are handed what is
-- reached leave it so
pub record WillTake (h : Hosted) (ds : List Name) : Type 0 where
  pub graph : IsOfAGraph h
  pub reflectors : KeepsReflectors ds
  pub idle : h.running ≡ None
  pub unmarked : h.marking ≡ false
  pub lost : AreLost (view h.heaps.heap) ds

-- What becomes of them

-- each native of them is told unlinked
unfoldable pub TellsUnlinked : List Name → Telling → Telling → Type 0
TellsUnlinked ds before after = (es : List Event) × TellsEvents before after es × AreUnlinked ds es

-- that the collection is abandoned is told, before anything else
unfoldable pub TellsAbandoned : Telling → Telling → Type 0
TellsAbandoned before after = (es : List Event) × TellsEvents before after (Abandoned ∷ es)

-- BY A SLICE: the collection goes on and can't miss them still; or it ended, and told each native of them unlinked; or it was
-- refused memory, and told that it is abandoned
unfoldable pub TakesBySlice : List Name → Hosted → Progress → Telling → Telling → Type 0
TakesBySlice ds new went_on before after = CannotMiss new ds
TakesBySlice ds new at_end before after = TellsUnlinked ds before after
TakesBySlice ds new refused before after = TellsAbandoned before after

-- BY A CALL THAT BRINGS IT TO ITS END
unfoldable pub Takes : List Name → Telling → Telling → Type 0
Takes ds before after = TellsUnlinked ds before after ⊎ TellsAbandoned before after
