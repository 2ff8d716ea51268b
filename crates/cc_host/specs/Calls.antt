-- WHAT A CALL OF A HOST COMES TO.
use Rattle.std.specs.Prelude.{◌≡◌, ◌⊎◌, ◌↔◌, ℕ, ◌+◌, ◌≤◌, List, length, Option, Some}
use Rattle.cc_lists.specs.Members.{Among}
use Rattle.cc_names.specs.declared.name.Name.{Name}
use Rattle.cc_names.specs.Names.{native}
use Rattle.cc_model.specs.declared.item.Event.{Event}
use Rattle.cc_model.specs.Graph.{Graph, preserve, set_slot}
use Rattle.cc_model.specs.Skipping.{IsSkippable, forgotten}
use Rattle.cc_model.specs.Telling.{Telling, TellsEvents}
use Rattle.cc_model.specs.View.{view}
use Rattle.cc_model.specs.WellFormed.{names_there}
use Rattle.cc_gc.specs.Sparing.{KeepsWhatIsReached}
use Rattle.cc_collector.specs.Collected.{TellsWhatLeaves}
use Rattle.cc_heaps.specs.Changes.{KeepsKeys}
use Rattle.cc_heaps.specs.Leaving.{NoneCame, TellsWhatIsFreed}
use Rattle.cc_laws_told.specs.Told.{objects}
use Rattle.cc_heaps.specs.Standing.{MayBeHeld, StandsAfter, StillStands}
use Rattle.cc_host.specs.Hosted.{Hosted}
use Rattle.cc_host.specs.Missing.{IsOfAGraph, IsUsedWell, KeepsDoomed, KeepsDoomedBut, LeavesUnlinked, TakesGarbage}
use Rattle.cc_host.specs.Next.{TellsEnded}
use Rattle.cc_host.specs.Stops.{stop_at}
use Rattle.cc_host.specs.declared.object.Object.{Object}

-- with no premise
abbrev pub Always : Type 0
Always = Unit {0}

-- A CALL CHANGES THE GRAPH SO, where the premise holds: that what is handed in is reached, or is the reflector of a native that is. What the running collection can't
-- miss it can't miss afterwards either. Also where the premise doesn't hold no object gets another key, and the running
-- collection goes on, and so does a script marking.
pub record Does (premise : Type 0) (change : Graph → Graph) (old new : Hosted) : Type 0 where
  pub stands : premise → StandsAfter old.heaps.heap new.heaps.heap change
  pub doomed : premise → KeepsDoomed old.heaps.heap new.heaps.heap
  pub keys : KeepsKeys old.heaps new.heaps
  pub running : new.running ≡ old.running
  pub marking : new.marking ≡ old.marking
  pub mark : new.mark ≡ old.mark

-- A CALL HANDS A ROOT A NATIVE that is there, reached or not: it changes the graph so, with no premise. What the running collection
-- can't miss it can't miss afterwards either, where it does not have that native.
pub record Brings (brought : Option Name) (change : Graph → Graph) (old new : Hosted) : Type 0 where
  -- it was not unlinked, or is reached
  pub held : MayBeHeld old.heaps.heap brought
  pub stands : StandsAfter old.heaps.heap new.heaps.heap change
  pub doomed : KeepsDoomedBut brought old.heaps.heap new.heaps.heap
  pub keys : KeepsKeys old.heaps new.heaps
  pub running : new.running ≡ old.running
  pub marking : new.marking ≡ old.marking
  pub mark : new.mark ≡ old.mark

-- A CALL WAS REFUSED after it had begun: the graph stays as it is in any case
pub record Tries (premise : Type 0) (old new : Hosted) : Type 0 where
  pub stands : StillStands old.heaps.heap new.heaps.heap
  pub doomed : premise → KeepsDoomed old.heaps.heap new.heaps.heap
  pub keys : KeepsKeys old.heaps new.heaps
  pub running : new.running ≡ old.running
  pub marking : new.marking ≡ old.marking
  pub mark : new.mark ≡ old.mark

-- NO OBJECT COMES
abbrev pub NoneComes : Hosted → Hosted → Type 0
NoneComes old new = NoneCame old.heaps.heap new.heaps.heap

-- no object comes but this one
abbrev pub Comes : Name → Hosted → Hosted → Type 0
Comes made old new = (x : Name) → Among x (names_there new.heaps.heap) → Among x (names_there old.heaps.heap) ⊎ (x ≡ made)

-- WHAT LEFT BY A CALL IS TOLD: natives that lost their last reference, each once, and nothing else
abbrev pub TellsFreed : Hosted → Hosted → Telling → Telling → Type 0
TellsFreed old new before after = TellsWhatIsFreed old.heaps.heap new.heaps.heap before after

-- A COLLECTION LEAVES THE GRAPH as it is; what the roots reach stays as it was, and what leaves is told; what it unlinks is out of reach, and
-- what it tells unlinked has ended
pub record Collects (old new : Hosted) (before after : Telling) : Type 0 where
  pub stands : StillStands old.heaps.heap new.heaps.heap
  pub keeps : KeepsWhatIsReached old.heaps.heap new.heaps.heap
  pub tells : TellsWhatLeaves old.heaps.heap new.heaps.heap before after
  pub used : IsUsedWell old → IsUsedWell new
  pub unlinked : LeavesUnlinked old.heaps.heap new.heaps.heap
  pub ends : IsOfAGraph old → TellsEnded new.heaps.heap before after
  pub keys : KeepsKeys old.heaps new.heaps
  pub mark : new.mark ≡ old.mark

-- events are few: one for each object that leaves, and at most so many besides; no object comes
pub record IsFew (besides : ℕ) (old new : Hosted) (es : List Event) : Type 0 where
  pub told : length es + objects new.heaps.heap ≤ objects old.heaps.heap + besides
  pub natives : length new.heaps.heap.natives ≤ length old.heaps.heap.natives
  pub scripts : length new.heaps.heap.scripts ≤ length old.heaps.heap.scripts

-- A COLLECTION TELLS FEW ITEMS, and nothing else
unfoldable pub TellsFew : ℕ → Hosted → Hosted → Telling → Telling → Type 0
TellsFew besides old new before after = (es : List Event) × TellsEvents before after es × IsFew besides old new es

-- SUSPECTS ARE FORGOTTEN, so many: those that the roots reach over references, entries aside, lose their mark, and no others do
pub record Forgets (old new : Hosted) (marks : ℕ) : Type 0 where
  pub heap : new.heaps.heap ≡ forgotten old.heaps.heap
  pub count : marks + length (view new.heaps.heap).purple ≡ length (view old.heaps.heap).purple
  pub exactly : (k : ℕ) → Among (native k) (view old.heaps.heap).purple →
      (¬ (Among (native k) (view new.heaps.heap).purple)) ↔ IsSkippable old.heaps.heap (native k)
  -- each object is there that was there, and no other
  pub stays : (x : Object) → stop_at new x ≡ stop_at old x
  -- a collection that begins then takes all that one that began before would take
  pub begins : TakesGarbage old → TakesGarbage new

-- slot i of an object written; a reflector is preserved before
abbrev pub stored : Object → ℕ → Option Name → Graph → Graph
stored x i y g = set_slot (preserve g (Some x.name)) (Some x.name) i y
