-- WHAT LEAVES BY A CHANGE: natives that lose their last reference, and nothing else.
use Rattle.std.specs.Prelude.{ℕ, ◌≤◌, ◌⊎◌, List, map}
use Rattle.cc_lists.specs.Members.{Among}
use Rattle.cc_names.specs.declared.name.Name.{Name}
use Rattle.cc_names.specs.Names.{native}
use Rattle.cc_model.specs.declared.item.Event.{Event}
use Rattle.cc_model.specs.declared.item.Event.TheVariants.{Freed}
use Rattle.cc_model.specs.Telling.{Telling, TellsEvents}
use Rattle.cc_model.specs.Heap.{Heap}
use Rattle.cc_model.specs.View.{view, ReachedIn}
use Rattle.cc_model.specs.WellFormed.{names_there}
use Rattle.cc_model.specs.Counts.{times}

-- a native left: it was there, it is there no more, and no register reaches it
pub record HasLeft (old new : Heap) (number : ℕ) : Type 0 where
  pub before : Among (native number) (names_there old)
  pub gone : ¬ (Among (native number) (names_there new))
  pub unreached : ¬ (ReachedIn (view new) (native number))

-- THE NATIVES WITH THESE NUMBERS ARE ALL THAT LEFT, and each is listed once
pub record AreAllThatLeft (old new : Heap) (numbers : List ℕ) : Type 0 where
  pub once : (k : ℕ) → times k numbers ≤ 1
  pub each : (k : ℕ) → Among k numbers → HasLeft old new k
  pub rest : (x : Name) → Among x (names_there old) → Among x (names_there new) ⊎ Among x (map native numbers)

-- that a native is freed
abbrev pub freed : ℕ → Event
freed number = Freed (native number)

-- WHAT IS TOLD IS ALL THAT LEFT: each name that was there and is there no more is told, once, and nothing else is told
pub record TellsWhatIsFreed (old new : Heap) (before after : Telling) : Type 0 where
  pub numbers : List ℕ
  pub told : TellsEvents before after (map freed numbers)
  pub left : AreAllThatLeft old new numbers

-- nothing left
abbrev pub NothingLeft : Heap → Heap → Type 0
NothingLeft old new = (x : Name) → Among x (names_there old) → Among x (names_there new)

-- each object that is there was there
abbrev pub NoneCame : Heap → Heap → Type 0
NoneCame old new = (x : Name) → Among x (names_there new) → Among x (names_there old)
