-- WHAT A CHANGE KEEPS: one promise for each call, of seven parts.
use Rattle.std.specs.Prelude.{ℕ, List, [], ◌++◌}
use Rattle.cc_heaps.specs.Keyed.{Keyed, IsInOrder}
use Rattle.cc_heaps.specs.Changes.{KeepsKeys}
use Rattle.cc_heaps.specs.Few.{AreFewIfOwnedOnce}
use Rattle.cc_heaps.specs.Standing.{KeepsColours, KeepsFresh, KeepsSuspected}
use Rattle.cc_heaps.specs.Marks.{MarksGoOn}

-- A part is promised always, where something holds, or not at all.

abbrev pub always : Type 0 → Type 0
always part = part

abbrev pub provided : Type 0 → Type 0 → Type 0
provided premise part = premise → part

abbrev pub never : Type 0 → Type 0
never part = Unit {0}

-- THE PARTS, where the caller gives up the references `given` and owns `gained` in their place. What else it owns stays its
-- own, whatever that is. How the last four are promised is said before.
pub record KeepsParts (given gained : List ℕ) (in_colour in_snapshots in_suspicion in_marks : Type 0 → Type 0) (old new : Keyed) : Type 0 where
  -- an object that is there before and after has the same key
  pub keys : KeepsKeys old new
  -- the heaps are in order
  pub order : (owned : List ℕ) → IsInOrder (given ++ owned) old → IsInOrder (gained ++ owned) new
  -- no count is greater than all references there can be
  pub counts : AreFewIfOwnedOnce new
  -- the colour invariant stays
  pub colours : in_colour (KeepsColours old.heap new.heap)
  -- each snapshot that was fresh is fresh
  pub fresh : in_snapshots (KeepsFresh old.heap new.heap)
  -- no native that nothing reaches is forgotten
  pub suspected : in_suspicion (KeepsSuspected old.heap new.heap)
  -- a marking that goes on in slices goes on, and what is exposed is black by its new mark
  pub marks : in_marks (MarksGoOn old new)

-- EVERY PART, whatever is handed in: the call may come while a collection runs
abbrev pub KeepsAll : Keyed → Keyed → Type 0
KeepsAll = KeepsParts [] [] always always always always

-- snapshots stay fresh where this holds: what comes in is black, or is not gray at least
abbrev pub KeepsAllIfBlack : Type 0 → Keyed → Keyed → Type 0
KeepsAllIfBlack black = KeepsParts [] [] always (provided black) always always

-- no native is forgotten where this holds: the native that is changed is reached
abbrev pub KeepsAllIfReached : Type 0 → Keyed → Keyed → Type 0
KeepsAllIfReached reached = KeepsParts [] [] always always (provided reached) always

-- both
abbrev pub KeepsAllIf : Type 0 → Type 0 → Keyed → Keyed → Type 0
KeepsAllIf black reached = KeepsParts [] [] always (provided black) (provided reached) always

-- WHERE NO SNAPSHOT IS KEPT the heaps stay in order, with their keys and colours; nothing is said of snapshots, suspects and marks
abbrev pub KeepsHeaps : List ℕ → List ℕ → Keyed → Keyed → Type 0
KeepsHeaps given gained = KeepsParts given gained always never never never

-- the heaps stay in order, with their keys and a marking that goes on in slices, and get other colours
abbrev pub KeepsObjects : Keyed → Keyed → Type 0
KeepsObjects = KeepsParts [] [] never never never always

-- every part but the marks: a marking that goes on in slices is begun, gone on with or dropped
abbrev pub KeepsAllButMarks : Keyed → Keyed → Type 0
KeepsAllButMarks = KeepsParts [] [] always always always never
