-- WHAT STANDS AT A PLACE of a root, in the host's own books.
use Rattle.std.specs.Prelude.{◌≡◌, ℕ, ◌≤◌, ⊤, List, [], ◌∷◌, length, map, Option, Some, None, IsSome, slice_index_or}
use Rattle.cc_lists.specs.Members.{Among}
use Rattle.cc_host.specs.Places.{places}
use Rattle.cc_host.specs.declared.book.Place.{Place}
use Rattle.cc_host.specs.declared.book.Place.TheVariants.{Free, Taken}

-- the serial number of the root that has it
abbrev pub serial_of : Place → Option ℕ
serial_of (Free next) = None
serial_of (Taken serial) = Some serial

-- the place that it leads to, where it is free
abbrev pub link_of : Place → Option ℕ
link_of (Free next) = Some next
link_of (Taken serial) = None

abbrev pub link_at : List Place → ℕ → Option ℕ
link_at ps index = slice_index_or (map link_of ps) index None

-- one free place in a row: it is the one that comes next, it does not come again, and the others go on from the place that it leads to
pub record Leads (link : ℕ → Option ℕ) (next index : ℕ) (others : List ℕ) (GoesOn : ℕ → Type 0) : Type 0 where
  pub next_is : index ≡ next
  pub once : ¬ (Among index others)
  pub after : ℕ
  pub link_is : link index ≡ Some after
  pub goes_on : GoesOn after

-- FREE PLACES IN A ROW, from the one that comes next: each leads to the one behind it, and none comes twice
abbrev pub AreInRow : (ℕ → Option ℕ) → ℕ → List ℕ → Type 0
AreInRow link next [] = ⊤
AreInRow link next (index ∷ others) = Leads link next index others (λ after. AreInRow link after others)

-- NO PLACE IS LOST: there are no more places than are allowed, and all that are free stand in one row
pub record IsInRow (ps : List Place) (next : ℕ) : Type 0 where
  pub few : length ps ≤ places
  pub free : List ℕ
  pub row : AreInRow (link_at ps) next free
  pub each : (index : ℕ) → IsSome (link_at ps index) → Among index free
