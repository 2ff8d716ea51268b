-- WHAT A MARKING IN SLICES HAS YET TO SCAN: two lists of objects, by key, each first in, first out.
use Rattle.std.specs.Prelude.{ℕ, ◌≡◌, ◌<◌, ◌≤◌, Bool, true, false, List, [], ◌∷◌, ◌++◌, length, map, Option, Some, None}
use Rattle.cc_names.specs.declared.kind.Colour.{Colour}
use Rattle.cc_names.specs.declared.kind.Colour.TheVariants.{White, Gray, Black}
use Rattle.cc_names.specs.declared.number.SKey.{SKey}

-- those whose neighbours are to be black, and those whose neighbours are to be gray
pub record ToScan : Type 0 where
  pub black : List ℕ
  pub gray : List ℕ

-- the lists, where a marking goes on; and how many objects there is room for in each
pub record Lists : Type 0 where
  pub marking : Option ToScan
  pub black_room : ℕ
  pub gray_room : ℕ

-- there is room for so many
abbrev pub HasRoom : Lists → ℕ → Type 0
HasRoom l count = (count ≤ l.black_room) × (count ≤ l.gray_room)

-- there is room for as many as before
abbrev pub HasMoreRoom : Lists → Lists → Type 0
HasMoreRoom old new = (old.black_room ≤ new.black_room) × (old.gray_room ≤ new.gray_room)

-- what the lists hold, where a marking goes on
abbrev pub marking_of : Bool → List SKey → List SKey → Option ToScan
marking_of true black gray = Some (record { black = map (λ k. k.0) black; gray = map (λ k. k.0) gray })
marking_of false black gray = None

-- A list changed

-- nothing is to be scanned
abbrev pub nothing_listed : ToScan
nothing_listed = record { black = []; gray = [] }

-- an object goes last on the list of its mark
abbrev pub listed_last : Colour → ℕ → ToScan → ToScan
listed_last White key t = t
listed_last Gray key t = record t { gray = t.gray ++ key ∷ [] }
listed_last Black key t = record t { black = t.black ++ key ∷ [] }

-- as it was before the first one of a list was taken
abbrev pub with_black : ℕ → ToScan → ToScan
with_black key t = record t { black = key ∷ t.black }

abbrev pub with_gray : ℕ → ToScan → ToScan
with_gray key t = record t { gray = key ∷ t.gray }

-- there is room for one more on the list of this mark
abbrev pub HasRoomOn : Colour → Lists → ToScan → Type 0
HasRoomOn White l t = Unit {0}
HasRoomOn Gray l t = length t.gray < l.gray_room
HasRoomOn Black l t = length t.black < l.black_room

-- where a marking goes on
abbrev pub HasRoomFor : Colour → Lists → Type 0
HasRoomFor mark l = (t : ToScan) × (l.marking ≡ Some t) × HasRoomOn mark l t

-- the room stays
abbrev pub HasSameRoom : Lists → Lists → Type 0
HasSameRoom old new = (new.black_room ≡ old.black_room) × (new.gray_room ≡ old.gray_room)
