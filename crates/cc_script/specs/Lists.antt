-- THE PARTS OF A SCRIPT HEAP AS LISTS, by keys, and the objects that they show.
use Rattle.std.specs.Prelude.{◌≡◌, ℕ, ◌≤◌, ◌==◌, List, [], ◌∷◌, ◌++◌, length, map, count_by, Option, Some, None, slice_index_or, slice_set}
use Rattle.cc_lists.specs.Members.{Among, without}
use Rattle.cc_names.specs.declared.name.Name.{Name}
use Rattle.cc_names.specs.declared.kind.Kind.{Kind}
use Rattle.cc_names.specs.declared.kind.Kind.TheVariants.{Plain}
use Rattle.cc_names.specs.declared.kind.Colour.{Colour}
use Rattle.cc_names.specs.declared.kind.Colour.TheVariants.{White}
use Rattle.cc_names.specs.declared.kind.Walked.{Walked}
use Rattle.cc_names.specs.Names.{object}
use Rattle.cc_names.specs.Sizes.{most_slots}
use Rattle.cc_walk.specs.Walks.{Walks, with_state}
use Rattle.cc_script.specs.Objects.{Object, FitsKind, FitsDelegate}

-- an object as it stands at its key: what its slots hold, and its delegate, by keys
pub record Placed : Type 0 where
  pub name : Name
  pub kind : Kind
  pub native : Option ℕ
  pub delegate : Option ℕ
  pub slots : List (Option ℕ)
  pub colour : Colour
  pub new_mark : Colour

-- the objects by key, their keys in order of making, and how each key stands in a walk over both heaps
pub record Lists : Type 0 where
  pub cells : List (Option Placed)
  pub order : List ℕ
  pub walks : Walks

-- the object at a key
abbrev pub cell_at : List (Option Placed) → ℕ → Option Placed
cell_at cells key = slice_index_or cells key None

-- with another colour
abbrev pub painted : Colour → Placed → Placed
painted colour c = record c { colour = colour }

-- with another new mark
abbrev pub newly_marked : Colour → Placed → Placed
newly_marked mark c = record c { new_mark = mark }

-- with its colour for the new mark, and its new mark for the colour
abbrev pub exchanged_marks : Placed → Placed
exchanged_marks c = record c { colour = c.new_mark; new_mark = c.colour }

-- with slot i written
abbrev pub written : ℕ → Option ℕ → Placed → Placed
written i x c = record c { slots = slice_set c.slots i x }

-- what is read where there is no object
abbrev pub nothing_placed : Placed
nothing_placed = record { name = object 0; kind = Plain; native = None; delegate = None; slots = []; colour = White; new_mark = White }

abbrev pub placed_or_nothing : Option Placed → Placed
placed_or_nothing None = nothing_placed
placed_or_nothing (Some c) = c

-- the slots at a key, and none where there is no object
abbrev pub slots_placed : Option Placed → List (Option ℕ)
slots_placed o = (placed_or_nothing o).slots

-- an object with its key, and how it stands in a walk
abbrev pub with_key : ℕ → Walked → Placed → Object
with_key key walked c = record {
  key = key;
  name = c.name;
  kind = c.kind;
  native = c.native;
  delegate = c.delegate;
  slots = c.slots;
  colour = c.colour;
  new_mark = c.new_mark;
  walked = walked;
}

abbrev pub shown_at : Lists → ℕ → Object
shown_at l key = with_key key (l.walks key) (placed_or_nothing (cell_at l.cells key))

-- WHAT THE LISTS SHOW
abbrev pub objects_of : Lists → List Object
objects_of l = map (shown_at l) l.order

-- THE LISTS FIT TOGETHER: the order has the keys of the objects, each once, no object has more slots than are allowed, exactly
-- reflectors have a native, and exactly proxies have a delegate
pub record IsPlaced (l : Lists) : Type 0 where
  pub in_order : (key : ℕ) → Among key l.order → (c : Placed) × (cell_at l.cells key ≡ Some c)
  pub ordered : (key : ℕ) (c : Placed) → cell_at l.cells key ≡ Some c → Among key l.order
  pub once : (key : ℕ) → count_by (λ k. k == key) l.order ≤ 1
  pub small : (key : ℕ) (c : Placed) → cell_at l.cells key ≡ Some c → length c.slots ≤ most_slots
  pub reflected : (key : ℕ) (c : Placed) → cell_at l.cells key ≡ Some c → FitsKind c.kind c.native
  pub delegated : (key : ℕ) (c : Placed) → cell_at l.cells key ≡ Some c → FitsDelegate c.kind c.delegate

-- the lists with the object at a key changed
abbrev pub with_cell : Lists → ℕ → Option Placed → Lists
with_cell l key o = record l { cells = slice_set l.cells key o }

-- with the object at a key made, which stands in these cells
abbrev pub made : Lists → List (Option Placed) → ℕ → Lists
made l cells key = record l { cells = cells; order = l.order ++ key ∷ [] }

-- with the object at a key taken out
abbrev pub taken_out : Lists → ℕ → Lists
taken_out l key = record l { cells = slice_set l.cells key None; order = without ◌==◌ key l.order }

-- with the key standing otherwise in a walk
abbrev pub with_walk : Lists → ℕ → Walked → Lists
with_walk l key state = record l { walks = with_state l.walks key state }
