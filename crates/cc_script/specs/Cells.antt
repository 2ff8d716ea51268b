-- AN OBJECT AT ITS KEY, with its neighbours in each list. What marking looks at, the colour and the new mark stand apart, at the
-- same key.
use Rattle.std.specs.Prelude.{◌≡◌, ◌≢◌, Bool, true, false, ℕ, List, [], get_or, map, Option, Some, None, option_map, slice_set}
use Rattle.slab.specs.Slab.{Slab, get}
use Rattle.cc_names.specs.declared.name.Name.{Name}
use Rattle.cc_names.specs.declared.kind.Kind.{Kind}
use Rattle.cc_names.specs.declared.kind.Colour.{Colour}
use Rattle.cc_names.specs.declared.kind.Colour.TheVariants.{White, Gray}
use Rattle.cc_names.specs.Places.{where_set}
use Rattle.cc_chain.specs.declared.link.Link.{Link}
use Rattle.cc_chain.specs.Links.{Links}
use Rattle.cc_chain.specs.Stores.{slot_at}
use Rattle.cc_script.specs.Lists.{Placed, cell_at, newly_marked, painted}
use Rattle.cc_script.specs.Paired.{Reaches, paired_slab}
use Rattle.cc_script.specs.Threads.{Thread, same_thread, threaded}

pub record Linked : Type 0 where
  pub placed : Placed
  pub order : Option Link
  pub waiting : Option Link
  pub walk : Option Link

-- its links, by list
abbrev pub link_of : Thread → Linked → Option Link
link_of t c = threaded c.order c.waiting c.walk t

-- what stands in the slab, and what marking looks at, which stands apart
pub record Label : Type 0 where
  pub name : Name
  pub kind : Kind
  pub native : Option ℕ
  pub delegate : Option ℕ
  pub order : Option Link
  pub walk : Option Link

pub record Content : Type 0 where
  pub slots : List (Option ℕ)
  pub is_proxy : Bool
  pub waiting : Option Link

abbrev pub nothing : Content
nothing = record { slots = []; is_proxy = false; waiting = None }

-- both as one, without a colour and a new mark yet. The delegate stands with the label, and counts where the content says so
abbrev pub filled : Content → Label → Linked
filled content label = record {
  placed = record {
    name = label.name;
    kind = label.kind;
    native = label.native;
    delegate = where_set content.is_proxy label.delegate;
    slots = content.slots;
    colour = White;
    new_mark = White;
  };
  order = label.order;
  waiting = content.waiting;
  walk = label.walk;
}

abbrev pub in_colour : Colour → Linked → Linked
in_colour colour z = record z { placed = painted colour z.placed }

abbrev pub in_new_mark : Colour → Linked → Linked
in_new_mark mark z = record z { placed = newly_marked mark z.placed }

-- the labels with their contents
abbrev pub filled_slab : Slab Label → List Content → Slab Linked
filled_slab s contents = paired_slab filled nothing s contents

-- and with their new marks
abbrev pub marked_slab : Slab Linked → List Colour → Slab Linked
marked_slab s marks = paired_slab in_new_mark White s marks

-- all of the objects but their colours
abbrev pub bare_slab : Slab Label → List Content → List Colour → Slab Linked
bare_slab s contents marks = marked_slab (filled_slab s contents) marks

-- and with their colours; `room` is what all four parts can hold together, without memory
abbrev pub coloured_slab : ℕ → Slab Linked → List Colour → Slab Linked
coloured_slab room s colours = record (paired_slab in_colour White s colours) { capacity = room }

-- none of these colours is gray, where none may be
abbrev pub AreGrayNoted : Bool → List Colour → Type 0
AreGrayNoted may_be_gray colours = may_be_gray ≡ false → (key : ℕ) → get_or colours key White ≢ Gray

-- each object has all of these, where none stands no content is kept, and gray ones are noted, by new marks and by colours
pub record HaveAll (s : Slab Label) (contents : List Content) (marks colours : List Colour) (may_be_marked_gray may_be_gray : Bool) : Type 0 where
  pub filled : Reaches s contents
  pub marked : Reaches s marks
  pub coloured : Reaches s colours
  pub emptied : (key : ℕ) → get s key ≡ None → get_or contents key nothing ≡ nothing
  pub marked_gray : AreGrayNoted may_be_marked_gray marks
  pub gray : AreGrayNoted may_be_gray colours

-- the objects by key
abbrev pub cells_of : List (Option Linked) → List (Option Placed)
cells_of slots = map (option_map (λ c. c.placed)) slots

-- the links of a list
abbrev pub links_in : Thread → List (Option Linked) → Links
links_in t slots = slot_at (link_of t) slots

abbrev pub no_links : Links
no_links key = None

abbrev pub unless : Bool → Links → Links
unless true links = no_links
unless false links = links

-- WHAT THE SLAB HOLDS BESIDE the links of one list: the objects, and the links of every other list
pub record Beside : Type 0 where
  pub cells : List (Option Placed)
  pub others : Thread → Links
  pub capacity : ℕ

abbrev pub beside : Thread → Slab Linked → Beside
beside t s = record { cells = cells_of s.slots; others = λ u. unless (same_thread t u) (links_in u s.slots); capacity = s.capacity }

-- THE OBJECT AT A KEY CHANGED, and nothing else
pub record Changes (old new : Slab Linked) (key : ℕ) (change : Placed → Placed) : Type 0 where
  pub cells : cells_of new.slots ≡ slice_set (cells_of old.slots) key (option_map change (cell_at (cells_of old.slots) key))
  pub links : (t : Thread) → links_in t new.slots ≡ links_in t old.slots
  pub capacity : new.capacity ≡ old.capacity

-- EACH OBJECT CHANGED in the same way, and nothing else
pub record ChangesEach (old new : Slab Linked) (change : Placed → Placed) : Type 0 where
  pub cells : cells_of new.slots ≡ map (option_map change) (cells_of old.slots)
  pub links : (t : Thread) → links_in t new.slots ≡ links_in t old.slots
  pub capacity : new.capacity ≡ old.capacity

-- an object of a colour stands at a key
abbrev pub HasColourAt : Slab Linked → Colour → ℕ → Type 0
HasColourAt s colour key = option_map (λ c. c.colour) (cell_at (cells_of s.slots) key) ≡ Some colour
