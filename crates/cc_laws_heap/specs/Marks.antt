-- WHAT A SWEEP NEEDS OF THE COLOURS: not that they are those of marking, only that what is not white leads to nothing white.
use Rattle.std.specs.Prelude.{◌≡◌}
use Rattle.cc_lists.specs.Members.{Among}
use Rattle.cc_names.specs.declared.name.Name.{Name}
use Rattle.cc_names.specs.declared.kind.Colour.TheVariants.{Black}
use Rattle.cc_model.specs.Slots.{contents}
use Rattle.cc_model.specs.Entries.{Joint, joints}
use Rattle.cc_model.specs.Heap.{Heap, HeapScript}
use Rattle.cc_model.specs.Places.{script_places_of}
use Rattle.cc_model.specs.Exposure.{slots_of_scripts}
use Rattle.cc_model.specs.Colours.{scripts_held}
use Rattle.cc_model.specs.Sweep.{unmarked}

-- a sweep takes no script object of this name
abbrev pub Stays : Heap → Name → Type 0
Stays h x = ¬ (Among x (unmarked h))

-- THE MARKS ARE CLOSED: what script registers and natives hold stays, what stays holds in slots and as its delegate only what
-- stays, and where two members of an entry that lead to a third stay, that stays too
pub record AreMarksClosed (h : Heap) : Type 0 where
  pub registers : (x : Name) → Among x (contents h.script_registers) → Stays h x
  pub held : (x : Name) → Among x (scripts_held h) → Stays h x
  pub edges : (x y : Name) → Among (x, y) (slots_of_scripts h) → Stays h x → Stays h y
  pub joints : (j : Joint) → Among j (joints h.entries) → Stays h j.the_map → Stays h j.key → Stays h j.value

-- BLACK IS CLOSED: what script registers hold is black, and so is what a black script object holds in a slot or as its delegate
pub record IsBlackClosed (h : Heap) : Type 0 where
  pub registers : (o : HeapScript) → Among o h.scripts → Among o.name (contents h.script_registers) → o.colour ≡ Black
  pub places : (o p : HeapScript) → Among o h.scripts → Among p h.scripts → o.colour ≡ Black → Among p.name (contents (script_places_of o)) → p.colour ≡ Black
