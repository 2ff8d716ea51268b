-- The heaps seen flat: each edge as often as its object holds it. Laws speak of this view.
use Rattle.std.specs.Prelude.{ℕ, Bool, ◌&&◌, ◌||◌, List, ◌++◌, map, filter, flat_map}
use Rattle.cc_lists.specs.Members.{has}
use Rattle.cc_lists.specs.Least.{Rule, Least, system, closure}
use Rattle.cc_names.specs.declared.name.Name.{Name}
use Rattle.cc_names.specs.Names.{native, same_name}
use Rattle.cc_model.specs.Banks.{over_banks}
use Rattle.cc_model.specs.Slots.{Slots, contents, from_to}
use Rattle.cc_model.specs.Entries.{Joint, joints, rules_of}
use Rattle.cc_model.specs.Heap.{Heap, HeapNative, HeapScript, Buffered, bank, is_white_colour, is_gray_colour, is_black_colour}
use Rattle.cc_model.specs.Places.{places_of_native, places_of_script, script_places_of}

pub record View : Type 0 where
  -- what the registers of all banks hold, empty ones left out
  pub registers : List Name
  -- to what the places of natives and of script objects hold
  pub edges : List (Name × Name)
  -- what the entries of weak maps give
  pub joints : List Joint
  -- each with its count
  pub natives : List (Name × ℕ)
  pub buffer : List Name
  pub purple : List Name
  -- script objects
  pub black : List Name
  pub gray : List Name
  pub white : List Name

-- to what places hold
abbrev pub slot_edges : Name → Slots → List (Name × Name)
slot_edges x slots = map (from_to x) (contents slots)

-- slots in rising order, then the preserved reflector
abbrev pub native_edges : HeapNative → List (Name × Name)
native_edges n = slot_edges (native n.number) (places_of_native n)

-- those over which script and marking go
abbrev pub script_slot_edges : HeapScript → List (Name × Name)
script_slot_edges o = slot_edges o.name (script_places_of o)

-- slots in rising order, then the native of a reflector
abbrev pub script_edges : HeapScript → List (Name × Name)
script_edges o = slot_edges o.name (places_of_script o)

-- the native's name with its count
abbrev pub counted : HeapNative → Name × ℕ
counted n = (native n.number, n.count)

abbrev pub buffered : Buffered → Name
buffered b = native b.number

abbrev pub names_with : (HeapScript → Bool) → List HeapScript → List Name
names_with p scripts = map (λ o. o.name) (filter p scripts)

-- THE FLAT VIEW of the heaps
abbrev pub view : Heap → View
view h = record {
  registers = over_banks (λ b. contents (bank h b));
  edges = flat_map native_edges h.natives ++ flat_map script_edges h.scripts;
  joints = joints h.entries;
  natives = map counted h.natives;
  buffer = map buffered h.buffer;
  purple = map buffered (filter (λ b. b.purple) h.buffer);
  black = names_with (λ o. is_black_colour o.colour) h.scripts;
  gray = names_with (λ o. is_gray_colour o.colour) h.scripts;
  white = names_with (λ o. is_white_colour o.colour) h.scripts;
}

-- WHAT THE REGISTERS REACH in the heaps: a set by rules, and the same as a list
abbrev pub view_rules : View → List (Rule Name)
view_rules v = system v.registers v.edges (rules_of v.joints)

abbrev pub ReachedIn : View → Name → Type 0
ReachedIn v = Least (view_rules v)

-- what some names lead to there, as if registers held them
abbrev pub LedFrom : View → List Name → Name → Type 0
LedFrom v xs = Least (system xs v.edges (rules_of v.joints))

abbrev pub reached_in : View → List Name
reached_in v = closure same_name (view_rules v)

-- an edge or a noted reference to u; one from v to u
abbrev pub to : Name → Name × Name → Bool
to u r = same_name r.1 u

abbrev pub between : Name → Name → Name × Name → Bool
between v u r = same_name r.1 u && same_name r.0 v

-- the script objects of the heaps, of every colour
abbrev pub scripts_there : View → List Name
scripts_there v = v.black ++ (v.gray ++ v.white)

-- whether an object is in the heaps
abbrev pub is_there : View → Name → Bool
is_there v x = has same_name (map (λ n. n.0) v.natives) x || has same_name (scripts_there v) x
