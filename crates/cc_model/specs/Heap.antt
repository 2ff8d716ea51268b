-- THE TWO HEAPS AS LISTS, and how one thing in them is read and written.
use Rattle.std.specs.Prelude.{ℕ, ◌+◌, Bool, true, false, not, ◌==◌, List, [], ◌∷◌, ◌++◌, map, filter, find, Option, Some, None, is_some, option_map, option_and_then, slice_set, slice_index_or, if◌then◌else◌}
use Rattle.cc_names.specs.Allowance.{Allowance}
use Rattle.cc_names.specs.declared.name.Name.{Name}
use Rattle.cc_names.specs.declared.name.Name.TheVariants as name
use Rattle.cc_names.specs.declared.register.Reg.{Reg}
use Rattle.cc_names.specs.declared.kind.Kind.{Kind}
use Rattle.cc_names.specs.declared.kind.Kind.TheVariants.{Plain, Reflector, Map, Proxy}
use Rattle.cc_names.specs.declared.kind.Colour.{Colour}
use Rattle.cc_names.specs.declared.kind.Colour.TheVariants.{White, Gray, Black}
use Rattle.cc_names.specs.Names.{object, reflector, same_name}
use Rattle.cc_names.specs.Sizes.{bank_length}
use Rattle.cc_model.specs.declared.item.Event.{Event}
use Rattle.cc_model.specs.Banks.{Bank, of_natives, of_scripts, of_weak, bank_of, place_in_bank}
use Rattle.cc_model.specs.Slots.{Slots, empty_slots, lengthened}
use Rattle.cc_model.specs.Entries.{Entry, value_in}
use Rattle.cc_model.specs.Checks.{Objects}

pub record HeapNative : Type 0 where
  pub number : ℕ
  pub slots : Slots
  pub preserved : Bool
  -- whether it was told as unlinked: once it was, that stays so for good
  pub unlinked : Bool
  pub count : ℕ

pub record HeapScript : Type 0 where
  pub name : Name
  pub kind : Kind
  pub slots : Slots
  -- of a proxy, for good
  pub delegate : Option Name
  pub colour : Colour

-- a native in the buffer, with the purple mark or without
pub record Buffered : Type 0 where
  pub number : ℕ
  pub purple : Bool

-- a native as it is made, with n empty slots: its maker holds the one reference to it
abbrev pub new_native : ℕ → ℕ → HeapNative
new_native number n = record { number = number; slots = empty_slots n; preserved = false; unlinked = false; count = 1 }

-- a script object as it is made: black, with n empty slots
abbrev pub new_script : Name → Kind → ℕ → Option Name → HeapScript
new_script x kind n its_delegate = record { name = x; kind = kind; slots = empty_slots n; delegate = its_delegate; colour = Black }

-- a native in the buffer with a mark
abbrev pub buffered_as : ℕ → Bool → Buffered
buffered_as number purple = record { number = number; purple = purple }

-- natives by rising number, script objects in order of making, entries in the order in which they were first set;
-- a native has a reflector where one of its name is among the script objects
pub record Heap : Type 0 where
  pub native_registers : Slots
  pub script_registers : Slots
  pub natives : List HeapNative
  pub scripts : List HeapScript
  pub entries : List Entry
  pub buffer : List Buffered
  pub natives_made : ℕ
  pub scripts_made : ℕ
  pub limits : Allowance

abbrev pub empty_heap : Allowance → Heap
empty_heap limits = record {
  native_registers = empty_slots bank_length;
  script_registers = empty_slots bank_length;
  natives = [];
  scripts = [];
  entries = [];
  buffer = [];
  natives_made = 0;
  scripts_made = 0;
  limits = limits;
}

-- the native that is made next
abbrev pub native_to_make : Heap → ℕ → HeapNative
native_to_make h n = new_native (h.natives_made + 1) n

-- the heaps after something was done, and what was told meanwhile
pub record Outcome : Type 0 where
  pub heap : Heap
  pub events : List Event

abbrev pub outcome_of : Heap → List Event → Outcome
outcome_of h events = record { heap = h; events = events }

abbrev pub silently : Heap → Outcome
silently h = outcome_of h []

-- what was told before stands in front
abbrev pub after : List Event → Outcome → Outcome
after events o = record o { events = events ++ o.events }

-- Reading

-- weak registers hold nothing here: what they note stands beside the heaps
abbrev pub bank : Heap → Bank → Slots
bank h of_natives = h.native_registers
bank h of_scripts = h.script_registers
bank h of_weak = []

abbrev pub register : Heap → Reg → Option Name
register h r = slice_index_or (bank h (bank_of r)) (place_in_bank r) None

abbrev pub native_at : Heap → ℕ → Option HeapNative
native_at h k = find (λ n. n.number == k) h.natives

abbrev pub script_at : Heap → Name → Option HeapScript
script_at h x = find (λ o. same_name o.name x) h.scripts

-- a weak map has no slots
abbrev pub slots_of_kind : Kind → Slots → Option Slots
slots_of_kind Plain slots = Some slots
slots_of_kind Reflector slots = Some slots
slots_of_kind Map slots = None
slots_of_kind Proxy slots = Some slots

abbrev pub slots_of_script : HeapScript → Option Slots
slots_of_script o = slots_of_kind o.kind o.slots

-- the slots of an object; none of a weak map, and of what is not there
abbrev pub slots_in : Heap → Name → Option Slots
slots_in h (name.Native k) = option_map (λ n. n.slots) (native_at h k.0)
slots_in h (name.Script k) = option_and_then slots_of_script (script_at h (object k.0))
slots_in h (name.Reflector k) = option_and_then slots_of_script (script_at h (reflector k.0))

-- the delegate of a proxy that is there
abbrev pub delegate_at : Heap → Name → Option Name
delegate_at h x = option_and_then (λ o. o.delegate) (script_at h x)

abbrev pub has_reflector : Heap → ℕ → Bool
has_reflector h k = is_some (script_at h (reflector k))

abbrev pub is_white_colour : Colour → Bool
is_white_colour White = true
is_white_colour Gray = false
is_white_colour Black = false

abbrev pub is_gray_colour : Colour → Bool
is_gray_colour White = false
is_gray_colour Gray = true
is_gray_colour Black = false

abbrev pub is_black_colour : Colour → Bool
is_black_colour White = false
is_black_colour Gray = false
is_black_colour Black = true

-- whether a script object that is there is gray
abbrev pub is_gray_in : Heap → Name → Bool
is_gray_in h x = is_some (find (λ o. is_gray_colour o.colour) (filter (λ o. same_name o.name x) h.scripts))

-- what the checks of a command look at
abbrev pub objects_of : Heap → Objects
objects_of h = record {
  register = register h;
  slots = slots_in h;
  value = value_in h.entries;
  natives_made = h.natives_made;
  scripts_made = h.scripts_made;
  limits = h.limits;
}

-- what a source gives to a slot
abbrev pub source : Heap → Option Reg → Option Name
source h r = option_and_then (register h) r

-- Writing

abbrev pub with_bank : Heap → Bank → Slots → Heap
with_bank h of_natives slots = record h { native_registers = slots }
with_bank h of_scripts slots = record h { script_registers = slots }
with_bank h of_weak slots = h

abbrev pub set_register : Heap → Reg → Option Name → Heap
set_register h r x = with_bank h (bank_of r) (slice_set (bank h (bank_of r)) (place_in_bank r) x)

-- A BANK WITH n REGISTERS AT LEAST: those that come are empty. No command does this.
abbrev pub lengthen : Heap → Bank → ℕ → Heap
lengthen h b n = with_bank h b (lengthened (bank h b) n)

-- native k changed
abbrev pub change_native : Heap → ℕ → (HeapNative → HeapNative) → Heap
change_native h k f = record h { natives = map (λ n. if n.number == k then f n else n) h.natives }

-- script object x changed
abbrev pub change_script : Heap → Name → (HeapScript → HeapScript) → Heap
change_script h x f = record h { scripts = map (λ o. if same_name o.name x then f o else o) h.scripts }

abbrev pub with_native_slot : ℕ → Option Name → HeapNative → HeapNative
with_native_slot i y n = record n { slots = slice_set n.slots i y }

abbrev pub with_script_slot : ℕ → Option Name → HeapScript → HeapScript
with_script_slot i y o = record o { slots = slice_set o.slots i y }

-- slot i of an object written
abbrev pub set_slot : Heap → Option Name → ℕ → Option Name → Heap
set_slot h None i y = h
set_slot h (Some (name.Native k)) i y = change_native h k.0 (with_native_slot i y)
set_slot h (Some (name.Script k)) i y = change_script h (object k.0) (with_script_slot i y)
set_slot h (Some (name.Reflector k)) i y = change_script h (reflector k.0) (with_script_slot i y)

abbrev pub set_preserved : Heap → ℕ → Bool → Heap
set_preserved h k on = change_native h k (λ n. record n { preserved = on })

-- a native that was unlinked: it preserves its reflector no longer
abbrev pub as_unlinked : HeapNative → HeapNative
as_unlinked n = record n { preserved = false; unlinked = true }

abbrev pub set_unlinked : Heap → ℕ → Heap
set_unlinked h k = change_native h k as_unlinked

-- a reflector preserved; nothing where it is no reflector
abbrev pub preserve : Heap → Option Name → Heap
preserve h (Some (name.Reflector k)) = set_preserved h k.0 true
preserve h (Some (name.Native k)) = h
preserve h (Some (name.Script k)) = h
preserve h None = h

-- The buffer

-- native k with a mark: it keeps its place, or goes last
abbrev pub with_mark : Bool → ℕ → List Buffered → List Buffered
with_mark purple k [] = buffered_as k purple ∷ []
with_mark purple k (b ∷ bs) = elim (b.number == k) [ true ↦ record b { purple = purple } ∷ bs | false ↦ b ∷ with_mark purple k bs ]

-- in the buffer with the purple mark
abbrev pub suspect : Heap → ℕ → Heap
suspect h k = record h { buffer = with_mark true k h.buffer }

-- in the buffer without the mark
abbrev pub touch : Heap → ℕ → Heap
touch h k = record h { buffer = with_mark false k h.buffer }

-- not in the buffer
abbrev pub forget : Heap → ℕ → Heap
forget h k = record h { buffer = filter (λ b. not (b.number == k)) h.buffer }
