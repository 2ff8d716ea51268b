-- An object graph from which nothing is taken out, and what each command makes of it.
use Rattle.std.specs.Prelude.{ℕ, zero, suc, ◌+◌, ◌-◌, Bool, true, false, List, [], ◌∷◌, ◌++◌, length, Option, Some, None, slice_get, slice_set, slice_index_or, option_map, option_and_then}
use Rattle.cc_names.specs.Allowance.{Allowance}
use Rattle.cc_names.specs.declared.name.Name.{Name}
use Rattle.cc_names.specs.declared.name.Name.TheVariants as name
use Rattle.cc_names.specs.declared.register.Reg.{Reg}
use Rattle.cc_names.specs.declared.register.Reg.TheVariants.{N, S}
use Rattle.cc_names.specs.Names.{native, object}
use Rattle.cc_names.specs.Sizes.{bank_length, weak_length}
use Rattle.cc_model.specs.declared.command.Command.{Command}
use Rattle.cc_model.specs.declared.item.Refusal.{Refusal}
use Rattle.cc_model.specs.declared.item.Reply.{Reply}
use Rattle.cc_model.specs.Banks.{Bank, of_natives, of_scripts, of_weak, bank_of, place_in_bank}
use Rattle.cc_model.specs.Slots.{Slots, empty_slots, lengthened, reflector_slots}
use Rattle.cc_model.specs.Entries.{Entry, value_in, with_entry, without_entry}
use Rattle.cc_model.specs.Checks.{Objects, slot_at, reflector_of, refusal_of, reply_of}
use Rattle.cc_model.specs.Deeds.{Deed, nothing_done, native_made, plain_made, map_made, proxy_made, native_held, script_held, script_copied, native_stored, slot_moved, script_stored, reflector_held, reflector_preserved, entry_written, object_exposed, weak_written, deed_of}

-- a native: its slots, whether its reflector is preserved, and its reflector's slots, where it was ever wrapped
pub record GraphNative : Type 0 where
  pub slots : Slots
  pub preserved : Bool
  pub reflector : Option Slots

-- a native as it is made, with n empty slots
abbrev pub new_graph_native : ℕ → GraphNative
new_graph_native n = record { slots = empty_slots n; preserved = false; reflector = None }

-- a script object with a number of its own
pub data GraphScript : Type 0 where
  plain_object : Slots → GraphScript
  weak_map : GraphScript
  -- with its delegate
  proxy : Name → GraphScript

-- THE GRAPH. Native k, and script object k, stand at place k - 1. There is a bank of registers of each kind. What weak registers
-- note is kept beside them: it is no root.
pub record Graph : Type 0 where
  pub native_registers : Slots
  pub script_registers : Slots
  pub weak_registers : Slots
  pub natives : List GraphNative
  pub scripts : List GraphScript
  pub entries : List Entry
  pub limits : Allowance

abbrev pub empty_graph : Allowance → Graph
empty_graph limits = record {
  native_registers = empty_slots bank_length;
  script_registers = empty_slots bank_length;
  weak_registers = empty_slots weak_length;
  natives = [];
  scripts = [];
  entries = [];
  limits = limits;
}

-- Reading

abbrev pub bank : Graph → Bank → Slots
bank g of_natives = g.native_registers
bank g of_scripts = g.script_registers
bank g of_weak = []

abbrev pub register : Graph → Reg → Option Name
register g r = slice_index_or (bank g (bank_of r)) (place_in_bank r) None

-- the member with a number, counted from one
abbrev pub numbered : {X : Type 0} → List X → ℕ → Option X
numbered xs zero = None
numbered xs (suc i) = slice_get xs i

abbrev pub native_in : Graph → ℕ → Option GraphNative
native_in g k = numbered g.natives k

abbrev pub script_in : Graph → ℕ → Option GraphScript
script_in g k = numbered g.scripts k

abbrev pub slots_of_script : GraphScript → Option Slots
slots_of_script (plain_object slots) = Some slots
slots_of_script weak_map = None
slots_of_script (proxy d) = Some []

-- the delegate of a proxy
abbrev pub delegate_of_script : GraphScript → Option Name
delegate_of_script (plain_object slots) = None
delegate_of_script weak_map = None
delegate_of_script (proxy d) = Some d

abbrev pub delegate_in : Graph → Name → Option Name
delegate_in g (name.Native k) = None
delegate_in g (name.Script k) = option_and_then delegate_of_script (script_in g k.0)
delegate_in g (name.Reflector k) = None

-- the slots of an object; none of a weak map, and of what was never made
abbrev pub slots_in : Graph → Name → Option Slots
slots_in g (name.Native k) = option_map (λ n. n.slots) (native_in g k.0)
slots_in g (name.Script k) = option_and_then slots_of_script (script_in g k.0)
slots_in g (name.Reflector k) = option_and_then (λ n. n.reflector) (native_in g k.0)

-- what the checks of a command look at
abbrev pub objects_of : Graph → Objects
objects_of g = record {
  register = register g;
  slots = slots_in g;
  value = value_in g.entries;
  natives_made = length g.natives;
  scripts_made = length g.scripts;
  limits = g.limits;
}

-- what a source gives to a slot
abbrev pub source : Graph → Option Reg → Option Name
source g r = option_and_then (register g) r

-- Writing

abbrev pub with_bank : Graph → Bank → Slots → Graph
with_bank g of_natives slots = record g { native_registers = slots }
with_bank g of_scripts slots = record g { script_registers = slots }
with_bank g of_weak slots = g

abbrev pub set_register : Graph → Reg → Option Name → Graph
set_register g r x = with_bank g (bank_of r) (slice_set (bank g (bank_of r)) (place_in_bank r) x)

-- weak register w notes x
abbrev pub set_weak : Graph → ℕ → Option Name → Graph
set_weak g w x = record g { weak_registers = slice_set g.weak_registers w x }

-- A BANK WITH n REGISTERS AT LEAST: those that come are empty. No command does this.
abbrev pub lengthen : Graph → Bank → ℕ → Graph
lengthen g b n = with_bank g b (lengthened (bank g b) n)

-- A ROOT AT A PLACE: the bank is lengthened where the place is beyond it, and the register holds x from then on
abbrev pub root_at : Graph → Reg → Option Name → Graph
root_at g r x = set_register (lengthen g (bank_of r) (place_in_bank r + 1)) r x

-- native k changed
abbrev pub set_native : Graph → ℕ → Option GraphNative → Graph
set_native g k None = g
set_native g k (Some n) = record g { natives = slice_set g.natives (k - 1) n }

-- script object k changed
abbrev pub set_script : Graph → ℕ → Option GraphScript → Graph
set_script g k None = g
set_script g k (Some o) = record g { scripts = slice_set g.scripts (k - 1) o }

-- a native with slot i written, with slot i of its reflector written, preserved, with a reflector
abbrev pub with_slot : ℕ → Option Name → GraphNative → GraphNative
with_slot i x n = record n { slots = slice_set n.slots i x }

abbrev pub with_reflector_slot : ℕ → Option Name → GraphNative → GraphNative
with_reflector_slot i x n = record n { reflector = option_map (λ slots. slice_set slots i x) n.reflector }

abbrev pub as_preserved : GraphNative → GraphNative
as_preserved n = record n { preserved = true }

abbrev pub slots_or_blank : Option Slots → Slots
slots_or_blank None = empty_slots reflector_slots
slots_or_blank (Some slots) = slots

abbrev pub as_wrapped : GraphNative → GraphNative
as_wrapped n = record n { reflector = Some (slots_or_blank n.reflector) }

-- a script object with slot i written
abbrev pub with_script_slot : ℕ → Option Name → GraphScript → GraphScript
with_script_slot i x (plain_object slots) = plain_object (slice_set slots i x)
with_script_slot i x weak_map = weak_map
with_script_slot i x (proxy d) = proxy d

-- slot i of an object written
abbrev pub set_slot : Graph → Option Name → ℕ → Option Name → Graph
set_slot g None i x = g
set_slot g (Some (name.Native k)) i x = set_native g k.0 (option_map (with_slot i x) (native_in g k.0))
set_slot g (Some (name.Script k)) i x = set_script g k.0 (option_map (with_script_slot i x) (script_in g k.0))
set_slot g (Some (name.Reflector k)) i x = set_native g k.0 (option_map (with_reflector_slot i x) (native_in g k.0))

-- what slot j of an object holds, moved into slot i of another or of the same: slot j is emptied first, so where both places
-- are one nothing changes
abbrev pub move_slot : Graph → Option Name → ℕ → Option Name → ℕ → Option Name → Graph
move_slot g to i from j x = set_slot (set_slot g from j None) to i x

-- a reflector preserved; nothing where it is no reflector
abbrev pub preserve : Graph → Option Name → Graph
preserve g (Some (name.Reflector k)) = set_native g k.0 (option_map as_preserved (native_in g k.0))
preserve g (Some (name.Native k)) = g
preserve g (Some (name.Script k)) = g
preserve g None = g

-- a native that was never wrapped gets a reflector with empty slots
abbrev pub wrapped : Graph → Option Name → Graph
wrapped g (Some (name.Native k)) = set_native g k.0 (option_map as_wrapped (native_in g k.0))
wrapped g (Some (name.Script k)) = g
wrapped g (Some (name.Reflector k)) = g
wrapped g None = g

-- an entry set, its key preserved; or taken out where there is no value, nothing preserved
abbrev pub set_entry : Graph → Option Name → Option Name → Option Name → Graph
set_entry g (Some m) (Some k) (Some v) = record (preserve g (Some k)) { entries = with_entry g.entries m k (delegate_in g k) v }
set_entry g (Some m) (Some k) None = record g { entries = without_entry g.entries m k }
set_entry g (Some m) None v = g
set_entry g None k v = g

-- a native with n empty slots made
abbrev pub with_native : Graph → ℕ → Graph
with_native g n = record g { natives = g.natives ++ new_graph_native n ∷ [] }

-- a script object made
abbrev pub with_script : Graph → GraphScript → Graph
with_script g o = record g { scripts = g.scripts ++ o ∷ [] }

-- a proxy of an object made, which script register d holds
abbrev pub with_proxy : Graph → ℕ → Option Name → Graph
with_proxy g d None = g
with_proxy g d (Some x) = set_register (with_script (preserve g (Some x)) (proxy x)) (S d) (Some (object (length g.scripts + 1)))

-- what a deed makes of the graph
unfoldable pub done_to : Graph → Deed → Graph
done_to g nothing_done = g
done_to g (native_made d n) = set_register (with_native g n) (N d) (Some (native (length g.natives + 1)))
done_to g (plain_made d n) = set_register (with_script g (plain_object (empty_slots n))) (S d) (Some (object (length g.scripts + 1)))
done_to g (map_made d) = set_register (with_script g weak_map) (S d) (Some (object (length g.scripts + 1)))
done_to g (proxy_made d x) = with_proxy g d x
done_to g (native_held d x) = set_register g (N d) x
done_to g (script_held d x) = set_register g (S d) x
done_to g (script_copied d x) = set_register g (S d) x
done_to g (native_stored d i x) = set_slot g (register g (N d)) i x
done_to g (slot_moved d i s j) = move_slot g (register g (N d)) i (register g (N s)) j (slot_at (objects_of g) (N s) j)
done_to g (script_stored x i y) = set_slot (preserve g x) x i y
done_to g (reflector_held d x) = set_register (wrapped g x) (S d) (reflector_of x)
done_to g (reflector_preserved x) = preserve g x
done_to g (entry_written m k v) = set_entry g m k v
done_to g (object_exposed x) = g
done_to g (weak_written w x) = set_weak g w x

-- what a command that is not refused makes of the graph
unfoldable pub changed : Graph → Command → Graph
changed g c = done_to g (deed_of (objects_of g) c)

abbrev pub unless_refused : Option Refusal → Graph → Graph → Graph
unless_refused None old new = new
unless_refused (Some refusal) old new = old

-- A STEP OF THE GRAPH: the graph after a command
abbrev pub step : Graph → Command → Graph
step g c = unless_refused (refusal_of (objects_of g) c) g (changed g c)

-- and the reply to it, the census and `why` aside
abbrev pub reply_to : Graph → Command → Reply
reply_to g c = reply_of (objects_of g) c
