-- When a command is refused, and what it answers: the same words for the graph and for the heaps.
use Rattle.std.specs.Prelude.{ℕ, ◌+◌, Bool, true, false, not, ◌||◌, List, [], ◌∷◌, map, length, Option, Some, None, is_none, option_to_list, option_and_then, slice_index_or, nat_le}
use Rattle.std.specs.List.{list_any}
use Rattle.cc_names.specs.Allowance.{Allowance}
use Rattle.cc_names.specs.declared.name.Name.{Name}
use Rattle.cc_names.specs.declared.name.Name.TheVariants as name
use Rattle.cc_names.specs.declared.register.Reg.{Reg}
use Rattle.cc_names.specs.declared.register.Reg.TheVariants.{N, S}
use Rattle.cc_names.specs.Names.{native, object, reflector, is_native, is_script, is_reflector}
use Rattle.cc_model.specs.declared.command.Command.{Command}
use Rattle.cc_model.specs.declared.command.Command.TheVariants.{Native, Script, WeakMap, Proxy, CopyNative, CopyScript, Set, Get, Move, Put, Take, Wrap, Unwrap, Preserve, SetEntry, GetEntry, Expose, Weak}
use Rattle.cc_model.specs.declared.item.Refusal.{Refusal}
use Rattle.cc_model.specs.declared.item.Refusal.TheVariants.{Empty, Kind, Slot, Full}
use Rattle.cc_model.specs.declared.item.Reply.{Reply}
use Rattle.cc_model.specs.declared.item.Reply.TheVariants.{Named, Done, Refused, Nothing as nothing_there}
use Rattle.cc_model.specs.Slots.{Slots}

-- What the checks of a command look at.
pub record Objects : Type 0 where
  -- what a register holds
  pub register : Reg → Option Name
  -- the slots of an object; none of a weak map
  pub slots : Name → Option Slots
  -- the value of a map and a key
  pub value : Name → Name → Option Name
  pub natives_made : ℕ
  pub scripts_made : ℕ
  pub limits : Allowance

-- no slots where there are none
abbrev pub slots_or_none : Option Slots → Slots
slots_or_none None = []
slots_or_none (Some slots) = slots

-- the slots of what a register holds
abbrev pub slots_at : Objects → Reg → Slots
slots_at o r = slots_or_none (option_and_then o.slots (o.register r))

-- what slot i of what a register holds holds
abbrev pub slot_at : Objects → Reg → ℕ → Option Name
slot_at o r i = slice_index_or (slots_at o r) i None

-- the value of what two registers hold
abbrev pub value_at : Objects → Option Name → Option Name → Option Name
value_at o (Some m) (Some k) = o.value m k
value_at o (Some m) None = None
value_at o None k = None

-- the native that a reflector stands for
abbrev pub native_of : Option Name → Option Name
native_of (Some (name.Reflector k)) = Some (native k.0)
native_of (Some (name.Native k)) = None
native_of (Some (name.Script k)) = None
native_of None = None

-- the reflector of a native
abbrev pub reflector_of : Option Name → Option Name
reflector_of (Some (name.Native k)) = Some (reflector k.0)
reflector_of (Some (name.Script k)) = None
reflector_of (Some (name.Reflector k)) = None
reflector_of None = None

-- The tests, in the order in which they are tried

-- the registers that must hold an object
abbrev pub needed : Command → List Reg
needed (Proxy d s) = S s ∷ []
needed (Set d i r) = N d ∷ option_to_list r
needed (Get r s i) = N s ∷ []
needed (Move d i s j) = N d ∷ N s ∷ []
needed (Put d i s) = S d ∷ map S (option_to_list s)
needed (Take d s i) = S s ∷ []
needed (Wrap d s) = N s ∷ []
needed (Unwrap d s) = S s ∷ []
needed (Preserve s) = S s ∷ []
needed (SetEntry m k v) = S m ∷ S k ∷ map S (option_to_list v)
needed (GetEntry d m k) = S m ∷ S k ∷ []
needed (Expose s i) = N s ∷ []
needed (Weak w s) = N s ∷ []
needed _ = []

abbrev pub lacks_object : Objects → Command → Bool
lacks_object o c = list_any (λ r. is_none (o.register r)) (needed c)

-- a weak map is what has no slots
abbrev pub is_map_in : Objects → Option Name → Bool
is_map_in o None = false
is_map_in o (Some x) = is_none (o.slots x)

abbrev pub is_reflector_there : Option Name → Bool
is_reflector_there None = false
is_reflector_there (Some x) = is_reflector x

-- whether the object in a register is of the wrong kind
abbrev pub has_wrong_object : Objects → Command → Bool
has_wrong_object o (Put d i s) = is_map_in o (o.register (S d))
has_wrong_object o (Take d s i) = is_map_in o (o.register (S s))
has_wrong_object o (Unwrap d s) = not (is_reflector_there (o.register (S s)))
has_wrong_object o (Preserve s) = not (is_reflector_there (o.register (S s)))
has_wrong_object o (SetEntry m k v) = not (is_map_in o (o.register (S m)))
has_wrong_object o (GetEntry d m k) = not (is_map_in o (o.register (S m)))
has_wrong_object o _ = false

-- whether an index is not below the object's number of slots; of a move one of the two
abbrev pub has_no_slot : Objects → Command → Bool
has_no_slot o (Set d i r) = nat_le (length (slots_at o (N d))) i
has_no_slot o (Get r s i) = nat_le (length (slots_at o (N s))) i
has_no_slot o (Move d i s j) = nat_le (length (slots_at o (N d))) i || nat_le (length (slots_at o (N s))) j
has_no_slot o (Put d i s) = nat_le (length (slots_at o (S d))) i
has_no_slot o (Take d s i) = nat_le (length (slots_at o (S s))) i
has_no_slot o (Expose s i) = nat_le (length (slots_at o (N s))) i
has_no_slot o _ = false

abbrev pub is_native_there : Option Name → Bool
is_native_there None = false
is_native_there (Some x) = is_native x

abbrev pub is_script_there : Option Name → Bool
is_script_there None = false
is_script_there (Some x) = is_script x

-- whether what the slot holds is of the wrong kind
abbrev pub has_wrong_content : Objects → Command → Bool
has_wrong_content o (Get (N d) s i) = is_script_there (slot_at o (N s) i)
has_wrong_content o (Get (S d) s i) = is_native_there (slot_at o (N s) i)
has_wrong_content o (Expose s i) = is_native_there (slot_at o (N s) i)
has_wrong_content o _ = false

-- whether as many objects of the kind as the limit were ever made
abbrev pub is_full : Objects → Command → Bool
is_full o (Native d n) = nat_le o.limits.natives o.natives_made
is_full o (Script d n) = nat_le o.limits.scripts o.scripts_made
is_full o (WeakMap d) = nat_le o.limits.scripts o.scripts_made
is_full o (Proxy d s) = nat_le o.limits.scripts o.scripts_made
is_full o _ = false

abbrev pub checks : Objects → Command → List (Bool × Refusal)
checks o c =
    (lacks_object o c, Empty)
    ∷ (has_wrong_object o c, Kind)
    ∷ (has_no_slot o c, Slot)
    ∷ (has_wrong_content o c, Kind)
    ∷ (is_full o c, Full)
    ∷ []

-- the refusal of the first test that holds
abbrev pub first_refusal : List (Bool × Refusal) → Option Refusal
first_refusal [] = None
first_refusal (t ∷ ts) = elim t.0 [ true ↦ Some t.1 | false ↦ first_refusal ts ]

-- THE REFUSAL of a command, want of memory aside
unfoldable pub refusal_of : Objects → Command → Option Refusal
refusal_of o c = first_refusal (checks o c)

-- The replies

abbrev pub named_or_nothing : Option Name → Reply
named_or_nothing None = nothing_there
named_or_nothing (Some x) = Named x

-- the reply to a command that is not refused; the census and `why` are answered apart, and a line that asks nothing is not
unfoldable pub reply_if_taken : Objects → Command → Reply
reply_if_taken o (Native d n) = Named (native (o.natives_made + 1))
reply_if_taken o (Script d n) = Named (object (o.scripts_made + 1))
reply_if_taken o (WeakMap d) = Named (object (o.scripts_made + 1))
reply_if_taken o (Proxy d s) = Named (object (o.scripts_made + 1))
reply_if_taken o (CopyNative d s) = named_or_nothing (o.register (N s))
reply_if_taken o (CopyScript d s) = named_or_nothing (o.register (S s))
reply_if_taken o (Get r s i) = named_or_nothing (slot_at o (N s) i)
reply_if_taken o (Move d i s j) = named_or_nothing (slot_at o (N s) j)
reply_if_taken o (Take d s i) = named_or_nothing (slot_at o (S s) i)
reply_if_taken o (Wrap d s) = named_or_nothing (reflector_of (o.register (N s)))
reply_if_taken o (Unwrap d s) = named_or_nothing (native_of (o.register (S s)))
reply_if_taken o (GetEntry d m k) = named_or_nothing (value_at o (o.register (S m)) (o.register (S k)))
reply_if_taken o (Expose s i) = named_or_nothing (slot_at o (N s) i)
reply_if_taken o (Weak w s) = named_or_nothing (o.register (N s))
reply_if_taken o _ = Done

abbrev pub refused_or : Option Refusal → Reply → Reply
refused_or None reply = reply
refused_or (Some refusal) reply = Refused refusal

-- THE REPLY to a command
abbrev pub reply_of : Objects → Command → Reply
reply_of o c = refused_or (refusal_of o c) (reply_if_taken o c)
