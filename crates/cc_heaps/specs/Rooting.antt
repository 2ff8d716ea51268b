-- A ROOT AT A PLACE OF ITS BANK, by what it is to hold.
use Rattle.std.specs.Prelude.{ℕ, Option}
use Rattle.cc_names.specs.declared.name.Name.{Name}
use Rattle.cc_names.specs.declared.register.Reg.{Reg}
use Rattle.cc_names.specs.declared.register.Reg.TheVariants.{N, S}
use Rattle.cc_model.specs.Slots.{Slots}
use Rattle.cc_model.specs.Heap.{Heap}
use Rattle.cc_heaps.specs.declared.rooted.Rooted.{Rooted}
use Rattle.cc_heaps.specs.declared.rooted.Rooted.TheVariants as content
use Rattle.cc_heaps.specs.Keyed.{Keyed}
use Rattle.cc_heaps.specs.Changes.{IsNativeThere, IsScriptThere, native_name, script_name}
use Rattle.cc_heaps.specs.Standing.{IsReached, IsReachedOrReflects}

-- the register at a place of its bank
abbrev pub register_at : ℕ → Rooted → Reg
register_at place (content.Native x) = N place
register_at place (content.Script x) = S place

-- the name of what it is to hold
abbrev pub rooted_name : Keyed → Rooted → Option Name
rooted_name v (content.Native x) = native_name v x
rooted_name v (content.Script x) = script_name v x

-- the bank in which it is held
abbrev pub bank_rooted : Heap → Rooted → Slots
bank_rooted h (content.Native x) = h.native_registers
bank_rooted h (content.Script x) = h.script_registers

-- that is there
abbrev pub IsRootedThere : Keyed → Rooted → Type 0
IsRootedThere v (content.Native x) = IsNativeThere v x
IsRootedThere v (content.Script x) = IsScriptThere v x

-- a native is reached; a script object is reached, or it is the reflector of what is
abbrev pub MayBeRooted : Keyed → Rooted → Type 0
MayBeRooted v (content.Native x) = IsReached v.heap (native_name v x)
MayBeRooted v (content.Script x) = IsReachedOrReflects v.heap (script_name v x)

-- it is for the bank of natives, so that nothing is exposed
abbrev pub IsOfNatives : Rooted → Type 0
IsOfNatives (content.Native x) = Unit {0}
IsOfNatives (content.Script x) = ⊥
