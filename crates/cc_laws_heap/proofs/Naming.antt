-- WHAT A DEED NAMES has each property that all that commands read has.
use Rattle.std.proofs.Common.{ℕ, Option, None, arith}
use Rattle.cc_names.specs.declared.name.Name.{Name}
use Rattle.cc_names.specs.declared.register.Reg.{Reg}
use Rattle.cc_names.specs.declared.register.Reg.TheVariants.{S}
use Rattle.cc_model.specs.declared.command.Command.{Command}
use Rattle.cc_model.specs.Checks.{Objects, slot_at, value_at, native_of}
use Rattle.cc_model.specs.Deeds.{Deed, proxy_made, native_held, script_held, script_copied, native_stored, script_stored, reflector_held, reflector_preserved, entry_written, object_exposed, weak_written, deed_of}

-- What commands read has the property: nothing, what a register holds, what a slot of that holds, the value of such a map and key, the native behind
-- such a reflector.
pub record EachRead (P : Option Name → Type 0) (o : Objects) : Type 0 where
  pub nothing : P None
  pub register : (r : Reg) → P (o.register r)
  pub slot : (r : Reg) (i : ℕ) → P (slot_at o r i)
  pub value : (m k : ℕ) → P (value_at o (o.register (S m)) (o.register (S k)))
  pub behind : (r : ℕ) → P (native_of (o.register (S r)))

-- What a deed names has it: what it puts, writes, exposes or notes, and the native behind a reflector that it may preserve.
abbrev pub EachNamed : (Option Name → Type 0) → Deed → Type 0
EachNamed P (proxy_made r x) = P x × P (native_of x)
EachNamed P (native_held r x) = P x
EachNamed P (script_held r x) = P x
EachNamed P (script_copied r x) = P x
EachNamed P (native_stored r i x) = P x
EachNamed P (script_stored x i y) = P x × P (native_of x) × P y
EachNamed P (reflector_held r x) = P x
EachNamed P (reflector_preserved x) = P x × P (native_of x)
EachNamed P (entry_written m k v) = P k × P (native_of k) × P v
EachNamed P (object_exposed x) = P x
EachNamed P (weak_written w x) = P x
EachNamed P _ = Unit {0}

-- WHAT A COMMAND COMES TO names only what commands read.
pub deed-named : (P : Option Name → Type 0) (o : Objects) → EachRead P o → (c : Command) → EachNamed P (deed_of o c)
unfolding deed_of
deed-named P o e c = grind (arith, e.nothing, e.register, e.slot, e.value, e.behind)
