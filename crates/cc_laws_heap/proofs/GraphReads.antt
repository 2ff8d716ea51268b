-- WHAT A COMMAND READS from the registers, slots and entries of a well made graph was made.
use Rattle.std.proofs.Common.{arith, ◌≡◌, ℕ, false, get_or, Option, Some, None}
use Rattle.std.specs.Prelude.{IsTrue}
use Rattle.std.specs.Option.{option_and_then}
use Rattle.std.proofs.lemmas.Bool.{and_parts}
use Rattle.cc_lists.specs.Members.{Among}
use Rattle.cc_names.specs.declared.name.Name.{Name}
use Rattle.cc_names.specs.declared.register.Reg.{Reg}
use Rattle.cc_names.specs.declared.register.Reg.TheVariants.{N, S}
use Rattle.cc_names.specs.Names.{is_native, is_script}
use Rattle.cc_model.specs.Slots.{contents}
use Rattle.cc_model.specs.Checks.{slots_or_none, slot_at, value_at, native_of, is_native_there, is_script_there}
use Rattle.cc_model.specs.Graph.{Graph, GraphNative, native_in, script_in, slots_in, slots_of_script, objects_of, register, source}
use Rattle.cc_model.specs.WellMade.{IsWellMade, was_made, is_made_native, is_made_script}
use Rattle.cc_laws_heap.proofs.Holds.{OfSome, OfSome-then, contents-at}
use Rattle.cc_laws_heap.proofs.EntryLists.{found-among}
use Rattle.cc_laws_heap.proofs.GraphParts.{was_made-native, reflector-made}

-- what was made; a native, a script object that was made
abbrev pub Made : Graph → Name → Type 0
Made g x = IsTrue (was_made g x)

-- a native that was made
abbrev pub MadeNative : Graph → Name → Type 0
MadeNative g x = IsTrue (is_made_native g x)

-- a script object that was made
abbrev pub MadeScript : Graph → Name → Type 0
MadeScript g x = IsTrue (is_made_script g x)

-- a native that was made was made
MadeNative-made : (g : Graph) (x : Name) → MadeNative g x → Made g x
MadeNative-made g x m = (and_parts (is_native x) (was_made g x) m).1

-- so was a script object that was made
pub MadeScript-made : (g : Graph) (x : Name) → MadeScript g x → Made g x
MadeScript-made g x m = (and_parts (is_script x) (was_made g x) m).1

-- What a command reads was made

module _ (g : Graph) (w : IsWellMade g) where
  -- what a native register holds
  pub native_register-made : (d : ℕ) → OfSome (MadeNative g) (register g (N d))
  native_register-made d = contents-at (MadeNative g) g.native_registers d w.native_registers

  -- what a script register holds
  pub script_register-made : (d : ℕ) → OfSome (MadeScript g) (register g (S d))
  script_register-made d = contents-at (MadeScript g) g.script_registers d w.script_registers

  -- what any register holds
  pub register-made : (r : Reg) → OfSome (Made g) (register g r)
  register-made r = grind (arith, OfSome-then, MadeNative-made, native_register-made, MadeScript-made, script_register-made)

  -- what a source gives
  pub source-made : (r : Option Reg) → OfSome (Made g) (source g r)
  source-made r = grind (arith, register-made)

  -- what a plain object has in its slots
  script_contents-made : (k : ℕ) (x : Name) → Among x (contents (slots_or_none (option_and_then slots_of_script (script_in g k)))) → MadeScript g x
  script_contents-made k x = grind arith

  -- what a reflector has in its slots
  reflector_contents-made : (k : ℕ) (x : Name) → Among x (contents (slots_or_none (option_and_then (λ (n : GraphNative). n.reflector) (native_in g k)))) → MadeScript g x
  reflector_contents-made k x = grind arith

  -- what any object has in its slots was made
  pub slots_in-made : (y x : Name) → Among x (contents (slots_or_none (slots_in g y))) → Made g x
  slots_in-made y x e = grind (arith, MadeScript-made, script_contents-made, reflector_contents-made)

  -- and what a script object has there are script objects
  slots_in-script : (y x : Name) → MadeScript g y → Among x (contents (slots_or_none (slots_in g y))) → MadeScript g x
  slots_in-script y x s m = grind (arith, script_contents-made, reflector_contents-made)

  -- what a slot of what a register holds has
  pub slot_at-made : (r : Reg) (i : ℕ) → OfSome (Made g) (slot_at (objects_of g) r i)
  slot_at-made r i = go (register g r)
    where
      go : (o : Option Name) → OfSome (Made g) (get_or (slots_or_none (option_and_then (slots_in g) o)) i None)
      go None = tt
      go (Some y) = contents-at (Made g) (slots_or_none (slots_in g y)) i (slots_in-made y)

  -- a script object, where a script register holds the object
  pub script_slot_at-made : (s i : ℕ) → OfSome (MadeScript g) (slot_at (objects_of g) (S s) i)
  script_slot_at-made s i = go (register g (S s)) (script_register-made s)
    where
      go : (o : Option Name) → OfSome (MadeScript g) o → OfSome (MadeScript g) (get_or (slots_or_none (option_and_then (slots_in g) o)) i None)
      go None m = tt
      go (Some y) m = contents-at (MadeScript g) (slots_or_none (slots_in g y)) i (λ x. slots_in-script y x m)

  -- what was made and is no script object is a native, and the other way round
  pub no_script-made : (o : Option Name) → OfSome (Made g) o → is_script_there o ≡ false → OfSome (MadeNative g) o
  no_script-made o m e = grind arith

  -- what was made and is no native is a script object
  pub no_native-made : (o : Option Name) → OfSome (Made g) o → is_native_there o ≡ false → OfSome (MadeScript g) o
  no_native-made o m e = grind arith

  -- the native behind a reflector was made
  pub native_of-made : (o : Option Name) → OfSome (MadeScript g) o → OfSome (MadeNative g) (native_of o)
  native_of-made o m = grind (arith, reflector-made, was_made-native)

  -- the value of a map and a key is a script object that was made
  pub value_at-made : (a b : Option Name) → OfSome (MadeScript g) (value_at (objects_of g) a b)
  value_at-made a b = grind (arith, found-among)
