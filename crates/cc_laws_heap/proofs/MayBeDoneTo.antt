-- WHAT A DEED MAY REST ON IN A GRAPH: what it names was made, is of its kind, and is reached. For every command this follows once, from a well made
-- graph, from its ranges and from its checks.
use Rattle.std.proofs.Common.{ℕ, ◌<◌, length, Option, arith}
use Rattle.std.specs.Prelude.{IsTrue}
use Rattle.cc_names.specs.declared.name.Name.{Name}
use Rattle.cc_names.specs.declared.register.Reg.TheVariants.{N, S}
use Rattle.cc_model.specs.declared.command.Command.{Command}
use Rattle.cc_model.specs.Ranges.{in_range}
use Rattle.cc_model.specs.Checks.{slot_at}
use Rattle.cc_model.specs.Deeds.{Deed, deed_of}
use Rattle.cc_model.specs.Graph.{Graph, objects_of, register}
use Rattle.cc_model.specs.Reached.{Reached}
use Rattle.cc_model.specs.WellMade.{IsWellMade}
use Rattle.cc_laws_heap.proofs.Taken.{IsTaken}
use Rattle.cc_laws_heap.proofs.Resting.{Readings, RestsOn, AreRead, rests_on}
use Rattle.cc_laws_heap.proofs.Holds.{OfSome}
use Rattle.cc_laws_heap.proofs.GraphReads.{Made, MadeNative, MadeScript, native_register-made, script_register-made, source-made, slot_at-made, script_slot_at-made, no_script-made, no_native-made, native_of-made, value_at-made}
use Rattle.cc_laws_heap.proofs.ReachedReads.{register-reached, source-reached, slot_at-reached, value_at-reached, native_of-reached}

-- What may be named

-- an object that was made and is reached, or nothing
pub record IsNamed (g : Graph) (x : Option Name) : Type 0 where
  pub made : OfSome (Made g) x
  pub reached : OfSome (Reached g) x

-- a native that was made and is reached, or nothing
pub record IsNativeNamed (g : Graph) (x : Option Name) : Type 0 where
  pub made : OfSome (MadeNative g) x
  pub reached : OfSome (Reached g) x

-- a script object that was made and is reached, or nothing
pub record IsScriptNamed (g : Graph) (x : Option Name) : Type 0 where
  pub made : OfSome (MadeScript g) x
  pub reached : OfSome (Reached g) x

-- what is known of what commands read in a graph
abbrev pub readings : Graph → Readings
readings g = record {
  native = IsNativeNamed g;
  held_native = IsNativeNamed g;
  script = IsScriptNamed g;
  held_script = IsScriptNamed g;
  held = IsNamed g;
  place = λ d. d < length g.native_registers;
}

-- WHAT A DEED RESTS ON
abbrev pub MayBeDoneTo : Graph → Deed → Type 0
MayBeDoneTo g = RestsOn (readings g) (objects_of g)

module _ (g : Graph) (w : IsWellMade g) where
  -- what commands read is known
  reads : AreRead (readings g) (objects_of g)
  reads = record {
    no_native = record { made = tt; reached = tt };
    no_script = record { made = tt; reached = tt };
    place = λ d within. omega (arith, within, w.registers.0.enough);
    native_register = native_register-named;
    held_native = native_register-named;
    script_register = λ d. record { made = script_register-made g w d; reached = register-reached g (S d) };
    source = λ r. record { made = source-made g w r; reached = source-reached g r };
    native_slot = λ s i n. record { made = no_script-made g w (slot_at (objects_of g) (N s) i) (slot_at-made g w (N s) i) n; reached = slot_at-reached g (N s) i };
    script_in_native = λ s i n. record { made = no_native-made g w (slot_at (objects_of g) (N s) i) (slot_at-made g w (N s) i) n; reached = slot_at-reached g (N s) i };
    script_slot = λ s i. record { made = script_slot_at-made g w s i; reached = slot_at-reached g (S s) i };
    value = λ m k. record { made = value_at-made g w (register g (S m)) (register g (S k)); reached = value_at-reached g (S m) (S k) };
    behind = λ s. record {
      made = native_of-made g w (register g (S s)) (script_register-made g w s);
      reached = native_of-reached g (register g (S s)) (script_register-made g w s) (register-reached g (S s));
    };
  }
    where
      native_register-named : (d : ℕ) → IsNativeNamed g (register g (N d))
      native_register-named d = record { made = native_register-made g w d; reached = register-reached g (N d) }

  -- EVERY COMMAND that is in range and not refused rests on what it may.
  pub may_be_done_to : (c : Command) → IsTrue (in_range c) → IsTaken (objects_of g) c → MayBeDoneTo g (deed_of (objects_of g) c)
  may_be_done_to = rests_on (readings g) (objects_of g) reads
