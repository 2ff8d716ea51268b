-- WHAT A DEED MAY REST ON: what it names is there, in range, of its kind and black. For every command this follows once, from sound heaps, from its
-- ranges and from its checks.
use Rattle.std.proofs.Common.{ℕ, ◌<◌, List, length, Option, Some, None, sym, subst, arith}
use Rattle.std.specs.Prelude.{IsTrue}
use Rattle.cc_lists.specs.Members.{Among}
use Rattle.cc_lists.proofs.Members.{Among-map, Among-map_cases}
use Rattle.cc_names.specs.declared.name.Name.{Name}
use Rattle.cc_names.specs.declared.register.Reg.{Reg}
use Rattle.cc_names.specs.declared.register.Reg.TheVariants.{N, S, W}
use Rattle.cc_names.specs.Names.{native}
use Rattle.cc_model.specs.declared.command.Command.{Command}
use Rattle.cc_model.specs.Slots.{contents}
use Rattle.cc_model.specs.Ranges.{in_range}
use Rattle.cc_model.specs.Checks.{slot_at}
use Rattle.cc_model.specs.Deeds.{Deed, deed_of}
use Rattle.cc_model.specs.Heap.{Heap, HeapNative, HeapScript, register, source, objects_of}
use Rattle.cc_model.specs.WellFormed.{IsWellFormed, native_names, script_names, names_there}
use Rattle.cc_laws_heap.specs.Sound.{IsSound}
use Rattle.cc_laws_heap.proofs.Writes.{contents-at}
use Rattle.cc_laws_heap.proofs.Owning.{IsIn}
use Rattle.cc_laws_heap.proofs.ScriptsKept.{native-no_script}
use Rattle.cc_laws_heap.proofs.Holding.{IsIn-no_script, IsIn-no_native, native_register-there, script_register-there, source-there, slot_at-there, script_slot-there, value_at-there, native_of-there}
use Rattle.cc_laws_heap.proofs.Coloured.{IsColoured}
use Rattle.cc_laws_heap.proofs.ColourChanges.{IsHeldBlack}
use Rattle.cc_laws_heap.proofs.Taken.{IsTaken}
use Rattle.cc_laws_heap.proofs.Resting.{Readings, RestsOn, AreRead, rests_on}

-- What may be read

-- a script object that is there, or nothing: it is black where the heaps are coloured
pub record IsScriptRead (h : Heap) (x : Option Name) : Type 0 where
  pub there : IsIn (script_names h) x
  pub black : IsColoured h → IsHeldBlack h.scripts x

-- any object that is there, or nothing: a script object is black where the heaps are coloured
pub record IsRead (h : Heap) (x : Option Name) : Type 0 where
  pub there : IsIn (names_there h) x
  pub black : IsColoured h → IsHeldBlack h.scripts x

-- a native that a native register holds, or nothing
pub record IsHeldNative (h : Heap) (x : Option Name) : Type 0 where
  pub there : IsIn (native_names h) x
  pub held : IsIn (contents h.native_registers) x

-- what is known of what commands read in the heaps
abbrev pub readings : Heap → Readings
readings h = record {
  native = IsIn (native_names h);
  held_native = IsHeldNative h;
  script = IsIn (script_names h);
  held_script = IsScriptRead h;
  held = IsRead h;
  place = λ d. d < length h.native_registers;
}

-- WHAT A DEED RESTS ON
abbrev pub MayBeDone : Heap → Deed → Type 0
MayBeDone h = RestsOn (readings h) (objects_of h)

-- What registers and sources give may be read

-- nothing may be read
nothing-read : (h : Heap) → IsScriptRead h None
nothing-read h = record { there = λ y i. absurd i; black = λ c o m i. absurd i }

-- a script register holds a script object
script_register-read : (h : Heap) (d : ℕ) → IsWellFormed h → IsScriptRead h (register h (S d))
script_register-read h d w = record {
  there = script_register-there h d w;
  black = λ c o m i. c.held_black o m (contents-at h.script_registers d o.name i);
}

-- a native register holds a native
native_register-read : (h : Heap) (d : ℕ) → IsWellFormed h → IsHeldNative h (register h (N d))
native_register-read h d w = record { there = native_register-there h d w; held = λ y i. contents-at h.native_registers d y i }

-- no script object has the name of a native that is there
native-not_script : (h : Heap) (x : Option Name) → IsWellFormed h → IsIn (native_names h) x → IsHeldBlack h.scripts x
native-not_script h x w there o m i =
    let f = Among-map_cases (λ (n : HeapNative). native n.number) h.natives o.name (there o.name i) in
    absurd (native-no_script h f.0.number w (subst (λ z. Among z (script_names h)) (sym f.2) (Among-map (λ (p : HeapScript). p.name) o h.scripts m)))

-- a source gives any object that is there
source-read : (h : Heap) (r : Option Reg) → IsWellFormed h → IsRead h (source h r)
source-read h r w = record { there = source-there h r w; black = go r }
  where
    go : (r : Option Reg) → IsColoured h → IsHeldBlack h.scripts (source h r)
    go None = λ c o m i. absurd i
    go (Some (N d)) = λ c. native-not_script h (register h (N d)) w (native_register-there h d w)
    go (Some (S d)) = (script_register-read h d w).black
    go (Some (W d)) = λ c o m i. absurd i

-- what commands read is known
reads : (h : Heap) → IsWellFormed h → AreRead (readings h) (objects_of h)
reads h w = record {
  no_native = λ y i. absurd i;
  no_script = nothing-read h;
  place = λ d within. omega (arith, within, w.registers.0.enough);
  native_register = λ d. native_register-there h d w;
  held_native = λ d. native_register-read h d w;
  script_register = λ d. script_register-read h d w;
  source = λ r. source-read h r w;
  native_slot = λ s i. IsIn-no_script h (slot_at (objects_of h) (N s) i) w (slot_at-there h (N s) i w);
  script_in_native = λ s i. IsIn-no_native h (slot_at (objects_of h) (N s) i) (slot_at-there h (N s) i w);
  script_slot = λ s i. script_slot-there h s i w;
  value = λ m k. value_at-there h (register h (S m)) (register h (S k)) w;
  behind = λ s. native_of-there h (register h (S s)) w (script_register-there h s w);
}

-- EVERY COMMAND that is in range and not refused rests on what it may.
pub may_be_done : {owned : List ℕ} (h : Heap) (c : Command) → IsSound owned h → IsTrue (in_range c) → IsTaken (objects_of h) c → MayBeDone h (deed_of (objects_of h) c)
may_be_done h c s = rests_on (readings h) (objects_of h) (reads h s.well_formed) c
