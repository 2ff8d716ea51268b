-- WHAT COMMANDS DO TO NATIVES LEAVES SCRIPT OBJECTS AND SCRIPT REGISTERS AS THEY ARE, cascades too.
use Rattle.std.proofs.Common.{arith, ◌≡◌, ℕ, ◌+◌, ◌<◌, List, ◌++◌, length, Option, Some, ◌∙◌}
use Rattle.cc_names.specs.declared.name.Name.{Name}
use Rattle.cc_names.specs.declared.register.Reg.TheVariants.{N}
use Rattle.cc_names.specs.Names.{native}
use Rattle.cc_model.specs.Checks.{slots_at}
use Rattle.cc_model.specs.Heap.{Heap, objects_of}
use Rattle.cc_model.specs.Cascade.{take_up, let_go}
use Rattle.cc_model.specs.Effects.{put_in_register, hold_native, put_in_slot, store_native, with_native, make_native}
use Rattle.cc_model.specs.WellFormed.{names_there}
use Rattle.cc_laws_heap.specs.Sound.{IsSound, numbers_of}
use Rattle.cc_laws_heap.specs.Freeing.{SameBeside}
use Rattle.cc_laws_heap.proofs.CascadeTakesOut.{TakesOut-let_go}
use Rattle.cc_laws_heap.proofs.HoldsTheSame.{HoldsTheSame-take_up}
use Rattle.cc_laws_heap.proofs.Owning.{IsIn, take_up-sound}
use Rattle.cc_laws_heap.proofs.NativeCommands.{HasSlot, HasSlot-take_up, put_in_slot-written}
use Rattle.cc_laws_heap.proofs.Coloured.{IsColoured}

-- the same script objects and script registers
pub record SameScripts (h g : Heap) : Type 0 where
  pub scripts : g.scripts ≡ h.scripts
  pub registers : g.script_registers ≡ h.script_registers

-- then the colours are kept
pub SameScripts-coloured : (h g : Heap) → SameScripts h g → IsColoured h → IsColoured g
SameScripts-coloured h g s c = rw (s.scripts, s.registers) c

-- heaps that are the same but for natives and the buffer have the same script objects and script registers
SameScripts-beside : (h g : Heap) → SameBeside h g → SameScripts h g
SameScripts-beside h g b = record { scripts = b.scripts; registers = b.script_registers }

-- one change after another
SameScripts-trans : (h g f : Heap) → SameScripts h g → SameScripts g f → SameScripts h f
SameScripts-trans h g f s t = record { scripts = t.scripts ∙ s.scripts; registers = t.registers ∙ s.registers }

-- a reference taken leaves them
pub SameScripts-take_up : (h : Heap) (x : Option Name) → SameScripts h (take_up h x)
SameScripts-take_up h x = SameScripts-beside h (take_up h x) (HoldsTheSame-take_up h x).beside

-- what a register or a slot held is given up
pub let_go-scripts : (h : Heap) (x : Option Name) → SameScripts h (let_go h x).heap
let_go-scripts h x = SameScripts-beside h (let_go h x).heap (TakesOut-let_go h x).1.beside

-- A native register is written.
pub put_in_register-scripts : (h : Heap) (d : ℕ) (x : Option Name) → SameScripts h (put_in_register h d x).heap
put_in_register-scripts h d x = grind (arith, let_go-scripts)

-- A native register is written, with the reference taken first.
pub hold_native-scripts : (h : Heap) (d : ℕ) (x : Option Name) → SameScripts h (hold_native h d x).heap
unfolding hold_native
hold_native-scripts h d x = grind (arith, SameScripts-trans, SameScripts-take_up, put_in_register-scripts)

-- A slot of a native is written.
pub put_in_slot-scripts : (h : Heap) (d i : ℕ) (x : Option Name) → HasSlot h d i → SameScripts h (put_in_slot h d i x).heap
put_in_slot-scripts h d i x f = grind (arith, let_go-scripts, put_in_slot-written)

-- And with the reference taken first.
pub store_native-scripts : (owned : List ℕ) (h : Heap) (d i : ℕ) (x : Option Name) → IsIn (names_there h) x →
    i < length (slots_at (objects_of h) (N d)) →
    IsSound owned h → SameScripts h (store_native h d i x).heap
unfolding store_native
store_native-scripts owned h d i x there room s = SameScripts-trans h (take_up h x) (put_in_slot (take_up h x) d i x).heap (SameScripts-take_up h x)
    (put_in_slot-scripts (take_up h x) d i x (HasSlot-take_up (numbers_of x ++ owned) h d i x (take_up-sound owned h x there s) room))

-- A native is made.
pub make_native-scripts : (h : Heap) (d n : ℕ) → SameScripts h (make_native h d n).heap
unfolding make_native
make_native-scripts h d n =
    let k = put_in_register-scripts (with_native h n) d (Some (native (h.natives_made + 1))) in
    record { scripts = k.scripts; registers = k.registers }
