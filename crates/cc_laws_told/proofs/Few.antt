-- FEW ITEMS ARE TOLD FROM SOME HEAPS TO OTHERS: this adds up, and a buffer does not matter.
use Rattle.std.proofs.Common.{ℕ, ◌+◌, ◌≤◌, List, [], ◌++◌, length, length-append, arith}
use Rattle.cc_model.specs.declared.item.Event.{Event}
use Rattle.cc_model.specs.Heap.{Heap, Buffered}
use Rattle.cc_model.specs.Collecting.{Machine, UnitsDone}
use Rattle.cc_laws_heap.specs.Sound.{IsSound}
use Rattle.cc_laws_heap.proofs.Kept.{IsBuffer, with_buffer}
use Rattle.cc_laws_heap.proofs.BufferStands.{IsSound-buffer}
use Rattle.cc_laws_told.specs.Told.{objects, TellsFew}

-- one is told for each object that leaves, and at most so many besides; no object comes, and the heaps after it are sound
pub record IsFew (besides : ℕ) (h : Heap) (es : List Event) (k : Heap) : Type 0 where
  pub told : length es + objects k ≤ objects h + besides
  pub natives : length k.natives ≤ length h.natives
  pub scripts : length k.scripts ≤ length h.scripts
  pub sound : IsSound [] k

-- nothing is told of heaps that stay
pub IsFew-none : (h : Heap) → IsSound [] h → IsFew 0 h [] h
IsFew-none h s = record { told = omega arith; natives = omega arith; scripts = omega arith; sound = s }

-- what is told later is added
pub IsFew-then : (a b : ℕ) (h k l : Heap) (es fs : List Event) → IsFew a h es k → IsFew b k fs l → IsFew (a + b) h (es ++ fs) l
IsFew-then a b h k l es fs f g = record {
  told = omega (arith, f.told, g.told, length-append es fs);
  natives = omega (arith, f.natives, g.natives);
  scripts = omega (arith, f.scripts, g.scripts);
  sound = g.sound;
}

-- more may be told besides
pub IsFew-more : (a b : ℕ) (h k : Heap) (es : List Event) → a ≤ b → IsFew a h es k → IsFew b h es k
IsFew-more a b h k es more f = record { told = omega (arith, f.told, more); natives = f.natives; scripts = f.scripts; sound = f.sound }

-- heaps with another buffer have the same objects
pub IsFew-buffer : (besides : ℕ) (h : Heap) (bs : List Buffered) (es : List Event) → IsSound [] h → IsBuffer h bs → length es ≤ besides →
    IsFew besides h es (with_buffer h bs)
IsFew-buffer besides h bs es s b few = record { told = omega (arith, few); natives = omega arith; scripts = omega arith; sound = IsSound-buffer h bs s b }

-- WHAT UNITS TELL IS FEW where it is few from the first heaps to the last.
pub TellsFew-from : (besides : ℕ) (m : Machine) (d : UnitsDone) → IsFew besides m.heap d.events d.machine.heap → TellsFew besides m d
TellsFew-from besides m d f = record { told = f.told; natives = f.natives; scripts = f.scripts; sound = f.sound }
