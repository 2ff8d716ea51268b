-- HEAPS THAT ARE THE SAME but for natives and the buffer.
use Rattle.std.proofs.Common.{arith, ◌≡◌, ℕ, List}
use Rattle.cc_model.specs.Heap.{Heap, HeapNative, Buffered, change_native}
use Rattle.cc_laws_heap.specs.Freeing.{SameBeside}

-- other natives and another buffer leave all beside them
pub SameBeside-with : (h : Heap) (ns : List HeapNative) (bs : List Buffered) → SameBeside h (record h { natives = ns; buffer = bs })
SameBeside-with h ns bs = grind arith

-- heaps are the same as themselves
pub SameBeside-refl : (h : Heap) → SameBeside h h
SameBeside-refl h = SameBeside-with h h.natives h.buffer

-- one change after another
pub SameBeside-trans : (h i j : Heap) → SameBeside h i → SameBeside i j → SameBeside h j
SameBeside-trans h i j a b = grind arith

-- a change of one native leaves all beside
pub SameBeside-change_native : (h : Heap) (k : ℕ) (f : HeapNative → HeapNative) → SameBeside h (change_native h k f)
SameBeside-change_native h k f = SameBeside-with h (change_native h k f).natives h.buffer

-- heaps that are the same beside are one heap with other natives and another buffer
pub SameBeside-is : (h g : Heap) → SameBeside h g → g ≡ record h { natives = g.natives; buffer = g.buffer }
SameBeside-is h g b = grind arith
