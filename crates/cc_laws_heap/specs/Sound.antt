-- THE HEAPS ARE SOUND: well formed, and each count is that of the references.
use Rattle.std.specs.Prelude.{ℕ, ◌≤◌, List, flat_map, Option, option_to_list}
use Rattle.cc_lists.specs.Members.{Among}
use Rattle.cc_names.specs.declared.name.Name.{Name}
use Rattle.cc_names.specs.Names.{native, natives_in}
use Rattle.cc_model.specs.Heap.{Heap, HeapNative}
use Rattle.cc_model.specs.WellFormed.{IsWellFormed, native_names}
use Rattle.cc_model.specs.Counts.{HasCounts}

-- `owned` are the natives to which there is a reference outside the heaps' lists, by occurrence
pub record IsSound (owned : List ℕ) (h : Heap) : Type 0 where
  pub well_formed : IsWellFormed h
  pub counts : HasCounts owned h
  pub none_zero : (n : HeapNative) → Among n h.natives → 1 ≤ n.count
  pub owned_there : (k : ℕ) → Among k owned → Among (native k) (native_names h)

-- the natives to which what a register or a slot holds refers: who takes it up owns these
abbrev pub numbers_of : Option Name → List ℕ
numbers_of x = flat_map natives_in (option_to_list x)
