-- What a cascade takes out, and what it leaves.
use Rattle.std.specs.Prelude.{◌≡◌, ℕ, ◌≤◌, ◌==◌, Bool, not, List, map, filter}
use Rattle.cc_lists.specs.Members.{Among, has}
use Rattle.cc_names.specs.Names.{native}
use Rattle.cc_model.specs.declared.item.Event.TheVariants.{Freed}
use Rattle.cc_model.specs.Heap.{Heap, HeapNative, Outcome}
use Rattle.cc_model.specs.WellFormed.{native_names}
use Rattle.cc_model.specs.Counts.{times}

-- a native without its count
abbrev pub uncounted : HeapNative → HeapNative
uncounted n = record n { count = 0 }

abbrev pub is_none_of : List ℕ → HeapNative → Bool
is_none_of ks n = not (has (λ i j. i == j) ks n.number)

-- but for the natives and the buffer two heaps are the same
pub record SameBeside (h k : Heap) : Type 0 where
  pub native_registers : k.native_registers ≡ h.native_registers
  pub script_registers : k.script_registers ≡ h.script_registers
  pub scripts : k.scripts ≡ h.scripts
  pub entries : k.entries ≡ h.entries
  pub natives_made : k.natives_made ≡ h.natives_made
  pub scripts_made : k.scripts_made ≡ h.scripts_made
  pub limits : k.limits ≡ h.limits

-- the natives `ks` are told in this order and taken out; the others keep their order, their slots and their flags,
-- and nothing changes beside counts and the buffer
pub record Frees (h : Heap) (ks : List ℕ) (o : Outcome) : Type 0 where
  pub told : o.events ≡ map (λ k. Freed (native k)) ks
  pub once : (k : ℕ) → times k ks ≤ 1
  pub were_there : (k : ℕ) → Among k ks → Among (native k) (native_names h)
  pub natives : map uncounted o.heap.natives ≡ filter (is_none_of ks) (map uncounted h.natives)
  pub beside : SameBeside h o.heap
