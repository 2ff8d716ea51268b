-- What the end of a collection tells and takes out.
use Rattle.std.specs.Prelude.{◌≡◌, ℕ, ◌≤◌, ◌==◌, not, List, [], ◌++◌, map, filter, flat_map}
use Rattle.cc_lists.specs.Members.{Among, has}
use Rattle.cc_names.specs.Names.{native, natives_in}
use Rattle.cc_model.specs.declared.item.Event.{Event}
use Rattle.cc_model.specs.declared.item.Event.TheVariants.{Unlinked, Freed, Abandoned}
use Rattle.cc_model.specs.Heap.{Heap, HeapNative, Outcome}
use Rattle.cc_model.specs.WellFormed.{native_names, IsRising}
use Rattle.cc_model.specs.Counts.{times}
use Rattle.cc_model.specs.Lawful.{unlinked_numbers}
use Rattle.cc_model.specs.StandsFor.{IsEmptied}
use Rattle.cc_laws_heap.specs.Freeing.{uncounted}

-- natives that are in the heaps, by rising number
pub record AreThere (ks : List ℕ) (h : Heap) : Type 0 where
  pub rising : IsRising ks
  pub there : (k : ℕ) → Among k ks → Among (native k) (native_names h)

-- the numbers of the free lines, in order
abbrev pub freed_in : Event → List ℕ
freed_in (Freed x) = natives_in x
freed_in (Unlinked x) = []
freed_in Abandoned = []

abbrev pub freed_numbers : List Event → List ℕ
freed_numbers es = flat_map freed_in es

-- each event names a native that is freed or unlinked
abbrev pub NamesNative : Event → Type 0
NamesNative (Freed x) = (k : ℕ) × (x ≡ native k)
NamesNative (Unlinked x) = (k : ℕ) × (x ≡ native k)
NamesNative Abandoned = ⊥

-- a native that was in these heaps: if it is one of ks, it was unlinked since; else it changed in its count alone
pub record IsLeft (h : Heap) (ks : List ℕ) (n : HeapNative) : Type 0 where
  pub was : HeapNative
  pub there : Among was h.natives
  pub number : was.number ≡ n.number
  pub taken : Among n.number ks → IsEmptied n
  pub other : ¬ (Among n.number ks) → uncounted was ≡ uncounted n

-- the natives ks are told unlinked in this order, `freed` are told freed in this order and taken out; none of ks is
-- freed before all of them are unlinked
pub record TakesAway (h : Heap) (ks freed : List ℕ) (o : Outcome) : Type 0 where
  pub natives_alone : (e : Event) → Among e o.events → NamesNative e
  pub unlinked : unlinked_numbers o.events ≡ ks
  pub told : freed_numbers o.events ≡ freed
  pub once : (k : ℕ) → times k freed ≤ 1
  pub were_there : (k : ℕ) → Among k freed → Among (native k) (native_names h)
  -- the events up to the last unlink line free none of ks
  pub unlinks : List Event
  pub unroots : List Event
  pub in_two : o.events ≡ unlinks ++ unroots
  pub first_unlinked : unlinked_numbers unlinks ≡ ks
  pub none_of_them : (k : ℕ) → Among k ks → times k (freed_numbers unlinks) ≡ 0
  -- what is left, and nothing else changes beside natives and the buffer
  pub natives : map (λ n. n.number) o.heap.natives ≡ filter (λ k. not (has ◌==◌ freed k)) (map (λ n. n.number) h.natives)
  pub left : (n : HeapNative) → Among n o.heap.natives → IsLeft h ks n
  pub scripts : o.heap.scripts ≡ h.scripts
  pub entries : o.heap.entries ≡ h.entries
  pub native_registers : o.heap.native_registers ≡ h.native_registers
  pub script_registers : o.heap.script_registers ≡ h.script_registers
  pub natives_made : o.heap.natives_made ≡ h.natives_made
  pub scripts_made : o.heap.scripts_made ≡ h.scripts_made
  pub limits : o.heap.limits ≡ h.limits
