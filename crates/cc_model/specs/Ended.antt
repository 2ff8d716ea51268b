-- WHICH NATIVES HAVE ENDED, by the heaps.
use Rattle.std.specs.Prelude.{◌≡◌, ℕ, ◌≤◌, not, List}
use Rattle.cc_lists.specs.Members.{has}
use Rattle.cc_names.specs.declared.name.Name.{Name}
use Rattle.cc_names.specs.Names.{native, same_name}
use Rattle.cc_model.specs.Heap.{Heap}
use Rattle.cc_model.specs.Given.{is_usable}

-- a native that was made has ended exactly where it is not in the heaps, or was unlinked there
abbrev pub EndedAgrees : Heap → List Name → Type 0
EndedAgrees h ended = (k : ℕ) → 1 ≤ k → k ≤ h.natives_made → has same_name ended (native k) ≡ not (is_usable h (native k))
