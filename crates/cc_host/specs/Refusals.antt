-- WHEN A CALL OF A HOST IS REFUSED beyond the host's causes: for a root without number.
use Rattle.std.specs.Prelude.{◌≡◌, ◌⊎◌, ◌==◌, Bool, false, not, Option, Some, None, Result, Err}
use Rattle.cc_host.specs.Stops.{first, where_so}
use Rattle.cc_host.specs.declared.stop.Stop.{Stop}
use Rattle.cc_host.specs.declared.stop.Stop.TheVariants.{Foreign, Gone, Full, NoMemory}
use Rattle.cc_host.specs.declared.root.Root.{Root}
use Rattle.cc_host.specs.Hosts.{State, serial_at}

-- a root is of another host, or not in use
abbrev pub is_in_use : State → Root → Bool
is_in_use s root = elim (serial_at s.books root.index) [ None ↦ false | Some serial ↦ serial == root.serial ]

abbrev pub stop_of_root : State → Root → Option Stop
stop_of_root s root = first (where_so (not (root.mark == s.host.mark)) Foreign) (where_so (not (is_in_use s root)) Gone)

-- REFUSED FOR THIS CAUSE, where there is one, or for want of memory
abbrev pub IsStoppedOrWants : {T : Type 0} → Option Stop → Result T Stop → Type 0
IsStoppedOrWants None r = (s : Stop) → r ≡ Err s → s ≡ NoMemory
IsStoppedOrWants (Some s) r = (r ≡ Err s) ⊎ (r ≡ Err NoMemory)

-- a root is made: for this cause alone, where there is one; or no place is left, or no memory
abbrev pub IsRootRefused : {T : Type 0} → Option Stop → Result T Stop → Type 0
IsRootRefused None r = (s : Stop) → r ≡ Err s → (s ≡ NoMemory) ⊎ (s ≡ Full)
IsRootRefused (Some s) r = r ≡ Err s
