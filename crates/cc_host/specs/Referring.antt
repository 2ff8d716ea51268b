-- WEAK REFERENCES: what they are of, and when that has ended.
use Rattle.std.specs.Prelude.{◌≡◌, ◌==◌, ℕ, Bool, true, not, Option, Some, None, if◌then◌else◌}
use Rattle.cc_names.specs.declared.name.Name.TheVariants as name
use Rattle.cc_host.specs.declared.object.Object.{Object}
use Rattle.cc_host.specs.declared.weak.Weak.{Weak}
use Rattle.cc_host.specs.declared.stop.Stop.{Stop}
use Rattle.cc_host.specs.declared.stop.Stop.TheVariants.{Foreign}
use Rattle.cc_host.specs.Hosted.{Hosted, is_usable_at}
use Rattle.cc_host.specs.Stops.{first, stop_root, where_so}

-- the native that a weak reference is of, as an object
abbrev pub referent : Weak → Object
referent w = record { name = name.Native w.number; key = w.key.0; mark = w.mark }

-- WHETHER ITS NATIVE HAS ENDED: it is not in the heaps under its number, or was unlinked
abbrev pub has_ended : Hosted → Weak → Bool
has_ended h w = not (is_usable_at h.heaps w.key.0 w.number)

abbrev pub HasEnded : Hosted → Weak → Type 0
HasEnded h w = has_ended h w ≡ true

-- what it gives: its native, and nothing where that has ended
abbrev pub upgraded : Hosted → Weak → Option Object
upgraded h w = if has_ended h w then None else Some (referent w)

-- it is of another host
abbrev pub stop_weak : Hosted → Weak → Option Stop
stop_weak h w = where_so (not (w.mark == h.mark)) Foreign

-- or there is no such root
abbrev pub stop_upgrade : Hosted → ℕ → Weak → Option Stop
stop_upgrade h r w = first (stop_weak h w) (stop_root r)
