-- WHAT A HOST IS: the heaps, the collection that runs in them, whether a script marking goes on, and the mark by which its objects are known.
use Rattle.std.specs.Prelude.{◌≡◌, ◌&&◌, ℕ, Bool, false, not, Option, Some, None, option_map}
use Rattle.cc_names.specs.declared.name.Name.{Name}
use Rattle.cc_names.specs.declared.number.NativeNo.{NativeNo}
use Rattle.cc_names.specs.declared.name.Name.TheVariants as name
use Rattle.cc_names.specs.declared.register.Reg.TheVariants.{N}
use Rattle.cc_names.specs.Names.{native, same_name}
use Rattle.cc_model.specs.Checks.{slots_or_none}
use Rattle.cc_model.specs.Collecting.{Machine}
use Rattle.cc_model.specs.Heap.{register, slots_in}
use Rattle.cc_model.specs.Slots.{Slots}
use Rattle.cc_script.specs.Objects.{name_at}
use Rattle.cc_builder.specs.Building.{Built}
use Rattle.cc_laws_run.specs.Doomed.{IsSuspectedNow}
use Rattle.cc_counted.specs.Counts.{unlinked_of}
use Rattle.cc_heaps.specs.Keyed.{Keyed, counts_of, number_at}
use Rattle.cc_heaps.specs.Standing.{IsReached}
use Rattle.cc_collector.specs.Kept.{Kept, RunsIn, machine_of}
use Rattle.cc_host.specs.declared.runtime.TheConstants.{NUMBERED_ROOTS}
use Rattle.cc_host.specs.declared.object.Object.{Object}

pub record Hosted : Type 0 where
  pub heaps : Keyed
  pub running : Option Built
  pub marking : Bool
  pub mark : ℕ

-- what its collector keeps
abbrev pub kept : Hosted → Kept
kept h = record { running = h.running; marking = h.marking }

-- the heaps, the running collection and the marking, as the plain run has them
abbrev pub machine : Hosted → Machine
machine h = machine_of h.heaps (kept h)

-- so many native registers are roots, and so many script registers
abbrev pub roots : ℕ
roots = NUMBERED_ROOTS

-- the native register behind them, which the host keeps for itself
abbrev pub spare : ℕ
spare = NUMBERED_ROOTS

-- WHAT A HOST KEEPS between its calls: the collector runs in the heaps, no native that nothing reaches is forgotten, and the
-- register that the host keeps for itself holds nothing
pub record IsKept (h : Hosted) : Type 0 where
  pub runs : RunsIn h.heaps (kept h)
  pub suspected : IsSuspectedNow (machine h)
  pub spared : register h.heaps.heap (N spare) ≡ None

-- Objects

-- the name of what stands at the key of an object, among natives where it names a native, else among script objects
abbrev pub name_found : Hosted → Object → Option Name
name_found h x = elim x.name [
  | name.Native k ↦ option_map native (number_at h.heaps x.key)
  | name.Script k ↦ name_at h.heaps.scripts x.key
  | name.Reflector k ↦ name_at h.heaps.scripts x.key
]

abbrev pub is_name : Name → Option Name → Bool
is_name x None = false
is_name x (Some y) = same_name y x

-- whether the native of this number stands at this key, and was not unlinked
abbrev pub is_usable_at : Keyed → ℕ → NativeNo → Bool
is_usable_at v key number = is_name (name.Native number) (option_map native (number_at v key)) && not (unlinked_of (counts_of v) key)

-- WHETHER AN OBJECT IS THERE for who calls: at its key stands what it names, and it is no native that was unlinked
abbrev pub is_found : Hosted → Object → Bool
is_found h x = elim x.name [
  | name.Native k ↦ is_usable_at h.heaps x.key k
  | name.Script k ↦ is_name x.name (name_found h x)
  | name.Reflector k ↦ is_name x.name (name_found h x)
]

-- AN OBJECT STANDS AT ITS KEY, and is this host's. A native that was unlinked stands there until it is freed, though it is gone for
-- each call
abbrev pub IsThere : Hosted → Object → Type 0
IsThere h x = (x.mark ≡ h.mark) × (name_found h x ≡ Some x.name)

-- what is handed in or read, by its name
abbrev pub named : Option Object → Option Name
named x = option_map (λ o. o.name) x

abbrev pub IsThereIfAny : Hosted → Option Object → Type 0
IsThereIfAny h None = Unit {0}
IsThereIfAny h (Some x) = IsThere h x

-- its slots; none of a weak map, of a proxy, and of what is not there
abbrev pub slots_of : Hosted → Object → Slots
slots_of h x = slots_or_none (slots_in h.heaps.heap x.name)

-- A ROOT REACHES IT
abbrev pub IsRooted : Hosted → Object → Type 0
IsRooted h x = IsReached h.heaps.heap (Some x.name)

-- or nothing is handed in
abbrev pub IsRootedIfAny : Hosted → Option Object → Type 0
IsRootedIfAny h x = IsReached h.heaps.heap (named x)
