-- WHAT A COMMAND ASKS OF THE LISTED NAMES, of those that have ended and of the graph's weak registers, where its reply is to be the graph's.
use Rattle.std.specs.Prelude.{◌≡◌, List}
use Rattle.cc_names.specs.declared.name.Name.{Name}
use Rattle.cc_model.specs.declared.command.Command.{Command}
use Rattle.cc_model.specs.declared.command.Command.TheVariants.{Wrap}
use Rattle.cc_model.specs.Mutating.{Class, reads_weak}
use Rattle.cc_model.specs.Slots.{Slots}
use Rattle.cc_model.specs.Heap.{Heap}
use Rattle.cc_model.specs.Lawful.{State}
use Rattle.cc_model.specs.Listed.{census_order}
use Rattle.cc_model.specs.Ended.{EndedAgrees}
use Rattle.cc_model.specs.Run.{census_names}

-- `wrap`, which may want memory where its reflector is not listed, asks that those listed are those that are there; the
-- other commands ask nothing
abbrev pub AreListedFor : Command → Heap → List Name → Type 0
AreListedFor (Wrap d s) h names = census_names h ≡ census_order names
AreListedFor _ h names = Unit {0}

-- the command that reads a weak register asks that the graph's note the same, and that the names that have ended are those of the
-- heaps; the other commands ask nothing
abbrev pub AgreesFor : Class → Heap → Slots → State → Type 0
AgreesFor (reads_weak d w) h weak s = (s.graph.weak_registers ≡ weak) × EndedAgrees h s.ended
AgreesFor _ h weak s = Unit {0}
