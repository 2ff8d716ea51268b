-- A WALK OVER BOTH HEAPS: how each object stands in it.
use Rattle.std.specs.Prelude.{Option, Some, None, slice_set}
use Rattle.cc_names.specs.declared.kind.Walked.{Walked}
use Rattle.cc_names.specs.declared.kind.Walked.TheVariants.{Out}
use Rattle.cc_counted.specs.Counts.{NoneWaits, none_walked}
use Rattle.cc_counted.specs.Counts as counts
use Rattle.cc_counted.specs.declared.held.Held.{Held}
use Rattle.cc_counted.specs.declared.held.Held.TheVariants as held
use Rattle.cc_script.specs.Objects.{Object, NoObjectWaits, change_object, walked_at, with_walked}
use Rattle.cc_script.specs.Objects as objects
use Rattle.cc_heaps.specs.Keyed.{Keyed}

-- what is not there is out of it
abbrev pub state_or_out : Option Walked → Walked
state_or_out None = Out
state_or_out (Some state) = state

abbrev pub state_in : Keyed → Held → Walked
state_in v (held.Native key) = counts.state_in v.walks key.0
state_in v (held.Script key) = state_or_out (walked_at v.scripts key.0)

-- a script object that stands otherwise
abbrev pub restated : (Walked → Walked) → Object → Object
restated change o = with_walked (change o.walked) o

-- AN OBJECT STANDS OTHERWISE, and nothing else is changed: not the heap, nor what stands at which key
abbrev pub with_state_in : Keyed → Held → (Walked → Walked) → Keyed
with_state_in v (held.Native key) change = record v { walks = slice_set v.walks key.0 (change (counts.state_in v.walks key.0)) }
with_state_in v (held.Script key) change = record v { scripts = change_object v.scripts key.0 (restated change) }

-- none is in it
abbrev pub unwalked : Keyed → Keyed
unwalked v = record v { walks = none_walked v.walks; scripts = objects.unwalked v.scripts }

-- none waits
abbrev pub NothingWaits : Keyed → Type 0
NothingWaits v = NoneWaits v.walks × NoObjectWaits v.scripts
