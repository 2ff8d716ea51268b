-- WHAT IS MADE: a plain object with so many slots, a weak map, or a proxy of the object at a key.
use Rattle.std.specs.Prelude.{◌≡◌, IsTrue, ℕ, ◌≤◌, List, Option, Some, None}
use Rattle.cc_names.specs.declared.kind.Colour.TheVariants.{Black}
use Rattle.cc_names.specs.declared.kind.Kind.{Kind}
use Rattle.cc_names.specs.declared.kind.Kind.TheVariants as kind
use Rattle.cc_names.specs.declared.name.Name.{Name}
use Rattle.cc_names.specs.Names.{object}
use Rattle.cc_names.specs.Sizes.{most_slots}
use Rattle.cc_model.specs.declared.command.Command.TheVariants.{Script, WeakMap}
use Rattle.cc_model.specs.Graph.{Graph, step, with_proxy}
use Rattle.cc_script.specs.Objects.{Object, colour_at, is_there, new_object}
use Rattle.cc_heaps.specs.Keyed.{Keyed, name_held}
use Rattle.cc_heaps.specs.declared.heaps.to_make.ToMake.{ToMake}
use Rattle.cc_heaps.specs.declared.heaps.to_make.ToMake.TheVariants.{Plain, Map, Proxy}

abbrev pub kind_to_make : ToMake → Kind
kind_to_make (Plain n) = kind.Plain
kind_to_make Map = kind.Map
kind_to_make (Proxy d) = kind.Proxy

-- how many slots it has
abbrev pub slots_to_make : ToMake → ℕ
slots_to_make (Plain n) = n
slots_to_make Map = 0
slots_to_make (Proxy d) = 0

-- the key of its delegate
abbrev pub delegate_to_make : ToMake → Option ℕ
delegate_to_make (Plain n) = None
delegate_to_make Map = None
delegate_to_make (Proxy d) = Some d.0

-- and the delegate's name
abbrev pub delegate_name : Keyed → ToMake → Option Name
delegate_name v what = name_held v.scripts (delegate_to_make what)

-- it has no more slots than are allowed, and its delegate is there, and black
abbrev pub MayBeMade : List Object → ToMake → Type 0
MayBeMade objects (Plain n) = n ≤ most_slots
MayBeMade objects Map = Unit {0}
MayBeMade objects (Proxy d) = colour_at objects d.0 ≡ Some Black

-- its delegate is there
abbrev pub IsDelegateThere : List Object → ToMake → Type 0
IsDelegateThere objects (Plain n) = Unit {0}
IsDelegateThere objects Map = Unit {0}
IsDelegateThere objects (Proxy d) = IsTrue (is_there objects d.0)

-- the object at its key, with its number
abbrev pub object_to_make : ℕ → ℕ → ToMake → Object
object_to_make key number what = new_object key (object number) (kind_to_make what) None (delegate_to_make what) (slots_to_make what)

-- what becomes of the graph where register r holds it; the name is that of its delegate
abbrev pub made_in : Graph → ℕ → ToMake → Option Name → Graph
made_in g r (Plain n) x = step g (Script r n)
made_in g r Map x = step g (WeakMap r)
made_in g r (Proxy d) x = with_proxy g r x
