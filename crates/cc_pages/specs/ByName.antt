-- THE PLACES OF NAMES, by three tables.
use Rattle.std.specs.Prelude.{ℕ, Option}
use Rattle.cc_names.specs.declared.name.Name.{Name}
use Rattle.cc_names.specs.declared.name.Name.TheVariants.{Native, Script, Reflector}
use Rattle.cc_pages.specs.Values.{value_at}
use Rattle.cc_pages.specs.declared.by_name.ByName.{ByName}

-- the place that the tables have for a name; none where they have none
abbrev pub place_of : ByName → Name → Option ℕ
place_of t (Native k) = value_at t.natives k.0
place_of t (Script k) = value_at t.scripts k.0
place_of t (Reflector k) = value_at t.reflectors k.0
