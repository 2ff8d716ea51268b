-- THE KEYS OF SCRIPT OBJECTS by which the entries of weak maps are kept: an even one is that of a plain object, a weak map or a
-- proxy, an odd one that of a reflector.
use Rattle.std.specs.Prelude.{ℕ, ◌/◌, ◌%◌, ◌==◌, List, map, option_map, if◌then◌else◌}
use Rattle.cc_names.specs.declared.name.Name.{Name}
use Rattle.cc_names.specs.Names.{object, reflector}
use Rattle.cc_model.specs.Entries.{Entry, entry}
use Rattle.cc_weakmaps.specs.Entries.{KeyedEntry}

-- the object of a key
abbrev pub object_of : ℕ → Name
object_of k = if k % 2 == 0 then object (k / 2) else reflector (k / 2)

-- entries by the names of their objects
abbrev pub named_entry : KeyedEntry → Entry
named_entry e = entry (object_of e.the_map) (object_of e.key) (option_map object_of e.delegate) (object_of e.value)

abbrev pub named_entries : List KeyedEntry → List Entry
named_entries es = map named_entry es
