-- What script touches becomes black, with all that it reaches over script slots.
use Rattle.std.specs.Prelude.{List, [], ◌∷◌, map, flat_map, Option, Some, None, if◌then◌else◌}
use Rattle.cc_lists.specs.Members.{has}
use Rattle.cc_lists.specs.Least.{Rule, system, closure}
use Rattle.cc_names.specs.declared.name.Name.{Name}
use Rattle.cc_names.specs.declared.kind.Colour.TheVariants.{Black}
use Rattle.cc_names.specs.Names.{same_name}
use Rattle.cc_model.specs.Heap.{Heap, HeapScript}
use Rattle.cc_model.specs.View.{script_slot_edges}

-- the edges over script slots: neither over entries nor through natives
abbrev pub slots_of_scripts : Heap → List (Name × Name)
slots_of_scripts h = flat_map script_slot_edges h.scripts

abbrev pub exposure_rules : Heap → Name → List (Rule Name)
exposure_rules h x = system (x ∷ []) (slots_of_scripts h) []

-- what an exposure of x makes black
abbrev pub exposed_names : Heap → Name → List Name
exposed_names h x = closure same_name (exposure_rules h x)

abbrev pub as_black : HeapScript → HeapScript
as_black o = record o { colour = Black }

abbrev pub blackened : Heap → List Name → Heap
blackened h names = record h { scripts = map (λ o. if has same_name names o.name then as_black o else o) h.scripts }

-- AN EXPOSURE
unfoldable pub exposed : Heap → Option Name → Heap
exposed h None = h
exposed h (Some x) = blackened h (exposed_names h x)
