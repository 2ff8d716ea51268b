-- What a script collection takes out, and what it leaves.
use Rattle.std.specs.Prelude.{◌≡◌, ◌≤◌, Bool, not, List, map, filter, count_by}
use Rattle.cc_lists.specs.Members.{Among, has}
use Rattle.cc_names.specs.declared.name.Name.{Name}
use Rattle.cc_names.specs.Names.{same_name}
use Rattle.cc_model.specs.declared.item.Event.TheVariants.{Freed}
use Rattle.cc_model.specs.Heap.{Heap, Outcome}
use Rattle.cc_model.specs.WellFormed.{native_names, script_names, names_there}

abbrev pub is_not_among : List Name → Name → Bool
is_not_among xs x = not (has same_name xs x)

-- the objects `xs` are told in this order and taken out; the others keep their order; registers, limits and numbers
-- made stay
pub record FreesNames (h : Heap) (xs : List Name) (o : Outcome) : Type 0 where
  pub told : o.events ≡ map Freed xs
  pub once : (x : Name) → count_by (same_name x) xs ≤ 1
  pub were_there : (x : Name) → Among x xs → Among x (names_there h)
  pub natives : native_names o.heap ≡ filter (is_not_among xs) (native_names h)
  pub scripts : script_names o.heap ≡ filter (is_not_among xs) (script_names h)
  pub native_registers : o.heap.native_registers ≡ h.native_registers
  pub script_registers : o.heap.script_registers ≡ h.script_registers
  pub natives_made : o.heap.natives_made ≡ h.natives_made
  pub scripts_made : o.heap.scripts_made ≡ h.scripts_made
  pub limits : o.heap.limits ≡ h.limits
