-- WHAT LASTS, whatever comes: how many objects were made, which natives have ended, and what was freed.
use Rattle.std.specs.Prelude.{◌≡◌, ℕ, ◌≤◌, false, List, [], ◌∷◌, flat_map, count_by}
use Rattle.cc_lists.specs.Members.{Among}
use Rattle.cc_names.specs.declared.name.Name.{Name}
use Rattle.cc_names.specs.Names.{native, same_name}
use Rattle.cc_model.specs.declared.item.Event.{Event}
use Rattle.cc_model.specs.declared.item.Event.TheVariants.{Unlinked, Freed, Abandoned}
use Rattle.cc_model.specs.Heap.{Heap}
use Rattle.cc_model.specs.Given.{is_usable}
use Rattle.cc_model.specs.WellFormed.{names_there}

-- NUMBERS MADE NEVER FALL, and a native that has ended, for it is gone or was unlinked, never comes back
pub record KeepsEnded (old new : Heap) : Type 0 where
  pub natives_made : old.natives_made ≤ new.natives_made
  pub scripts_made : old.scripts_made ≤ new.scripts_made
  pub ended : (k : ℕ) → k ≤ old.natives_made → is_usable old (native k) ≡ false → is_usable new (native k) ≡ false

-- the name that an event frees
abbrev pub name_freed : Event → List Name
name_freed (Freed x) = x ∷ []
name_freed (Unlinked x) = []
name_freed Abandoned = []

-- the names that events free, in order
abbrev pub all_freed : List Event → List Name
all_freed es = flat_map name_freed es

-- WHAT IS FREED IS FREED ONCE: it was there, it is there no more, and it is told once
pub record FreesOnce (old new : Heap) (es : List Event) : Type 0 where
  pub were_there : (x : Name) → Among x (all_freed es) → Among x (names_there old)
  pub gone : (x : Name) → Among x (all_freed es) → ¬ (Among x (names_there new))
  pub once : (x : Name) → count_by (same_name x) (all_freed es) ≤ 1
