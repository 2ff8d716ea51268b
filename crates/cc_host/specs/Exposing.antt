-- AN EXPOSURE: script objects become black, and nothing else changes.
use Rattle.std.specs.Prelude.{◌≡◌, ℕ, List, IsTrue, length, Option, Some}
use Rattle.cc_names.specs.declared.name.Name.{Name}
use Rattle.cc_names.specs.declared.kind.Colour.TheVariants.{Black}
use Rattle.cc_model.specs.WellFormed.{script_names}
use Rattle.cc_script.specs.Objects.{Object, colour_at, is_there, kind_at, name_at, slots_at}
use Rattle.cc_heaps.specs.Keyed.{Keyed}
use Rattle.cc_heaps.specs.Keeping.{KeepsAll}
use Rattle.cc_heaps.specs.Standing.{IsReached, StillStands}
use Rattle.cc_host.specs.Missing.{KeepsDoomed}

-- the object at a key is as it was, or blacker
pub record IsSameAt (old new : List Object) (key : ℕ) : Type 0 where
  pub there : IsTrue (is_there new key)
  pub name : name_at new key ≡ name_at old key
  pub kind : kind_at new key ≡ kind_at old key
  pub slots : length (slots_at new key) ≡ length (slots_at old key)
  pub black : colour_at old key ≡ Some Black → colour_at new key ≡ Some Black

-- and so is each object that was there
abbrev pub AreSame : List Object → List Object → Type 0
AreSame old new = (key : ℕ) → IsTrue (is_there old key) → IsSameAt old new key

-- SOME SCRIPT OBJECTS BECAME BLACK, and where the premise holds, that what was handed in is reached, none that is doomed did
pub record Exposes (premise : Type 0) (old new : Keyed) : Type 0 where
  pub kept : KeepsAll old new
  pub stands : StillStands old.heap new.heap
  pub doomed : premise → KeepsDoomed old.heap new.heap
  pub keys : new.keys ≡ old.keys
  pub same : AreSame old.scripts new.scripts
  pub rest : new.heap ≡ record old.heap { scripts = new.heap.scripts }
  pub names : script_names new.heap ≡ script_names old.heap
  pub reached : (x : Option Name) → IsReached old.heap x → IsReached new.heap x
