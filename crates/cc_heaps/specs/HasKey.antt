-- THE KEY OF A NAME, as it is kept while the heaps change.
use Rattle.std.specs.Prelude.{◌≡◌, IsTrue, ℕ, false, Some}
use Rattle.cc_lists.specs.Members.{Among}
use Rattle.cc_names.specs.declared.name.Name.{Name}
use Rattle.cc_names.specs.Names.{native, is_native}
use Rattle.cc_model.specs.WellFormed.{native_names}
use Rattle.cc_counted.specs.declared.held.Held.{Held}
use Rattle.cc_counted.specs.declared.held.Held.TheVariants as held
use Rattle.cc_script.specs.Objects.{name_at}
use Rattle.cc_heaps.specs.Keyed.{Keyed, number_at}

-- a native has this key as long as it is in the heaps; a script object is in the heaps, and has it
abbrev pub HasKey : Keyed → Name → Held → Type 0
HasKey v x (held.Native key) = IsTrue (is_native x) × ((k : ℕ) → x ≡ native k → Among (native k) (native_names v.heap) → number_at v key.0 ≡ Some k)
HasKey v x (held.Script key) = (is_native x ≡ false) × (name_at v.scripts key.0 ≡ Some x)
