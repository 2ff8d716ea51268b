-- NO UNREACHED NATIVE IS FORGOTTEN.
use Rattle.std.specs.Prelude.{ℕ, Bool, not, ◌⊎◌, List, [], ◌++◌, map, filter}
use Rattle.cc_lists.specs.Members.{Among, has}
use Rattle.cc_lists.specs.Least.{Least, system}
use Rattle.cc_names.specs.declared.name.Name.{Name}
use Rattle.cc_names.specs.Names.{native, same_name}
use Rattle.cc_model.specs.View.{View, ReachedIn, reached_in, scripts_there}

abbrev pub is_unreached : View → Name → Bool
is_unreached v x = not (has same_name (reached_in v) x)

-- the script objects that the registers do not reach
abbrev pub unreached_scripts : View → List Name
unreached_scripts v = filter (is_unreached v) (scripts_there v)

-- covered: reached over edges from a purple native or from an unreached script object
abbrev pub IsCovered : View → Name → Type 0
IsCovered v = Least (system (v.purple ++ unreached_scripts v) v.edges [])

-- reached over edges from a candidate of the running collection
abbrev pub IsFromCandidate : View → List ℕ → Name → Type 0
IsFromCandidate v candidates = Least (system (map native candidates) v.edges [])

-- each unreached native is covered, or it is outside the buffer and reached from a candidate
abbrev pub IsSuspected : View → List ℕ → Type 0
IsSuspected v candidates = (u : Name) (c : ℕ) → Among (u, c) v.natives → ¬ (ReachedIn v u) →
    IsCovered v u ⊎ ((¬ (Among u v.buffer)) × IsFromCandidate v candidates u)
