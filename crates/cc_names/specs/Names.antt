-- Names of objects: how they are made, told apart and written.
use Rattle.std.specs.Prelude.{ℕ, Bool, true, false, not, ◌==◌, List, [], ◌∷◌, decimal}
use Rattle.std.specs.declared.cmp.Ordering.{Ordering}
use Rattle.std.specs.Ordering.{nat_cmp, ordering_then}
use Rattle.cc_names.specs.declared.name.Name.{Name}
use Rattle.cc_names.specs.declared.name.Name.TheVariants.{Native, Script, Reflector}
use Rattle.cc_names.specs.declared.register.Reg.{Reg}
use Rattle.cc_names.specs.declared.register.Reg.TheVariants.{N, S, W}

-- the native with a number
abbrev pub native : ℕ → Name
native k = Native (record { 0 = k })

-- the plain script object or weak map with a number
abbrev pub object : ℕ → Name
object k = Script (record { 0 = k })

-- the reflector of the native with a number
abbrev pub reflector : ℕ → Name
reflector k = Reflector (record { 0 = k })

abbrev pub same_name : Name → Name → Bool
same_name (Native i) (Native j) = i.0 == j.0
same_name (Script i) (Script j) = i.0 == j.0
same_name (Reflector i) (Reflector j) = i.0 == j.0
same_name _ _ = false

abbrev pub is_native : Name → Bool
is_native (Native k) = true
is_native (Script k) = false
is_native (Reflector k) = false

abbrev pub is_reflector : Name → Bool
is_reflector (Native k) = false
is_reflector (Script k) = false
is_reflector (Reflector k) = true

-- script objects are plain objects, weak maps and reflectors
abbrev pub is_script : Name → Bool
is_script x = not (is_native x)

-- the number in a name
abbrev pub number_of : Name → ℕ
number_of (Native k) = k.0
number_of (Script k) = k.0
number_of (Reflector k) = k.0

-- natives come first, then plain objects, weak maps and proxies, then reflectors
abbrev pub place_of_kind : Name → ℕ
place_of_kind (Native k) = 0
place_of_kind (Script k) = 1
place_of_kind (Reflector k) = 2

-- THE ORDER OF NAMES: by kind, and by number where the kinds are the same
abbrev pub order_of_names : Name → Name → Ordering
order_of_names x y = ordering_then (nat_cmp (place_of_kind x) (place_of_kind y)) (nat_cmp (number_of x) (number_of y))

-- a native's own number
abbrev pub natives_in : Name → List ℕ
natives_in (Native k) = k.0 ∷ []
natives_in (Script k) = []
natives_in (Reflector k) = []

-- the native that a reflector stands for
abbrev pub behind : Name → List ℕ
behind (Native k) = []
behind (Script k) = []
behind (Reflector k) = k.0 ∷ []

-- #k, @k, ~k
abbrev pub text_of_name : Name → List ℕ
text_of_name (Native k) = 35 ∷ decimal k.0
text_of_name (Script k) = 64 ∷ decimal k.0
text_of_name (Reflector k) = 126 ∷ decimal k.0

-- the text of a register
abbrev pub text_of_register : Reg → List ℕ
text_of_register (N r) = 110 ∷ decimal r
text_of_register (S r) = 115 ∷ decimal r
text_of_register (W r) = 119 ∷ decimal r
