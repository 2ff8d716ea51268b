-- WHAT C MEANS by what it hands in, and by what it is answered.
use Rattle.std.specs.Prelude.{◌≡◌, ◌⊎◌, ◌==◌, ℕ, Bool, true, false, Option, None, Some}
use Rattle.cc_names.specs.declared.name.Name.{Name}
use Rattle.cc_names.specs.declared.kind.Kind.{Kind as KindOfScript}
use Rattle.cc_names.specs.declared.kind.Kind.TheVariants as kind
use Rattle.cc_names.specs.Names.{native, object, reflector}
use Rattle.cc_model.specs.End.{Progress, went_on, at_end, refused}
use Rattle.cc_collector.specs.declared.collector.Ended.{Ended}
use Rattle.cc_collector.specs.declared.collector.Ended.TheVariants.{Yes, No}
use Rattle.cc_host.specs.declared.object.Object.{Object}
use Rattle.cc_host.specs.declared.weak.Weak.{Weak}
use Rattle.cc_host.specs.declared.stop.Stop.{Stop}
use Rattle.cc_host.specs.declared.stop.Stop.TheVariants.{Foreign, Gone, Kind, Index, Full, NoMemory}
use Rattle.cc_host.specs.declared.hindrance.Hindrance.{Hindrance}
use Rattle.cc_host.specs.declared.hindrance.Hindrance.TheVariants as hindrance
use Rattle.cc_host.specs.declared.root.Root.{Root}
use Rattle.cc_c.specs.declared.values.CObject.{CObject}
use Rattle.cc_c.specs.declared.values.CRoot.{CRoot}
use Rattle.cc_c.specs.declared.values.CWeak.{CWeak}

-- Objects and roots

-- a name by its kind and number; of another kind, one that no object has
abbrev pub to_name : ℕ → ℕ → Name
to_name kind number = elim (kind == 1) [
  | true ↦ native number
  | false ↦ elim (kind == 2) [
    | true ↦ object number
    | false ↦ elim (kind == 3) [
      | true ↦ reflector number
      | false ↦ object 0
    ]
  ]
]

-- THE OBJECT that C hands in or is answered
abbrev pub to_object : CObject → Object
to_object x = record { name = to_name x.kind x.number; key = x.key; mark = x.mark }

-- or nothing
unfoldable pub to_content : CObject → Option Object
to_content x = elim (x.kind == 0) [ true ↦ None | false ↦ Some (to_object x) ]

-- THE ROOT
abbrev pub to_root : CRoot → Root
to_root x = record { index = x.index; serial = x.serial; mark = x.mark }

-- THE WEAK REFERENCE
abbrev pub to_weak : CWeak → Weak
to_weak x = record { number = record { 0 = x.number }; key = record { 0 = x.key }; mark = x.mark }

-- Numbers

-- 1 for yes
abbrev pub flag : Bool → ℕ
flag true = 1
flag false = 0

-- what kind of script object
abbrev pub number_of_kind : KindOfScript → ℕ
number_of_kind kind.Plain = 1
number_of_kind kind.Map = 2
number_of_kind kind.Reflector = 3
number_of_kind kind.Proxy = 4

-- how far a slice came, by its status and by whether it came to an end
abbrev pub progress_in : ℕ → ℕ → Progress
progress_in status over = elim (status == 0) [
  | true ↦ elim (over == 1) [ true ↦ at_end | false ↦ went_on ]
  | false ↦ refused
]

-- whether units of a marking reached its end
abbrev pub ended_in : ℕ → Ended
ended_in over = elim (over == 1) [ true ↦ Yes | false ↦ No ]

-- Status

-- the number of a stop
abbrev pub status_of : Stop → ℕ
status_of Foreign = 3
status_of Gone = 4
status_of Kind = 5
status_of Index = 6
status_of Full = 7
status_of NoMemory = 8

-- and of what hindered a collection
abbrev pub status_of_hindrance : Hindrance → ℕ
status_of_hindrance hindrance.NoMemory = 8
status_of_hindrance hindrance.Unfetched = 11

-- THE STATUS IS THIS STOP'S, and 0 where there is none
abbrev pub IsStatus : Option Stop → ℕ → Type 0
IsStatus None status = status ≡ 0
IsStatus (Some s) status = status ≡ status_of s

-- and where there is none, memory alone may be wanted
abbrev pub IsStatusOrRefused : Option Stop → ℕ → Type 0
IsStatusOrRefused None status = (status ≡ 0) ⊎ (status ≡ 8)
IsStatusOrRefused (Some s) status = status ≡ status_of s

-- or memory may be wanted in place of it
abbrev pub IsStatusOrWants : Option Stop → ℕ → Type 0
IsStatusOrWants None status = (status ≡ 0) ⊎ (status ≡ 8)
IsStatusOrWants (Some s) status = (status ≡ status_of s) ⊎ (status ≡ 8)

-- a root is made: where there is no stop, memory or a place for it may be wanted
abbrev pub IsRootStatus : Option Stop → ℕ → Type 0
IsRootStatus None status = (status ≡ 0) ⊎ ((status ≡ 8) ⊎ (status ≡ 7))
IsRootStatus (Some s) status = status ≡ status_of s
