-- WHAT A WEAK REFERENCE MAY HAVE BROUGHT BACK since a moment: what the graph gives from all names that were reached meanwhile. A native comes
-- back with all that it leads to; and of an entry the map may come back at one moment and the key at another, so that the value is
-- given by both though no register reached it at any moment.
use Rattle.std.specs.Prelude.{◌≡◌, ℕ, Bool, true, false, ◌⊎◌, List, [], ◌∷◌, ◌++◌}
use Rattle.cc_lists.specs.Members.{Among}
use Rattle.cc_names.specs.declared.name.Name.{Name}
use Rattle.cc_names.specs.Names.{native, reflector}
use Rattle.cc_model.specs.Mutating.{Class, reads_weak, class_of}
use Rattle.cc_model.specs.Answers.{Answer}
use Rattle.cc_model.specs.Asks.{Ask, taken}
use Rattle.cc_model.specs.Entries.{Joint}
use Rattle.cc_model.specs.Graph.{Graph}
use Rattle.cc_model.specs.Reached.{reached_names}
use Rattle.cc_model.specs.Given.{GivenFrom}
use Rattle.cc_model.specs.View.{View}
use Rattle.cc_model.specs.Lawful.{State, next}

-- THE NAMES THAT WERE REACHED at some moment from a state on: in its graph, or after one of these asks
abbrev pub met_over : State → List Ask → List Answer → List Name
met_over s [] answers = reached_names s.graph
met_over s (ask ∷ asks) [] = reached_names s.graph
met_over s (ask ∷ asks) (a ∷ answers) = reached_names s.graph ++ met_over (next s ask a) asks answers

-- a name that may be back: the graph gives it from those that were met, or it is the reflector of a native that is so given, which
-- `wrap` gets
abbrev pub MayBeBack : Graph → List Name → Name → Type 0
MayBeBack g met x = GivenFrom g met x ⊎ ((k : ℕ) × (x ≡ reflector k) × GivenFrom g met (native k))

-- each map and each key (or delegate) that together give one of these names is one of them, or may be back
pub record AreBeside (g : Graph) (met : List Name) (v : View) (ds : List Name) : Type 0 where
  pub the_map : (e : Joint) → Among e v.joints → Among e.value ds → Among e.the_map ds ⊎ MayBeBack g met e.the_map
  pub key : (e : Joint) → Among e v.joints → Among e.value ds → Among e.key ds ⊎ MayBeBack g met e.key

-- whether a command of this class may bring something back
abbrev pub brings_back : Class → Bool
brings_back (reads_weak d w) = true
brings_back _ = false

-- an ask that reads no weak register, so that nothing comes back
abbrev pub brings_none_back : Ask → Bool
brings_none_back (taken c) = elim (brings_back (class_of c)) [ true ↦ false | false ↦ true ]
brings_none_back ask = true
