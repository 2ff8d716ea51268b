-- ONE COLLECTION FOLLOWED THROUGH ASKS: the one that runs, or else the first that they begin.
use Rattle.std.specs.Prelude.{List, [], ◌∷◌}
use Rattle.cc_model.specs.Mutating.{so_many, whole, Class, runs, collects_scripts, class_of}
use Rattle.cc_model.specs.Asks.{Ask, taken}
use Rattle.cc_model.specs.End.{went_on, at_end, refused}
use Rattle.cc_model.specs.Collecting.{Machine, UnitsDone, no_units, to_the_end, finish_running, without_marking, finish_marking, behind, slice}
use Rattle.cc_model.specs.Run.{do_ask}

-- its units from a machine to another one, by the class of a command: a slice has those of one collection, behind the end of a
-- marking that goes on; a whole one, `gc` and `mark` bring it to its end, and a second collection has other units
abbrev pub first_units_of : Machine → Machine → Class → UnitsDone
first_units_of m n (runs (so_many u)) = slice u m
first_units_of m n (runs whole) = behind (finish_marking m) (to_the_end (no_units (finish_marking m).machine))
first_units_of m n (collects_scripts whole) = finish_running (without_marking m)
first_units_of m n (collects_scripts (so_many u)) = finish_running m
first_units_of m n _ = no_units n

-- its units under one ask
abbrev pub first_units : Machine → Ask → UnitsDone
first_units m (taken c) = first_units_of m (do_ask m (taken c)).machine (class_of c)
first_units m ask = no_units (do_ask m ask).machine

-- units, and then later ones where the collection went on: till then it has told nothing itself, though the ask that began it may have told
-- the end of a marking
abbrev pub then_later : UnitsDone → UnitsDone → UnitsDone
then_later d later = elim d.progress [ went_on ↦ later | at_end ↦ d | refused ↦ d ]

-- ITS UNITS UNDER ASKS IN A ROW, up to the one that ends it or is refused memory: what that one told, and what it came to
abbrev pub first_collection : Machine → List Ask → UnitsDone
first_collection m [] = no_units m
first_collection m (ask ∷ asks) = then_later (first_units m ask) (first_collection (do_ask m ask).machine asks)
