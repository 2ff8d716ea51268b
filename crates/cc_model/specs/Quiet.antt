-- WHEN A CENSUS MUST LIST EXACTLY THE REACHED OBJECTS: after `gc`, `collect` with `= ok`, and `gc` in a row.
use Rattle.std.specs.Prelude.{◌↔◌, Bool, true, false, List, [], ◌∷◌, Option, Some}
use Rattle.cc_lists.specs.Members.{Among}
use Rattle.cc_names.specs.Allowance.{Allowance}
use Rattle.cc_names.specs.declared.name.Name.{Name}
use Rattle.cc_model.specs.declared.command.Command.TheVariants.{Nothing, Collect, Gc, Census}
use Rattle.cc_model.specs.declared.item.Reply.{Reply}
use Rattle.cc_model.specs.declared.item.Reply.TheVariants.{Done}
use Rattle.cc_model.specs.Answers.{Answer}
use Rattle.cc_model.specs.Asks.{Ask, taken}
use Rattle.cc_model.specs.Reached.{Reached}
use Rattle.cc_model.specs.Lawful.{State, start, next}

-- how much of the row was asked last
pub data Row : Type 0 where
  nothing_yet : Row
  after_gc : Row
  after_collect : Row
  after_all : Row

abbrev pub is_done : Option Reply → Bool
is_done (Some Done) = true
is_done _ = false

abbrev pub row_after_gc : Row → Row
row_after_gc after_collect = after_all
row_after_gc nothing_yet = after_gc
row_after_gc after_gc = after_gc
row_after_gc after_all = after_gc

abbrev pub row_after_collect : Row → Option Reply → Row
row_after_collect after_gc reply = elim (is_done reply) [ true ↦ after_collect | false ↦ nothing_yet ]
row_after_collect after_all reply = elim (is_done reply) [ true ↦ after_collect | false ↦ nothing_yet ]
row_after_collect nothing_yet reply = nothing_yet
row_after_collect after_collect reply = nothing_yet

-- a line that asks nothing leaves the row; each other line, a refused one among them, breaks it
abbrev pub row_after : Row → Ask → Answer → Row
row_after row (taken Nothing) a = row
row_after row (taken Gc) a = row_after_gc row
row_after row (taken Collect) a = row_after_collect row a.reply
row_after row ask a = nothing_yet

-- exactly the reached names are listed
abbrev pub ListsReached : State → Type 0
ListsReached s = (x : Name) → Among x s.listed ↔ Reached s.graph x

abbrev pub CensusIsQuiet : Row → State → Ask → Type 0
CensusIsQuiet after_all s (taken Census) = ListsReached s
CensusIsQuiet row s ask = Unit {0}

abbrev pub IsQuietFrom : Row → State → List Ask → List Answer → Type 0
IsQuietFrom row s [] answers = Unit {0}
IsQuietFrom row s (ask ∷ asks) [] = Unit {0}
IsQuietFrom row s (ask ∷ asks) (a ∷ answers) = CensusIsQuiet row s ask × IsQuietFrom (row_after row ask a) (next s ask a) asks answers

-- THE TRANSCRIPT IS QUIET
abbrev pub IsQuiet : Allowance → List Ask → List Answer → Type 0
IsQuiet limits asks answers = IsQuietFrom nothing_yet (start limits) asks answers
