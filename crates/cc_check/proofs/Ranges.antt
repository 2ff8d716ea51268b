-- WHAT IS LEFT OF A SCRIPT is in range, however its lines are read.
use Rattle.std.proofs.Common.{ℕ, List, [], ◌∷◌, ◌++◌, codes, subst, ⊎_elim}
use Rattle.std.specs.Prelude.{IsTrue}
use Rattle.std.specs.List.{list_all}
use Rattle.std.proofs.lemmas.Bool.{and_parts}
use Rattle.cc_lists.specs.Members.{Among}
use Rattle.cc_model.specs.declared.dialect.Dialect.{Dialect}
use Rattle.cc_model.specs.declared.dialect.Dialect.TheVariants.{Start, One, Two}
use Rattle.cc_model.specs.Asks.{Ask, taken, command_of, ask_of, asks_from}
use Rattle.cc_model.specs.Lines.{lines_of}
use Rattle.cc_laws_run.specs.Running.{ask_in_range}
use Rattle.cc_laws_run.proofs.PlainRanges.{asks_of-range}
use Rattle.cc_verdict.specs.GoingOn.{AreInRange}
use Rattle.cc_check.specs.declared.script.Script.{Script}
use Rattle.cc_check.specs.Standing.{asks_left}

-- what lines ask is in range: behind a line that asks for version 2 they are read in it, and behind another one in version 1
lines-in_range : (v : Dialect) (bytes : List ℕ) → IsTrue (list_all ask_in_range (asks_from v (lines_of bytes)))
unfolding command_of
lines-in_range Start bytes = asks_of-range bytes
lines-in_range One bytes = (and_parts (ask_in_range (ask_of Start (codes "?"))) (list_all ask_in_range (asks_from One (lines_of bytes))) (asks_of-range (codes "?\n" ++ bytes))).1
lines-in_range Two bytes =
    (and_parts (ask_in_range (ask_of Start (codes "version 2"))) (list_all ask_in_range (asks_from Two (lines_of bytes))) (asks_of-range (codes "version 2\n" ++ bytes))).1

each : (asks : List Ask) (ask : Ask) → IsTrue (list_all ask_in_range asks) → Among ask asks → IsTrue (ask_in_range ask)
each [] ask all m = absurd m
each (a ∷ asks) ask all m =
    let p = and_parts (ask_in_range a) (list_all ask_in_range asks) all in
    ⊎_elim (λ e. subst (λ b. IsTrue (ask_in_range b)) e p.0) (λ t. each asks ask p.1 t) m

-- each command that is left is in range
pub left-in_range : (s : Script) → AreInRange (asks_left s)
left-in_range s c m = each (asks_left s) (taken c) (lines-in_range s.dialect s.left.now) m
