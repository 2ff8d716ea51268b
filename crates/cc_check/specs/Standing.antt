-- WHAT THE CHECKER'S VALUES MEAN: the asks that are left, a line, an answer so far, and where the check stands.
use Rattle.std.specs.Prelude.{◌≡◌, ℕ, ◌≤◌, ◌<◌, Bool, true, false, ◌||◌, IsTrue, List, [], length, reverse, Option, Some, None}
use Rattle.cc_lists.specs.Members.{Among, has}
use Rattle.cc_names.specs.declared.name.Name.{Name}
use Rattle.cc_names.specs.Names.{number_of, same_name}
use Rattle.cc_model.specs.declared.command.Command.{Command}
use Rattle.cc_model.specs.declared.command.Command.TheVariants as command
use Rattle.cc_model.specs.declared.item.Event.{Event}
use Rattle.cc_model.specs.declared.item.Event.TheVariants.{Unlinked, Freed, Abandoned}
use Rattle.cc_model.specs.declared.item.Reply.TheVariants.{Named}
use Rattle.cc_model.specs.Asks.{Ask, long, bad, taken, asks_from}
use Rattle.cc_model.specs.Lawful.{is_gc, is_refused, runs_units}
use Rattle.cc_model.specs.Lines.{lines_of}
use Rattle.cc_model.specs.Mutating.{reads_weakly}
use Rattle.cc_model.specs.Graph.{Graph}
use Rattle.cc_model.specs.WellMade.{IsWellMade, was_made}
use Rattle.cc_model.specs.Derivations.{derivation, leads_made}
use Rattle.cc_model.specs.Quiet as quiet
use Rattle.cc_verdict.specs.Following.{Place, place}
use Rattle.cc_verdict.specs.GoingOn.{ListsAll, ListsAllIn}
use Rattle.cc_verdict.specs.Hearing.{Told, Hearing}
use Rattle.cc_verdict.specs.Positions.{Position, reciting, within}
use Rattle.cc_check.specs.declared.asked.Asked.{Asked}
use Rattle.cc_check.specs.declared.asked.Asked.TheVariants as asked
use Rattle.cc_check.specs.declared.row.Row.{Row}
use Rattle.cc_check.specs.declared.row.Row.TheVariants.{NothingYet, AfterGc, AfterCollect, AfterAll}
use Rattle.cc_check.specs.declared.heard.Heard.{Heard}
use Rattle.cc_check.specs.declared.heard.Heard.TheVariants.{Text, Long}
use Rattle.cc_check.specs.declared.answer.Answer.{Answer}
use Rattle.cc_check.specs.declared.script.Script.{Script}
use Rattle.cc_check.specs.declared.known.Known.{Known}
use Rattle.cc_check.specs.declared.judge.Judge.{Judge}

abbrev pub ask_meant : Asked → Ask
ask_meant asked.Long = long
ask_meant asked.Bad = bad
ask_meant (asked.Taken c) = taken c

abbrev pub row_meant : Row → quiet.Row
row_meant NothingYet = quiet.nothing_yet
row_meant AfterGc = quiet.after_gc
row_meant AfterCollect = quiet.after_collect
row_meant AfterAll = quiet.after_all

-- the asks that are left of a script
abbrev pub asks_left : Script → List Ask
asks_left s = asks_from s.dialect (lines_of s.left.now)

-- a line is what was heard
abbrev pub IsHeard : Heard → List ℕ → Type 0
IsHeard (Text text) line = line ≡ text.now
IsHeard Long line = 120 < length line

-- the number in an event fits into 32 bits
abbrev pub IsNumberedIn : Event → Type 0
IsNumberedIn (Freed x) = number_of x ≤ 4294967295
IsNumberedIn (Unlinked x) = number_of x ≤ 4294967295
IsNumberedIn Abandoned = Unit {0}

-- what was told of an answer so far, with the names that are listed still, and those that have ended
abbrev pub told_of : Answer → List Name → List Name → Told
told_of a names ended = record { names = names; ended = ended; last = a.last; runs = a.runs; any = a.any; abandoned = a.abandoned }

-- an answer that is heard, after whose command the graph is this
abbrev pub hearing_of : Answer → Graph → List Name → List Name → Row → Hearing
hearing_of a g names ended row = record { command = a.command; reply = a.reply; graph = g; row = row_meant row; told = told_of a names ended }

-- between two answers, or within one that is recited, and within one that is heard
abbrev pub place_of : Judge → Place
place_of j = place j.graph j.listed j.ended (row_meant j.row)

abbrev pub hearing_in : Judge → Answer → Hearing
hearing_in j a = hearing_of a j.graph j.listed j.ended j.row

-- WHERE THE CHECK STANDS
abbrev pub position_in : Judge → Option Answer → Position
position_in j None = reciting (reverse j.recital.items) (place_of j)
position_in j (Some a) = within (hearing_in j a)

abbrev pub position_of : Judge → Position
position_of j = position_in j j.answer

-- what is known of the reached objects is of this graph
abbrev pub IsFoundIn : Known → Graph → Type 0
IsFoundIn k g = k.reach ≡ derivation (leads_made g)

abbrev pub IsOf : Known → Graph → Type 0
IsOf k g = k.is_found ≡ true → IsFoundIn k g

-- whether an ask reads a weak register
abbrev pub ask_reads : Ask → Bool
ask_reads (taken c) = reads_weakly c
ask_reads _ = false

-- whether a command makes an object that no census listed before
abbrev pub makes : Command → Bool
makes (command.Native d n) = true
makes (command.Script d n) = true
makes (command.WeakMap d) = true
makes (command.Proxy d s) = true
makes _ = false

-- whether a census lists what the reply to a command names
abbrev pub lists : Command → Bool
lists (command.Wrap d s) = true
lists c = makes c

-- what the reply names and a census lists, was made; what the command made is not listed yet
pub record IsNew (g : Graph) (names : List Name) (a : Answer) : Type 0 where
  pub made : (x : Name) → a.reply ≡ Named x → lists a.command ≡ true → IsTrue (was_made g x)
  pub unlisted : (x : Name) → a.reply ≡ Named x → makes a.command ≡ true → has same_name names x ≡ false

abbrev pub IsNewIn : Judge → Option Answer → Type 0
IsNewIn j None = Unit {0}
IsNewIn j (Some a) = IsNew j.graph j.listed a × (j.recital.items ≡ [])

-- the graph refuses no collection that is heard
abbrev pub IsGranted : Option Answer → Type 0
IsGranted None = Unit {0}
IsGranted (Some a) = IsTrue (is_gc a.command || runs_units a.command) → is_refused a.reply ≡ false

-- all that is reached is listed, between two answers or where the graph's reply ends one
abbrev pub ListsAllOf : Judge → Option Answer → Type 0
ListsAllOf j None = ListsAll j.graph j.listed
ListsAllOf j (Some a) = ListsAllIn (hearing_in j a)

-- WHAT STAYS SO: the graph is well made, what is listed was made, and what is known of the reached is of this graph. All that is
-- reached is listed where no weak register was read: one may bring back what led to an object that was freed
pub record IsKept (j : Judge) : Type 0 where
  pub well_made : IsWellMade j.graph
  pub limits : (j.graph.limits.natives ≤ 1000000) × (j.graph.limits.scripts ≤ 1000000)
  pub listed : (x : Name) → Among x j.listed → IsTrue (was_made j.graph x)
  pub new : IsNewIn j j.answer
  pub granted : IsGranted j.answer
  pub all_listed : j.has_read ≡ false → ListsAllOf j j.answer
  pub known : IsOf j.known j.graph
