-- THE HEADLINE IN ITS PARTS: what it says of a transcript, in the order of the sentence.
use Rattle.std.specs.Prelude.{◌≡◌, ℕ, slice_index_or, ◌↔◌, ◌⊎◌, IsTrue, List, [], length, Option, Some, None}
use Rattle.std.specs.List.{list_all}
use Rattle.cc_lists.specs.Members.{Among}
use Rattle.cc_names.specs.Allowance.{Allowance}
use Rattle.cc_names.specs.declared.name.Name.{Name}
use Rattle.cc_model.specs.declared.command.Command.{Command}
use Rattle.cc_model.specs.declared.command.Command.TheVariants.{Nothing, Why, Census, Deref}
use Rattle.cc_model.specs.declared.item.Refusal.TheVariants.{NoMemory, Long, Line}
use Rattle.cc_model.specs.declared.item.Reply.{Reply}
use Rattle.cc_model.specs.declared.item.Reply.TheVariants.{Named, Done, Refused, Nothing as nothing}
use Rattle.cc_model.specs.declared.item.Event.TheVariants.{Unlinked, Freed}
use Rattle.cc_model.specs.Answers.{Answer, replying, explaining}
use Rattle.cc_model.specs.Asks.{Ask, long, bad, taken}
use Rattle.cc_model.specs.Graph.{Graph}
use Rattle.cc_model.specs.Reached.{Reached}
use Rattle.cc_model.specs.Derivations.{leads_made, path_to}
use Rattle.cc_model.specs.Paths.{IsPathTo}
use Rattle.cc_model.specs.Lawful.{State, RepliesWith, census_of}
use Rattle.cc_laws_run.specs.Running.{ask_in_range}
use Rattle.cc_laws_headline.specs.Exchanges.{Exchange, IsExchangeOf, before, after, HasJustCollected}

-- a reply is the graph's, or it is want of memory where the graph does not refuse the command and the command may want
-- some; of a census, of `why` and of `deref` nothing is said here
abbrev pub CommandReplyIs : State → Command → Option Reply → Type 0
CommandReplyIs s c None = ⊥
CommandReplyIs s c (Some reply) = RepliesWith s c reply

abbrev pub ReplyIs : State → Ask → Option Reply → Type 0
ReplyIs s long reply = reply ≡ Some (Refused Long)
ReplyIs s bad reply = reply ≡ Some (Refused Line)
ReplyIs s (taken Nothing) reply = reply ≡ None
ReplyIs s (taken Census) reply = Unit {0}
ReplyIs s (taken (Why x)) reply = Unit {0}
ReplyIs s (taken (Deref d w)) reply = Unit {0}
ReplyIs s (taken c) reply = CommandReplyIs s c reply

-- a census lists the names of what was made and not freed, natives first, and says how many they are
abbrev pub ListsWhatIsThere : State → Ask → Answer → Type 0
ListsWhatIsThere s ask a = ask ≡ taken Census → a ≡ census_of s.listed

-- why an object is alive: the steps that the graph derives, which are a path to it, and `= ok`; or `= none` alone, where nothing
-- reaches it; or `! nomem` alone
pub data TellsWhy (g : Graph) (x : Name) : Answer → Type 0 where
  by_path : IsPathTo g x (path_to (leads_made g) x) → TellsWhy g x (explaining (path_to (leads_made g) x) Done)
  unreached : ¬ (Reached g x) → TellsWhy g x (explaining [] nothing)
  unmet : TellsWhy g x (replying [] (Refused NoMemory))

-- what a weak register gives: `= none` exactly where it is empty, or an unlink or a free line had the native that it notes; and else
-- that native
pub data GivesBack (s : State) (w : ℕ) : Option Reply → Type 0 where
  empty : slice_index_or s.graph.weak_registers w None ≡ None → GivesBack s w (Some nothing)
  has_ended : (x : Name) → slice_index_or s.graph.weak_registers w None ≡ Some x → Among x s.ended → GivesBack s w (Some nothing)
  comes_back : (x : Name) → slice_index_or s.graph.weak_registers w None ≡ Some x → ¬ (Among x s.ended) → GivesBack s w (Some (Named x))

-- nothing that is unlinked or freed is reached from the registers of the graph after the ask
abbrev pub SparesReached : State → Answer → Type 0
SparesReached s a = (x : Name) → Among (Unlinked x) a.events ⊎ Among (Freed x) a.events → ¬ (Reached s.graph x)

-- what is listed is exactly what the registers of the graph reach
abbrev pub CensusIsExact : State → Answer → Type 0
CensusIsExact s a = (x : Name) → Among x a.listed ↔ Reached s.graph x

-- IT IS THE TRANSCRIPT OF AN OBJECT GRAPH FROM WHICH NOTHING IS FREED: the graph begins empty, and each ask makes of it
-- what the command means (`next`); nothing is ever taken out of it
pub record TellsOfAGraph (limits : Allowance) (asks : List Ask) (answers : List Answer) : Type 0 where
  -- each ask has an answer
  pub one_each : length asks ≡ length answers
  -- each reply but `! nomem`, the census, `why` and `deref` is that graph's
  pub replies : (t : Exchange) → IsExchangeOf asks answers t → ReplyIs (before limits t) t.ask t.answer.reply
  pub censuses : (t : Exchange) → IsExchangeOf asks answers t → ListsWhatIsThere (before limits t) t.ask t.answer
  -- `why` is answered by a path of that graph, or by `= none` exactly where no root reaches the object; the asks are in range,
  -- as all asks of an input are
  pub paths : (t : Exchange) (x : Name) → IsExchangeOf asks answers t → IsTrue (list_all ask_in_range asks) → t.ask ≡ taken (Why x) →
      TellsWhy (before limits t).graph x t.answer
  -- `deref` is answered by the native that its weak register notes, or by `= none` exactly where that has ended, or none is noted
  pub derefs : (t : Exchange) (d w : ℕ) → IsExchangeOf asks answers t → t.ask ≡ taken (Deref d w) → GivesBack (before limits t) w t.answer.reply
  -- nothing is unlinked or freed that a root then reaches
  pub spares : (t : Exchange) → IsExchangeOf asks answers t → SparesReached (after limits t) t.answer
  -- and after `gc`, `collect`, `gc` in a row, the `collect` not refused memory, the census lists exactly the reachable objects
  pub lists : (t : Exchange) → IsExchangeOf asks answers t → HasJustCollected t.asked t.told → t.ask ≡ taken Census → CensusIsExact (before limits t) t.answer
