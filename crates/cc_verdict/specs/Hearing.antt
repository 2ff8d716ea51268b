-- AN ANSWER WHILE IT IS HEARD: which event may come next, and which reply may end it.
use Rattle.std.specs.Prelude.{◌≡◌, ℕ, ◌+◌, Bool, true, false, not, ◌&&◌, ◌||◌, ◌⊎◌, IsTrue, List, [], ◌∷◌, Option, Some, None, nat_le}
use Rattle.cc_lists.specs.Members.{Among}
use Rattle.cc_names.specs.declared.name.Name.{Name}
use Rattle.cc_names.specs.Names.{number_of}
use Rattle.cc_model.specs.Texts.{text_of_event, text_of_reply}
use Rattle.cc_model.specs.declared.command.Command.{Command}
use Rattle.cc_model.specs.declared.command.Command.TheVariants.{Nothing, Why, Census}
use Rattle.cc_model.specs.declared.item.Refusal.TheVariants.{NoMemory}
use Rattle.cc_model.specs.declared.item.Reply.{Reply}
use Rattle.cc_model.specs.declared.item.Reply.TheVariants.{Refused}
use Rattle.cc_model.specs.declared.item.Event.{Event}
use Rattle.cc_model.specs.declared.item.Event.TheVariants.{Unlinked, Freed, Abandoned}
use Rattle.cc_model.specs.Answers.{replying}
use Rattle.cc_model.specs.Asks.{Ask, taken}
use Rattle.cc_model.specs.Graph.{Graph}
use Rattle.cc_model.specs.Reached.{Reached}
use Rattle.cc_model.specs.Listed.{after_event, after_reply, ended_with}
use Rattle.cc_model.specs.Lawful.{step_with, reply_with, break_between, is_gc, is_refused, may_free, may_unlink, runs_allowed, runs_units}
use Rattle.cc_model.specs.Quiet.{Row, row_after}
use Rattle.cc_verdict.specs.Following.{Place, place, Follows}

-- what was told of an answer so far: the names that are listed still, and those that have ended; the number of the native that was
-- unlinked last, and how many rising runs these numbers make; whether there was an event at all, and an abandonment
pub record Told : Type 0 where
  pub names : List Name
  pub ended : List Name
  pub last : Option ℕ
  pub runs : ℕ
  pub any : Bool
  pub abandoned : Bool

abbrev pub nothing_told : List Name → List Name → Told
nothing_told names ended = record { names = names; ended = ended; last = None; runs = 0; any = false; abandoned = false }

-- how many runs begin with one more number
abbrev pub runs_begun : Option ℕ → ℕ → ℕ
runs_begun None k = 1
runs_begun (Some j) k = break_between j k

abbrev pub runs_with : Told → Name → ℕ
runs_with t x = t.runs + runs_begun t.last (number_of x)

abbrev pub told_after : Told → Event → Told
told_after t (Freed x) = record t { names = after_event t.names (Freed x); ended = ended_with t.ended (Freed x); any = true }
told_after t (Unlinked x) = record t { ended = ended_with t.ended (Unlinked x); last = Some (number_of x); runs = runs_with t x; any = true }
told_after t Abandoned = record t { any = true; abandoned = true }

-- an answer that is heard: to which command, with which reply by the graph, which is the one after the command
pub record Hearing : Type 0 where
  pub command : Command
  pub reply : Reply
  pub graph : Graph
  pub row : Row
  pub told : Told

-- those commands are heard whose answers have events and a reply; the others are recited, or have no answer
abbrev pub is_heard : Command → Bool
is_heard Nothing = false
is_heard Census = false
is_heard (Why x) = false
is_heard _ = true

-- as an answer begins
abbrev pub hearing : Place → Command → Hearing
hearing p c = record {
  command = c;
  reply = reply_with p.state.ended p.state.graph c;
  graph = step_with p.state.ended p.state.graph c;
  row = p.row;
  told = nothing_told p.state.listed p.state.ended;
}

abbrev pub with_told : Hearing → Event → Hearing
with_told h e = record h { told = told_after h.told e }

-- nothing follows an abandonment under `slice` and `collect`
abbrev pub may_go_on : Command → Told → Bool
may_go_on c t = is_gc c || not t.abandoned

-- whether an event is of a kind that may come here
abbrev pub may_come : Command → Told → Event → Bool
may_come c t (Freed x) = may_free c x && may_go_on c t
may_come c t (Unlinked x) = may_unlink c x && (may_go_on c t && nat_le (runs_with t x) (runs_allowed c))
may_come c t Abandoned = elim (is_gc c) [ true ↦ not t.any | false ↦ runs_units c && not t.abandoned ]

-- what is freed or unlinked is listed still, and no root reaches it
abbrev pub IsOfGarbage : Graph → List Name → Event → Type 0
IsOfGarbage g names (Freed x) = Among x names × (¬ (Reached g x))
IsOfGarbage g names (Unlinked x) = Among x names × (¬ (Reached g x))
IsOfGarbage g names Abandoned = Unit {0}

-- THE EVENT MAY COME NEXT
pub record MayCome (h : Hearing) (e : Event) : Type 0 where
  pub kind : IsTrue (may_come h.command h.told e)
  pub garbage : IsOfGarbage h.graph h.told.names e

-- the reply is the graph's: a refusal comes without events, and the reply to a collection without an abandonment
pub record EndsAsTheGraph (h : Hearing) (reply : Reply) : Type 0 where
  pub same : reply ≡ h.reply
  pub quiet : IsTrue (is_refused reply) → h.told.any ≡ false
  pub whole : IsTrue (runs_units h.command) → h.told.abandoned ≡ false

-- the collection was refused memory, and is abandoned
pub record EndsAbandoned (h : Hearing) (reply : Reply) : Type 0 where
  pub refused : reply ≡ Refused NoMemory
  pub units : IsTrue (runs_units h.command)
  pub abandoned : h.told.abandoned ≡ true

-- THE REPLY MAY END THE ANSWER
abbrev pub MayEnd : Hearing → Reply → Type 0
MayEnd h reply = EndsAsTheGraph h reply ⊎ EndsAbandoned h reply

-- where the check stands after it
abbrev pub place_ended : Hearing → Reply → Place
place_ended h reply =
    place h.graph (after_reply h.told.names h.command (Some reply)) h.told.ended (row_after h.row (taken h.command) (replying [] reply))

-- THESE LINES END THE ANSWER, and go on as may follow: events, the reply, and the rest
pub data Hears (asks : List Ask) : Hearing → List (List ℕ) → Type 0 where
  ends : (h : Hearing) (reply : Reply) (line : List ℕ) (lines : List (List ℕ)) → line ≡ text_of_reply reply → MayEnd h reply →
      Follows (place_ended h reply) asks lines → Hears asks h (line ∷ lines)
  comes : (h : Hearing) (e : Event) (line : List ℕ) (lines : List (List ℕ)) → line ≡ text_of_event e → MayCome h e →
      Hears asks (with_told h e) lines → Hears asks h (line ∷ lines)
