-- WHEN A TRANSCRIPT IS ONE OF AN OBJECT GRAPH FROM WHICH NOTHING IS FREED.
use Rattle.std.specs.Prelude.{◌≡◌, ℕ, ◌+◌, Bool, true, false, not, ◌&&◌, ◌||◌, ◌⊎◌, IsTrue, List, [], ◌∷◌, length, flat_map, Option, Some, None, is_none, option_and_then, slice_index_or, nat_lt, nat_le}
use Rattle.cc_lists.specs.Members.{Among, has}
use Rattle.cc_names.specs.Allowance.{Allowance}
use Rattle.cc_names.specs.declared.name.Name.{Name}
use Rattle.cc_names.specs.declared.register.Reg.TheVariants.{N, S}
use Rattle.cc_names.specs.Names.{same_name, is_native, natives_in}
use Rattle.cc_model.specs.declared.command.Command.{Command}
use Rattle.cc_model.specs.declared.command.Command.TheVariants.{Native, Script, WeakMap, Proxy, SetEntry, Wrap}
use Rattle.cc_model.specs.declared.item.Refusal.TheVariants.{NoMemory, Long, Line}
use Rattle.cc_model.specs.declared.item.Reply.{Reply}
use Rattle.cc_model.specs.declared.item.Reply.TheVariants.{Refused, Census as counted}
use Rattle.cc_model.specs.declared.item.Event.{Event}
use Rattle.cc_model.specs.declared.item.Event.TheVariants.{Unlinked, Freed, Abandoned}
use Rattle.cc_model.specs.Answers.{Answer, no_answer, replying, listing}
use Rattle.cc_model.specs.Asks.{Ask, long, bad, taken}
use Rattle.cc_model.specs.Mutating.{takes_memory_to_say, silence, path, census, whole, Class, says, does, forgets, reads_weak, runs as runs_some, collects_scripts, class_of, is_units, is_script_collection}
use Rattle.cc_model.specs.Checks.{refusal_of, value_at, reflector_of, named_or_nothing}
use Rattle.cc_model.specs.Graph.{Graph, empty_graph, register, set_register, objects_of, step, reply_to}
use Rattle.cc_model.specs.Reached.{Reached}
use Rattle.cc_model.specs.Derivations.{leads_made, why_of}
use Rattle.cc_model.specs.Listed.{listed, after_event, census_order, ended_after}

-- the graph so far, the names that a census would list, and those that have ended: an unlink or a free line had them
pub record State : Type 0 where
  pub graph : Graph
  pub listed : List Name
  pub ended : List Name

abbrev pub state_of : Graph → List Name → List Name → State
state_of g names ended = record { graph = g; listed = names; ended = ended }

abbrev pub start : Allowance → State
start limits = state_of (empty_graph limits) [] []

abbrev pub is_without_memory : Reply → Bool
is_without_memory (Refused NoMemory) = true
is_without_memory _ = false

-- WHAT A WEAK REGISTER GIVES, beside the names that have ended: the native that it notes, where that has not
abbrev pub unless_ended : List Name → Name → Option Name
unless_ended ended x = elim (has same_name ended x) [ true ↦ None | false ↦ Some x ]

abbrev pub noted_in : List Name → Graph → ℕ → Option Name
noted_in ended g w = option_and_then (unless_ended ended) (slice_index_or g.weak_registers w None)

-- A STEP OF THE GRAPH BESIDE THE ENDED NAMES: they decide what a register gets from a weak one, and nothing else
abbrev pub step_of : List Name → Graph → Command → Class → Graph
step_of ended g c (reads_weak d w) = set_register g (N d) (noted_in ended g w)
step_of ended g c _ = step g c

abbrev pub step_with : List Name → Graph → Command → Graph
step_with ended g c = step_of ended g c (class_of c)

-- and the reply to it
abbrev pub reply_of_class : List Name → Graph → Command → Class → Reply
reply_of_class ended g c (reads_weak d w) = named_or_nothing (noted_in ended g w)
reply_of_class ended g c _ = reply_to g c

abbrev pub reply_with : List Name → Graph → Command → Reply
reply_with ended g c = reply_of_class ended g c (class_of c)

-- want of memory leaves the graph
abbrev pub graph_after : List Name → Graph → Command → Option Reply → Graph
graph_after ended g c None = g
graph_after ended g c (Some reply) = elim (is_without_memory reply) [ true ↦ g | false ↦ step_with ended g c ]

abbrev pub next : State → Ask → Answer → State
next s long a = s
next s bad a = s
next s (taken c) a = state_of (graph_after s.ended s.graph c a.reply) (listed s.listed c a.events a.reply) (ended_after s.ended a.events)

-- The first clause: the reply

abbrev pub is_listed : List Name → Option Name → Bool
is_listed names None = false
is_listed names (Some x) = has same_name names x

-- the commands of the mutator that may want memory: `wset` for a new entry alone, `wrap` where its reflector is not listed
abbrev pub deed_may_want_memory : State → Command → Bool
deed_may_want_memory s (Native d n) = true
deed_may_want_memory s (Script d n) = true
deed_may_want_memory s (WeakMap d) = true
deed_may_want_memory s (Proxy d r) = true
deed_may_want_memory s (SetEntry m k (Some v)) = is_none (value_at (objects_of s.graph) (register s.graph (S m)) (register s.graph (S k)))
deed_may_want_memory s (Wrap d n) = not (is_listed s.listed (reflector_of (register s.graph (N n))))
deed_may_want_memory s _ = false

abbrev pub class_may_want_memory : State → Command → Class → Bool
class_may_want_memory s c (says q) = takes_memory_to_say q
class_may_want_memory s c does = deed_may_want_memory s c
class_may_want_memory s c forgets = false
class_may_want_memory s c (reads_weak d w) = false
class_may_want_memory s c (runs_some u) = true
class_may_want_memory s c (collects_scripts u) = false

-- the commands that may want memory
abbrev pub may_want_memory : State → Command → Bool
may_want_memory s c = class_may_want_memory s c (class_of c)

-- want of memory, where the graph gives no refusal
pub record WantsMemory (s : State) (c : Command) (reply : Reply) : Type 0 where
  pub refused : reply ≡ Refused NoMemory
  pub command_may : IsTrue (may_want_memory s c)
  pub no_other : refusal_of (objects_of s.graph) c ≡ None

abbrev pub RepliesWith : State → Command → Reply → Type 0
RepliesWith s c reply = (reply ≡ reply_with s.ended s.graph c) ⊎ WantsMemory s c reply

-- The second clause: a refused ask has no events, but an abandoned collection

abbrev pub runs_units : Command → Bool
runs_units c = is_units (class_of c)

abbrev pub is_refused : Reply → Bool
is_refused (Refused refusal) = true
is_refused _ = false

-- whether the collection of the command was refused memory
abbrev pub is_abandoning : Command → Reply → Bool
is_abandoning c reply = runs_units c && is_without_memory reply

-- The third and fourth: what is freed or unlinked is listed, and no root reaches it after the ask

abbrev pub is_gc : Command → Bool
is_gc c = is_script_collection (class_of c)

-- the commands that collect: `slice`, `collect`, `gc` and `mark`
abbrev pub collects : Command → Bool
collects c = runs_units c || is_gc c

-- script objects are freed under these alone: `slice` and `collect` first end a marking that goes on
abbrev pub may_free : Command → Name → Bool
may_free c x = is_native x || collects c

-- natives are unlinked under these alone
abbrev pub may_unlink : Command → Name → Bool
may_unlink c x = is_native x && collects c

abbrev pub MayBe : Graph → List Name → Command → Event → Type 0
MayBe g names c (Freed x) = Among x names × (¬ (Reached g x)) × IsTrue (may_free c x)
MayBe g names c (Unlinked x) = Among x names × (¬ (Reached g x)) × IsTrue (may_unlink c x)
MayBe g names c Abandoned = Unit {0}

-- g is the graph after the ask; the names are those listed before it, without what was freed since
abbrev pub EachMayBe : Graph → List Name → Command → List Event → Type 0
EachMayBe g names c [] = Unit {0}
EachMayBe g names c (e ∷ es) = MayBe g names c e × EachMayBe g (after_event names e) c es

-- The fourth too: the unlinked numbers rise

abbrev pub unlinked_in : Event → List ℕ
unlinked_in (Unlinked x) = natives_in x
unlinked_in (Freed x) = []
unlinked_in Abandoned = []

abbrev pub unlinked_numbers : List Event → List ℕ
unlinked_numbers es = flat_map unlinked_in es

-- 0 where the second number is greater than the first, 1 where a new run begins
abbrev pub break_between : ℕ → ℕ → ℕ
break_between i j = elim (nat_lt i j) [ true ↦ 0 | false ↦ 1 ]

-- the number of rising runs in a list
abbrev pub runs : List ℕ → ℕ
runs [] = 0
runs (i ∷ []) = 1
runs (i ∷ j ∷ js) = break_between i j + runs (j ∷ js)

-- a whole collection may end another one first, so its numbers are at most two rising runs
abbrev pub runs_in : Class → ℕ
runs_in (runs_some whole) = 2
runs_in _ = 1

abbrev pub runs_allowed : Command → ℕ
runs_allowed c = runs_in (class_of c)

-- The fifth: where an abandonment stands

abbrev pub is_abandonment : Event → Bool
is_abandonment Abandoned = true
is_abandonment (Freed x) = false
is_abandonment (Unlinked x) = false

abbrev pub has_none : List Event → Bool
has_none [] = true
has_none (e ∷ es) = not (is_abandonment e) && has_none es

-- exactly once, and last
abbrev pub ends_with_one : List Event → Bool
ends_with_one [] = false
ends_with_one (e ∷ []) = is_abandonment e
ends_with_one (e ∷ f ∷ es) = not (is_abandonment e) && ends_with_one (f ∷ es)

-- at most once, and first
abbrev pub begins_with_at_most_one : List Event → Bool
begins_with_at_most_one [] = true
begins_with_at_most_one (e ∷ es) = has_none es

-- last under a collection that was refused memory, first under `gc` and `mark`, nowhere else
abbrev pub has_abandonment_in_place : Command → Reply → List Event → Bool
has_abandonment_in_place c reply es = elim (is_abandoning c reply) [
  | true ↦ ends_with_one es
  | false ↦ elim (is_gc c) [ true ↦ begins_with_at_most_one es | false ↦ has_none es ]
]

-- The answer to each ask

-- all five clauses, for a command that is answered by events and a reply
pub record AnswersCommand (s : State) (c : Command) (reply : Reply) (events : List Event) : Type 0 where
  pub replies : RepliesWith s c reply
  pub quiet : IsTrue (is_refused reply && not (is_abandoning c reply)) → events ≡ []
  pub each : EachMayBe (graph_after s.ended s.graph c (Some reply)) s.listed c events
  pub rising : IsTrue (nat_le (runs (unlinked_numbers events)) (runs_allowed c))
  pub abandonment : IsTrue (has_abandonment_in_place c reply events)

abbrev pub ReplyAnswers : State → Command → Answer → Option Reply → Type 0
ReplyAnswers s c a None = ⊥
ReplyAnswers s c a (Some reply) = AnswersCommand s c reply a.events

-- what a census answers: the listed names in census order, and their number
abbrev pub census_of : List Name → Answer
census_of names = listing (census_order names) (counted (length names))

-- what `why` answers: how the registers of the graph reach the object; or that there is no memory
abbrev pub Explains : Graph → Name → Answer → Type 0
Explains g x a = (a ≡ why_of (leads_made g) x) ⊎ (a ≡ replying [] (Refused NoMemory))

-- what is told has its own form: nothing, the listed names, or a way; all else is answered by events and a reply
abbrev pub AnswersClass : State → Command → Answer → Class → Type 0
AnswersClass s c a (says silence) = a ≡ no_answer
AnswersClass s c a (says census) = a ≡ census_of s.listed
AnswersClass s c a (says (path x)) = Explains s.graph x a
AnswersClass s c a _ = (a.listed ≡ []) × (a.steps ≡ []) × ReplyAnswers s c a a.reply

abbrev pub AnswersTaken : State → Command → Answer → Type 0
AnswersTaken s c a = AnswersClass s c a (class_of c)

abbrev pub AnswersAsk : State → Ask → Answer → Type 0
AnswersAsk s long a = a ≡ replying [] (Refused Long)
AnswersAsk s bad a = a ≡ replying [] (Refused Line)
AnswersAsk s (taken c) a = AnswersTaken s c a

-- an answer to each ask, in order
abbrev pub IsLawfulFrom : State → List Ask → List Answer → Type 0
IsLawfulFrom s [] [] = Unit {0}
IsLawfulFrom s (ask ∷ asks) (a ∷ answers) = AnswersAsk s ask a × IsLawfulFrom (next s ask a) asks answers
IsLawfulFrom s [] (a ∷ answers) = ⊥
IsLawfulFrom s (ask ∷ asks) [] = ⊥

-- THE TRANSCRIPT IS LAWFUL
abbrev pub IsLawful : Allowance → List Ask → List Answer → Type 0
IsLawful limits asks answers = IsLawfulFrom (start limits) asks answers
