-- THE VERDICT on a transcript: lawful and quiet as tests that compute.
use Rattle.std.specs.Prelude.{ℕ, Bool, true, false, not, ◌&&◌, ◌||◌, ◌==◌, List, [], ◌∷◌, Option, Some, None, is_none, nat_le, slice_index_or}
use Rattle.std.specs.List.{list_all}
use Rattle.cc_lists.specs.Members.{has}
use Rattle.cc_names.specs.Allowance.{Allowance}
use Rattle.cc_names.specs.declared.name.Name.{Name}
use Rattle.cc_names.specs.declared.register.Reg.{Reg}
use Rattle.cc_names.specs.declared.register.Reg.TheVariants.{N, S, W}
use Rattle.cc_names.specs.Names.{same_name}
use Rattle.cc_model.specs.declared.command.Command.{Command}
use Rattle.cc_model.specs.declared.command.Command.TheVariants.{Nothing, Why, Census}
use Rattle.cc_model.specs.declared.item.Refusal.{Refusal}
use Rattle.cc_model.specs.declared.item.Refusal.TheVariants.{Long, Line, Empty, Kind, Slot, Full, NoMemory}
use Rattle.cc_model.specs.declared.item.Reply.{Reply}
use Rattle.cc_model.specs.declared.item.Reply.TheVariants.{Named, Nothing as nothing_there, Done, Census as counted, Refused}
use Rattle.cc_model.specs.declared.item.Event.{Event}
use Rattle.cc_model.specs.declared.item.Event.TheVariants.{Unlinked, Freed, Abandoned}
use Rattle.cc_model.specs.Answers.{Answer, Step, no_answer, replying}
use Rattle.cc_model.specs.declared.item.Reason.{Reason}
use Rattle.cc_model.specs.declared.item.Reason.TheVariants.{Root, Edge, Pair}
use Rattle.cc_model.specs.Derivations.{leads_made, why_of}
use Rattle.cc_model.specs.Asks.{Ask, long, bad, taken, asks_of}
use Rattle.cc_model.specs.Checks.{refusal_of}
use Rattle.cc_model.specs.Graph.{Graph, objects_of}
use Rattle.cc_model.specs.Reached.{reached_names}
use Rattle.cc_model.specs.Listed.{after_event}
use Rattle.cc_model.specs.Lawful.{State, start, next, reply_with, graph_after, may_want_memory, is_without_memory, is_refused, is_abandoning, may_free, may_unlink, runs, unlinked_numbers, runs_allowed, has_abandonment_in_place, census_of}
use Rattle.cc_model.specs.Quiet.{Row, nothing_yet, after_all, row_after}
use Rattle.cc_worked.specs.Examples.{answers_to}

-- Equality as tests

abbrev pub all_refusals : List Refusal
all_refusals = Long ∷ Line ∷ Empty ∷ Kind ∷ Slot ∷ Full ∷ NoMemory ∷ []

-- the place of a refusal among all of them
abbrev pub place_of_refusal : Refusal → ℕ
place_of_refusal Long = 0
place_of_refusal Line = 1
place_of_refusal Empty = 2
place_of_refusal Kind = 3
place_of_refusal Slot = 4
place_of_refusal Full = 5
place_of_refusal NoMemory = 6

abbrev pub refusal_at : ℕ → Refusal
refusal_at i = slice_index_or all_refusals i NoMemory

abbrev pub same_reply : Reply → Reply → Bool
same_reply (Named x) (Named y) = same_name x y
same_reply nothing_there nothing_there = true
same_reply Done Done = true
same_reply (counted m) (counted n) = m == n
same_reply (Refused r) (Refused q) = place_of_refusal r == place_of_refusal q
same_reply _ _ = false

abbrev pub same_replies : Option Reply → Option Reply → Bool
same_replies None None = true
same_replies (Some a) (Some b) = same_reply a b
same_replies _ _ = false

abbrev pub same_names : List Name → List Name → Bool
same_names [] [] = true
same_names (x ∷ xs) (y ∷ ys) = same_name x y && same_names xs ys
same_names _ _ = false

abbrev pub same_register : Reg → Reg → Bool
same_register (N j) (N k) = j == k
same_register (S j) (S k) = j == k
same_register (W j) (W k) = j == k
same_register _ _ = false

abbrev pub same_reason : Reason → Reason → Bool
same_reason (Root p) (Root q) = same_register p q
same_reason (Edge x) (Edge y) = same_name x y
same_reason (Pair x k) (Pair y l) = same_name x y && same_name k l
same_reason _ _ = false

abbrev pub same_steps : List Step → List Step → Bool
same_steps [] [] = true
same_steps (s ∷ ss) (t ∷ ts) = same_name s.0 t.0 && (same_reason s.1 t.1 && same_steps ss ts)
same_steps _ _ = false

abbrev pub has_events : List Event → Bool
has_events [] = false
has_events (e ∷ es) = true

-- whether an answer is one of these names, these steps and this reply, without events
abbrev pub is_answer : Answer → List Name → List Step → Option Reply → Bool
is_answer a names steps reply = not (has_events a.events) && (same_names a.listed names && (same_steps a.steps steps && same_replies a.reply reply))

-- whether two answers without events are the same
abbrev pub is_same_answer : Answer → Answer → Bool
is_same_answer a b = is_answer a b.listed b.steps b.reply

-- The answer to a command

abbrev pub wants_memory : State → Command → Reply → Bool
wants_memory s c reply = is_without_memory reply && (may_want_memory s c && is_none (refusal_of (objects_of s.graph) c))

abbrev pub replies_with : State → Command → Reply → Bool
replies_with s c reply = same_reply reply (reply_with s.ended s.graph c) || wants_memory s c reply

-- a refused ask has no events, but an abandoned collection
abbrev pub may_have : Command → Reply → List Event → Bool
may_have c reply events = not (has_events events && (is_refused reply && not (is_abandoning c reply)))

-- whether no register reaches a name
abbrev pub is_garbage : Graph → Name → Bool
is_garbage g x = not (has same_name (reached_names g) x)

abbrev pub may_be : Graph → List Name → Command → Event → Bool
may_be g names c (Freed x) = has same_name names x && (is_garbage g x && may_free c x)
may_be g names c (Unlinked x) = has same_name names x && (is_garbage g x && may_unlink c x)
may_be g names c Abandoned = true

abbrev pub each_may_be : Graph → List Name → Command → List Event → Bool
each_may_be g names c [] = true
each_may_be g names c (e ∷ es) = may_be g names c e && each_may_be g (after_event names e) c es

abbrev pub is_rising : Command → List Event → Bool
is_rising c events = nat_le (runs (unlinked_numbers events)) (runs_allowed c)

-- all five clauses
abbrev pub answers_command : State → Command → Reply → List Event → Bool
answers_command s c reply events =
    replies_with s c reply
    && (may_have c reply events
    && (each_may_be (graph_after s.ended s.graph c (Some reply)) s.listed c events
    && (is_rising c events
    && has_abandonment_in_place c reply events)))

abbrev pub reply_answers : State → Command → Answer → Option Reply → Bool
reply_answers s c a None = false
reply_answers s c a (Some reply) = answers_command s c reply a.events

abbrev pub answers_taken : State → Command → Answer → Bool
answers_taken s Nothing a = is_same_answer a no_answer
answers_taken s Census a = is_same_answer a (census_of s.listed)
answers_taken s (Why x) a = is_same_answer a (why_of (leads_made s.graph) x) || is_same_answer a (replying [] (Refused NoMemory))
answers_taken s c a = same_names a.listed [] && (same_steps a.steps [] && reply_answers s c a a.reply)

abbrev pub answers_ask : State → Ask → Answer → Bool
answers_ask s long a = is_same_answer a (replying [] (Refused Long))
answers_ask s bad a = is_same_answer a (replying [] (Refused Line))
answers_ask s (taken c) a = answers_taken s c a

abbrev pub is_lawful_from : State → List Ask → List Answer → Bool
is_lawful_from s [] [] = true
is_lawful_from s (ask ∷ asks) (a ∷ answers) = answers_ask s ask a && is_lawful_from (next s ask a) asks answers
is_lawful_from s [] (a ∷ answers) = false
is_lawful_from s (ask ∷ asks) [] = false

-- WHETHER THE ANSWERS ARE LAWFUL
abbrev pub is_lawful : Allowance → List Ask → List Answer → Bool
is_lawful limits asks answers = is_lawful_from (start limits) asks answers

-- The census after `gc`, `collect` and `gc`

-- whether two lists have the same names
abbrev pub have_same : List Name → List Name → Bool
have_same xs ys = list_all (has same_name ys) xs && list_all (has same_name xs) ys

-- whether exactly the reached names are listed
abbrev pub lists_reached : State → Bool
lists_reached s = have_same s.listed (reached_names s.graph)

abbrev pub census_is_quiet : Row → State → Ask → Bool
census_is_quiet after_all s (taken Census) = lists_reached s
census_is_quiet row s ask = true

abbrev pub is_quiet_from : Row → State → List Ask → List Answer → Bool
is_quiet_from row s [] answers = true
is_quiet_from row s (ask ∷ asks) [] = true
is_quiet_from row s (ask ∷ asks) (a ∷ answers) = census_is_quiet row s ask && is_quiet_from (row_after row ask a) (next s ask a) asks answers

-- WHETHER THE ANSWERS ARE QUIET
abbrev pub is_quiet : Allowance → List Ask → List Answer → Bool
is_quiet limits asks answers = is_quiet_from nothing_yet (start limits) asks answers

-- The verdict

-- WHETHER THE ANSWERS ARE LAWFUL AND QUIET
abbrev pub verdict : Allowance → List Ask → List Answer → Bool
verdict limits asks answers = is_lawful limits asks answers && is_quiet limits asks answers

-- WHETHER A SCRIPT'S PLAIN RUN PASSES THE VERDICT
abbrev pub passes_verdict : Allowance → List Bool → List ℕ → Bool
passes_verdict allowance memory input = verdict allowance (asks_of input) (answers_to allowance memory input)
