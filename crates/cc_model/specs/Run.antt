-- THE PLAIN RUN: the asks done on the heaps and the snapshot.
use Rattle.std.specs.Prelude.{ℕ, Bool, true, false, not, ◌&&◌, List, [], ◌∷◌, ◌++◌, map, length, Option, Some, None, option_map, option_and_then, slice_index_or, slice_set, if◌then◌else◌}
use Rattle.cc_names.specs.Allowance.{Allowance}
use Rattle.cc_names.specs.declared.name.Name.{Name}
use Rattle.cc_names.specs.Names.{native}
use Rattle.cc_model.specs.declared.command.Command.{Command}
use Rattle.cc_model.specs.declared.item.Refusal.{Refusal}
use Rattle.cc_model.specs.declared.item.Refusal.TheVariants.{NoMemory, Long, Line}
use Rattle.cc_model.specs.declared.item.Reply.{Reply}
use Rattle.cc_model.specs.declared.item.Reply.TheVariants.{Done, Refused, Census as counted}
use Rattle.cc_model.specs.declared.item.Event.{Event}
use Rattle.cc_model.specs.Answers.{Answer, no_answer, replying, listing, text_of_answers}
use Rattle.cc_model.specs.Mutating.{takes_memory_to_say, Saying, silence, version, path, census, Running, so_many, whole, Class, says, does, forgets, reads_weak, runs, collects_scripts, class_of}
use Rattle.cc_model.specs.Asks.{Ask, long, bad, taken, asks_of}
use Rattle.cc_model.specs.Checks.{refusal_of, reply_if_taken, named_or_nothing}
use Rattle.cc_model.specs.Slots.{Slots}
use Rattle.cc_model.specs.Deeds.{Deed, weak_written, deed_of}
use Rattle.cc_model.specs.Heap.{Heap, Outcome, objects_of}
use Rattle.cc_model.specs.Given.{is_usable}
use Rattle.cc_model.specs.Derivations.{leads_in, why_of}
use Rattle.cc_model.specs.Effects.{effects, hold_native, takes_memory}
use Rattle.cc_model.specs.Marking.{marking_after}
use Rattle.cc_model.specs.Skipping.{forgotten}
use Rattle.cc_model.specs.Collecting.{Machine, UnitsDone, empty_machine, next_answer, later_answers, slice, collect, gc, run_scripts, reply_to_units}

-- one ask done
pub record Turn : Type 0 where
  pub machine : Machine
  pub answer : Answer

abbrev pub turn_of : Machine → Answer → Turn
turn_of m a = record { machine = m; answer = a }

abbrev pub answering : Machine → List Event → Reply → Turn
answering m events reply = turn_of m (replying events reply)

-- Commands of the mutator

abbrev pub with_answer_used : Machine → Bool → Machine
with_answer_used m takes = elim takes [ true ↦ record m { memory = later_answers m.memory } | false ↦ m ]

abbrev pub with_effects : Machine → Reply → Outcome → Turn
with_effects m reply o = answering (record m { heap = o.heap }) o.events reply

-- what weak registers note after a deed
abbrev pub weak_after : Slots → Deed → Slots
weak_after weak (weak_written w x) = slice_set weak w x
weak_after weak _ = weak

-- what a deed makes of what stands beside the heaps: of the weak registers, and of the new marks
abbrev pub beside_deed : Machine → Deed → Machine
beside_deed m d = record m { weak = weak_after m.weak d; marking = option_map (marking_after m.heap d) m.marking }

-- memory is asked only where some is taken, and where it says no, nothing is done
abbrev pub if_granted : Machine → Bool → (Machine → Turn) → Turn
if_granted m takes done = elim (takes && not (next_answer m.memory)) [
  | true ↦ answering (with_answer_used m takes) [] (Refused NoMemory)
  | false ↦ done (with_answer_used m takes)
]

abbrev pub unless_refused : Machine → Command → Option Refusal → Turn
unless_refused m c (Some refusal) = answering m [] (Refused refusal)
unless_refused m c None = if_granted m (takes_memory m.heap c)
    (λ n. with_effects (beside_deed n (deed_of (objects_of m.heap) c)) (reply_if_taken (objects_of m.heap) c) (effects m.heap c))

-- A COMMAND OF THE MUTATOR: refused, refused memory, or done
unfoldable pub mutate : Machine → Command → Turn
mutate m c = unless_refused m c (refusal_of (objects_of m.heap) c)

-- The other commands

-- what weak register w notes, where its native is in the heaps and was not unlinked
abbrev pub noted : Machine → ℕ → Option Name
noted m w = option_and_then (λ x. if is_usable m.heap x then Some x else None) (slice_index_or m.weak w None)

-- native register d holds it from then on, or nothing
abbrev pub read_weak : Machine → ℕ → ℕ → Turn
read_weak m d w = with_effects m (named_or_nothing (noted m w)) (hold_native m.heap d (noted m w))

-- suspects that the registers reach over edges lose their mark
abbrev pub forget_suspects : Machine → Turn
forget_suspects m = answering (record m { heap = forgotten m.heap }) [] Done

abbrev pub after_units : UnitsDone → Turn
after_units d = answering d.machine d.events (reply_to_units d.progress)

abbrev pub after_gc : UnitsDone → Turn
after_gc d = answering d.machine d.events Done

-- natives by rising number, then script objects in order of making
abbrev pub census_names : Heap → List Name
census_names h = map (λ n. native n.number) h.natives ++ map (λ o. o.name) h.scripts

-- what is said of the heaps: of a way to an object, how the registers reach it
abbrev pub said : Heap → Saying → Answer
said h silence = no_answer
said h version = replying [] Done
said h (path x) = why_of (leads_in h) x
said h census = listing (census_names h) (counted (length (census_names h)))

-- SOMETHING SAID: the heaps and the running collection stay as they are
abbrev pub say : Machine → Saying → Turn
say m q = if_granted m (takes_memory_to_say q) (λ n. turn_of n (said m.heap q))

-- units of collections
abbrev pub run_units : Machine → Running → UnitsDone
run_units m (so_many n) = slice n m
run_units m whole = collect m

abbrev pub do_class : Machine → Command → Class → Turn
do_class m c (says q) = say m q
do_class m c does = mutate m c
do_class m c forgets = forget_suspects m
do_class m c (reads_weak d w) = read_weak m d w
do_class m c (runs u) = after_units (run_units m u)
do_class m c (collects_scripts u) = after_gc (run_scripts m u)

abbrev pub do_command : Machine → Command → Turn
do_command m c = do_class m c (class_of c)

-- AN ASK DONE
unfoldable pub do_ask : Machine → Ask → Turn
do_ask m long = answering m [] (Refused Long)
do_ask m bad = answering m [] (Refused Line)
do_ask m (taken c) = do_command m c

-- the answers to asks in a row, and the machine after them
abbrev pub turns : Machine → List Ask → List Answer
turns m [] = []
turns m (ask ∷ asks) = let t = do_ask m ask in t.answer ∷ turns t.machine asks

abbrev pub machine_after : Machine → List Ask → Machine
machine_after m [] = m
machine_after m (ask ∷ asks) = machine_after (do_ask m ask).machine asks

-- THE ANSWERS to the asks, where memory gives these answers: one for each unit that may be refused,
-- for each command that passes its checks and takes memory, and for each `why`
abbrev pub plain_run : Allowance → List Bool → List Ask → List Answer
plain_run limits memory asks = turns (empty_machine limits memory) asks

-- the text that is written for an input
abbrev pub plain_text : Allowance → List Bool → List ℕ → List ℕ
plain_text limits memory bytes = text_of_answers (plain_run limits memory (asks_of bytes))
