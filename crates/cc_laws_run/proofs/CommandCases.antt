-- A COMMAND OF THE MUTATOR IS REFUSED, OR WANTS MEMORY, OR IS DONE: what then becomes of the graph and of the listed names.
use Rattle.std.proofs.Common.{arith, ◌≡◌, Bool, true, false, List, [], Option, Some, None, refl, ap, ◌∙◌, not}
use Rattle.cc_names.specs.declared.name.Name.{Name}
use Rattle.cc_model.specs.declared.command.Command.{Command}
use Rattle.cc_model.specs.declared.item.Refusal.{Refusal}
use Rattle.cc_model.specs.declared.item.Refusal.TheVariants.{NoMemory}
use Rattle.cc_model.specs.declared.item.Reply.{Reply}
use Rattle.cc_model.specs.declared.item.Reply.TheVariants.{Refused}
use Rattle.cc_model.specs.Mutating.{Saying, takes_memory_to_say, does, class_of, is_deed, is_mutator}
use Rattle.cc_model.specs.Asks.{taken}
use Rattle.cc_model.specs.Answers.{replying, Answer}
use Rattle.cc_model.specs.Checks.{Objects, refusal_of, reply_if_taken, named_or_nothing}
use Rattle.cc_model.specs.Graph as graph
use Rattle.cc_model.specs.Graph.{Graph, changed, step, reply_to}
use Rattle.cc_model.specs.Heap.{objects_of, Heap}
use Rattle.cc_model.specs.Effects.{effects, takes_memory}
use Rattle.cc_model.specs.Deeds.{deed_of}
use Rattle.cc_model.specs.Listed.{ended_after, listed}
use Rattle.cc_model.specs.Lawful.{State, next, step_of, step_with, reply_of_class, reply_with, graph_after, is_refused, is_without_memory, state_of}
use Rattle.cc_model.specs.Collecting.{Machine, later_answers, next_answer}
use Rattle.cc_model.specs.Run.{Turn, answering, beside_deed, with_effects, mutate, if_granted, said, say, unless_refused, turn_of}
use Rattle.cc_model.proofs.NoDeeds.{no_deed-graph, no_deed-lists}

-- Whatever holds where memory is wanted and where it is there holds of the turn.
pub granted-cases : (m : Machine) (takes : Bool) (done : Machine → Turn) (P : Turn → Type 0) →
    (takes ≡ true → P (answering (record m { memory = later_answers m.memory }) [] (Refused NoMemory))) →
    ((memory : List Bool) → P (done (record m { memory = memory }))) → P (if_granted m takes done)
granted-cases m false done P unmet met = met m.memory
granted-cases m true done P unmet met = go (next_answer m.memory)
  where
    used : Machine
    used = record m { memory = later_answers m.memory }

    go : (answer : Bool) → P (elim (not answer) [ true ↦ answering used [] (Refused NoMemory) | false ↦ done used ])
    go true = met (later_answers m.memory)
    go false = unmet refl

-- Whatever holds where the command is refused, where it wants memory and where it is done, holds of the turn.
pub mutate-cases : (m : Machine) (c : Command) (P : Turn → Type 0) →
    ((refusal : Refusal) → refusal_of (objects_of m.heap) c ≡ Some refusal → P (answering m [] (Refused refusal))) →
    (refusal_of (objects_of m.heap) c ≡ None → takes_memory m.heap c ≡ true → P (answering (record m { memory = later_answers m.memory }) [] (Refused NoMemory))) →
    (refusal_of (objects_of m.heap) c ≡ None → (memory : List Bool) →
    P (with_effects (beside_deed (record m { memory = memory }) (deed_of (objects_of m.heap) c)) (reply_if_taken (objects_of m.heap) c) (effects m.heap c))) →
    P (mutate m c)
unfolding mutate
mutate-cases m c P refused unmet done = go (refusal_of (objects_of m.heap) c) refl
  where
    go : (o : Option Refusal) → refusal_of (objects_of m.heap) c ≡ o → P (unless_refused m c o)
    go (Some refusal) e = refused refusal e
    go None e = granted-cases m (takes_memory m.heap c)
        (λ n. with_effects (beside_deed n (deed_of (objects_of m.heap) c)) (reply_if_taken (objects_of m.heap) c) (effects m.heap c)) P (unmet e) (done e)

-- What is said

-- WHAT IS SAID LEAVES THE MACHINE, but for memory's answers.
pub say-leaves : (m : Machine) (q : Saying) (P : Machine → Type 0) → ((memory : List Bool) → P (record m { memory = memory })) → P (say m q).machine
say-leaves m q P keeps = granted-cases m (takes_memory_to_say q) (λ n. turn_of n (said m.heap q)) (λ (u : Turn). P u.machine)
    (λ e. keeps (later_answers m.memory)) keeps

-- what is said tells no event
pub said-silent : (h : Heap) (q : Saying) → (said h q).events ≡ []
said-silent h q = grind arith

-- the turn tells none either, with memory or without
pub say-silent : (m : Machine) (q : Saying) → (say m q).answer.events ≡ []
say-silent m q = granted-cases m (takes_memory_to_say q) (λ n. turn_of n (said m.heap q)) (λ (u : Turn). u.answer.events ≡ [])
    (λ e. refl) (λ memory. said-silent m.heap q)

-- Replies

-- a name, or that nothing is there, is no refusal
named-not_refused : (x : Option Name) → is_refused (named_or_nothing x) ≡ false
named-not_refused x = grind arith

-- the reply to a command that is not refused is no refusal
pub taken-not_refused : (o : Objects) (c : Command) → is_refused (reply_if_taken o c) ≡ false
unfolding reply_if_taken
taken-not_refused o c = grind (arith, named-not_refused)

-- what is no refusal is no want of memory
not_refused-granted : (reply : Reply) → is_refused reply ≡ false → is_without_memory reply ≡ false
not_refused-granted reply e = grind arith

-- nor is the reply to a command that is not refused
pub taken-granted : (o : Objects) (c : Command) → is_without_memory (reply_if_taken o c) ≡ false
taken-granted o c = not_refused-granted (reply_if_taken o c) (taken-not_refused o c)

-- The graph and the listed names

-- a deed takes the graph to its step, whatever has ended, and is answered as the graph answers it
pub step_with-deed : (ended : List Name) (g : Graph) (c : Command) → class_of c ≡ does → step_with ended g c ≡ step g c
step_with-deed ended g c d = ap (step_of ended g c) d

pub reply_with-deed : (ended : List Name) (g : Graph) (c : Command) → class_of c ≡ does → reply_with ended g c ≡ reply_to g c
reply_with-deed ended g c d = ap (reply_of_class ended g c) d

-- a deed that is done takes the graph to its step
pub graph_after-taken : (ended : List Name) (g : Graph) (o : Objects) (c : Command) → class_of c ≡ does → graph_after ended g c (Some (reply_if_taken o c)) ≡ step g c
graph_after-taken ended g o c d = ap (λ b. elim b [ true ↦ g | false ↦ step_with ended g c ]) (taken-granted o c) ∙ step_with-deed ended g c d

-- one that is refused leaves the graph
step-refused : (g : Graph) (c : Command) (refusal : Refusal) → refusal_of (graph.objects_of g) c ≡ Some refusal → step g c ≡ g
step-refused g c refusal e = grind arith

graph_after-refused : (ended : List Name) (g : Graph) (c : Command) (refusal : Refusal) → class_of c ≡ does → refusal_of (graph.objects_of g) c ≡ Some refusal →
    graph_after ended g c (Some (Refused refusal)) ≡ g
graph_after-refused ended g c refusal d e = go (is_without_memory (Refused refusal))
  where
    go : (b : Bool) → elim b [ true ↦ g | false ↦ step_with ended g c ] ≡ g
    go true = refl
    go false = step_with-deed ended g c d ∙ step-refused g c refusal e

-- a refusal lists nothing
listed-refused : (names : List Name) (c : Command) (refusal : Refusal) → listed names c [] (Some (Refused refusal)) ≡ names
listed-refused names c refusal = grind arith

-- the state after a refusal that leaves the graph is the state before it
next-state : (s : State) (c : Command) (refusal : Refusal) → graph_after s.ended s.graph c (Some (Refused refusal)) ≡ s.graph →
    next s (taken c) (replying [] (Refused refusal)) ≡ s
next-state s c refusal e = λ i. state_of (e i) (listed-refused s.listed c refusal i) s.ended

-- a deed that is refused leaves the state
pub next-refused : (s : State) (c : Command) (refusal : Refusal) → class_of c ≡ does → refusal_of (graph.objects_of s.graph) c ≡ Some refusal →
    next s (taken c) (replying [] (Refused refusal)) ≡ s
next-refused s c refusal d e = next-state s c refusal (graph_after-refused s.ended s.graph c refusal d e)

-- and so does one that wants memory
pub next-unmet : (s : State) (c : Command) → next s (taken c) (replying [] (Refused NoMemory)) ≡ s
next-unmet s c = next-state s c NoMemory refl

-- a command that does no deed and reads no weak register leaves the state where nothing is told, whatever is replied
pub next-no_deed : (s : State) (c : Command) (a : Answer) → is_deed (class_of c) ≡ false → is_mutator (class_of c) ≡ false → a.events ≡ [] → next s (taken c) a ≡ s
next-no_deed s c a none plain silent = λ i. state_of (no_deed-graph c none plain s.ended s.graph a.reply i) (after i) (ap (ended_after s.ended) silent i)
  where
    after : listed s.listed c a.events a.reply ≡ s.listed
    after = ap (λ es. listed s.listed c es a.reply) silent ∙ no_deed-lists c none s.listed a.reply
