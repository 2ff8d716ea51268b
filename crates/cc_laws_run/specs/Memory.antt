-- WHAT MEMORY ANSWERS, and how often it says no.
use Rattle.std.specs.Prelude.{◌≡◌, ℕ, ◌+◌, Bool, true, false, not, List, [], ◌∷◌, count_by, Option, Some, None}
use Rattle.cc_model.specs.Answers.{Answer}
use Rattle.cc_model.specs.Mutating.{Class, collects_scripts, class_of}
use Rattle.cc_model.specs.Asks.{Ask, taken}
use Rattle.cc_model.specs.declared.item.Reply.{Reply}
use Rattle.cc_model.specs.Lawful.{is_without_memory, is_abandonment}
use Rattle.cc_model.specs.Collecting.{Machine}
use Rattle.cc_model.specs.Run.{do_ask}

-- the same machine with other answers of memory to come
abbrev pub with_memory : Machine → List Bool → Machine
with_memory m memory = record m { memory = memory }

-- how often memory says no
abbrev pub noes : List Bool → ℕ
noes memory = count_by (λ b. not b) memory

-- how often an answer says so: `! nomem`, and a collection abandoned under `gc` and `mark`
abbrev pub noes_of_reply : Option Reply → ℕ
noes_of_reply None = 0
noes_of_reply (Some reply) = elim (is_without_memory reply) [ true ↦ 1 | false ↦ 0 ]

abbrev pub noes_told_by : Class → Answer → ℕ
noes_told_by (collects_scripts u) a = count_by is_abandonment a.events
noes_told_by _ a = noes_of_reply a.reply

abbrev pub noes_told : Ask → Answer → ℕ
noes_told (taken c) a = noes_told_by (class_of c) a
noes_told ask a = noes_of_reply a.reply

abbrev pub all_noes_told : List Ask → List Answer → ℕ
all_noes_told [] answers = 0
all_noes_told (ask ∷ asks) [] = 0
all_noes_told (ask ∷ asks) (a ∷ answers) = noes_told ask a + all_noes_told asks answers

-- two machines are the same but for the answers of memory to come
pub record SameMachine (m n : Machine) : Type 0 where
  pub heap : m.heap ≡ n.heap
  pub weak : m.weak ≡ n.weak
  pub marking : m.marking ≡ n.marking
  pub snapshot : m.snapshot ≡ n.snapshot

-- the ask is done from one machine to another for some list of memory, with this answer
pub record IsDoneFor (m : Machine) (ask : Ask) (a : Answer) (n : Machine) : Type 0 where
  pub memory : List Bool
  pub answer : (do_ask (with_memory m memory) ask).answer ≡ a
  pub after : SameMachine (do_ask (with_memory m memory) ask).machine n

-- asks done one after the other, each for a list of memory of its own
abbrev pub AreDoneFor : Machine → List Ask → List Answer → Machine → Type 0
AreDoneFor m [] [] n = SameMachine m n
AreDoneFor m [] (a ∷ answers) n = ⊥
AreDoneFor m (ask ∷ asks) [] n = ⊥
AreDoneFor m (ask ∷ asks) (a ∷ answers) n = (k : Machine) × IsDoneFor m ask a k × AreDoneFor k asks answers n
