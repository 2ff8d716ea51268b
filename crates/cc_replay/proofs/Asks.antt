-- WHAT A LINE ASKS, and how the lines that are refused as they stand are answered.
use Rattle.std.proofs.Common.{◌≡◌, ℕ, ◌≤◌, ◌<◌, true, false, List, [], length, None, refl, ◌∙◌, ap, arith}
use Rattle.std.proofs.lemmas.Bool.{lt-ltb}
use Rattle.std.proofs.lemmas.Bool.{ltb-true}
use Rattle.cc_model.specs.declared.item.Refusal.TheVariants.{Long, Line}
use Rattle.cc_model.specs.declared.item.Reply.TheVariants.{Refused}
use Rattle.cc_model.specs.declared.dialect.Dialect.{Dialect}
use Rattle.cc_model.specs.Telling.{Telling, Tells}
use Rattle.cc_model.specs.Answers.{Answer, items_of, replying}
use Rattle.cc_model.specs.Asks.{Ask, long, bad, command_of, taken_or_bad, longest_line, ask_of, dialect_after}
use Rattle.cc_model.specs.Collecting.{Machine}
use Rattle.cc_model.specs.Run.{do_ask}
use Rattle.cc_laws_run.specs.Memory.{IsDoneFor}
use Rattle.cc_laws_run.specs.Running.{ask_in_range}
use Rattle.cc_replay.specs.Answering.{LineIsAnswered}

-- a line of at most 120 bytes asks what its command says
ask_of-short : (v : Dialect) (line : List ℕ) → length line ≤ 120 → ask_of v line ≡ taken_or_bad (command_of v line)
ask_of-short v line short = grind (arith, ltb-true)

-- a longer one is too long
ask_of-long : (v : Dialect) (line : List ℕ) → 120 < length line → ask_of v line ≡ long
ask_of-long v line above = ap (λ b. elim b as (λ _. Ask) [ true ↦ long | false ↦ taken_or_bad (command_of v line) ]) (lt-ltb longest_line (length line) above)

-- a line that is too long, and one that is not in the grammar, change nothing
IsDoneFor-long : (m : Machine) → IsDoneFor m long (replying [] (Refused Long)) m
unfolding do_ask
IsDoneFor-long m = record { memory = []; answer = refl; after = record { heap = refl; weak = refl; marking = refl; snapshot = refl } }

IsDoneFor-bad : (m : Machine) → IsDoneFor m bad (replying [] (Refused Line)) m
unfolding do_ask
IsDoneFor-bad m = record { memory = []; answer = refl; after = record { heap = refl; weak = refl; marking = refl; snapshot = refl } }

-- so it is answered by its refusal alone
answered-as : {ask : Ask} (answer : Answer) (v w : Dialect) (m : Machine) (line : List ℕ) {before after : Telling} → ask_of v line ≡ ask → IsDoneFor m ask answer m →
    ask_in_range ask ≡ true → Tells before after (items_of answer) → w ≡ dialect_after v ask → LineIsAnswered v w m m line before after
answered-as answer v w m line asks done in_range told next = grind arith

-- a line that is too long leaves the dialect as one does that is not in the grammar
after_long : (v : Dialect) → dialect_after v bad ≡ dialect_after v long
after_long v = grind arith

pub answered-long : (v w : Dialect) (m : Machine) (line : List ℕ) {before after : Telling} → 120 < length line →
    Tells before after (items_of (replying [] (Refused Long))) → w ≡ dialect_after v bad → LineIsAnswered v w m m line before after
answered-long v w m line above told next = answered-as (replying [] (Refused Long)) v w m line (ask_of-long v line above) (IsDoneFor-long m) refl told (next ∙ after_long v)

pub answered-bad : (v w : Dialect) (m : Machine) (line : List ℕ) {before after : Telling} → length line ≤ 120 → command_of v line ≡ None →
    Tells before after (items_of (replying [] (Refused Line))) → w ≡ dialect_after v bad → LineIsAnswered v w m m line before after
answered-bad v w m line short none told next =
    answered-as (replying [] (Refused Line)) v w m line (ask_of-short v line short ∙ ap taken_or_bad none) (IsDoneFor-bad m) refl told next
