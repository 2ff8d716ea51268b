-- HOW MANY REPLIES ARE COUNTED: one for each command, each with its kind.
use Rattle.std.proofs.Common.{◌≡◌, ℕ, ◌+◌, ◌≤◌, Bool, true, false, List, [], ◌∷◌, length, map, Option, Some, None, refl, ap, arith, option_to_list, count_by, cond}
use Rattle.std.specs.List.{list_all}
use Rattle.std.proofs.lemmas.Bool.{and_parts, false≢true}
use Rattle.cc_lists.specs.Faults.{greatest_count}
use Rattle.cc_lists.proofs.Counting.{count_by-append, count_by-cons}
use Rattle.cc_names.specs.declared.name.Name.{Name}
use Rattle.cc_model.specs.declared.sums.Sums.{Sums}
use Rattle.cc_model.specs.declared.item.Refusal.{Refusal}
use Rattle.cc_model.specs.declared.item.Reply.{Reply}
use Rattle.cc_model.specs.declared.item.Reply.TheVariants.{Census}
use Rattle.cc_model.specs.declared.item.Event.{Event}
use Rattle.cc_model.specs.declared.item.Item.{Item}
use Rattle.cc_model.specs.declared.item.Item.TheVariants.{Event as of_event, Listed, Step, Reply as of_reply}
use Rattle.cc_model.specs.declared.command.Command.{Command}
use Rattle.cc_model.specs.declared.command.Command.TheVariants as command
use Rattle.cc_model.specs.declared.command.Command.TheVariants.{CopyNative, CopyScript, Get, Take, Wrap, Unwrap, GetEntry, Expose}
use Rattle.cc_model.specs.Summed.{summed, with_item}
use Rattle.cc_model.specs.Checks.{Objects, refused_or, reply_if_taken, named_or_nothing}
use Rattle.cc_model.specs.Lawful.{State, AnswersAsk, IsLawfulFrom, RepliesWith, ReplyAnswers, next}
use Rattle.cc_model.specs.Answers.{Answer, Step as a_step, item_of_step, items_of, all_items_of}
use Rattle.cc_model.specs.Asks.{Ask, long, bad, taken}
use Rattle.cc_made.specs.Asked.{is_command}
use Rattle.cc_replay.specs.Summaries.{sums_of}

-- a reply, and one to a census
abbrev is_reply : Item → Bool
is_reply (of_event event) = false
is_reply (Listed name) = false
is_reply (Step x r) = false
is_reply (of_reply reply) = true

abbrev is_count : Reply → Bool
is_count (Census n) = true
is_count reply = false

abbrev is_census : Item → Bool
is_census (of_event event) = false
is_census (Listed name) = false
is_census (Step x r) = false
is_census (of_reply reply) = is_count reply

-- the replies of all kinds but a census
abbrev pub kinds : Sums → ℕ
kinds s = s.ok + s.named + s.none + s.refused + s.nomem

-- one item
one-commands : (item : Item) (s : Sums) → s.commands + cond (is_reply item) 1 0 ≤ greatest_count →
    (with_item item s).commands ≡ s.commands + cond (is_reply item) 1 0
one-commands item s few = grind arith

one-kinds : (item : Item) (s : Sums) → kinds s + cond (is_reply item) 1 0 ≤ greatest_count →
    kinds (with_item item s) + cond (is_census item) 1 0 ≡ kinds s + cond (is_reply item) 1 0
one-kinds item s few = grind arith

-- all items, where no count comes to its greatest value
all-commands : (items : List Item) (s : Sums) → s.commands + count_by is_reply items ≤ greatest_count →
    (summed items s).commands ≡ s.commands + count_by is_reply items
all-commands [] s few = omega arith
all-commands (item ∷ items) s few =
    let split = count_by-cons is_reply item items in
    let one = one-commands item s (omega (arith, few, split)) in
    omega (arith, split, one, all-commands items (with_item item s) (omega (arith, few, split, one)))

all-kinds : (items : List Item) (s : Sums) → kinds s + count_by is_reply items ≤ greatest_count →
    kinds (summed items s) + count_by is_census items ≡ kinds s + count_by is_reply items
all-kinds [] s few = omega arith
all-kinds (item ∷ items) s few =
    let split = count_by-cons is_reply item items in
    let split_census = count_by-cons is_census item items in
    let one = one-kinds item s (omega (arith, few, split)) in
    omega (arith, split, split_census, one, all-kinds items (with_item item s) (omega (arith, few, split, one)))

-- an answer's replies are in its reply alone
none-counted : {X : Type 0} (p : Item → Bool) (f : X → Item) → ((x : X) → p (f x) ≡ false) → (xs : List X) → count_by p (map f xs) ≡ 0
none-counted p f never [] = refl
none-counted p f never (x ∷ xs) = omega (arith, count_by-cons p (f x) (map f xs), ap {B = ℕ} (λ (b : Bool). cond b 1 0) (never x), none-counted p f never xs)

in-reply : (p : Item → Bool) → ((e : Event) → p (of_event e) ≡ false) → ((x : Name) → p (Listed x) ≡ false) → ((s : a_step) → p (item_of_step s) ≡ false) → (a : Answer) →
    count_by p (items_of a) ≡ count_by p (map of_reply (option_to_list a.reply))
in-reply p no_event no_name no_step a = grind (arith, count_by-append, none-counted)

-- a reply that the graph gives counts nothing
named-no_count : (x : Option Name) → is_count (named_or_nothing x) ≡ false
named-no_count x = grind arith

taken-no_count : (o : Objects) (c : Command) → is_count (reply_if_taken o c) ≡ false
unfolding reply_if_taken
taken-no_count o c = grind (arith, named-no_count, o.register)

graph-no_count : (r : Option Refusal) (reply : Reply) → is_count reply ≡ false → is_count (refused_or r reply) ≡ false
graph-no_count r reply without = grind arith

lawful-no_count : (s : State) (c : Command) (reply : Reply) → RepliesWith s c reply → is_count reply ≡ false
lawful-no_count s c reply r = grind (arith, graph-no_count, taken-no_count)

-- an ask for a census
abbrev pub asks_census : Ask → Bool
asks_census (taken command.Census) = true
asks_census ask = false

-- ONE REPLY for each command, and a census for each that was asked
abbrev IsOne : Ask → Answer → Type 0
IsOne ask a = (count_by is_reply (items_of a) ≡ 1) × (count_by is_census (items_of a) ≡ cond (asks_census ask) 1 0)

one-census : (reply : Reply) → count_by is_census (map of_reply (option_to_list (Some reply))) ≡ cond (is_count reply) 1 0
one-census reply = omega (arith, count_by-cons is_census (of_reply reply) [])

one-by : (a : Answer) (reply : Reply) (n : ℕ) → a.reply ≡ Some reply → cond (is_count reply) 1 0 ≡ n →
    (count_by is_reply (items_of a) ≡ 1) × (count_by is_census (items_of a) ≡ n)
one-by a reply n is count = grind (arith, in-reply, one-census)

one-command : (s : State) (c : Command) (a : Answer) (r : Option Reply) → a.reply ≡ r → ReplyAnswers s c a r →
    (count_by is_reply (items_of a) ≡ 1) × (count_by is_census (items_of a) ≡ 0)
one-command s c a None is l = absurd l
one-command s c a (Some reply) is l = one-by a reply 0 is (ap {B = ℕ} (λ (b : Bool). cond b 1 0) (lawful-no_count s c reply l.replies))

one-answer : (s : State) (ask : Ask) (a : Answer) → is_command ask ≡ true → AnswersAsk s ask a → IsOne ask a
one-answer s long a is l = absurd (false≢true is)
one-answer s bad a is l = absurd (false≢true is)
one-answer s (taken command.Nothing) a is l = absurd (false≢true is)
one-answer s (taken command.Version2) a is l = absurd (false≢true is)
one-answer s (taken (command.Why x)) a is l = absurd (false≢true is)
one-answer s (taken command.Census) a is l = one-by a (Census (length s.listed)) 1 (ap (λ (b : Answer). b.reply) l) refl
one-answer s (taken c) a is l = one-command s c a a.reply refl l.2

all-answers : (s : State) (asks : List Ask) (answers : List Answer) → list_all is_command asks ≡ true → IsLawfulFrom s asks answers →
    (count_by is_reply (all_items_of answers) ≡ length asks) × (count_by is_census (all_items_of answers) ≡ count_by asks_census asks)
all-answers s [] [] are l = (refl, refl)
all-answers s [] (a ∷ answers) are l = absurd l
all-answers s (ask ∷ asks) [] are l = absurd l
all-answers s (ask ∷ asks) (a ∷ answers) are l =
    let parts = and_parts (is_command ask) (list_all is_command asks) are in
    let one = one-answer s ask a parts.0 l.0 in
    let others : (count_by is_reply (all_items_of answers) ≡ length asks) × (count_by is_census (all_items_of answers) ≡ count_by asks_census asks) =
    all-answers (next s ask a) asks answers parts.1 l.1 in (
      omega (arith, count_by-append is_reply (items_of a) (all_items_of answers), one.0, others.0),
      omega (arith, count_by-append is_census (items_of a) (all_items_of answers), one.1, others.1, count_by-cons asks_census ask asks),
    )

-- THE SUMS OF A LAWFUL RUN OF COMMANDS: one reply for each command, and its kind
pub sums-lawful : (s : State) (asks : List Ask) (answers : List Answer) → list_all is_command asks ≡ true → IsLawfulFrom s asks answers → length asks ≤ greatest_count →
    ((sums_of answers).commands ≡ length asks) × (kinds (sums_of answers) + count_by asks_census asks ≡ length asks)
sums-lawful s asks answers are l few = grind (arith, all-answers, all-commands, all-kinds)
