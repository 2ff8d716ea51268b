-- SUMS THAT COUNT NO WANT OF MEMORY: none was told.
use Rattle.std.proofs.Common.{◌≡◌, ℕ, ◌+◌, ◌≤◌, Bool, false, List, [], ◌∷◌, map, Option, refl, ap, arith, option_to_list, count_by, cond}
use Rattle.cc_lists.specs.Faults.{raised}
use Rattle.cc_lists.proofs.Counting.{count_by-append, count_by-cons, count_by-map}
use Rattle.cc_model.specs.declared.sums.Sums.{Sums}
use Rattle.cc_model.specs.declared.item.Reply.{Reply}
use Rattle.cc_model.specs.declared.item.Item.{Item}
use Rattle.cc_model.specs.declared.item.Item.TheVariants.{Event as of_event, Listed, Step, Reply as of_reply}
use Rattle.cc_model.specs.Summed.{summed, with_item}
use Rattle.cc_model.specs.Lawful.{is_abandonment, is_without_memory}
use Rattle.cc_model.specs.Answers.{Answer, items_of, all_items_of}
use Rattle.cc_model.specs.Asks.{Ask}
use Rattle.cc_laws_run.specs.Memory.{noes_of_reply, noes_told, all_noes_told}
use Rattle.cc_replay.specs.Summaries.{sums_of}

-- an item that tells a want of memory, and one that tells an abandonment
abbrev pub is_unmet : Item → Bool
is_unmet (of_event event) = false
is_unmet (Listed name) = false
is_unmet (Step x r) = false
is_unmet (of_reply reply) = is_without_memory reply

abbrev is_given_up : Item → Bool
is_given_up (of_event event) = is_abandonment event
is_given_up (Listed name) = false
is_given_up (Step x r) = false
is_given_up (of_reply reply) = false

-- a count that was raised is not zero
raised-some : (n : ℕ) → raised n 1 ≡ 0 → ⊥
raised-some n e = omega (arith, e)

-- where an item leaves none counted, none was counted before, and it is none
unmet-before : (item : Item) (s : Sums) → (with_item item s).nomem ≡ 0 → (s.nomem ≡ 0) × (is_unmet item ≡ false)
unmet-before item s n = grind (arith, raised-some)

given_up-before : (item : Item) (s : Sums) → (with_item item s).abandoned ≡ 0 → (s.abandoned ≡ 0) × (is_given_up item ≡ false)
given_up-before item s a = grind (arith, raised-some)

-- where a count is zero after items, none of them is counted there
none-counted : (count : Sums → ℕ) (test : Item → Bool) → ((item : Item) (s : Sums) → count (with_item item s) ≡ 0 → (count s ≡ 0) × (test item ≡ false)) →
    (items : List Item) (s : Sums) → count (summed items s) ≡ 0 → (count s ≡ 0) × (count_by test items ≡ 0)
none-counted count test before [] s e = (e, refl)
none-counted count test before (item ∷ items) s e =
    let after = none-counted count test before items (with_item item s) e in
    let first = before item s after.0 in
    (first.0, omega (arith, count_by-cons test item items, ap {B = ℕ} (λ (b : Bool). cond b 1 0) first.1, after.1))

pub none-unmet : (items : List Item) (s : Sums) → (summed items s).nomem ≡ 0 → count_by is_unmet items ≡ 0
none-unmet items s e = (none-counted (λ (t : Sums). t.nomem) is_unmet unmet-before items s e).1

none-given_up : (items : List Item) (s : Sums) → (summed items s).abandoned ≡ 0 → count_by is_given_up items ≡ 0
none-given_up items s e = (none-counted (λ (t : Sums). t.abandoned) is_given_up given_up-before items s e).1

-- what an answer tells of memory is among its items
in-reply : (r : Option Reply) → noes_of_reply r ≤ count_by is_unmet (map of_reply (option_to_list r))
in-reply r = grind arith

pub reply-counted : (a : Answer) → noes_of_reply a.reply ≤ count_by is_unmet (items_of a)
reply-counted a = grind (arith, count_by-append, in-reply)

events-counted : (a : Answer) → count_by is_abandonment a.events ≤ count_by is_given_up (items_of a)
events-counted a = grind (arith, count_by-append, count_by-map)

in-ask : (ask : Ask) (a : Answer) → noes_told ask a ≤ count_by is_abandonment a.events + noes_of_reply a.reply
in-ask ask a = grind arith

in-answers : (asks : List Ask) (answers : List Answer) →
    all_noes_told asks answers ≤ count_by is_given_up (all_items_of answers) + count_by is_unmet (all_items_of answers)
in-answers [] answers = omega arith
in-answers (ask ∷ asks) [] = omega arith
in-answers (ask ∷ asks) (a ∷ answers) = omega (
  arith,
  in-ask ask a,
  reply-counted a,
  events-counted a,
  in-answers asks answers,
  count_by-append is_unmet (items_of a) (all_items_of answers),
  count_by-append is_given_up (items_of a) (all_items_of answers),
)

-- SUMS THAT COUNT NO WANT OF MEMORY AND NO ABANDONMENT are of answers that tell none
pub none-told : (asks : List Ask) (answers : List Answer) → (sums_of answers).nomem ≡ 0 → (sums_of answers).abandoned ≡ 0 → all_noes_told asks answers ≡ 0
none-told asks answers n a = grind (arith, in-answers, none-unmet, none-given_up)
