-- HOW A MADE RUN ENDS: where its last `collect` is done, its census counts nothing.
use Rattle.std.proofs.Common.{◌≡◌, ℕ, ◌+◌, ◌≤◌, List, [], ◌∷◌, ◌++◌, length, map, take, drop, Option, Some, refl, sym, ap, ◌∙◌, subst, arith, append_assoc, length-append, ◌⊎◌, count_by}
use Rattle.std.proofs.lemmas.Grind.{flat_map-append}
use Rattle.std.proofs.lemmas.List.{length-map, take-append-drop}
use Rattle.cc_lists.proofs.Counting.{count_by-append}
use Rattle.cc_names.specs.Allowance.{Allowance}
use Rattle.cc_model.specs.declared.sums.Sums.{Sums}
use Rattle.cc_model.specs.declared.item.Item.{Item}
use Rattle.cc_model.specs.declared.item.Item.TheVariants.{Reply as of_reply}
use Rattle.cc_model.specs.declared.item.Reply.{Reply}
use Rattle.cc_model.specs.declared.item.Reply.TheVariants.{Census as counted, Done, Refused}
use Rattle.cc_model.specs.declared.item.Refusal.TheVariants.{NoMemory}
use Rattle.cc_model.specs.declared.command.Command.TheVariants.{Collect, Gc, Census}
use Rattle.cc_model.specs.Answers.{Answer, all_items_of, items_of}
use Rattle.cc_model.specs.Asks.{Ask, ask_of, taken}
use Rattle.cc_model.specs.Checks.{refusal_of, reply_if_taken}
use Rattle.cc_model.specs.declared.dialect.Dialect.TheVariants.{One}
use Rattle.cc_model.specs.Lawful.{IsLawful, IsLawfulFrom, ReplyAnswers, State, census_of, next, start}
use Rattle.cc_model.specs.Quiet.{IsQuiet}
use Rattle.cc_model.specs.Summed.{none_summed, summed, with_item}
use Rattle.cc_laws_run.specs.Memory.{noes_of_reply}
use Rattle.cc_made.specs.Asked.{tail_asks}
use Rattle.cc_made.specs.Ending.{LeavesNothing}
use Rattle.cc_made.specs.Made.{seeded}
use Rattle.cc_made.proofs.Ending.{ends}
use Rattle.cc_made.proofs.Lines.{asks-made, drawn-fill, drawn_lines, many-drawn, tail-made}
use Rattle.cc_replay.specs.Summaries.{made_asks, sums_of}
use Rattle.cc_replay.proofs.Wants.{is_unmet, none-unmet, reply-counted}

-- the last census counts
last-counted : (items : List Item) (n : ℕ) (s : Sums) → (summed (items ++ of_reply (counted n) ∷ []) s).census ≡ n
last-counted [] n s = refl
last-counted (item ∷ items) n s = last-counted items n (with_item item s)

-- where a list of answers ends with four, the last of which is the census of nothing, nothing is counted there
ends-with : (k : ℕ) (answers : List Answer) (swept collected swept_again last : Answer) → drop k answers ≡ swept ∷ collected ∷ swept_again ∷ last ∷ [] →
    last ≡ census_of [] → (sums_of answers).census ≡ 0
ends-with k answers swept collected swept_again last are nothing =
    ap (λ (xs : List Answer). (sums_of xs).census) (sym (take-append-drop k answers) ∙ (ap (λ (xs : List Answer). take k answers ++ xs) are ∙ sym (append_assoc (take k answers) (swept ∷ collected ∷ swept_again ∷ []) (last ∷ []))))
    ∙ (ap (λ (items : List Item). (summed items none_summed).census) (flat_map-append items_of (take k answers ++ swept ∷ collected ∷ swept_again ∷ []) (last ∷ []))
    ∙ (ap (λ (a : Answer). (summed (all_items_of (take k answers ++ swept ∷ collected ∷ swept_again ∷ []) ++ all_items_of (a ∷ [])) none_summed).census) nothing
    ∙ last-counted (all_items_of (take k answers ++ swept ∷ collected ∷ swept_again ∷ [])) 0 none_summed))

-- WHERE THE TAIL'S `collect` IS DONE, its census counts nothing
pub leaves-nothing : (seed count : ℕ) (limits : Allowance) (answers : List Answer) → IsLawful limits (made_asks seed count) answers → IsQuiet limits (made_asks seed count) answers →
    LeavesNothing count answers
leaves-nothing seed count limits answers lawful quiet =
    let words = seeded seed in
    let drawn = map (ask_of One) (drawn_lines count words) in
    let are : made_asks seed count ≡ drawn ++ tail_asks = asks-made count words ∙ tail-made count words in
    ends limits drawn count answers (drawn-fill count words)
    (length-map (drawn_lines count words) (ask_of One) ∙ many-drawn count words)
    (subst (λ (asks : List Ask). IsLawful limits asks answers) are lawful)
    (subst (λ (asks : List Ask). IsQuiet limits asks answers) are quiet)

pub collected-nothing : (count : ℕ) (answers : List Answer) → LeavesNothing count answers → (swept collected swept_again last : Answer) →
    drop (count + 16) answers ≡ swept ∷ collected ∷ swept_again ∷ last ∷ [] → collected.reply ≡ Some Done → (sums_of answers).census ≡ 0
collected-nothing count answers leaves swept collected swept_again last are done = search (ends-with)

-- answers to the rest of asks
lawful-rest : (s : State) (asks later : List Ask) (answers : List Answer) → IsLawfulFrom s (asks ++ later) answers →
    (t : State) × IsLawfulFrom t later (drop (length asks) answers)
lawful-rest s [] later answers l = (s, l)
lawful-rest s (ask ∷ asks) later [] l = absurd l
lawful-rest s (ask ∷ asks) later (a ∷ answers) l = lawful-rest (next s ask a) asks later answers l.1

-- a `collect` is done, or it wants memory
collect-answered : (s : State) (a : Answer) (r : Option Reply) → ReplyAnswers s Collect a r → (r ≡ Some Done) ⊎ (r ≡ Some (Refused NoMemory))
unfolding refusal_of reply_if_taken
collect-answered s a r l = grind arith

-- a want of memory of one of four last answers is counted
unmet-counted : (k : ℕ) (answers : List Answer) (a b : Answer) (others : List Answer) → drop k answers ≡ a ∷ b ∷ others → b.reply ≡ Some (Refused NoMemory) →
    1 ≤ count_by is_unmet (all_items_of answers)
unmet-counted k answers a b others are unmet = omega (
  arith,
  ap noes_of_reply unmet,
  reply-counted b,
  ap (λ (xs : List Answer). count_by is_unmet (all_items_of xs)) (sym (take-append-drop k answers) ∙ ap (λ (xs : List Answer). take k answers ++ xs) are),
  ap (λ (items : List Item). count_by is_unmet items) (flat_map-append items_of (take k answers) (a ∷ b ∷ others)),
  count_by-append is_unmet (all_items_of (take k answers)) (all_items_of (a ∷ b ∷ others)),
  count_by-append is_unmet (items_of a) (all_items_of (b ∷ others)),
  count_by-append is_unmet (items_of b) (all_items_of others),
)

-- the last four answers
last-four : (k : ℕ) (answers : List Answer) (s : State) (four : List Answer) → drop k answers ≡ four → IsLawfulFrom s (taken Gc ∷ taken Collect ∷ taken Gc ∷ taken Census ∷ []) four →
    ((swept collected swept_again last : Answer) → drop k answers ≡ swept ∷ collected ∷ swept_again ∷ last ∷ [] → collected.reply ≡ Some Done → (sums_of answers).census ≡ 0) →
    (sums_of answers).nomem ≡ 0 → (sums_of answers).census ≡ 0
last-four k answers s four are l done nomem = grind (arith, unmet-counted, none-unmet, collect-answered)

-- WHERE NO WANT OF MEMORY IS COUNTED, the census counts nothing
pub nothing-left : (seed count : ℕ) (limits : Allowance) (answers : List Answer) → IsLawful limits (made_asks seed count) answers → IsQuiet limits (made_asks seed count) answers →
    (sums_of answers).nomem ≡ 0 → (sums_of answers).census ≡ 0
nothing-left seed count limits answers lawful quiet nomem =
    let words = seeded seed in
    let drawn = map (ask_of One) (drawn_lines count words) in
    let are : made_asks seed count ≡ (drawn ++ take 16 tail_asks) ++ drop 16 tail_asks =
    asks-made count words ∙ (tail-made count words ∙ sym (append_assoc drawn (take 16 tail_asks) (drop 16 tail_asks))) in
    let many : length (drawn ++ take 16 tail_asks) ≡ count + 16 =
    length-append drawn (take 16 tail_asks) ∙ ap (λ (n : ℕ). n + 16) (length-map (drawn_lines count words) (ask_of One) ∙ many-drawn count words) in
    let rest = lawful-rest (start limits) (drawn ++ take 16 tail_asks) (drop 16 tail_asks) answers (subst (λ (asks : List Ask). IsLawful limits asks answers) are lawful) in
    last-four (count + 16) answers rest.0 (drop (count + 16) answers) refl (subst (λ (n : ℕ). IsLawfulFrom rest.0 (drop 16 tail_asks) (drop n answers)) many rest.1)
    (collected-nothing count answers (leaves-nothing seed count limits answers lawful quiet)) nomem
