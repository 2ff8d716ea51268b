use Rattle.std.proofs.Common.{◌≡◌, ℕ, List, [], ◌∷◌, reverse, refl, sym, ◌∙◌, ap, subst}
use Rattle.std.specs.Prelude.{◌↔◌}
use Rattle.cc_names.specs.declared.name.Name.{Name}
use Rattle.cc_model.specs.declared.item.Refusal.{Refusal}
use Rattle.cc_model.specs.declared.item.Refusal.TheVariants as refusals
use Rattle.cc_model.specs.declared.item.Reply.TheVariants.{Refused}
use Rattle.cc_model.specs.Answers.{items_of, listing, replying}
use Rattle.cc_model.specs.Asks.{Ask, long, bad, taken}
use Rattle.cc_model.specs.Graph.{Graph}
use Rattle.cc_model.specs.Quiet.{Row, row_after}
use Rattle.cc_verdict.specs.Following.{Follows, Place, Recites, place, place_after}
use Rattle.cc_check.specs.Judging.{IsRefusal, MayAnswer, MayRecite}
use Rattle.cc_check.specs.Standing.{ask_meant, place_of, row_meant}
use Rattle.cc_check.proofs.Judged.{IsJudged-as, recites-as}
use Rattle.cc_check.proofs.judge.Judge.refuse.Goals as goal

-- a refused line leaves the graph and what is listed
refused-place : (g : Graph) (names ended : List Name) (row : Row) (ask : Ask) (r : Refusal) → IsRefusal ask r →
    place g names ended (row_after row ask (replying [] (Refused r))) ≡ place_after (place g names ended row) ask (replying [] (Refused r))
refused-place g names ended row long r is = refl
refused-place g names ended row bad r is = refl
refused-place g names ended row (taken c) r is = absurd is

abbrev Refuses : Ask → Refusal → Type 0
Refuses ask r = (p : Place) (asks : List Ask) (lines : List (List ℕ)) →
    Follows p (ask ∷ asks) lines ↔ Recites (items_of (replying [] (Refused r))) (place_after p ask (replying [] (Refused r))) asks lines

refuses : Refuses long refusals.Long → Refuses bad refusals.Line → (ask : Ask) (r : Refusal) → IsRefusal ask r → Refuses ask r
refuses of_long of_bad long r is = subst (Refuses long) (sym is) of_long
refuses of_long of_bad bad r is = subst (Refuses bad) (sym is) of_bad
refuses of_long of_bad (taken c) r is = absurd is

pub returns-clause-judged : goal.returns-clause-judged
returns-clause-judged c =
    let j = c.args.self.now in
    let ask = ask_meant c.args.asked in
    let p = place_of j in
    let after = place_after p ask (replying [] (Refused c.args.refusal)) in
    let now = place j.graph j.listed j.ended (row_meant c.after-self.result) in
    let told = items_of (replying [] (Refused c.args.refusal)) in
    let place_is : now ≡ after = ap (place j.graph j.listed j.ended) c.after-self.ensures ∙ refused-place j.graph j.listed j.ended (row_meant j.row) ask c.args.refusal c.requires.refused in
    let items_are : reverse c.list.new.recital.items ≡ told = c.in_ok-list.ensures.items
    ∙ ap (λ (names : List Name). items_of (listing names (Refused c.args.refusal))) c.new.ensures.items in
    let law = refuses c.exact_answers_are_recited.ensures.long c.exact_answers_are_recited.ensures.bad ask c.args.refusal c.requires.refused in
    let same_lines : (asks : List Ask) (lines : List (List ℕ)) → MayAnswer p ask asks lines ↔ MayRecite (reverse c.list.new.recital.items) now asks lines = λ asks lines.
    let as_told = recites-as (reverse c.list.new.recital.items) told now after asks lines items_are place_is in
    ((λ f. as_told.0 ((law p asks lines).0 f)), (λ r. (law p asks lines).1 (as_told.1 r))) in
    IsJudged-as c.args.heard (MayRecite (reverse c.list.new.recital.items) now) (MayAnswer p ask) c.recite.new.self c.recite.result
    (λ asks line lines hd. same_lines asks (line ∷ lines))
    (λ asks line lines n. same_lines asks (line ∷ lines))
    c.recite.ensures.judged
