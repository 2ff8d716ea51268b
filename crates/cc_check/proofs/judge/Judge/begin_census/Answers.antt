use Rattle.std.specs.Prelude.{◌↔◌}
use Rattle.std.proofs.Common.{◌≡◌, ℕ, List, ◌∷◌, length, reverse, refl, sym, ◌∙◌, ap}
use Rattle.cc_names.specs.declared.name.Name.{Name}
use Rattle.cc_model.specs.declared.command.Command.TheVariants.{Census}
use Rattle.cc_model.specs.declared.item.Reply.TheVariants.{Census as counted}
use Rattle.cc_model.specs.Answers.{items_of, listing}
use Rattle.cc_model.specs.Asks.{Ask, taken}
use Rattle.cc_model.specs.Graph.{Graph}
use Rattle.cc_model.specs.Lawful.{census_of}
use Rattle.cc_model.specs.Listed.{census_order}
use Rattle.cc_model.specs.Quiet.{nothing_yet}
use Rattle.cc_verdict.specs.Following.{place, place_after}
use Rattle.cc_check.specs.Judging.{MayAnswer, MayRecite}
use Rattle.cc_check.specs.Standing.{place_of}
use Rattle.cc_check.proofs.Judged.{IsJudged-as, recites-as}
use Rattle.cc_model.proofs.NoDeeds.{no_deed-leaves}
use Rattle.cc_check.proofs.judge.Judge.begin_census.Goals as goal

pub returns-clause-judged : goal.returns-clause-judged
returns-clause-judged c =
    let g = c.args.self.now.graph in
    let listed = c.args.self.now.listed in
    let ended = c.args.self.now.ended in
    let p = place_of c.args.self.now in
    let after = place_after p (taken Census) (census_of listed) in
    let now = c.census.new.self in
    let same : now ≡ listed = c.in_ok-names.ensures.same in
    let place_is : place g now ended nothing_yet ≡ after =
    ap (λ (names : List Name). place g names ended nothing_yet) same ∙ ap (λ (h : Graph). place h listed ended nothing_yet) (sym (no_deed-leaves Census refl g)) in
    let told = items_of (census_of listed) in
    let count_is : c.in_ok-count.count ≡ length listed = c.in_ok-count.ensures.key ∙ (c.len.ensures ∙ ap (λ (names : List Name). length names) same) in
    let items_are : reverse c.list.new.recital.items ≡ told = c.in_ok-list.ensures.items
    ∙ (ap (λ (names : List Name). items_of (listing names (counted c.in_ok-count.count))) c.in_ok-names.ensures.names
    ∙ ap (λ (n : ℕ). items_of (listing (census_order listed) (counted n))) count_is) in
    let same_lines : (asks : List Ask) (lines : List (List ℕ)) → MayAnswer p (taken Census) asks lines ↔ MayRecite (reverse c.list.new.recital.items) (place g now ended nothing_yet) asks lines =
    λ asks lines.
    let as_told = recites-as (reverse c.list.new.recital.items) told (place g now ended nothing_yet) after asks lines items_are place_is in
    let law = c.exact_answers_are_recited.ensures.census p asks lines c.requires.quiet in
    ((λ f. as_told.0 (law.0 f)), (λ r. law.1 (as_told.1 r))) in
    IsJudged-as c.args.heard (MayRecite (reverse c.list.new.recital.items) (place g now ended nothing_yet)) (MayAnswer p (taken Census)) c.recite.new.self c.recite.result
    (λ asks line lines hd. same_lines asks (line ∷ lines))
    (λ asks line lines n. same_lines asks (line ∷ lines))
    c.recite.ensures.judged
