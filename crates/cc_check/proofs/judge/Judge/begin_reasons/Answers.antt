use Rattle.std.specs.Prelude.{◌↔◌}
use Rattle.std.proofs.Common.{◌≡◌, ◌≢◌, ℕ, Bool, List, [], ◌∷◌, Some, reverse, refl, sym, ◌∙◌, ap, subst}
use Rattle.std.proofs.lemmas.Bool.{true≢false}
use Rattle.cc_lists.specs.Members.{has}
use Rattle.cc_names.specs.declared.name.Name.{Name}
use Rattle.cc_names.specs.Names.{same_name}
use Rattle.cc_model.specs.declared.command.Command.TheVariants.{Why}
use Rattle.cc_model.specs.declared.item.Refusal.TheVariants as refusals
use Rattle.cc_model.specs.declared.item.Reply.{Reply}
use Rattle.cc_model.specs.declared.item.Reply.TheVariants as replies
use Rattle.cc_model.specs.Answers.{Step, explaining, items_of, replying}
use Rattle.cc_model.specs.Asks.{Ask, taken}
use Rattle.cc_model.specs.Derivations.{derivation, done_or_nothing, is_led_to, leads_made, named, needed_for, why_of}
use Rattle.cc_model.specs.Graph.{Graph}
use Rattle.cc_model.specs.Lawful.{graph_after}
use Rattle.cc_model.specs.Quiet.{nothing_yet}
use Rattle.cc_model.specs.Texts.{text_of_reply}
use Rattle.cc_verdict.specs.Following.{Follows, Place, place, place_after}
use Rattle.cc_check.specs.Judging.{MayAnswer, MayRecite}
use Rattle.cc_check.specs.Standing.{place_of}
use Rattle.cc_check.proofs.Judged.{IsJudged-as, on_between, recites-as}
use Rattle.cc_model.proofs.NoDeeds.{no_deed-graph}
use Rattle.cc_check.proofs.judge.Judge.begin_reasons.Goals as goal

abbrev no_memory : Reply
no_memory = replies.Refused refusals.NoMemory

pub returns-then-hear_reply-clause-judged : goal.returns-then-hear_reply-clause-judged
returns-then-hear_reply-clause-judged c =
    let p = place_of c.args.self.now in
    let after = place_after p (taken (Why c.args.name)) (replying [] no_memory) in
    record {
      kept = c.hear_reply.ensures.between.kept;
      yes = λ yes asks line lines hd.
          let is : line ≡ text_of_reply no_memory = (c.hear_reply.ensures.heard line hd).0 c.if-hear_reply.true in
          let law = c.reasons_are_recited.ensures.refused p c.args.name asks lines in
          let on = on_between c.hear_reply.new.self c.hear_reply.ensures.between after c.hear_reply.ensures.place c.answers_are_recited_line_by_line.ensures.nothing asks lines in (
            (λ f. on.1 (law.0 (subst (λ (l : List ℕ). Follows p (taken (Why c.args.name) ∷ asks) (l ∷ lines)) is f))),
            (λ g. subst (λ (l : List ℕ). Follows p (taken (Why c.args.name) ∷ asks) (l ∷ lines)) (sym is) (law.1 (on.0 g))),
          );
      no = λ no_line. absurd (true≢false no_line);
      stands = λ no_line. absurd (true≢false no_line);
      refused = λ no_line. absurd (true≢false no_line);
    }

-- what is recited is what `why` answers
reasons-are : (g : Graph) (x : Name) (found steps : List Step) (b : Bool) → found ≡ derivation (leads_made g) → steps ≡ (needed_for found (x ∷ [])).steps →
    b ≡ has same_name (named found) x → items_of (explaining steps (done_or_nothing b)) ≡ items_of (why_of (leads_made g) x)
reasons-are g x found steps b e f i =
    ap (λ (ss : List Step). items_of (explaining ss (done_or_nothing b))) f
    ∙ (ap (λ (b : Bool). items_of (explaining (needed_for found (x ∷ [])).steps (done_or_nothing b))) i
    ∙ ap (λ (ss : List Step). items_of (explaining (needed_for ss (x ∷ [])).steps (done_or_nothing (has same_name (named ss) x)))) e)

pub returns-clause-judged : goal.returns-clause-judged
returns-clause-judged c =
    let g = c.args.self.now.graph in
    let x = c.args.name in
    let p = place_of c.args.self.now in
    let led = is_led_to (leads_made g) x in
    let after = place_after p (taken (Why x)) (why_of (leads_made g) x) in
    let graph_is : graph_after c.args.self.now.ended g (Why x) (Some (done_or_nothing led)) ≡ g = no_deed-graph (Why x) refl refl c.args.self.now.ended g (Some (done_or_nothing led)) in
    let place_is : place_of c.hear_reply.new.self ≡ after = c.hear_reply.ensures.place
    ∙ ap (λ (h : Graph). place h c.args.self.now.listed c.args.self.now.ended nothing_yet) (sym graph_is) in
    let told = items_of (why_of (leads_made g) x) in
    let found : c.find.new.self.reach ≡ derivation (leads_made c.hear_reply.new.self.graph) = c.in_ok-find.ensures in
    let same_graph : c.hear_reply.new.self.graph ≡ g = ap (λ (o : Place). o.state.graph) c.hear_reply.ensures.place in
    let items_are : reverse c.explain.new.recital.items ≡ told = c.in_ok-explain.ensures.items
    ∙ (ap (λ (r : Reply). items_of (explaining c.in_ok-steps.steps.items r)) c.done_or_nothing-reply.ensures
    ∙ reasons-are g x c.find.new.self.reach c.in_ok-steps.steps.items c.has.result (found ∙ ap (λ (h : Graph). derivation (leads_made h)) same_graph) c.in_ok-steps.ensures c.has.ensures) in
    let told_lines : (asks : List Ask) (line : List ℕ) (lines : List (List ℕ)) → line ≢ text_of_reply no_memory →
    MayAnswer p (taken (Why x)) asks (line ∷ lines) ↔ MayRecite (reverse c.explain.new.recital.items) (place_of c.hear_reply.new.self) asks (line ∷ lines) =
    λ asks line lines other.
    let law = c.reasons_are_recited.ensures.told p x asks line lines other in
    let as_told = recites-as (reverse c.explain.new.recital.items) told (place_of c.hear_reply.new.self) after asks (line ∷ lines) items_are place_is in
    ((λ f. as_told.0 (law.0 f)), (λ r. law.1 (as_told.1 r))) in
    IsJudged-as c.args.heard (MayRecite (reverse c.explain.new.recital.items) (place_of c.hear_reply.new.self)) (MayAnswer p (taken (Why x))) c.recite.new.self c.recite.result
    (λ asks line lines hd. told_lines asks line lines (λ e. true≢false (sym ((c.hear_reply.ensures.heard line hd).1 e) ∙ c.if-hear_reply.false)))
    (λ asks line lines n. told_lines asks line lines n)
    c.recite.ensures.judged
