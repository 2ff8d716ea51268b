use Rattle.std.proofs.Common.{◌≡◌, ◌≢◌, ℕ, List, [], ◌∷◌, refl, sym, ap, ◌∙◌, subst, arith}
use Rattle.std.specs.Prelude.{◌↔◌}
use Rattle.std.proofs.lemmas.Bool.{and_right, true≢false, false≢true}
use Rattle.cc_model.specs.declared.item.Refusal.TheVariants as refusals
use Rattle.cc_model.specs.declared.item.Reply.{Reply}
use Rattle.cc_model.specs.declared.item.Reply.TheVariants as replies
use Rattle.cc_model.specs.Answers.{replying}
use Rattle.cc_model.specs.Asks.{Ask, taken}
use Rattle.cc_model.specs.Lawful.{is_without_memory, reply_with}
use Rattle.cc_model.specs.Texts.{text_of_reply}
use Rattle.cc_verdict.specs.Following.{Follows, place_after}
use Rattle.cc_verdict.specs.Hearing.{Hearing, Hears, hearing}
use Rattle.cc_verdict.specs.GoingOn.{CanGoOn}
use Rattle.cc_verdict.specs.Positions.{Position, GoesOn, within}
use Rattle.cc_verdict.proofs.Stays.{reply-granted}
use Rattle.cc_check.specs.declared.judge.Judge.{Judge}
use Rattle.cc_check.specs.Judging.{IsJudged, IsRefusedAt, MayAnswer, MayGoOn, reply_due}
use Rattle.cc_check.specs.Standing.{hearing_in, place_of, position_in, position_of}
use Rattle.cc_check.proofs.Judged.{between, IfOk-then, IsJudged-as}
use Rattle.cc_check.proofs.judge.Judge.begin_command.Goals as goal

abbrev no_memory : Reply
no_memory = replies.Refused refusals.NoMemory

pub returns-then-want_memory-clause-judged : goal.returns-then-want_memory-clause-judged
returns-then-want_memory-clause-judged c =
    let p = place_of c.args.self.now in
    let after = place_after p (taken c.args.command) (replying [] no_memory) in
    record {
      kept = c.want_memory.ensures.kept c.if-want_memory.true;
      yes = λ yes asks line lines hd.
          let is : line ≡ text_of_reply no_memory = (c.is.ensures line hd).0 c.if-is.true in
          let law = c.answers_are_heard.ensures.refused p c.args.command asks lines c.requires.is_heard in
          let may = c.want_memory.ensures.may.0 c.if-want_memory.true in
          let on = between _ after (c.want_memory.ensures.place c.if-want_memory.true) c.answers_are_recited_line_by_line.ensures.nothing asks lines in (
            (λ f. on.1 (law.0 (subst (λ (l : List ℕ). Follows p (taken c.args.command ∷ asks) (l ∷ lines)) is f)).3),
            (λ g. subst (λ (l : List ℕ). Follows p (taken c.args.command ∷ asks) (l ∷ lines)) (sym is) (law.1 (may.0, may.1, may.2, on.0 g))),
          );
      no = λ no. absurd (true≢false no);
      stands = λ no. absurd (true≢false no);
      refused = λ no. absurd (true≢false no);
    }

pub returns-then-is-clause-judged : goal.returns-then-is-clause-judged
returns-then-is-clause-judged c =
    let p = place_of c.args.self.now in
    let there : position_of c.step.new.self ≡ within (hearing p c.args.command) =
    ap (position_in c.step.new.self) c.in_ok-step.ensures.answer ∙ (ap within c.in_ok-step.ensures.hearing
    ∙ ap (λ (k : Judge). within (hearing (place_of k) c.args.command)) (c.want_memory.ensures.same c.if-want_memory.false)) in
    record {
      kept = c.in_ok-step.ensures.kept;
      yes = λ yes. absurd (false≢true yes);
      no = λ no asks line lines hd f.
          let is : line ≡ text_of_reply no_memory = (c.is.ensures line hd).0 c.if-is.true in
          let law = c.answers_are_heard.ensures.refused p c.args.command asks lines c.requires.is_heard in
          let parts = law.0 (subst (λ (l : List ℕ). Follows p (taken c.args.command ∷ asks) (l ∷ lines)) is f) in
          true≢false (sym (c.want_memory.ensures.may.1 (parts.0, parts.1, parts.2)) ∙ c.if-want_memory.false);
      stands = λ no asks line lines other.
          let law = c.answers_are_heard.ensures.heard p c.args.command asks line lines c.requires.is_heard other in
          subst (λ (q : Position). Follows p (taken c.args.command ∷ asks) (line ∷ lines) ↔ GoesOn q asks (line ∷ lines)) (sym there) law;
      refused = λ no asks line hd.
          let is : line ≡ text_of_reply no_memory = (c.is.ensures line hd).0 c.if-is.true in
          subst (λ (q : Position). IsRefusedAt q asks line) (sym there) (
            (λ e same may. c.lines_tell_items_apart.ensures.apart e no_memory (sym same ∙ is)),
            (λ same.
                let due : reply_due (hearing p c.args.command) ≡ reply_with p.state.ended p.state.graph c.args.command = grind (arith, and_right) in
                let want : no_memory ≡ reply_with p.state.ended p.state.graph c.args.command =
                c.lines_tell_items_apart.ensures.replies no_memory (reply_with p.state.ended p.state.graph c.args.command) (omega arith) (sym is ∙ (same ∙ ap text_of_reply due)) in
                true≢false (ap is_without_memory want ∙ reply-granted p.state.ended p.state.graph c.args.command)),
          );
    }

pub hear_within-requires-clause-can : goal.hear_within-requires-clause-can
hear_within-requires-clause-can c = subst (λ (h : Hearing). CanGoOn (within h) []) (sym c.in_ok-answer.ensures.hearing) (λ r. refl)

pub returns-clause-judged : goal.returns-clause-judged
returns-clause-judged c =
    let p = place_of c.args.self.now in
    let h = hearing_in c.step-2.new.self c.in_ok-answer.answer in
    let heard_lines : (asks : List Ask) (line : List ℕ) (lines : List (List ℕ)) → line ≢ text_of_reply no_memory → Follows p (taken c.args.command ∷ asks) (line ∷ lines) ↔ Hears asks h (line ∷ lines) =
    λ asks line lines other.
    let law = c.answers_are_heard.ensures.heard p c.args.command asks line lines c.requires.is_heard other in
    subst (λ (k : Hearing). Follows p (taken c.args.command ∷ asks) (line ∷ lines) ↔ Hears asks k (line ∷ lines)) (sym c.in_ok-answer.ensures.hearing) law in
    IfOk-then c.hear_within.result (IsJudged c.args.heard (MayGoOn h) c.hear_within.new.self)
    (IsJudged c.args.heard (MayAnswer p (taken c.args.command)) c.hear_within.new.self)
    (λ b j. IsJudged-as c.args.heard (MayGoOn h) (MayAnswer p (taken c.args.command)) c.hear_within.new.self b
    (λ asks line lines hd. heard_lines asks line lines (λ e. true≢false (sym ((c.is.ensures line hd).1 e) ∙ c.if-is.false)))
    (λ asks line lines n. heard_lines asks line lines n)
    j)
    c.hear_within.ensures.judged
