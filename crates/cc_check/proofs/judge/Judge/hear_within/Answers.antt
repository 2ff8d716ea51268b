use Rattle.std.proofs.Common.{◌≡◌, ◌≢◌, ℕ, ◌<◌, ◌^◌, Result, Ok, Err, Bool, true, false, not, ◌&&◌, List, [], ◌∷◌, Some, ⊎_elim, inl, inr, refl, sym, ap, ◌∙◌, subst, arith}
use Rattle.std.specs.Prelude.{◌↔◌, IfOk, OnOk}
use Rattle.std.proofs.lemmas.Bool.{and_from, or_right, true≢false, false≢true}
use Rattle.cc_model.specs.declared.item.Refusal.TheVariants.{NoMemory}
use Rattle.cc_model.specs.declared.item.Reply.TheVariants.{Refused}
use Rattle.cc_model.specs.Lawful.{is_gc, is_refused, runs_units}
use Rattle.cc_verdict.specs.GoingOn.{CanGoOn}
use Rattle.cc_verdict.specs.Positions.{Position, GoesOn, within}
use Rattle.cc_verdict.specs.Numbers.{number_in_event}
use Rattle.cc_model.specs.declared.item.Event.{Event}
use Rattle.cc_model.specs.declared.item.Event.TheVariants.{Unlinked, Freed, Abandoned}
use Rattle.cc_model.specs.declared.item.Reply.{Reply}
use Rattle.cc_model.specs.Asks.{Ask}
use Rattle.cc_model.specs.Texts.{text_of_event, text_of_reply}
use Rattle.cc_verdict.specs.Following.{Follows}
use Rattle.cc_verdict.specs.Hearing.{Hearing, Hears, IsOfGarbage, MayCome, MayEnd, place_ended, with_told}
use Rattle.cc_check.specs.declared.answer.Answer.{Answer}
use Rattle.cc_check.specs.declared.heard.Heard.{Heard}
use Rattle.cc_check.specs.declared.judge.Judge.{Judge}
use Rattle.cc_check.specs.Judging.{IsJudged, MayGoOn, reply_due}
use Rattle.cc_check.specs.Standing.{IsHeard, IsKept, IsNumberedIn, hearing_in, position_in, position_of}
use Rattle.cc_check.proofs.Judged.{between, refused-same, stands-same}
use Rattle.cc_check.proofs.Kept.{granted-in}
use Rattle.cc_check.proofs.Naming.{number-small}
use Rattle.cc_check.proofs.judge.Judge.hear_within.Goals as goal

-- what is listed has a small number
numbered : (j : Judge) → IsKept j → (e : Event) → IsOfGarbage j.graph j.listed e → IsNumberedIn e
numbered j k (Freed x) g = omega (arith, number-small j.graph x k.well_made k.limits (k.listed x g.0))
numbered j k (Unlinked x) g = omega (arith, number-small j.graph x k.well_made k.limits (k.listed x g.0))
numbered j k Abandoned g = tt

pub end-requires-clause-may_end : goal.end-requires-clause-may_end
end-requires-clause-may_end c = c.in-Some-ended_by.ensures.may_end c.args.self.now.graph c.args.self.now.listed c.args.self.now.ended c.args.self.now.row

-- the reply that is due may end an answer that can go on
due-ends : (j : Judge) (a : Answer) → IsKept j → j.answer ≡ Some a → CanGoOn (within (hearing_in j a)) [] → MayEnd (hearing_in j a) (reply_due (hearing_in j a))
due-ends j a k e can = go (runs_units a.command) a.abandoned refl refl
  where
    h : Hearing
    h = hearing_in j a

    granted : runs_units a.command ≡ true → is_refused a.reply ≡ false
    granted u = granted-in j a k e (or_right (is_gc a.command) (runs_units a.command) u)

    go : (u b : Bool) → runs_units a.command ≡ u → a.abandoned ≡ b → MayEnd h (elim (u && b) [ true ↦ Refused NoMemory | false ↦ a.reply ])
    go true true u b = inr (record { refused = refl; units = u; abandoned = b })
    go true false u b = inl (record { same = refl; quiet = λ r. absurd (true≢false (sym r ∙ granted u)); whole = λ _. b })
    go false true u b = inl (record { same = refl; quiet = λ r. can (and_from (is_refused a.reply) (not (runs_units a.command)) r (ap not u)); whole = λ t. absurd (true≢false (sym t ∙ u)) })
    go false false u b = inl (record { same = refl; quiet = λ r. can (and_from (is_refused a.reply) (not (runs_units a.command)) r (ap not u)); whole = λ t. absurd (true≢false (sym t ∙ u)) })

-- the line of an event is judged as the event is
event-judged : {E : Type 0} (heard : Heard) (h : Hearing) (e : Event) (k : Judge) (r : Result Bool E) → number_in_event e < 2 ^ 32 →
    ((line : List ℕ) → IsHeard heard line → line ≡ text_of_event e) → OnOk r (IsKept k) → IfOk r (λ b. b ≡ true → MayCome h e) →
    IfOk r (λ b. b ≡ true → position_of k ≡ within (with_told h e)) → IfOk r (λ b. b ≡ false → ¬ (MayCome h e)) → IfOk r (λ b. b ≡ false → position_of k ≡ within h) →
    ((asks : List Ask) (lines : List (List ℕ)) → Hears asks h (text_of_event e ∷ lines) ↔ (MayCome h e × Hears asks (with_told h e) lines)) →
    ((f g : Event) → number_in_event f < 2 ^ 32 → text_of_event f ≡ text_of_event g → f ≡ g) → ((f : Event) (q : Reply) → text_of_event f ≢ text_of_reply q) →
    IfOk r (IsJudged heard (MayGoOn h) k)
event-judged heard h e k (Err err) small line_is kept may place not_may stays law events apart = may
event-judged heard h e k (Ok b) small line_is kept may place not_may stays law events apart = record {
  kept = kept;
  yes = λ yes asks line lines hd. (
    (λ s. subst (λ (q : Position). GoesOn q asks lines) (sym (place yes))
        ((law asks lines).0 (subst (λ (l : List ℕ). Hears asks h (l ∷ lines)) (line_is line hd) s)).1),
    (λ g. subst (λ (l : List ℕ). Hears asks h (l ∷ lines)) (sym (line_is line hd))
        ((law asks lines).1 (may yes, subst (λ (q : Position). GoesOn q asks lines) (place yes) g))),
  );
  no = λ no asks line lines hd s. not_may no ((law asks lines).0 (subst (λ (l : List ℕ). Hears asks h (l ∷ lines)) (line_is line hd) s)).0;
  stands = λ no. stands-same (position_of k) (within h) (stays no);
  refused = λ no asks line hd. refused-same (position_of k) (within h) asks line (stays no) (
    (λ f is may_come. not_may no (subst (MayCome h) (sym (events e f small (sym (line_is line hd) ∙ is))) may_come)),
    (λ is. apart e (reply_due h) (sym (line_is line hd) ∙ is)),
  );
}

pub returns-in-Some-clause-judged : goal.returns-in-Some-clause-judged
returns-in-Some-clause-judged c =
    event-judged c.args.heard (hearing_in c.args.self.now c.args.answer) c.in-Some.event c.hear_event.new.self c.hear_event.result
    c.events_have_small_numbers.ensures (λ line hd. c.in-Some.ensures.sound line hd)
    c.hear_event.ensures.kept c.hear_event.ensures.yes c.hear_event.ensures.place c.hear_event.ensures.no c.hear_event.ensures.stays
    (λ asks lines. c.answers_are_heard_line_by_line.ensures.event (hearing_in c.args.self.now c.args.answer) c.in-Some.event asks lines c.events_have_small_numbers.ensures)
    c.lines_tell_items_apart.ensures.events c.lines_tell_items_apart.ensures.apart

pub returns-in_ok-end-in-Some-ended_by-clause-judged : goal.returns-in_ok-end-in-Some-ended_by-clause-judged
returns-in_ok-end-in-Some-ended_by-clause-judged c =
    let h = hearing_in c.args.self.now c.args.answer in
    let reply = c.in-Some-ended_by.reply in
    let may : MayEnd h reply = c.in-Some-ended_by.ensures.may_end c.args.self.now.graph c.args.self.now.listed c.args.self.now.ended c.args.self.now.row in
    record {
      kept = c.in_ok-end-in-Some-ended_by.ensures.kept;
      yes = λ yes asks line lines hd.
          let is : line ≡ text_of_reply reply = c.in-Some-ended_by.ensures.line line hd in
          let law : Hears asks h (text_of_reply reply ∷ lines) ↔ (MayEnd h reply × Follows (place_ended h reply) asks lines) =
          c.answers_are_heard_line_by_line.ensures.reply h reply asks lines c.replies_have_small_numbers.ensures in
          let on = between _ (place_ended h reply) c.in_ok-end-in-Some-ended_by.ensures.place c.answers_are_recited_line_by_line.ensures.nothing asks lines in (
            (λ s. on.1 (law.0 (subst (λ (l : List ℕ). Hears asks h (l ∷ lines)) is s)).1),
            (λ g. subst (λ (l : List ℕ). Hears asks h (l ∷ lines)) (sym is) (law.1 (may, on.0 g))),
          );
      no = λ no. absurd (true≢false no);
      stands = λ no. absurd (true≢false no);
      refused = λ no. absurd (true≢false no);
    }

pub returns-in-None-clause-judged : goal.returns-in-None-clause-judged
returns-in-None-clause-judged c =
    let h = hearing_in c.args.self.now c.args.answer in
    let there : position_of c.args.self.now ≡ within h = ap (position_in c.args.self.now) c.requires.answer in
    record {
      kept = c.requires.kept;
      yes = λ yes. absurd (false≢true yes);
      stands = λ no. stands-same (position_of c.args.self.now) (within h) there;
      refused = λ no asks line hd. refused-same (position_of c.args.self.now) (within h) asks line there (
        (λ e is may. c.in_default.not-Some e (c.event.ensures.complete line e hd is (numbered c.args.self.now c.requires.kept e may.garbage))),
        (λ is. c.in-None.ensures.none c.args.self.now.graph c.args.self.now.listed c.args.self.now.ended c.args.self.now.row line (reply_due h) hd is
            (due-ends c.args.self.now c.args.answer c.requires.kept c.requires.answer c.requires.can)),
      );
      no = λ no asks line lines hd s. ⊎_elim
          (λ e. c.in_default.not-Some e.0 (c.event.ensures.complete line e.0 hd e.1 (numbered c.args.self.now c.requires.kept e.0 e.2.garbage)))
          (λ r. c.in-None.ensures.none c.args.self.now.graph c.args.self.now.listed c.args.self.now.ended c.args.self.now.row line r.0 hd r.1 r.2)
          (c.answers_are_heard_line_by_line.ensures.either h asks line lines s);
    }
