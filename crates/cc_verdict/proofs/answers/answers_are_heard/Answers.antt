use Rattle.std.proofs.Common.{◌≡◌, ◌≢◌, ℕ, Bool, true, false, ◌&&◌, List, [], ◌∷◌, get_or, drop, None, refl, sym, ap, subst, ◌∙◌, ⊎_elim, inr, eq-eqb, le-leb, arith}
use Rattle.std.proofs.lemmas.Bool.{false≢true, true≢false}
use Rattle.cc_model.specs.declared.command.Command.{Command}
use Rattle.cc_model.specs.declared.item.Event.{Event}
use Rattle.cc_model.specs.declared.item.Event.TheVariants.{Unlinked, Freed, Abandoned}
use Rattle.cc_model.specs.declared.item.Refusal.{Refusal}
use Rattle.cc_model.specs.declared.item.Refusal.TheVariants as refusal
use Rattle.cc_model.specs.declared.item.Reply.{Reply}
use Rattle.cc_model.specs.declared.item.Reply.TheVariants as reply
use Rattle.cc_model.specs.Answers.{replying}
use Rattle.cc_model.specs.Asks.{Ask, taken}
use Rattle.cc_model.specs.Checks.{refusal_of}
use Rattle.cc_model.specs.Graph.{objects_of}
use Rattle.cc_model.specs.Lawful.{AnswersCommand, State, WantsMemory, has_abandonment_in_place, is_gc, is_without_memory, may_want_memory, runs_allowed, runs_units}
use Rattle.cc_model.specs.Texts.{text_of_event, text_of_refusal, text_of_reply}
use Rattle.cc_verdict.specs.Following.{Follows, Place, place_after}
use Rattle.cc_verdict.specs.Hearing.{hearing}
use Rattle.cc_verdict.proofs.Answered.{answer_lines, answered-follows, follows-answered, heard-hears, hears-heard, place-ended}
use Rattle.cc_verdict.proofs.HeardAnswers.{answers-heard, heard-answers}
use Rattle.cc_verdict.proofs.Stays.{reply-granted}
use Rattle.cc_verdict.proofs.answers.answers_are_heard.Goals as goal

abbrev no_memory : Reply
no_memory = reply.Refused refusal.NoMemory

-- Want of memory alone

abbrev byte_at : ℕ → List ℕ → ℕ
byte_at i line = get_or line i 0

-- a refusal with the line of want of memory is it
refusal-no_memory : (r : Refusal) → text_of_refusal r ≡ text_of_reply no_memory → r ≡ refusal.NoMemory
refusal-no_memory refusal.Long e = absurd (false≢true (eq-eqb 108 110 (ap (byte_at 2) e)))
refusal-no_memory refusal.Line e = absurd (false≢true (eq-eqb 108 110 (ap (byte_at 2) e)))
refusal-no_memory refusal.Empty e = absurd (false≢true (eq-eqb 101 110 (ap (byte_at 2) e)))
refusal-no_memory refusal.Kind e = absurd (false≢true (eq-eqb 107 110 (ap (byte_at 2) e)))
refusal-no_memory refusal.Slot e = absurd (false≢true (eq-eqb 115 110 (ap (byte_at 2) e)))
refusal-no_memory refusal.Full e = absurd (false≢true (eq-eqb 102 110 (ap (byte_at 2) e)))
refusal-no_memory refusal.NoMemory e = refl

reply-no_memory : (r : Reply) → text_of_reply r ≡ text_of_reply no_memory → r ≡ no_memory
reply-no_memory (reply.Named x) e = absurd (false≢true (eq-eqb 61 33 (ap (byte_at 0) e)))
reply-no_memory reply.Nothing e = absurd (false≢true (eq-eqb 61 33 (ap (byte_at 0) e)))
reply-no_memory reply.Done e = absurd (false≢true (eq-eqb 61 33 (ap (byte_at 0) e)))
reply-no_memory (reply.Census n) e = absurd (false≢true (eq-eqb 61 33 (ap (byte_at 0) e)))
reply-no_memory (reply.Refused r) e = ap reply.Refused (refusal-no_memory r e)

event-memory : (e : Event) → text_of_event e ≢ text_of_reply no_memory
event-memory (Unlinked x) e = false≢true (eq-eqb 45 33 (ap (byte_at 0) e))
event-memory (Freed x) e = false≢true (eq-eqb 45 33 (ap (byte_at 0) e))
event-memory Abandoned e = false≢true (eq-eqb 45 33 (ap (byte_at 0) e))

-- want of memory alone is lawful only where the command may want it, and is not refused
unmet-parts : (s : State) (c : Command) → AnswersCommand s c no_memory [] →
    (may_want_memory s c ≡ true) × (refusal_of (objects_of s.graph) c ≡ None)
unmet-parts s c a = ⊎_elim
    (λ same. absurd (true≢false (ap is_without_memory same ∙ reply-granted s.ended s.graph c)))
    (λ (w : WantsMemory s c no_memory). (w.command_may, w.no_other))
    a.replies

-- want of memory alone is no answer where units run
no-units : (c : Command) → has_abandonment_in_place c no_memory [] ≡ true → runs_units c ≡ false
no-units c h = go (runs_units c) refl
  where
    go : (u : Bool) → runs_units c ≡ u → runs_units c ≡ false
    go false e = e
    go true e = absurd (false≢true (sym (ap (λ (b : Bool). elim (b && true) [ true ↦ false | false ↦ elim (is_gc c) [ true ↦ true | false ↦ true ] ]) e) ∙ h))

unmet-answers : (s : State) (c : Command) → may_want_memory s c ≡ true → refusal_of (objects_of s.graph) c ≡ None → runs_units c ≡ false →
    AnswersCommand s c no_memory []
unmet-answers s c may none units = record {
  replies = inr (record { refused = refl; command_may = may; no_other = none });
  quiet = λ q. refl;
  each = tt;
  rising = le-leb 0 (runs_allowed c) (omega arith);
  abandonment = ap (λ (b : Bool). elim (b && true) [ true ↦ false | false ↦ elim (is_gc c) [ true ↦ true | false ↦ true ] ]) units ∙ go (is_gc c);
}
  where
    go : (gc : Bool) → elim gc [ true ↦ true | false ↦ true ] ≡ true
    go true = refl
    go false = refl

-- where want of memory is the first line, it is the answer
unmet-from : (p : Place) (c : Command) (asks : List Ask) (lines : List (List ℕ)) (events : List Event) (r : Reply) (rest : List (List ℕ)) →
    text_of_reply no_memory ∷ lines ≡ answer_lines events r rest → AnswersCommand p.state c r events → Follows (place_after p (taken c) (replying events r)) asks rest →
    AnswersCommand p.state c no_memory [] × Follows (place_after p (taken c) (replying [] no_memory)) asks lines
unmet-from p c asks lines [] r rest e a f =
    let is : r ≡ no_memory = reply-no_memory r (sym (ap (λ ls. get_or ls 0 []) e)) in (
      subst (λ (q : Reply). AnswersCommand p.state c q []) is a,
      subst (Follows (place_after p (taken c) (replying [] no_memory)) asks) (sym (ap (drop 1) e))
          (subst (λ (q : Reply). Follows (place_after p (taken c) (replying [] q)) asks rest) is f),
    )
unmet-from p c asks lines (event ∷ events) r rest e a f = absurd (event-memory event (sym (ap (λ ls. get_or ls 0 []) e)))

pub returns-clause-refused : goal.returns-clause-refused
returns-clause-refused c = λ p command asks lines heard. (
  (λ f. let a = follows-answered p command asks (text_of_reply no_memory ∷ lines) heard f in
      let u = unmet-from p command asks lines a.events a.reply a.rest a.lines_are a.lawful a.follows in
      let parts = unmet-parts p.state command u.0 in
      (parts.0, parts.1, no-units command u.0.abandonment, u.1)),
  (λ w. answered-follows p command asks (text_of_reply no_memory ∷ lines) heard (record {
    events = [];
    reply = no_memory;
    rest = lines;
    lines_are = refl;
    lawful = unmet-answers p.state command w.0 w.1 w.2;
    follows = w.3;
  })),
)

-- Events and a reply

-- where want of memory is not the first line, there is an event, or another reply
no-first : (line : List ℕ) (lines rest : List (List ℕ)) (events : List Event) (r : Reply) → line ∷ lines ≡ answer_lines events r rest →
    line ≢ text_of_reply no_memory → events ≡ [] → r ≢ no_memory
no-first line lines rest events r e other none is = other (ap (λ ls. get_or ls 0 [])
    (e ∙ (ap (λ (es : List Event). answer_lines es r rest) none ∙ ap (λ (q : Reply). answer_lines [] q rest) is)))

pub returns-clause-heard : goal.returns-clause-heard
returns-clause-heard c = λ p command asks line lines heard other. (
  (λ f. let a = follows-answered p command asks (line ∷ lines) heard f in
      let h = answers-heard p command a.events a.reply a.lawful (no-first line lines a.rest a.events a.reply a.lines_are other) in
      heard-hears asks (hearing p command) (line ∷ lines) (record {
        events = a.events;
        reply = a.reply;
        rest = a.rest;
        lines_are = a.lines_are;
        came = h.0;
        ending = h.1;
        follows = subst (λ (q : Place). Follows q asks a.rest) (sym (place-ended p command a.events a.reply h.1)) a.follows;
      })),
  (λ s. let h = hears-heard asks s in
      answered-follows p command asks (line ∷ lines) heard (record {
        events = h.events;
        reply = h.reply;
        rest = h.rest;
        lines_are = h.lines_are;
        lawful = heard-answers p command h.events h.reply h.came h.ending;
        follows = subst (λ (q : Place). Follows q asks h.rest) (place-ended p command h.events h.reply h.ending) h.follows;
      })),
)

-- No lines are no answer

no-lines : (events : List Event) (r : Reply) (rest : List (List ℕ)) → [] ≡ answer_lines events r rest → ⊥
no-lines [] r rest e = cc
no-lines (event ∷ events) r rest e = cc

pub returns-clause-end : goal.returns-clause-end
returns-clause-end c = λ p command asks heard f. let a = follows-answered p command asks [] heard f in no-lines a.events a.reply a.rest a.lines_are
