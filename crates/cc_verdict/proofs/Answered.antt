-- LINES THAT ANSWER A COMMAND by events and a reply, and go on.
use Rattle.std.proofs.Common.{arith, ◌≡◌, ℕ, List, [], ◌∷◌, ◌++◌, map, Option, Some, None, refl, sym, ap, subst, ◌∙◌}
use Rattle.std.specs.Prelude.{IsTrue}
use Rattle.cc_names.specs.declared.name.Name.{Name}
use Rattle.cc_model.specs.declared.command.Command.{Command}
use Rattle.cc_model.specs.declared.item.Reply.{Reply}
use Rattle.cc_model.specs.declared.item.Event.{Event}
use Rattle.cc_model.specs.Texts.{text_of_event, text_of_reply}
use Rattle.cc_model.specs.Answers.{Answer, Step, items_of, replying}
use Rattle.cc_model.specs.Asks.{Ask, taken}
use Rattle.cc_model.specs.Listed.{after_reply}
use Rattle.cc_model.specs.Lawful.{State, AnswersCommand, AnswersTaken, ReplyAnswers}
use Rattle.cc_model.specs.Quiet.{Row, row_after}
use Rattle.cc_verdict.specs.Following.{Follows, Place, Recites, lines_of_items, place, place_after}
use Rattle.cc_verdict.specs.Hearing.{Hearing, Hears, MayEnd, comes, ends, hearing, is_heard, nothing_told, place_ended, with_told}
use Rattle.cc_verdict.proofs.Comes.{EachMayCome, told-ended, told-names, with_all}
use Rattle.cc_verdict.proofs.HeardAnswers.{ended-graph}
use Rattle.cc_verdict.proofs.Turns.{first-follows, follows-first, heard-quiet}

-- events and a reply, and then other lines
abbrev pub answer_lines : List Event → Reply → List (List ℕ) → List (List ℕ)
answer_lines events reply rest = map text_of_event events ++ text_of_reply reply ∷ rest

pub record IsAnswered (p : Place) (c : Command) (asks : List Ask) (lines : List (List ℕ)) : Type 0 where
  pub events : List Event
  pub reply : Reply
  pub rest : List (List ℕ)
  pub lines_are : lines ≡ answer_lines events reply rest
  pub lawful : AnswersCommand p.state c reply events
  pub follows : Follows (place_after p (taken c) (replying events reply)) asks rest

lines-of_answer : (events : List Event) (reply : Reply) (rest : List (List ℕ)) →
    lines_of_items (items_of (replying events reply)) ++ rest ≡ answer_lines events reply rest
lines-of_answer [] reply rest = refl
lines-of_answer (e ∷ events) reply rest = ap (λ ls. text_of_event e ∷ ls) (lines-of_answer events reply rest)

-- the parts of an answer to a command that is heard
taken-parts : (s : State) (c : Command) (a : Answer) → IsTrue (is_heard c) → AnswersTaken s c a → (a.listed ≡ []) × (a.steps ≡ []) × ReplyAnswers s c a a.reply
taken-parts s c a is l = grind arith

parts-taken : (s : State) (c : Command) (events : List Event) (reply : Reply) → IsTrue (is_heard c) → AnswersCommand s c reply events →
    AnswersTaken s c (replying events reply)
parts-taken s c events reply is l = grind arith

abbrev answer_of : List Event → List Name → List Step → Option Reply → Answer
answer_of events names steps reply = record { events = events; listed = names; steps = steps; reply = reply }

pub follows-answered : (p : Place) (c : Command) (asks : List Ask) (lines : List (List ℕ)) → IsTrue (is_heard c) → Follows p (taken c ∷ asks) lines → IsAnswered p c asks lines
follows-answered p c asks lines is f =
    let t = follows-first p (taken c) asks lines f in
    let parts = taken-parts p.state c t.0 is t.1.lawful in
    go t.0.events t.0.listed t.0.steps t.0.reply parts.0 parts.1 parts.2 t.1.recites
  where
    go : (events : List Event) (names : List Name) (steps : List Step) (reply : Option Reply) → names ≡ [] → steps ≡ [] →
        ReplyAnswers p.state c (answer_of events names steps reply) reply →
        Recites (items_of (answer_of events names steps reply)) (place_after p (taken c) (answer_of events names steps reply)) asks lines → IsAnswered p c asks lines
    go events names steps None n s l r = absurd l
    go events names steps (Some reply) n s l r =
        let q : Recites (items_of (replying events reply)) (place_after p (taken c) (replying events reply)) asks lines =
        subst (λ (ss : List Step). Recites (items_of (answer_of events [] ss (Some reply))) (place_after p (taken c) (answer_of events [] ss (Some reply))) asks lines) s
        (subst (λ (xs : List Name). Recites (items_of (answer_of events xs steps (Some reply))) (place_after p (taken c) (answer_of events xs steps (Some reply))) asks lines) n r) in
        record {
          events = events;
          reply = reply;
          rest = q.rest;
          lines_are = q.lines_are ∙ lines-of_answer events reply q.rest;
          lawful = l;
          follows = q.follows;
        }

pub answered-follows : (p : Place) (c : Command) (asks : List Ask) (lines : List (List ℕ)) → IsTrue (is_heard c) → IsAnswered p c asks lines → Follows p (taken c ∷ asks) lines
answered-follows p c asks lines is a = first-follows p (taken c) asks lines (replying a.events a.reply) (record {
  lawful = parts-taken p.state c a.events a.reply is a.lawful;
  quiet = heard-quiet p.row p.state c is;
  recites = record { rest = a.rest; lines_are = a.lines_are ∙ sym (lines-of_answer a.events a.reply a.rest); follows = a.follows };
})

-- Lines that are heard

pub record IsHeard (asks : List Ask) (h : Hearing) (lines : List (List ℕ)) : Type 0 where
  pub events : List Event
  pub reply : Reply
  pub rest : List (List ℕ)
  pub lines_are : lines ≡ answer_lines events reply rest
  pub came : EachMayCome h events
  pub ending : MayEnd (with_all h events) reply
  pub follows : Follows (place_ended (with_all h events) reply) asks rest

pub hears-heard : (asks : List Ask) {h : Hearing} {lines : List (List ℕ)} → Hears asks h lines → IsHeard asks h lines
hears-heard asks (ends h reply line lines e may f) =
    record { events = []; reply = reply; rest = lines; lines_are = ap (λ l. l ∷ lines) e; came = tt; ending = may; follows = f }
hears-heard asks (comes h event line lines e may more) =
    let i = hears-heard asks more in
    record {
      events = event ∷ i.events;
      reply = i.reply;
      rest = i.rest;
      lines_are = (λ k. e k ∷ i.lines_are k);
      came = (may, i.came);
      ending = i.ending;
      follows = i.follows;
    }

heard-hears_from : (asks : List Ask) (h : Hearing) (events : List Event) (reply : Reply) (rest : List (List ℕ)) → EachMayCome h events →
    MayEnd (with_all h events) reply → Follows (place_ended (with_all h events) reply) asks rest → Hears asks h (answer_lines events reply rest)
heard-hears_from asks h [] reply rest came may f = ends h reply (text_of_reply reply) rest refl may f
heard-hears_from asks h (e ∷ events) reply rest came may f =
    comes h e (text_of_event e) (answer_lines events reply rest) refl came.0 (heard-hears_from asks (with_told h e) events reply rest came.1 may f)

pub heard-hears : (asks : List Ask) (h : Hearing) (lines : List (List ℕ)) → IsHeard asks h lines → Hears asks h lines
heard-hears asks h lines i = subst (Hears asks h) (sym i.lines_are) (heard-hears_from asks h i.events i.reply i.rest i.came i.ending i.follows)

-- The place after

row-of_reply : (row : Row) (c : Command) (events : List Event) (reply : Reply) → row_after row (taken c) (replying events reply) ≡ row_after row (taken c) (replying [] reply)
row-of_reply row c events reply = grind arith

-- where the reply may end the answer, a check stands behind it where the answer leads
pub place-ended : (p : Place) (c : Command) (events : List Event) (reply : Reply) → MayEnd (with_all (hearing p c) events) reply →
    place_ended (with_all (hearing p c) events) reply ≡ place_after p (taken c) (replying events reply)
place-ended p c events reply may =
    let graph = sym (ended-graph p c events reply may) in
    let told = nothing_told p.state.listed p.state.ended in
    let names = told-names told events in
    let ended = told-ended told events in
    let row = sym (row-of_reply p.row c events reply) in
    λ i. place (graph i) (after_reply (names i) c (Some reply)) (ended i) (row i)
