-- The test of a lawful transcript says yes exactly where a transcript is lawful.
use Rattle.std.proofs.Common.{◌≡◌, ◌↔◌, ℕ, Bool, true, false, not, ◌&&◌, ◌==◌, List, [], ◌∷◌, Option, Some, None, is_none, refl, sym, ◌∙◌, ap, subst, arith}
use Rattle.std.specs.Prelude.{IsTrue}
use Rattle.std.proofs.lemmas.Bool.{not-true, not_from_false, and_parts, and_from, and_right, false≢true, true≢false, eqb-true, eq-eqb}
use Rattle.cc_lists.specs.Members.{has}
use Rattle.cc_names.specs.Allowance.{Allowance}
use Rattle.cc_names.specs.declared.name.Name.{Name}
use Rattle.cc_names.specs.declared.register.Reg.{Reg}
use Rattle.cc_names.specs.declared.register.Reg.TheVariants.{N, S, W}
use Rattle.cc_names.specs.Names.{same_name}
use Rattle.cc_names.proofs.NameTests.{same_name-true, same_name-refl}
use Rattle.cc_model.specs.declared.command.Command.{Command}
use Rattle.cc_model.specs.declared.command.Command.TheVariants as command
use Rattle.cc_model.specs.declared.item.Refusal.{Refusal}
use Rattle.cc_model.specs.declared.item.Refusal.TheVariants.{Long, Line, Empty, Kind, Slot, Full, NoMemory}
use Rattle.cc_model.specs.declared.item.Reply.{Reply}
use Rattle.cc_model.specs.declared.item.Reply.TheVariants.{Named, Nothing, Done, Census, Refused}
use Rattle.cc_model.specs.declared.item.Event.{Event}
use Rattle.cc_model.specs.declared.item.Event.TheVariants.{Unlinked, Freed, Abandoned}
use Rattle.cc_model.specs.declared.item.Reason.{Reason}
use Rattle.cc_model.specs.declared.item.Reason.TheVariants.{Root, Edge, Pair}
use Rattle.cc_model.specs.Answers.{Answer, Step}
use Rattle.cc_model.specs.Derivations.{leads_made, why_of}
use Rattle.cc_model.specs.Asks.{Ask, long, bad, taken, asks_of}
use Rattle.cc_model.specs.Checks.{refusal_of}
use Rattle.cc_model.specs.Graph.{Graph, objects_of}
use Rattle.cc_model.specs.Reached.{Reached, reached_names}
use Rattle.cc_model.specs.Listed.{after_event}
use Rattle.cc_model.specs.Lawful.{State, start, next, reply_with, graph_after, may_want_memory, is_without_memory, is_refused, is_abandoning, may_free, may_unlink, has_abandonment_in_place, census_of, MayBe, EachMayBe, WantsMemory, RepliesWith, AnswersCommand, ReplyAnswers, AnswersTaken, AnswersAsk, IsLawfulFrom, IsLawful}
use Rattle.cc_model.proofs.Reaching.{reached-decided}
use Rattle.cc_model.proofs.Replies.{is_without_memory-true}
use Rattle.cc_worked.specs.Examples.{answers_to, IsLawfulRun}
use Rattle.cc_worked.specs.Verdict.{place_of_refusal, refusal_at, same_reply, same_replies, same_names, same_register, same_reason, same_steps, has_events, is_answer, wants_memory, replies_with, may_have, is_garbage, may_be, each_may_be, is_rising, answers_command, reply_answers, answers_taken, answers_ask, is_lawful_from, is_lawful, is_quiet, passes_verdict}
use Rattle.cc_worked.proofs.Deciding.{both-decided, three-decided, either-decided, not-decided, itself-decided, has-decided, is_none-decided}

-- Equal replies and answers

-- A refusal is found again by its place.
refusal_at-place : (r : Refusal) → refusal_at (place_of_refusal r) ≡ r
refusal_at-place Long = refl
refusal_at-place Line = refl
refusal_at-place Empty = refl
refusal_at-place Kind = refl
refusal_at-place Slot = refl
refusal_at-place Full = refl
refusal_at-place NoMemory = refl

-- Refusals with the same place are the same.
same_place-true : (r q : Refusal) → (place_of_refusal r == place_of_refusal q) ≡ true → r ≡ q
same_place-true r q e =
    sym (refusal_at-place r) ∙ (ap refusal_at (eqb-true (place_of_refusal r) (place_of_refusal q) e) ∙ refusal_at-place q)

-- The test of equal replies says yes to equal ones alone.
same_reply-true : (a b : Reply) → same_reply a b ≡ true → a ≡ b
same_reply-true (Named x) (Named y) e = ap Named (same_name-true x y e)
same_reply-true Nothing Nothing e = refl
same_reply-true Done Done e = refl
same_reply-true (Census m) (Census n) e = ap Census (eqb-true m n e)
same_reply-true (Refused r) (Refused q) e = ap Refused (same_place-true r q e)
same_reply-true _ _ e = absurd (false≢true e)

-- It says yes to a reply and itself.
same_reply-refl : (a : Reply) → same_reply a a ≡ true
same_reply-refl (Named x) = same_name-refl x
same_reply-refl Nothing = refl
same_reply-refl Done = refl
same_reply-refl (Census m) = eq-eqb m m refl
same_reply-refl (Refused r) = eq-eqb (place_of_refusal r) (place_of_refusal r) refl

-- Equality of replies is decided.
same_reply-decided : (a b : Reply) → IsTrue (same_reply a b) ↔ (a ≡ b)
same_reply-decided a b = (same_reply-true a b, λ e. subst (λ z. IsTrue (same_reply a z)) e (same_reply-refl a))

-- The same of replies that may be missing.
same_replies-true : (a b : Option Reply) → same_replies a b ≡ true → a ≡ b
same_replies-true None None e = refl
same_replies-true (Some a) (Some b) e = ap (λ r. Some r) (same_reply-true a b e)
same_replies-true _ _ e = absurd (false≢true e)

same_replies-refl : (a : Option Reply) → same_replies a a ≡ true
same_replies-refl None = refl
same_replies-refl (Some a) = same_reply-refl a

-- The same of lists of names.
same_names-true : (xs ys : List Name) → same_names xs ys ≡ true → xs ≡ ys
same_names-true [] [] e = refl
same_names-true (x ∷ xs) (y ∷ ys) e =
    let k = and_parts (same_name x y) (same_names xs ys) e in
    ap (λ z. z ∷ xs) (same_name-true x y k.0) ∙ ap (λ zs. y ∷ zs) (same_names-true xs ys k.1)
same_names-true _ _ e = absurd (false≢true e)

same_names-refl : (xs : List Name) → same_names xs xs ≡ true
same_names-refl [] = refl
same_names-refl (x ∷ xs) = and_from (same_name x x) (same_names xs xs) (same_name-refl x) (same_names-refl xs)

same_names-decided : (xs ys : List Name) → IsTrue (same_names xs ys) ↔ (xs ≡ ys)
same_names-decided xs ys = (same_names-true xs ys, λ e. subst (λ z. IsTrue (same_names xs z)) e (same_names-refl xs))

-- The same of registers, reasons and steps.
same_register-true : (p q : Reg) → same_register p q ≡ true → p ≡ q
same_register-true (N j) (N k) e = grind (arith, eqb-true)
same_register-true (S j) (S k) e = grind (arith, eqb-true)
same_register-true (W j) (W k) e = grind (arith, eqb-true)
same_register-true _ _ e = absurd (false≢true e)

same_register-refl : (p : Reg) → same_register p p ≡ true
same_register-refl (N k) = eq-eqb k k refl
same_register-refl (S k) = eq-eqb k k refl
same_register-refl (W k) = eq-eqb k k refl

same_reason-true : (r q : Reason) → same_reason r q ≡ true → r ≡ q
same_reason-true (Root p) (Root q) e = ap Root (same_register-true p q e)
same_reason-true (Edge x) (Edge y) e = ap Edge (same_name-true x y e)
same_reason-true (Pair x k) (Pair y l) e =
    let p = and_parts (same_name x y) (same_name k l) e in
    ap (λ z. Pair z k) (same_name-true x y p.0) ∙ ap (λ z. Pair y z) (same_name-true k l p.1)
same_reason-true _ _ e = absurd (false≢true e)

same_reason-refl : (r : Reason) → same_reason r r ≡ true
same_reason-refl (Root p) = same_register-refl p
same_reason-refl (Edge x) = same_name-refl x
same_reason-refl (Pair x k) = and_from (same_name x x) (same_name k k) (same_name-refl x) (same_name-refl k)

same_steps-true : (ss ts : List Step) → same_steps ss ts ≡ true → ss ≡ ts
same_steps-true [] [] e = refl
same_steps-true (s ∷ ss) (t ∷ ts) e =
    let k = and_parts (same_name s.0 t.0) (same_reason s.1 t.1 && same_steps ss ts) e in
    let l = and_parts (same_reason s.1 t.1) (same_steps ss ts) k.1 in
    ap (λ x. (x, s.1) ∷ ss) (same_name-true s.0 t.0 k.0)
    ∙ (ap (λ r. (t.0, r) ∷ ss) (same_reason-true s.1 t.1 l.0) ∙ ap (λ us. t ∷ us) (same_steps-true ss ts l.1))
same_steps-true _ _ e = absurd (false≢true e)

same_steps-refl : (ss : List Step) → same_steps ss ss ≡ true
same_steps-refl [] = refl
same_steps-refl (s ∷ ss) = and_from (same_name s.0 s.0) (same_reason s.1 s.1 && same_steps ss ss) (same_name-refl s.0)
    (and_from (same_reason s.1 s.1) (same_steps ss ss) (same_reason-refl s.1) (same_steps-refl ss))

same_steps-decided : (ss ts : List Step) → IsTrue (same_steps ss ts) ↔ (ss ≡ ts)
same_steps-decided ss ts = (same_steps-true ss ts, λ e. subst (λ z. IsTrue (same_steps ss z)) e (same_steps-refl ss))

-- A list that has no events is empty.
has_events-false : (es : List Event) → has_events es ≡ false → es ≡ []
has_events-false [] e = refl
has_events-false (x ∷ es) e = absurd (true≢false e)

-- an answer by its parts
abbrev answer_of : List Event → List Name → List Step → Option Reply → Answer
answer_of es names steps reply = record { events = es; listed = names; steps = steps; reply = reply }

-- The test of an answer without events says yes to that answer alone.
is_answer-true : (a : Answer) (names : List Name) (steps : List Step) (reply : Option Reply) → is_answer a names steps reply ≡ true → a ≡ answer_of [] names steps reply
is_answer-true a names steps reply e =
    let k = and_parts (not (has_events a.events)) (same_names a.listed names && (same_steps a.steps steps && same_replies a.reply reply)) e in
    let l = and_parts (same_names a.listed names) (same_steps a.steps steps && same_replies a.reply reply) k.1 in
    let m = and_parts (same_steps a.steps steps) (same_replies a.reply reply) l.1 in
    ap (λ z. answer_of z a.listed a.steps a.reply) (has_events-false a.events (not-true (has_events a.events) k.0))
    ∙ (ap (λ z. answer_of [] z a.steps a.reply) (same_names-true a.listed names l.0)
    ∙ (ap (λ z. answer_of [] names z a.reply) (same_steps-true a.steps steps m.0)
    ∙ ap (λ z. answer_of [] names steps z) (same_replies-true a.reply reply m.1)))

-- Being an answer without events is decided.
is_answer-decided : (a : Answer) (names : List Name) (steps : List Step) (reply : Option Reply) → IsTrue (is_answer a names steps reply) ↔ (a ≡ answer_of [] names steps reply)
is_answer-decided a names steps reply = (
  is_answer-true a names steps reply,
  (λ e. subst (λ z. IsTrue (is_answer z names steps reply)) (sym e)
      (and_from (same_names names names) (same_steps steps steps && same_replies reply reply) (same_names-refl names)
      (and_from (same_steps steps steps) (same_replies reply reply) (same_steps-refl steps) (same_replies-refl reply)))),
)

-- The five clauses

-- Want of memory is told by its reply.
is_without_memory-decided : (r : Reply) → IsTrue (is_without_memory r) ↔ (r ≡ Refused NoMemory)
is_without_memory-decided r = (is_without_memory-true r, λ e. subst (λ z. IsTrue (is_without_memory z)) (sym e) refl)

-- Whether memory may be refused is decided.
wants_memory-decided : (s : State) (c : Command) (r : Reply) → IsTrue (wants_memory s c r) ↔ WantsMemory s c r
wants_memory-decided s c r =
    let k = three-decided (is_without_memory r) (may_want_memory s c) (is_none (refusal_of (objects_of s.graph) c))
    (is_without_memory-decided r) (itself-decided (may_want_memory s c)) (is_none-decided (refusal_of (objects_of s.graph) c)) in (
      (λ h. let p = k.0 h in record { refused = p.0; command_may = p.1; no_other = p.2 }),
      (λ w. k.1 (w.refused, w.command_may, w.no_other)),
    )

-- The first clause is decided.
replies_with-decided : (s : State) (c : Command) (r : Reply) → IsTrue (replies_with s c r) ↔ RepliesWith s c r
replies_with-decided s c r =
    either-decided (same_reply r (reply_with s.ended s.graph c)) (wants_memory s c r) (same_reply-decided r (reply_with s.ended s.graph c)) (wants_memory-decided s c r)

-- Of two tests that do not both hold, the first fails where the second holds.
first-fails : (a b : Bool) → not (a && b) ≡ true → b ≡ true → a ≡ false
first-fails true true e h = absurd (false≢true e)
first-fails true false e h = absurd (false≢true h)
first-fails false b e h = refl

-- Two tests do not both hold where the first one fails as soon as the second holds.
not-both : (a b : Bool) → (b ≡ true → a ≡ false) → not (a && b) ≡ true
not-both a true f = subst (λ z. not (z && true) ≡ true) (sym (f refl)) refl
not-both a false f = not_from_false (a && false) (and_right a false refl)

-- The second clause is decided.
may_have-decided : (c : Command) (r : Reply) (es : List Event) →
    IsTrue (may_have c r es) ↔ (IsTrue (is_refused r && not (is_abandoning c r)) → es ≡ [])
may_have-decided c r es = (
  (λ h e. has_events-false es (first-fails (has_events es) (is_refused r && not (is_abandoning c r)) h e)),
  (λ f. not-both (has_events es) (is_refused r && not (is_abandoning c r)) (λ e. subst (λ z. has_events z ≡ false) (sym (f e)) refl)),
)

-- What is reached no more is decided.
is_garbage-decided : (g : Graph) (x : Name) → IsTrue (is_garbage g x) ↔ (¬ (Reached g x))
is_garbage-decided g x = not-decided (has same_name (reached_names g) x) (reached-decided g x)

-- Whether an event may stand where it stands is decided.
may_be-decided : (g : Graph) (names : List Name) (c : Command) (e : Event) → IsTrue (may_be g names c e) ↔ MayBe g names c e
may_be-decided g names c (Freed x) = three-decided (has same_name names x) (is_garbage g x) (may_free c x)
    (has-decided names x) (is_garbage-decided g x) (itself-decided (may_free c x))
may_be-decided g names c (Unlinked x) = three-decided (has same_name names x) (is_garbage g x) (may_unlink c x)
    (has-decided names x) (is_garbage-decided g x) (itself-decided (may_unlink c x))
may_be-decided g names c Abandoned = ((λ h. tt), (λ u. refl))

-- The third and the fourth clause are decided.
each_may_be-decided : (g : Graph) (names : List Name) (c : Command) (es : List Event) → IsTrue (each_may_be g names c es) ↔ EachMayBe g names c es
each_may_be-decided g names c [] = ((λ h. tt), (λ u. refl))
each_may_be-decided g names c (e ∷ es) = both-decided (may_be g names c e) (each_may_be g (after_event names e) c es)
    (may_be-decided g names c e) (each_may_be-decided g (after_event names e) c es)

-- All five clauses are decided.
answers_command-decided : (s : State) (c : Command) (r : Reply) (es : List Event) → IsTrue (answers_command s c r es) ↔ AnswersCommand s c r es
answers_command-decided s c r es = (
  (λ h. let p = first_two.0 h in let q = last_three.0 p.2 in
      record { replies = p.0; quiet = p.1; each = q.0; rising = q.1; abandonment = q.2 }),
  (λ a. first_two.1 (a.replies, a.quiet, last_three.1 (a.each, a.rising, a.abandonment))),
)
  where
    after : Graph
    after = graph_after s.ended s.graph c (Some r)

    last_three : IsTrue (each_may_be after s.listed c es && (is_rising c es && has_abandonment_in_place c r es))
        ↔ (EachMayBe after s.listed c es × IsTrue (is_rising c es) × IsTrue (has_abandonment_in_place c r es))
    last_three = three-decided (each_may_be after s.listed c es) (is_rising c es) (has_abandonment_in_place c r es)
        (each_may_be-decided after s.listed c es) (itself-decided (is_rising c es)) (itself-decided (has_abandonment_in_place c r es))

    rest : Bool
    rest = each_may_be after s.listed c es && (is_rising c es && has_abandonment_in_place c r es)

    first_two : IsTrue (replies_with s c r && (may_have c r es && rest))
        ↔ (RepliesWith s c r × (IsTrue (is_refused r && not (is_abandoning c r)) → es ≡ []) × IsTrue rest)
    first_two = three-decided (replies_with s c r) (may_have c r es) rest (replies_with-decided s c r) (may_have-decided c r es) (itself-decided rest)

-- The answer to each ask

-- So they are where the reply may be missing.
reply_answers-decided : (s : State) (c : Command) (a : Answer) (o : Option Reply) → IsTrue (reply_answers s c a o) ↔ ReplyAnswers s c a o
reply_answers-decided s c a None = ((λ h. false≢true h), (λ b. absurd b))
reply_answers-decided s c a (Some r) = answers_command-decided s c r a.events

-- The answer to a command that is no census and no `why` is decided.
plainly-decided : (s : State) (c : Command) (a : Answer) → IsTrue (same_names a.listed [] && (same_steps a.steps [] && reply_answers s c a a.reply)) ↔
    ((a.listed ≡ []) × (a.steps ≡ []) × ReplyAnswers s c a a.reply)
plainly-decided s c a = three-decided (same_names a.listed []) (same_steps a.steps []) (reply_answers s c a a.reply)
    (same_names-decided a.listed []) (same_steps-decided a.steps []) (reply_answers-decided s c a a.reply)

-- The answer to a line that is in the grammar is decided.
answers_taken-decided : (s : State) (c : Command) (a : Answer) → IsTrue (answers_taken s c a) ↔ AnswersTaken s c a
answers_taken-decided s command.Nothing a = is_answer-decided a [] [] None
answers_taken-decided s command.Census a = is_answer-decided a (census_of s.listed).listed [] (census_of s.listed).reply
answers_taken-decided s (command.Why x) a =
    let w = why_of (leads_made s.graph) x in
    either-decided (is_answer a w.listed w.steps w.reply) (is_answer a [] [] (Some (Refused NoMemory)))
    (is_answer-decided a w.listed w.steps w.reply) (is_answer-decided a [] [] (Some (Refused NoMemory)))
answers_taken-decided s c a = plainly-decided s c a

-- The answer to a line is decided.
answers_ask-decided : (s : State) (ask : Ask) (a : Answer) → IsTrue (answers_ask s ask a) ↔ AnswersAsk s ask a
answers_ask-decided s long a = is_answer-decided a [] [] (Some (Refused Long))
answers_ask-decided s bad a = is_answer-decided a [] [] (Some (Refused Line))
answers_ask-decided s (taken c) a = answers_taken-decided s c a

-- So are the answers to all lines from some state on.
is_lawful_from-decided : (s : State) (asks : List Ask) (answers : List Answer) → IsTrue (is_lawful_from s asks answers) ↔ IsLawfulFrom s asks answers
is_lawful_from-decided s [] [] = ((λ h. tt), (λ u. refl))
is_lawful_from-decided s (ask ∷ asks) (a ∷ answers) = both-decided (answers_ask s ask a) (is_lawful_from (next s ask a) asks answers)
    (answers_ask-decided s ask a) (is_lawful_from-decided (next s ask a) asks answers)
is_lawful_from-decided s [] (a ∷ answers) = ((λ h. false≢true h), (λ b. absurd b))
is_lawful_from-decided s (ask ∷ asks) [] = ((λ h. false≢true h), (λ b. absurd b))

-- WHETHER A TRANSCRIPT IS LAWFUL IS DECIDED.
pub is_lawful-decided : (limits : Allowance) (asks : List Ask) (answers : List Answer) → IsTrue (is_lawful limits asks answers) ↔ IsLawful limits asks answers
is_lawful-decided limits asks answers = is_lawful_from-decided (start limits) asks answers

-- A plain run that passes the verdict is lawful.
pub run-lawful : (allowance : Allowance) (memory : List Bool) (input : List ℕ) → passes_verdict allowance memory input ≡ true → IsLawfulRun allowance memory input
run-lawful allowance memory input h =
    let asks = asks_of input in
    let answers = answers_to allowance memory input in
    (is_lawful-decided allowance asks answers).0 (and_parts (is_lawful allowance asks answers) (is_quiet allowance asks answers) h).0
