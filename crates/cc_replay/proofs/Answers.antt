-- LINES ANSWERED IN A ROW: one more line, and the transcript that they make.
use Rattle.std.proofs.Common.{◌≡◌, ℕ, true, List, [], ◌∷◌, ◌++◌, Option, refl, sym, ◌∙◌, ap, subst, append-nil, arith}
use Rattle.std.specs.List.{list_all}
use Rattle.std.proofs.lemmas.Bool.{and_from}
use Rattle.std.proofs.lemmas.Grind.{flat_map-append}
use Rattle.std.proofs.lemmas.List.Folds.{list_all-append}
use Rattle.cc_names.specs.Allowance.{Allowance}
use Rattle.cc_model.specs.Telling.{Telling, Tells}
use Rattle.cc_model.specs.Answers.{Answer, items_of, all_items_of, text_of_answers}
use Rattle.cc_model.specs.declared.dialect.Dialect.{Dialect}
use Rattle.cc_model.specs.declared.dialect.Dialect.TheVariants.{Start}
use Rattle.cc_model.specs.Asks.{Ask, ask_of, asks_from, dialect_after}
use Rattle.cc_model.specs.Collecting.{Machine, empty_machine}
use Rattle.cc_model.specs.Run.{plain_run}
use Rattle.cc_model.proofs.Dialects.{asks_from-more, dialect_from-more}
use Rattle.cc_model.proofs.Tellings.{Tells-nil, Tells-trans}
use Rattle.cc_laws_run.specs.Memory.{noes, all_noes_told, SameMachine, IsDoneFor, AreDoneFor}
use Rattle.cc_laws_run.specs.Running.{ask_in_range}
use Rattle.cc_laws_run.proofs.Face.{OneList, one_list, run-lawful, run-quiet, turns-ample}
use Rattle.cc_laws_headline.proofs.EachExchange.{tells-of_a_graph}
use Rattle.cc_reader.specs.Pending.{Pending}
use Rattle.cc_reader.specs.Given.{AreFirst, HasGiven}
use Rattle.cc_reader.proofs.Given.{HasGiven-first}
use Rattle.cc_replay.specs.Answering.{Answers, AreAnswered, GivesLine, LineIsAnswered, Moment}
use Rattle.cc_replay.specs.Transcripts.{IsRun, IsTranscript}

-- the same machine does an ask in the same way
IsDoneFor-same : (m k n : Machine) (ask : Ask) (a : Answer) → SameMachine m k → IsDoneFor k ask a n → IsDoneFor m ask a n
IsDoneFor-same m k n ask a same d = grind arith

-- one more ask
AreDoneFor-more : (m k n : Machine) (asks : List Ask) (answers : List Answer) (ask : Ask) (a : Answer) →
    AreDoneFor m asks answers k → IsDoneFor k ask a n → AreDoneFor m (asks ++ ask ∷ []) (answers ++ a ∷ []) n
AreDoneFor-more m k n [] [] ask a same d = (n, IsDoneFor-same m k n ask a same d, record { heap = refl; weak = refl; marking = refl; snapshot = refl })
AreDoneFor-more m k n [] (b ∷ bs) ask a done d = absurd done
AreDoneFor-more m k n (x ∷ xs) [] ask a done d = absurd done
AreDoneFor-more m k n (x ∷ xs) (b ∷ bs) ask a done d = (done.0, done.1, AreDoneFor-more done.0 k n xs bs ask a done.2 d)

-- the items of one more answer
all_items_of-more : (answers : List Answer) (a : Answer) → all_items_of (answers ++ a ∷ []) ≡ all_items_of answers ++ items_of a
all_items_of-more answers a = flat_map-append items_of answers (a ∷ []) ∙ ap (λ items. all_items_of answers ++ items) (append-nil (items_of a))

-- no line is answered yet
AreAnswered-none : (v : Dialect) (k : Machine) (t : Telling) → AreAnswered v v k k [] t t
AreAnswered-none v k t = record { answers = []; done = record { heap = refl; weak = refl; marking = refl; snapshot = refl }; in_range = refl; told = Tells-nil t; next = refl }

-- ONE MORE LINE IS ANSWERED
AreAnswered-more : (v₀ v₁ v₂ : Dialect) (k₀ k₁ k₂ : Machine) (lines : List (List ℕ)) (line : List ℕ) (t₀ t₁ t₂ : Telling) →
    AreAnswered v₀ v₁ k₀ k₁ lines t₀ t₁ → LineIsAnswered v₁ v₂ k₁ k₂ line t₁ t₂ → AreAnswered v₀ v₂ k₀ k₂ (lines ++ line ∷ []) t₀ t₂
AreAnswered-more v₀ v₁ v₂ k₀ k₁ k₂ lines line t₀ t₁ t₂ a l = record {
  answers = a.answers ++ l.answered.answer ∷ [];
  done = subst (λ (asks : List Ask). AreDoneFor k₀ asks (a.answers ++ l.answered.answer ∷ []) k₂) (sym asks)
      (AreDoneFor-more k₀ k₁ k₂ (asks_from v₀ lines) a.answers (ask_of v₁ line) l.answered.answer a.done l.answered.done);
  in_range = ap (list_all ask_in_range) asks ∙ (list_all-append ask_in_range (asks_from v₀ lines) (ask_of v₁ line ∷ [])
      ∙ and_from _ _ a.in_range (and_from _ true l.in_range refl));
  told = subst (Tells t₀ t₂) (sym (all_items_of-more a.answers l.answered.answer))
      (Tells-trans t₀ t₁ t₂ (all_items_of a.answers) (items_of l.answered.answer) a.told l.answered.told);
  next = l.next ∙ (ap (λ v. dialect_after v (ask_of v line)) a.next ∙ sym (dialect_from-more v₀ lines line));
}
  where
    asks : asks_from v₀ (lines ++ line ∷ []) ≡ asks_from v₀ lines ++ ask_of v₁ line ∷ []
    asks = asks_from-more v₀ lines line ∙ ap (λ v. asks_from v₀ lines ++ ask_of v line ∷ []) (sym a.next)

-- a reader that has given no line, with nothing answered
pub Answers-none : (m : Moment) → Answers HasGiven m m
Answers-none m = record { lines = λ start begun. ([], begun, AreAnswered-none m.dialect m.machine m.telling) }

-- where nothing moved since the last line, what holds of the lines holds of those that are answered
pub Answers-still : (IsGiven : Option (List ℕ) → Option (List ℕ) → Pending → List (List ℕ) → Type 0) {m₀ m₁ m₂ : Moment} → Answers HasGiven m₀ m₁ →
    ((start : Option (List ℕ)) (given : List (List ℕ)) → HasGiven start m₁.left m₁.window given → IsGiven start m₂.left m₂.window given) →
    (m₂.dialect ≡ m₁.dialect) × (m₂.machine ≡ m₁.machine) × (m₂.telling ≡ m₁.telling) → Answers IsGiven m₀ m₂
Answers-still IsGiven {m₀ = m₀} {m₁ = m₁} {m₂ = m₂} a given same = record {
  lines = λ start begun.
      let so_far = a.lines start begun in (
        so_far.0,
        given start so_far.0 so_far.1,
        subst (λ (v : Dialect). AreAnswered m₀.dialect v m₀.machine m₂.machine so_far.0 m₀.telling m₂.telling) (sym same.0)
            (subst (λ (t : Telling). AreAnswered m₀.dialect m₁.dialect m₀.machine m₂.machine so_far.0 m₀.telling t) (sym same.2)
            (subst (λ (h : Machine). AreAnswered m₀.dialect m₁.dialect m₀.machine h so_far.0 m₀.telling m₁.telling) (sym same.1) so_far.2)),
      );
}

-- and so it is for the first lines
pub Answers-first : {m₀ m₁ : Moment} → Answers HasGiven m₀ m₁ → Answers AreFirst m₀ m₁
Answers-first {m₀ = m₀} {m₁ = m₁} a = Answers-still AreFirst {m₀ = m₀} {m₁ = m₁} {m₂ = m₁} a (λ start given. HasGiven-first start m₁.left m₁.window given) (refl, refl, refl)

-- one more line is given and answered
pub Answers-more : {m₀ m₁ m₂ : Moment} → Answers HasGiven m₀ m₁ →
    (line : List ℕ) × GivesLine m₁.left m₂.left m₁.window m₂.window line × LineIsAnswered m₁.dialect m₂.dialect m₁.machine m₂.machine line m₁.telling m₂.telling → Answers HasGiven m₀ m₂
Answers-more {m₀ = m₀} {m₁ = m₁} {m₂ = m₂} a l = record {
  lines = λ start begun.
      let so_far = a.lines start begun in (
        so_far.0 ++ l.0 ∷ [],
        l.1 start so_far.0 so_far.1,
        AreAnswered-more m₀.dialect m₁.dialect m₂.dialect m₀.machine m₁.machine m₂.machine so_far.0 l.0 m₀.telling m₁.telling m₂.telling so_far.2 l.2,
      );
}

-- LINES THAT ARE ANSWERED, from the empty heaps on: their answers are a run of what they ask
pub AreAnswered-run : (limits : Allowance) (v : Dialect) (k : Machine) (lines : List (List ℕ)) (t₀ t₁ : Telling) (a : AreAnswered Start v (empty_machine limits []) k lines t₀ t₁) →
    IsRun limits (asks_from Start lines) a.answers
AreAnswered-run limits v k lines t₀ t₁ a = subst (IsRun limits asks) o.answered (record {
  memory = o.memory;
  noes_are_told = told;
  answers_are = refl;
  tells = tells-of_a_graph limits asks (plain_run limits o.memory asks) (run-lawful limits o.memory asks a.in_range) (run-quiet limits o.memory asks a.in_range);
  lawful = run-lawful limits o.memory asks a.in_range;
  quiet = run-quiet limits o.memory asks a.in_range;
  with_all_memory = λ none. turns-ample (empty_machine limits o.memory) asks (told ∙ none);
})
  where
    asks : List Ask
    asks = asks_from Start lines

    o : OneList (empty_machine limits []) k asks a.answers
    o = one_list (empty_machine limits []) k asks a.answers a.done

    told : noes o.memory ≡ all_noes_told asks (plain_run limits o.memory asks)
    told = o.said_no ∙ ap (all_noes_told asks) (sym o.answered)

-- what is told for them is a transcript
pub AreAnswered-transcript : (limits : Allowance) (v : Dialect) (k : Machine) (lines : List (List ℕ)) (t₀ t₁ : Telling) (a : AreAnswered Start v (empty_machine limits []) k lines t₀ t₁) →
    IsTranscript limits (asks_from Start lines) (text_of_answers a.answers)
AreAnswered-transcript limits v k lines t₀ t₁ a = record { answers = a.answers; run = AreAnswered-run limits v k lines t₀ t₁ a; text_is = refl }
