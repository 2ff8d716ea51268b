-- ASKS IN A ROW: one list of memory's answers serves for all.
use Rattle.std.proofs.Common.{◌≡◌, Bool, List, [], ◌∷◌, ◌++◌, refl, sym, ◌∙◌, ap, subst, arith}
use Rattle.cc_model.specs.Answers.{Answer}
use Rattle.cc_model.specs.Asks.{Ask}
use Rattle.cc_model.specs.Collecting.{Machine}
use Rattle.cc_model.specs.Run.{Turn, do_ask, turns, machine_after, turn_of}
use Rattle.cc_laws_run.specs.Memory.{with_memory, noes, noes_told, all_noes_told, SameMachine, IsDoneFor, AreDoneFor}
use Rattle.cc_laws_run.proofs.UnitsUse.{noes-append}
use Rattle.cc_laws_run.proofs.AsksUse.{TurnUse, ask-use}

-- the run of asks in a row is that of the first, and then of the rest
pub turns-append : (m : Machine) (xs ys : List Ask) → turns m (xs ++ ys) ≡ turns m xs ++ turns (machine_after m xs) ys
turns-append m [] ys = refl
turns-append m (x ∷ xs) ys = ap (λ answers. (do_ask m x).answer ∷ answers) (turns-append (do_ask m x).machine xs ys)

-- and so is the machine after it
pub machine_after-append : (m : Machine) (xs ys : List Ask) → machine_after m (xs ++ ys) ≡ machine_after (machine_after m xs) ys
machine_after-append m [] ys = refl
machine_after-append m (x ∷ xs) ys = machine_after-append (do_ask m x).machine xs ys

-- machines that are the same are so with the same answers of memory to come
with_memory-same : (m n : Machine) (memory : List Bool) → SameMachine m n → with_memory m memory ≡ with_memory n memory
with_memory-same m n memory same =
    λ i. record { heap = same.heap i; weak = same.weak i; marking = same.marking i; snapshot = same.snapshot i; memory = memory }

-- asks done for one list of memory's answers, which says no as often as is told
pub record OneList (m n : Machine) (asks : List Ask) (answers : List Answer) : Type 0 where
  pub memory : List Bool
  pub answered : turns (with_memory m memory) asks ≡ answers
  pub after : SameMachine (machine_after (with_memory m memory) asks) n
  pub said_no : noes memory ≡ all_noes_told asks answers

-- an ask done for some list uses a front of it, and one list for the rest of the asks may stand behind that
one_list-cons : (m k n : Machine) (ask : Ask) (asks : List Ask) (a : Answer) (answers : List Answer) →
    IsDoneFor m ask a k → OneList k n asks answers → OneList m n (ask ∷ asks) (a ∷ answers)
one_list-cons m k n ask asks a answers d o = record {
  memory = u.used ++ o.memory;
  answered = ap (λ (s : Turn). s.answer ∷ turns s.machine asks) turn ∙ ap (λ later. a ∷ later) o.answered;
  after = subst (λ (s : Turn). SameMachine (machine_after s.machine asks) n) (sym turn) o.after;
  said_no = omega (arith, noes-append u.used o.memory, told, o.said_no);
}
  where
    t : Turn
    t = do_ask (with_memory m d.memory) ask

    u : TurnUse (λ memory. do_ask (with_memory m memory) ask) (noes_told ask) d.memory t
    u = ask-use (with_memory m d.memory) ask

    told : noes u.used ≡ noes_told ask a
    told = u.said_no ∙ ap (noes_told ask) d.answer

    turn : do_ask (with_memory m (u.used ++ o.memory)) ask ≡ turn_of (with_memory k o.memory) a
    turn = u.any o.memory
        ∙ (ap (λ (next : Machine). turn_of next t.answer) (with_memory-same t.machine k o.memory d.after)
        ∙ ap (λ (b : Answer). turn_of (with_memory k o.memory) b) d.answer)

-- ONE LIST SERVES for asks that are each done for some list.
pub one_list : (m n : Machine) (asks : List Ask) (answers : List Answer) → AreDoneFor m asks answers n → OneList m n asks answers
one_list m n [] [] same = record { memory = []; answered = refl; after = record { heap = same.heap; weak = same.weak; marking = same.marking; snapshot = same.snapshot }; said_no = refl }
one_list m n (ask ∷ asks) (a ∷ answers) d = one_list-cons m d.0 n ask asks a answers d.1 (one_list d.0 n asks answers d.2)
one_list m n _ _ d = absurd d
