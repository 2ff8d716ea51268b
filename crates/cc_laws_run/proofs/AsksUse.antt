-- WHAT AN ASK USES of memory's answers: a front of them, with one `no` for each that its answer tells; and where memory is at every place, none is told.
use Rattle.std.proofs.Common.{◌≡◌, ℕ, ◌+◌, Bool, true, false, not, List, [], ◌∷◌, ◌++◌, Option, Some, None, refl, sym, ◌∙◌, ap, subst, arith}
use Rattle.cc_names.specs.declared.name.Name.{Name}
use Rattle.cc_model.specs.declared.command.Command.{Command}
use Rattle.cc_model.specs.declared.item.Refusal.{Refusal}
use Rattle.cc_model.specs.declared.item.Refusal.TheVariants.{NoMemory}
use Rattle.cc_model.specs.declared.item.Reply.TheVariants.{Done, Refused}
use Rattle.cc_model.specs.Answers.{Answer, replying}
use Rattle.cc_model.specs.Mutating.{so_many, whole, Class, Saying, says, does, forgets, reads_weak, runs, collects_scripts, class_of, takes_memory_to_say}
use Rattle.cc_model.specs.Asks.{Ask, taken}
use Rattle.cc_model.specs.Checks.{Objects, named_or_nothing, refusal_of, reply_if_taken}
use Rattle.cc_model.specs.Deeds.{deed_of}
use Rattle.cc_model.specs.Heap.{objects_of, Heap, Outcome}
use Rattle.cc_model.specs.Effects.{effects, hold_native, takes_memory}
use Rattle.cc_model.specs.Skipping.{forgotten}
use Rattle.cc_model.specs.End.{Progress}
use Rattle.cc_model.specs.Collecting.{Machine, next_answer, later_answers, UnitsDone, no_units, finish_running, starting_anew, gc, units_marked, mark, reply_to_units}
use Rattle.cc_model.specs.Run.{Turn, turn_of, answering, beside_deed, if_granted, unless_refused, mutate, noted, read_weak, forget_suspects, after_units, after_gc, do_ask, said, say, run_units, do_class}
use Rattle.cc_laws_run.specs.Memory.{with_memory, noes, noes_of_reply, noes_told, noes_told_by}
use Rattle.cc_laws_run.proofs.Unabandoned.{abandonments, TellsNone, hold_native-none, effects-none}
use Rattle.cc_laws_run.proofs.CommandCases.{taken-granted, said-silent}
use Rattle.cc_laws_run.proofs.UnitsUse.{refusals, UnitsUse, finish_running-use, gc-use, ample-next, ample-later}
use Rattle.cc_laws_run.proofs.FinishingUse.{run_units-use}
use Rattle.cc_laws_run.proofs.MarkedUnits.{units_marked-memory, units_marked-with, units_marked-told}

-- the same turn, with other answers of memory to come
abbrev pub turn_with : Turn → List Bool → Turn
turn_with t memory = record t { machine = with_memory t.machine memory }

-- the first turn has memory at every place, in the second it never says no: they are the same, and no want of it was told
pub record HasAmple (all t : Turn) : Type 0 where
  pub same : all ≡ turn_with t []
  pub memory : noes t.machine.memory ≡ 0
  pub reply : noes_of_reply t.answer.reply ≡ 0
  pub events : TellsNone t.answer.events

-- With these answers of memory it is this turn, and with others what f says: it uses a front of them, which says no as often as is told.
pub record TurnUse (f : List Bool → Turn) (told : Answer → ℕ) (memory : List Bool) (t : Turn) : Type 0 where
  pub used : List Bool
  pub any : (more : List Bool) → f (used ++ more) ≡ turn_with t more
  pub said_no : noes used ≡ told t.answer
  pub ample : noes memory ≡ 0 → HasAmple (f []) t

-- the noes that a reply tells
abbrev in_reply : Answer → ℕ
in_reply a = noes_of_reply a.reply

-- those of a refusal
abbrev noes_of_refusal : Option Refusal → ℕ
noes_of_refusal None = 0
noes_of_refusal (Some refusal) = noes_of_reply (Some (Refused refusal))

-- No check refuses memory.
refusal-noes : (o : Objects) (c : Command) → noes_of_refusal (refusal_of o c) ≡ 0
unfolding refusal_of
refusal-noes o c = grind arith

-- and the reply to a command that is done tells no want of it
reply-noes : (o : Objects) (c : Command) → noes_of_reply (Some (reply_if_taken o c)) ≡ 0
reply-noes o c = ap (λ b. elim b [ true ↦ 1 | false ↦ 0 ]) (taken-granted o c)

-- Memory

-- a turn that asks no memory and tells nothing
silent-use : (m : Machine) (a : Answer) → noes_of_reply a.reply ≡ 0 → TellsNone a.events →
    TurnUse (λ memory. turn_of (with_memory m memory) a) in_reply m.memory (turn_of m a)
silent-use m a reply events = record { used = []; any = λ more. refl; said_no = sym reply; ample = λ e. record { same = refl; memory = e; reply = reply; events = events } }

-- a machine in which something was done, and an answer
abbrev leaving : (Machine → Machine) → Answer → Machine → Turn
leaving f a n = turn_of (f n) a

-- what is done neither reads nor uses the answers of memory
record LeavesMemory (f : Machine → Machine) : Type 0 where
  same : (n : Machine) (memory : List Bool) → f (with_memory n memory) ≡ with_memory (f n) memory
  left : (n : Machine) → (f n).memory ≡ n.memory

-- What is done where memory is there uses one answer where it takes some, and none elsewhere.
granted-use : (m : Machine) (takes : Bool) (f : Machine → Machine) (a : Answer) → LeavesMemory f → noes_of_reply a.reply ≡ 0 → TellsNone a.events →
    TurnUse (λ memory. if_granted (with_memory m memory) takes (leaving f a)) in_reply m.memory (if_granted m takes (leaving f a))
granted-use m takes f a leaves replies events = go takes
  where
    answered : Bool → List Bool → Turn
    answered answer memory = elim (not answer) [
      | true ↦ answering (with_memory m memory) [] (Refused NoMemory)
      | false ↦ leaving f a (with_memory m memory)
    ]

    any : (answer : Bool) (memory more : List Bool) → answered answer more ≡ turn_with (answered answer memory) more
    any true memory more = ap (λ (n : Machine). turn_of n a) (leaves.same (with_memory m memory) more)
    any false memory more = refl

    said_no : (answer : Bool) (memory : List Bool) → noes (answer ∷ []) ≡ in_reply (answered answer memory).answer
    said_no true memory = sym replies
    said_no false memory = refl

    go : (takes : Bool) → TurnUse (λ memory. if_granted (with_memory m memory) takes (leaving f a)) in_reply m.memory (if_granted m takes (leaving f a))
    go true = record {
      used = next_answer m.memory ∷ [];
      any = λ more. any (next_answer m.memory) (later_answers m.memory) more;
      said_no = said_no (next_answer m.memory) (later_answers m.memory);
      ample = λ e. subst (λ b. HasAmple (answered true []) (answered b (later_answers m.memory))) (sym (ample-next m.memory e))
          (record {
            same = any true (later_answers m.memory) [];
            memory = ap noes (leaves.left (with_memory m (later_answers m.memory))) ∙ ample-later m.memory e;
            reply = replies;
            events = events;
          });
    }
    go false = record {
      used = [];
      any = λ more. ap (λ (n : Machine). turn_of n a) (leaves.same m more);
      said_no = sym replies;
      ample = λ e. record {
        same = ap (λ (n : Machine). turn_of n a) (leaves.same m []);
        memory = ap noes (leaves.left m) ∙ e;
        reply = replies;
        events = events;
      };
    }

-- Commands of the mutator

-- A command of the mutator uses one answer where it passes its checks and takes memory, and none elsewhere.
mutate-use : (m : Machine) (c : Command) → TurnUse (λ memory. mutate (with_memory m memory) c) in_reply m.memory (mutate m c)
unfolding mutate
mutate-use m c = go (refusal_of (objects_of m.heap) c) (refusal-noes (objects_of m.heap) c)
  where
    o : Outcome
    o = effects m.heap c

    -- its deed, and what it does to the heaps
    done : Machine → Machine
    done n = record (beside_deed n (deed_of (objects_of m.heap) c)) { heap = o.heap }

    go : (r : Option Refusal) → noes_of_refusal r ≡ 0 → TurnUse (λ memory. unless_refused (with_memory m memory) c r) in_reply m.memory (unless_refused m c r)
    go None none = granted-use m (takes_memory m.heap c) done (replying o.events (reply_if_taken (objects_of m.heap) c))
        (record { same = λ n memory. refl; left = λ n. refl }) (reply-noes (objects_of m.heap) c) (effects-none m.heap c)
    go (Some refusal) none = silent-use m (replying [] (Refused refusal)) none refl

-- The other commands

-- the reply to units tells a refusal
reply_to_units-noes : (p : Progress) → noes_of_reply (Some (reply_to_units p)) ≡ refusals p
reply_to_units-noes p = grind arith

-- what units use, their turn uses
after_units-use : (f : List Bool → UnitsDone) (m : Machine) (r : UnitsDone) → UnitsUse f (no_units m) r →
    TurnUse (λ memory. after_units (f memory)) in_reply m.memory (after_units r)
after_units-use f m r u = grind (arith, reply_to_units-noes)

-- under `gc` and `mark` the events tell a refusal
after_gc-use : (f : List Bool → UnitsDone) (m : Machine) (r : UnitsDone) → UnitsUse f (no_units m) r →
    TurnUse (λ memory. after_gc (f memory)) (λ a. abandonments a.events) m.memory (after_gc r)
after_gc-use f m r u = grind arith

-- what is said tells no want of memory
said-noes : (h : Heap) (q : Saying) → noes_of_reply (said h q).reply ≡ 0
said-noes h q = grind arith

-- it uses one answer where it takes memory, and none elsewhere
say-use : (m : Machine) (q : Saying) → TurnUse (λ memory. say (with_memory m memory) q) in_reply m.memory (say m q)
say-use m q = granted-use m (takes_memory_to_say q) (λ n. n) (said m.heap q) (record { same = λ n memory. refl; left = λ n. refl }) (said-noes m.heap q)
    (subst TellsNone (sym (said-silent m.heap q)) refl)

-- suspects that are forgotten use none
forget-use : (m : Machine) → TurnUse (λ memory. forget_suspects (with_memory m memory)) in_reply m.memory (forget_suspects m)
forget-use m = granted-use m false (λ n. record n { heap = forgotten n.heap }) (replying [] Done) (record { same = λ n memory. refl; left = λ n. refl }) refl refl

-- a name, or that nothing is there, is no want of memory
named-noes : (x : Option Name) → noes_of_reply (Some (named_or_nothing x)) ≡ 0
named-noes None = refl
named-noes (Some x) = refl

-- a weak register that is read uses none
read_weak-use : (m : Machine) (d w : ℕ) → TurnUse (λ memory. read_weak (with_memory m memory) d w) in_reply m.memory (read_weak m d w)
read_weak-use m d w =
    let x : Option Name = noted m w in
    let o : Outcome = hold_native m.heap d x in
    granted-use m false (λ n. record n { heap = o.heap }) (replying o.events (named_or_nothing x)) (record { same = λ n memory. refl; left = λ n. refl })
    (named-noes x) (hold_native-none m.heap d x)

-- a script marking uses what the end of a running collection uses, and tells of it
mark-use : (n : ℕ) (m : Machine) → TurnUse (λ memory. after_gc (mark n (with_memory m memory))) (λ a. abandonments a.events) m.memory (after_gc (mark n m))
unfolding mark
mark-use n m =
    let u = finish_running-use m in
    let p : Progress = (finish_running m).progress in
    let d : UnitsDone = starting_anew (finish_running m) in
    let refused : abandonments d.events + 0 ≡ 0 + refusals p = u.told in
    let told : abandonments (units_marked n d).events ≡ refusals p = omega (arith, units_marked-told n d, refused) in
    let used : noes u.used + 0 ≡ refusals p = u.said_no in
    record {
      used = u.used;
      any = λ more. ap (λ (e : UnitsDone). after_gc (units_marked n (starting_anew e))) (u.any more) ∙ ap after_gc (units_marked-with n d more);
      said_no = omega (arith, used, told);
      ample = λ e.
          let w = u.ample e refl in
          record {
            same = ap (λ (e : UnitsDone). after_gc (units_marked n (starting_anew e))) w.0 ∙ ap after_gc (units_marked-with n d []);
            memory = ap noes (units_marked-memory n d) ∙ w.1;
            reply = refl;
            events = told ∙ w.2;
          };
    }

-- a command of each class uses a front of them
class-use : (m : Machine) (c : Command) (k : Class) → TurnUse (λ memory. do_class (with_memory m memory) c k) (noes_told_by k) m.memory (do_class m c k)
class-use m c (says q) = say-use m q
class-use m c does = mutate-use m c
class-use m c (runs u) = after_units-use (λ memory. run_units (with_memory m memory) u) m (run_units m u) (run_units-use u m)
class-use m c (collects_scripts whole) = after_gc-use (λ memory. gc (with_memory m memory)) m (gc m) (gc-use m)
class-use m c (collects_scripts (so_many n)) = mark-use n m
class-use m c forgets = forget-use m
class-use m c (reads_weak d w) = read_weak-use m d w

-- AN ASK USES A FRONT OF MEMORY'S ANSWERS.
pub ask-use : (m : Machine) (ask : Ask) → TurnUse (λ memory. do_ask (with_memory m memory) ask) (noes_told ask) m.memory (do_ask m ask)
unfolding do_ask
ask-use m (taken c) = class-use m c (class_of c)
ask-use m _ = silent-use m _ refl refl
