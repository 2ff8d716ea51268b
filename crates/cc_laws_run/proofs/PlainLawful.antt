-- THE PLAIN RUN IS LAWFUL: each ask is answered lawfully, and leaves a machine that runs.
use Rattle.std.specs.Prelude.{IsTrue}
use Rattle.std.proofs.Common.{Bool, List, [], ◌∷◌, refl, ◌≡◌, false}
use Rattle.std.specs.List.{list_all}
use Rattle.std.proofs.lemmas.Bool.{and_parts, true≢false}
use Rattle.cc_names.specs.Allowance.{Allowance}
use Rattle.cc_model.specs.Mutating.{Class, says, does, forgets, reads_weak, runs, collects_scripts, class_of}
use Rattle.cc_model.specs.Asks.{Ask, taken, long, bad}
use Rattle.cc_model.specs.Lawful.{State, AnswersAsk, IsLawfulFrom, IsLawful, start, next, AnswersClass}
use Rattle.cc_model.specs.Collecting.{Machine, empty_machine}
use Rattle.cc_model.specs.Run.{do_ask, turns, plain_run, do_class}
use Rattle.cc_model.specs.declared.command.Command.{Command}
use Rattle.cc_model.specs.declared.command.Command.TheVariants.{Slice, Collect, Gc, Mark}
use Rattle.cc_model.specs.Ranges.{in_range}
use Rattle.cc_laws_run.specs.Running.{IsRunning, ask_in_range, moves_none, moves_no_collection}
use Rattle.cc_laws_run.proofs.Answered.{mutate-answers, say-answers}
use Rattle.cc_laws_run.proofs.RunsOn.{empty-runs, mutate-runs, say-runs}
use Rattle.cc_laws_run.proofs.ReadingWeak.{weak-answers, weak-runs}
use Rattle.cc_laws_run.proofs.Forgetting.{forget-answers, forget-runs}
use Rattle.cc_laws_run.proofs.CollectionsLawful.{units-answers, units-runs, collects-answers, collects-runs}

-- each command is answered lawfully, by its class
class-answers : (m : Machine) (s : State) (c : Command) → IsRunning m s → IsTrue (in_range c) → (k : Class) → class_of c ≡ k →
    AnswersClass s c (do_class m c k).answer k
class-answers m s c r i (says q) e = say-answers m s c q r e
class-answers m s c r i does e = mutate-answers m s c r i e
class-answers m s c r i (runs u) e = units-answers m s c u r e
class-answers m s c r i (collects_scripts u) e = collects-answers m s c u r e
class-answers m s c r i forgets e = forget-answers m s c e
class-answers m s c r i (reads_weak d w) e = weak-answers m s c d w r i e

-- each command leaves a machine that runs, by its class
class-runs : (m : Machine) (s : State) (c : Command) → IsRunning m s → IsTrue (in_range c) → (k : Class) → class_of c ≡ k →
    IsRunning (do_class m c k).machine (next s (taken c) (do_class m c k).answer)
class-runs m s c r i (says q) e = say-runs m s c q r e
class-runs m s c r i does e = mutate-runs m s c r i e
class-runs m s c r i (runs u) e = units-runs m s c u r e
class-runs m s c r i (collects_scripts u) e = collects-runs m s c u r e
class-runs m s c r i forgets e = forget-runs m s c r e
class-runs m s c r i (reads_weak d w) e = weak-runs m s c d w r i e

-- EACH ASK is answered lawfully.
pub any-answers : (m : Machine) (s : State) (ask : Ask) → IsRunning m s → IsTrue (ask_in_range ask) → AnswersAsk s ask (do_ask m ask).answer
unfolding do_ask
any-answers m s long r i = refl
any-answers m s bad r i = refl
any-answers m s (taken c) r i = class-answers m s c r i (class_of c) refl

-- EACH ASK leaves a machine that runs.
pub any-runs : (m : Machine) (s : State) (ask : Ask) → IsRunning m s → IsTrue (ask_in_range ask) →
    IsRunning (do_ask m ask).machine (next s ask (do_ask m ask).answer)
unfolding do_ask
any-runs m s long r i = r
any-runs m s bad r i = r
any-runs m s (taken c) r i = class-runs m s c r i (class_of c) refl

-- a command that moves a collection is in range
moving-command : (c : Command) → moves_none (class_of c) ≡ false → IsTrue (in_range c)
moving-command (Slice n) e = refl
moving-command Collect e = refl
moving-command Gc e = refl
moving-command (Mark n) e = refl
moving-command c e = absurd (true≢false e)

-- so is an ask
pub moving-in_range : (ask : Ask) → moves_no_collection ask ≡ false → IsTrue (ask_in_range ask)
moving-in_range (taken c) e = moving-command c e
moving-in_range _ e = absurd (true≢false e)

-- asks in a row are answered lawfully from a machine that runs
asks-lawful : (m : Machine) (s : State) (asks : List Ask) → IsRunning m s → IsTrue (list_all ask_in_range asks) → IsLawfulFrom s asks (turns m asks)
asks-lawful m s [] r i = tt
asks-lawful m s (ask ∷ asks) r i =
    let both = and_parts (ask_in_range ask) (list_all ask_in_range asks) i in
    (any-answers m s ask r both.0, asks-lawful (do_ask m ask).machine (next s ask (do_ask m ask).answer) asks (any-runs m s ask r both.0) both.1)

-- THE PLAIN RUN IS LAWFUL.
pub run-lawful : (limits : Allowance) (memory : List Bool) (asks : List Ask) → IsTrue (list_all ask_in_range asks) →
    IsLawful limits asks (plain_run limits memory asks)
run-lawful limits memory asks i = asks-lawful (empty_machine limits memory) (start limits) asks (empty-runs limits memory) i
