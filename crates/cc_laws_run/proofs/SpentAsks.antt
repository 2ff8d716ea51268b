-- WHAT IS SPENT STAYS SO under any ask, and `gc` takes it away.
use Rattle.std.specs.Prelude.{IsTrue}
use Rattle.std.specs.List.{list_all}
use Rattle.std.proofs.Common.{◌≡◌, ℕ, ◌+◌, Bool, true, false, not, ◌||◌, List, [], ◌∷◌, Option, Some, None, refl, sym, ◌∙◌, subst, arith, ⊎_elim, slice_index_or, if◌then◌else◌}
use Rattle.std.specs.Option.{option_and_then}
use Rattle.std.proofs.lemmas.Bool.{and_parts, false≢true, true≢false}
use Rattle.cc_lists.specs.Members.{Among}
use Rattle.cc_names.specs.declared.name.Name.{Name}
use Rattle.cc_names.specs.declared.name.Name.TheVariants as name
use Rattle.cc_names.specs.Names.{native}
use Rattle.cc_model.specs.declared.command.Command.{Command}
use Rattle.cc_model.specs.Mutating.{Class, Running, so_many, whole, says, does, forgets, reads_weak, runs, collects_scripts, class_of}
use Rattle.cc_model.specs.Asks.{Ask, taken}
use Rattle.cc_model.specs.Ranges.{in_range}
use Rattle.cc_model.specs.WellFormed.{IsWellFormed, names_there}
use Rattle.cc_model.specs.Heap.{Heap, HeapNative, native_at, objects_of}
use Rattle.cc_model.specs.Given.{is_usable_native, is_usable}
use Rattle.cc_model.specs.Effects.{effects, hold_native}
use Rattle.cc_model.specs.Sweep.{collect_scripts}
use Rattle.cc_model.specs.Lawful.{State, next}
use Rattle.cc_model.specs.Collecting.{Machine, finish_running, without_marking, gc}
use Rattle.cc_model.specs.Run.{Turn, mutate, do_ask, machine_after, do_class, run_units, noted, read_weak}
use Rattle.cc_laws_heap.specs.Sound.{IsSound}
use Rattle.cc_laws_heap.proofs.Taken.{IsTaken-from}
use Rattle.cc_laws_heap.proofs.CommandsSound.{effects-sound}
use Rattle.cc_laws_run.specs.Doomed.{KeepsReflectors}
use Rattle.cc_laws_run.specs.Spent.{IsSpent}
use Rattle.cc_laws_run.specs.Running.{IsRunning, ask_in_range}
use Rattle.cc_laws_run.proofs.Forgetting.{forget-spends}
use Rattle.cc_laws_run.proofs.CommandCases.{mutate-cases, say-leaves}
use Rattle.cc_laws_heap.proofs.Natives.{native_at-there, native_at-number}
use Rattle.cc_laws_run.proofs.TouchedParts.{IsUntouched}
use Rattle.cc_laws_run.proofs.TouchedSteps.{leaves-refl}
use Rattle.cc_laws_run.proofs.TouchedCommands.{command-leaves, leaves-hold_native}
use Rattle.cc_laws_run.proofs.PlainLawful.{any-runs}
use Rattle.cc_laws_run.proofs.SpentViews.{spent-less, spent-left}
use Rattle.cc_laws_run.proofs.SpentGone.{collect_scripts-less, collected-gone}
use Rattle.cc_laws_run.proofs.SpentMarks.{SpendsAt, finish_running-spends, run_units-spend, mark-spends}

-- What is spent

-- where names are spent, the heaps of a machine that runs are sound
spending-on : (m : Machine) (s : State) (ds : List Name) → IsRunning m s → IsSpent m.heap ds → SpendsAt ds m.heap
spending-on m s ds r d = record { sound = r.sound; spent = d }

-- a running collection ended leaves them spent, whether a marking goes on that is dropped or not
finish-spends : (m : Machine) (s : State) (ds : List Name) → IsRunning m s → IsSpent m.heap ds → SpendsAt ds (finish_running (without_marking m)).machine.heap
finish-spends m s ds r d = finish_running-spends ds (without_marking m) (spending-on m s ds r d)

-- and a script collection leaves them so
pub collected-spent : (h : Heap) (ds : List Name) → IsSound [] h → IsSpent h ds → IsSpent (collect_scripts h).heap ds
collected-spent h ds sound d = spent-less ds h (collect_scripts h).heap (collect_scripts-less h sound) d

-- `gc` leaves them spent
gc-spends : (m : Machine) (s : State) (ds : List Name) → IsRunning m s → IsSpent m.heap ds → IsSpent (gc m).machine.heap ds
unfolding gc
gc-spends m s ds r d = let t = finish-spends m s ds r d in collected-spent (finish_running (without_marking m)).machine.heap ds t.sound t.spent

-- `gc` TAKES AWAY WHAT IS SPENT.
pub gc-gone : (m : Machine) (s : State) (x : Name) (ds : List Name) → IsRunning m s → IsSpent m.heap ds → Among x ds →
    ¬ (Among x (names_there (gc m).machine.heap))
unfolding gc
gc-gone m s x ds r d i = let t = finish-spends m s ds r d in collected-gone ds (finish_running (without_marking m)).machine.heap t.sound t.spent x i

-- a command that is done leaves them spent
effects-spend : (h : Heap) (c : Command) (ds : List Name) → IsWellFormed h → IsWellFormed (effects h c).heap → KeepsReflectors ds → IsSpent h ds →
    IsSpent (effects h c).heap ds
effects-spend h c ds w v keeps d = spent-left ds h (effects h c).heap v
    (command-leaves ds h c w keeps
    (λ m. absurd (omega (arith, d.natives_made (h.natives_made + 1) m)))
    (λ m. absurd (omega (arith, d.scripts_made (h.scripts_made + 1) m)))
    (record { unregistered = d.unregistered; holder = d.holder; joint = d.joint })) d

-- and so does one that is refused, or that wants memory
mutate-spends : (m : Machine) (c : Command) (ds : List Name) → IsSound [] m.heap → IsTrue (in_range c) → KeepsReflectors ds → IsSpent m.heap ds →
    IsSpent (mutate m c).machine.heap ds
mutate-spends m c ds sound i keeps d = mutate-cases m c (λ (u : Turn). IsSpent u.machine.heap ds)
    (λ refusal e. d)
    (λ e f. d)
    (λ e memory. effects-spend m.heap c ds sound.well_formed (effects-sound m.heap c sound i (IsTaken-from (objects_of m.heap) c e)).well_formed keeps d)

-- units leave them spent, and the end of a marking before them
units-spend : (m : Machine) (s : State) (u : Running) (ds : List Name) → IsRunning m s → IsSpent m.heap ds → IsSpent (run_units m u).machine.heap ds
units-spend m s u ds r d = (run_units-spend ds m u r.marking (spending-on m s ds r d)).spent

-- no weak register gives what is spent: it was unlinked
noted-unspent : (m : Machine) (w : ℕ) (ds : List Name) → IsSpent m.heap ds → IsUntouched ds (noted m w)
noted-unspent m w ds d = of (slice_index_or m.weak w None)
  where
    unused : (b : Bool) → (not b || false) ≡ true → b ≡ false
    unused true t = absurd (false≢true t)
    unused false t = refl

    usable : (n : Option HeapNative) (k : ℕ) → native_at m.heap k ≡ n → (is_usable_native n || false) ≡ true → ¬ (Among (native k) ds)
    usable None k e t i = false≢true t
    usable (Some n) k e t i = true≢false (sym (d.unlinked n (native_at-there m.heap k n e)
        (subst (λ j. Among (native j) ds) (sym (native_at-number m.heap k n e)) i)) ∙ unused n.unlinked t)

    given : (x : Name) (b : Bool) → is_usable m.heap x ≡ b → IsUntouched ds (if b then Some x else None)
    given x false e y i j = i
    given (name.Native k) true e y i j = ⊎_elim (λ q. usable (native_at m.heap k.0) k.0 refl e (subst (λ z. Among z ds) (sym q) j)) (λ n. n) i
    given (name.Script k) true e y i j = false≢true e
    given (name.Reflector k) true e y i j = false≢true e

    of : (o : Option Name) → IsUntouched ds (option_and_then (λ x. if is_usable m.heap x then Some x else None) o)
    of None y i j = i
    of (Some x) y i j = given x (is_usable m.heap x) refl y i j

-- a weak register read leaves them spent
read_weak-spends : (m : Machine) (s : State) (c : Command) (n w : ℕ) (ds : List Name) → IsRunning m s → IsTrue (in_range c) → IsSpent m.heap ds →
    class_of c ≡ reads_weak n w → IsSpent (read_weak m n w).machine.heap ds
unfolding do_ask
read_weak-spends m s c n w ds r i d e =
    let runs : IsRunning (read_weak m n w).machine (next s (taken c) (read_weak m n w).answer) =
    subst (λ k. IsRunning (do_class m c k).machine (next s (taken c) (do_class m c k).answer)) e (any-runs m s (taken c) r i) in
    spent-left ds m.heap (hold_native m.heap n (noted m w)).heap runs.sound.well_formed
    (leaves-hold_native ds m.heap m.heap n (noted m w) (noted-unspent m w ds d)
    (leaves-refl ds m.heap (record { unregistered = d.unregistered; holder = d.holder; joint = d.joint }))) d

-- a command of each class leaves them spent
class-spends : (m : Machine) (s : State) (c : Command) (ds : List Name) → IsRunning m s → IsTrue (in_range c) → KeepsReflectors ds → IsSpent m.heap ds →
    (k : Class) → class_of c ≡ k → IsSpent (do_class m c k).machine.heap ds
class-spends m s c ds r i keeps d (says q) e = say-leaves m q (λ n. IsSpent n.heap ds) (λ memory. d)
class-spends m s c ds r i keeps d does e = mutate-spends m c ds r.sound i keeps d
class-spends m s c ds r i keeps d (runs u) e = units-spend m s u ds r d
class-spends m s c ds r i keeps d (collects_scripts whole) e = gc-spends m s ds r d
class-spends m s c ds r i keeps d (collects_scripts (so_many n)) e = (mark-spends ds m n r.marking (spending-on m s ds r d)).spent
class-spends m s c ds r i keeps d forgets e = forget-spends m.heap ds d
class-spends m s c ds r i keeps d (reads_weak n w) e = read_weak-spends m s c n w ds r i d e

-- WHAT IS SPENT STAYS SO under any ask.
pub ask-spends : (m : Machine) (s : State) (ask : Ask) (ds : List Name) → IsRunning m s → IsTrue (ask_in_range ask) → KeepsReflectors ds →
    IsSpent m.heap ds → IsSpent (do_ask m ask).machine.heap ds
unfolding do_ask
ask-spends m s (taken c) ds r i keeps d = class-spends m s c ds r i keeps d (class_of c) refl
ask-spends m s _ ds r i keeps d = d

-- so after any asks in a row
pub asks-spend : (m : Machine) (s : State) (asks : List Ask) (ds : List Name) → IsRunning m s → IsTrue (list_all ask_in_range asks) →
    KeepsReflectors ds → IsSpent m.heap ds → IsSpent (machine_after m asks).heap ds
asks-spend m s [] ds r range keeps d = d
asks-spend m s (ask ∷ asks) ds r range keeps d =
    let both = and_parts (ask_in_range ask) (list_all ask_in_range asks) range in
    let t : Turn = do_ask m ask in
    asks-spend t.machine (next s ask t.answer) asks ds (any-runs m s ask r both.0) both.1 keeps (ask-spends m s ask ds r both.0 keeps d)
