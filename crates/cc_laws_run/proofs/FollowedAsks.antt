-- A COLLECTION THAT CAN'T MISS NAMES, FOLLOWED THROUGH ASKS: it goes on so, or it has unlinked them all and they are spent, or it is
-- abandoned itself. One that begins right after `gc` can't miss what was lost.
use Rattle.std.specs.Prelude.{IsTrue}
use Rattle.std.specs.List.{list_all}
use Rattle.std.proofs.Common.{◌≡◌, ◌≢◌, ℕ, zero, suc, ◌<◌, Bool, true, false, is_some, List, [], ◌∷◌, ◌++◌, None, refl, sym, ◌∙◌, ap, subst, arith}
use Rattle.std.proofs.lemmas.Bool.{false≢true, true≢false, and_parts}
use Rattle.cc_lists.specs.Members.{Among}
use Rattle.cc_names.specs.declared.name.Name.{Name}
use Rattle.cc_model.specs.declared.command.Command.{Command}
use Rattle.cc_model.specs.declared.command.Command.TheVariants.{Gc}
use Rattle.cc_model.specs.declared.item.Event.{Event}
use Rattle.cc_model.specs.declared.item.Event.TheVariants.{Abandoned}
use Rattle.cc_model.specs.Mutating.{Class, so_many, whole, says, does, forgets, reads_weak, runs, collects_scripts, class_of, is_units}
use Rattle.cc_model.specs.Asks.{Ask, taken}
use Rattle.cc_model.specs.Ranges.{in_range}
use Rattle.cc_model.specs.Graph.{Graph}
use Rattle.cc_model.specs.WellMade.{IsWellMade}
use Rattle.cc_model.specs.WellFormed.{names_there}
use Rattle.cc_model.specs.Heap.{Heap}
use Rattle.cc_model.specs.View.{view}
use Rattle.cc_model.specs.Units.{begun, with_empty_buffer}
use Rattle.cc_model.specs.End.{Progress, went_on, at_end, refused}
use Rattle.cc_model.specs.Lawful.{State, next}
use Rattle.cc_model.specs.Collecting.{Machine, UnitsDone, no_units, one_unit, units_done, enough_units, to_the_end, finish_running, finish_marking, behind, slice, starting_anew, collect_cycles, collect, then_scripts, without_marking, gc, mark}
use Rattle.cc_model.specs.Run.{Turn, mutate, do_ask, machine_after, do_class}
use Rattle.cc_model.proofs.UnitsEnd.{to_the_end-stops}
use Rattle.cc_model.proofs.NoDeeds.{units-in_range}
use Rattle.cc_laws_heap.specs.Sound.{IsSound}
use Rattle.cc_laws_run.specs.Running.{IsRunning, ask_in_range}
use Rattle.cc_laws_run.specs.Doomed.{IsDoomed, IsDoomedNow, IsSuspectedNow, KeepsReflectors, AreUnlinked, garbage}
use Rattle.cc_laws_run.specs.Returning.{brings_back, brings_none_back}
use Rattle.cc_laws_run.specs.Followed.{first_units, first_collection, first_units_of}
use Rattle.cc_laws_run.specs.Missing.{MissesNoneAtAll, begins_one, lost, has_units}
use Rattle.cc_laws_run.specs.Spent.{IsSpent}
use Rattle.cc_laws_run.proofs.Forgetting.{forget-follows}
use Rattle.cc_laws_run.proofs.CommandCases.{mutate-cases, say-leaves}
use Rattle.cc_laws_run.proofs.TouchedCommands.{doomed-effects}
use Rattle.cc_laws_run.proofs.DoomedBegin.{collected-doomed}
use Rattle.cc_laws_run.proofs.CollectionsLawful.{running-on}
use Rattle.cc_laws_run.proofs.PlainLawful.{any-runs}
use Rattle.cc_laws_run.proofs.QuietUnits.{gc-collects, running-going}
use Rattle.cc_laws_run.proofs.MissesLost.{lost-doomed, lost-keeps}
use Rattle.cc_laws_run.proofs.Unabandoned.{TellsNone, none-abandoned}
use Rattle.cc_laws_run.proofs.SpentGone.{collected-gone}
use Rattle.cc_laws_run.proofs.HoldingUnits.{HoldsOn, units_done-keep, units_done-holds, unless_stopped-cases}
use Rattle.cc_laws_run.proofs.Unmarked.{running-unmarked, slice-unmarked, collect-unmarked, first-unmarked, dropped-unmarked, gc-drops_none}
use Rattle.cc_laws_run.proofs.SpentMarks.{marked-spends}
use Rattle.cc_laws_run.proofs.SpentUnits.{Settles, Spending, each-spends, SettlesOn, units_done-settle, first-settles}
use Rattle.cc_laws_run.proofs.SpentAsks.{collected-spent, asks-spend, gc-gone}
use Rattle.cc_laws_run.proofs.FirstCollection.{finish-some, then_later-progress, first_collection-append, collect-cases}

-- what becomes of names by what a collection told and came to, and by the machine after the asks
abbrev pub IsFollowed : List Name → List Event → Progress → Machine → Type 0
IsFollowed ds es went_on n = (es ≡ []) × IsDoomedNow n ds
IsFollowed ds es at_end n = AreUnlinked ds es × IsSpent n.heap ds × TellsNone es
IsFollowed ds es refused n = es ≡ Abandoned ∷ []

-- Units under one ask

module _ (g : Graph) (well : IsWellMade g) (ds : List Name) where
  -- of a slice
  settled : (d : UnitsDone) → SettlesOn g ds d → IsFollowed ds d.events d.progress d.machine
  settled d t = grind arith

  -- of a collection that is brought to its end, whatever machine there is later that has spent what was spent
  stopped : (m n : Machine) → SettlesOn g ds (to_the_end (no_units m)) →
      ((to_the_end (no_units m)).progress ≡ at_end → IsSpent n.heap ds) →
      IsFollowed ds (to_the_end (no_units m)).events (to_the_end (no_units m)).progress n
  stopped m n t spent = grind (arith, to_the_end-stops)

  -- what units have spent at their end
  spent-at_end : (d : UnitsDone) → SettlesOn g ds d → d.progress ≡ at_end → HoldsOn g (Spending ds) (starting_anew d)
  spent-at_end d t e =
      let k : Settles ds d.machine.heap d.machine.snapshot d.events at_end = subst (Settles ds d.machine.heap d.machine.snapshot d.events) e t.holds in
      record { names = t.names; runs = t.runs; holds = k.1 }

  -- a whole collection leaves it spent, though it begin a second one
  collect-spent : (m : Machine) → SettlesOn g ds (to_the_end (no_units m)) → (to_the_end (no_units m)).progress ≡ at_end → IsSpent (collect_cycles m).machine.heap ds
  collect-spent m t e =
      let d : UnitsDone = to_the_end (no_units m) in
      let first : HoldsOn g (Spending ds) (starting_anew d) = spent-at_end d t e in
      collect-cases m (λ u. IsSpent u.machine.heap ds) first.holds
      (unless_stopped-cases d (λ u. IsSpent u.machine.heap ds) (λ r. first.holds)
      (λ r. (units_done-holds g well (Spending ds) (each-spends g ds) (enough_units d.machine) (starting_anew d) first).holds))

  -- where no marking goes on, `collect` is followed
  collected-follows : (m : Machine) → m.marking ≡ None → SettlesOn g ds (to_the_end (no_units m)) →
      let d = behind (finish_marking m) (to_the_end (no_units (finish_marking m).machine)) in IsFollowed ds d.events d.progress (collect m).machine
  collected-follows m none t = subst (λ (u : UnitsDone). IsFollowed ds u.events u.progress (collect m).machine) (sym (first-unmarked m none))
      (subst (λ (u : UnitsDone). IsFollowed ds (to_the_end (no_units m)).events (to_the_end (no_units m)).progress u.machine) (sym (collect-unmarked m none))
      (stopped m (collect_cycles m).machine t (collect-spent m t)))

-- One ask

module _ (m : Machine) (s : State) (ds : List Name) (r : IsRunning m s) (d : IsDoomedNow m ds) where
  -- before any unit
  start : SettlesOn s.graph ds (no_units m)
  start = record { names = s.listed; runs = running-on m s r; holds = (refl, d) }

  -- no script marking goes on
  unmarked : m.marking ≡ None
  unmarked = running-unmarked m s d.0 r d.1

  -- units
  units-settle : (n : ℕ) → SettlesOn s.graph ds (units_done n (no_units m))
  units-settle n = units_done-settle s.graph r.well_made ds n (no_units m) start

  -- those of the running collection to its end
  ended : SettlesOn s.graph ds (to_the_end (no_units m))
  ended = units-settle (enough_units m)

  -- the same, as `gc` and `mark` have them
  finished : finish_running m ≡ to_the_end (no_units m)
  finished = finish-some m d.0 d.1

  -- where they end it, what they leave is spent
  finish-spends : (finish_running m).progress ≡ at_end → HoldsOn s.graph (Spending ds) (starting_anew (finish_running m))
  finish-spends e = spent-at_end s.graph r.well_made ds (finish_running m) (subst (SettlesOn s.graph ds) (sym finished) ended) e

  -- it is followed to its end, whatever machine there is later that has spent what was spent
  finish-follows : (n : Machine) → (HoldsOn s.graph (Spending ds) (starting_anew (finish_running m)) → IsSpent n.heap ds) →
      IsFollowed ds (finish_running m).events (finish_running m).progress n
  finish-follows n later = subst (λ (u : UnitsDone). IsFollowed ds u.events u.progress n) (sym finished)
      (stopped s.graph r.well_made ds m n ended (λ e. later (finish-spends (ap (λ (u : UnitsDone). u.progress) finished ∙ e))))

  -- `gc`
  gc-follows : let d = finish_running (without_marking m) in IsFollowed ds d.events d.progress (gc m).machine
  gc-follows = subst (λ (k : Machine). IsFollowed ds (finish_running k).events (finish_running k).progress (gc m).machine) (sym (dropped-unmarked m unmarked))
      (subst (λ (u : UnitsDone). IsFollowed ds (finish_running m).events (finish_running m).progress u.machine) (sym (gc-drops_none m unmarked))
      (finish-follows (then_scripts (finish_running m)).machine (λ t. collected-spent (finish_running m).machine.heap ds t.runs.sound t.holds)))

  -- `gc` takes away what the collection that it ends can't miss
  gc-gone_at_once : (finish_running (without_marking m)).progress ≢ refused → (x : Name) → Among x ds → ¬ (Among x (names_there (gc m).machine.heap))
  gc-gone_at_once unrefused x i = subst (λ (u : UnitsDone). ¬ (Among x (names_there u.machine.heap))) (sym (gc-drops_none m unmarked))
      (gone (finish_running m).progress refl)
    where
      gone : (p : Progress) → (finish_running m).progress ≡ p → ¬ (Among x (names_there (then_scripts (finish_running m)).machine.heap))
      gone went_on e = absurd (to_the_end-stops m (ap (λ (u : UnitsDone). u.progress) (sym finished) ∙ e))
      gone at_end e = let t = finish-spends e in collected-gone ds (finish_running m).machine.heap t.runs.sound t.holds x i
      gone refused e = absurd (unrefused (ap (λ (k : Machine). (finish_running k).progress) (dropped-unmarked m unmarked) ∙ e))

  -- no marking goes on where `mark` has ended it
  ended-unmarked : (finish_running m).machine.marking ≡ None
  ended-unmarked = subst (λ (u : UnitsDone). u.machine.marking ≡ None) (sym finished)
      (units_done-keep (λ (u : UnitsDone). u.machine.marking ≡ None) (λ u e q. q) (enough_units m) (no_units m) unmarked)

  -- `mark`
  mark-follows : (n : ℕ) → IsFollowed ds (finish_running m).events (finish_running m).progress (mark n m).machine
  mark-follows n = finish-follows (mark n m).machine
      (λ t. (marked-spends ds m n ended-unmarked (record { sound = t.runs.sound; spent = t.holds })).spent)

  -- a slice
  slice-follows : (n : ℕ) → IsFollowed ds (slice n m).events (slice n m).progress (slice n m).machine
  slice-follows n = subst (λ (u : UnitsDone). IsFollowed ds u.events u.progress u.machine) (sym (slice-unmarked m unmarked n))
      (settled s.graph r.well_made ds (units_done n (no_units m)) (units-settle n))

  -- `collect`
  collect-follows : let d = behind (finish_marking m) (to_the_end (no_units (finish_marking m).machine)) in IsFollowed ds d.events d.progress (collect m).machine
  collect-follows = collected-follows s.graph r.well_made ds m unmarked ended

-- a command of the mutator leaves the collection such
pub mutate-follows : (m : Machine) (c : Command) (ds : List Name) → IsSound [] m.heap → KeepsReflectors ds → IsDoomedNow m ds → IsDoomedNow (mutate m c).machine ds
mutate-follows m c ds sound keeps d = mutate-cases m c (λ (u : Turn). IsDoomedNow u.machine ds)
    (λ refusal e. d)
    (λ e f. d)
    (λ e memory. (d.0, d.1, doomed-effects d.0 ds m.heap c sound.well_formed keeps d.2))

-- A COLLECTION THAT CAN'T MISS NAMES, under a command of any class that brings nothing back
pub class-follows : (m : Machine) (s : State) (c : Command) (ds : List Name) → IsRunning m s → IsTrue (in_range c) → KeepsReflectors ds → IsDoomedNow m ds →
    (k : Class) → class_of c ≡ k → brings_back k ≡ false → let n = (do_class m c k).machine in let d = first_units_of m n k in IsFollowed ds d.events d.progress n
class-follows m s c ds r i keeps d (says q) e b = (refl, say-leaves m q (λ n. IsDoomedNow n ds) (λ memory. d))
class-follows m s c ds r i keeps d does e b = (refl, mutate-follows m c ds r.sound keeps d)
class-follows m s c ds r i keeps d (runs (so_many u)) e b = slice-follows m s ds r d u
class-follows m s c ds r i keeps d (runs whole) e b = collect-follows m s ds r d
class-follows m s c ds r i keeps d (collects_scripts whole) e b = gc-follows m s ds r d
class-follows m s c ds r i keeps d (collects_scripts (so_many n)) e b = mark-follows m s ds r d n
class-follows m s c ds r i keeps d forgets e b = (refl, forget-follows m ds d)
class-follows m s c ds r i keeps d (reads_weak n w) e b = absurd (true≢false b)

-- A COLLECTION THAT CAN'T MISS NAMES, under any ask that brings nothing back
pub ask-follows : (m : Machine) (s : State) (ask : Ask) (ds : List Name) → IsRunning m s → IsTrue (ask_in_range ask) → KeepsReflectors ds → IsDoomedNow m ds →
    brings_none_back ask ≡ true → IsFollowed ds (first_units m ask).events (first_units m ask).progress (do_ask m ask).machine
unfolding do_ask
ask-follows m s (taken c) ds r i keeps d none = class-follows m s c ds r i keeps d (class_of c) refl (brings_none (class_of c) none)
  where
    brings_none : (k : Class) → elim (brings_back k) [ true ↦ false | false ↦ true ] ≡ true → brings_back k ≡ false
    brings_none (reads_weak n w) none = absurd (false≢true none)
    brings_none k none = refl
ask-follows m s _ ds r i keeps d none = (refl, d)

-- The ask that begins it

module _ (m : Machine) (s : State) (ds : List Name) (r : IsRunning m s) (none : m.snapshot ≡ None) (unmarked : m.marking ≡ None) (doomed : IsDoomed (view (with_empty_buffer m.heap)) (begun m.heap) ds) where
  -- some units
  some-settle : (n : ℕ) → 0 < n → SettlesOn s.graph ds (units_done n (no_units m))
  unfolding units_done
  some-settle zero p = absurd (omega (arith, p))
  some-settle (suc n) p = units_done-settle s.graph r.well_made ds n (one_unit m []) (first-settles s.graph r.well_made ds s.listed m (running-on m s r) none doomed)

  -- under a command that has units
  has_units-follow : (c : Command) (k : Class) → has_units k ≡ true →
      let n = (do_class m c k).machine in let d = first_units_of m n k in IsFollowed ds d.events d.progress n
  has_units-follow c (runs (so_many (suc n))) e = subst (λ (u : UnitsDone). IsFollowed ds u.events u.progress u.machine) (sym (slice-unmarked m unmarked (suc n)))
      (settled s.graph r.well_made ds (units_done (suc n) (no_units m)) (some-settle (suc n) (omega arith)))
  has_units-follow c (runs whole) e = collected-follows s.graph r.well_made ds m unmarked (some-settle (enough_units m) (omega arith))
  has_units-follow c _ e = absurd (false≢true e)

  -- under an ask that begins a collection
  pub begin-follows : (ask : Ask) → begins_one ask ≡ true → IsFollowed ds (first_units m ask).events (first_units m ask).progress (do_ask m ask).machine
  unfolding do_ask
  begin-follows (taken c) e = has_units-follow c (class_of c) e
  begin-follows _ e = absurd (false≢true e)

-- a class that has units runs some
has_units-runs : (k : Class) → has_units k ≡ true → is_units k ≡ true
has_units-runs k e = grind arith

-- an ask that begins a collection leaves a machine that runs
pub begin-runs : (m : Machine) (s : State) (ask : Ask) → IsRunning m s → begins_one ask ≡ true → IsRunning (do_ask m ask).machine (next s ask (do_ask m ask).answer)
begin-runs m s (taken c) r e = any-runs m s (taken c) r (units-in_range c (has_units-runs (class_of c) e))
begin-runs m s _ r e = absurd (false≢true e)

-- Asks in a row

-- an ask, and the asks after it
ask-then : (m : Machine) (s : State) (ask : Ask) (asks : List Ask) (ds : List Name) → IsRunning (do_ask m ask).machine s → IsTrue (list_all ask_in_range asks) →
    KeepsReflectors ds → IsFollowed ds (first_units m ask).events (first_units m ask).progress (do_ask m ask).machine →
    (IsDoomedNow (do_ask m ask).machine ds → let c = first_collection (do_ask m ask).machine asks in
    IsFollowed ds c.events c.progress (machine_after (do_ask m ask).machine asks)) →
    let c = first_collection m (ask ∷ asks) in IsFollowed ds c.events c.progress (machine_after m (ask ∷ asks))
ask-then m s ask asks ds r range keeps f more = grind (arith, asks-spend)

-- A COLLECTION THAT CAN'T MISS NAMES, under any asks in a row that bring nothing back
pub asks-follow : (m : Machine) (s : State) (asks : List Ask) (ds : List Name) → IsRunning m s → IsTrue (list_all ask_in_range asks) →
    IsTrue (list_all brings_none_back asks) → KeepsReflectors ds → IsDoomedNow m ds →
    let c = first_collection m asks in IsFollowed ds c.events c.progress (machine_after m asks)
asks-follow m s [] ds r range none keeps d = (refl, d)
asks-follow m s (ask ∷ asks) ds r range none keeps d =
    let both = and_parts (ask_in_range ask) (list_all ask_in_range asks) range in
    let back = and_parts (brings_none_back ask) (list_all brings_none_back asks) none in
    let t : Turn = do_ask m ask in
    let u : State = next s ask t.answer in
    let still : IsRunning t.machine u = any-runs m s ask r both.0 in
    ask-then m u ask asks ds still both.1 keeps (ask-follows m s ask ds r both.0 keeps d back.0) (asks-follow t.machine u asks ds still both.1 back.1 keeps)

-- what becomes of them says that none is missed
pub followed-misses : (m : Machine) (asks : List Ask) (ds : List Name) →
    (let c = first_collection m asks in IsFollowed ds c.events c.progress (machine_after m asks)) → MissesNoneAtAll ds m asks
followed-misses m asks ds f = grind (arith, none-abandoned)

-- and that they are spent where it ended
pub followed-spent : (m : Machine) (asks : List Ask) (ds : List Name) →
    (let c = first_collection m asks in IsFollowed ds c.events c.progress (machine_after m asks)) →
    (first_collection m asks).progress ≡ at_end → IsSpent (machine_after m asks).heap ds
followed-spent m asks ds f e =
    let c : UnitsDone = first_collection m asks in
    let k : IsFollowed ds c.events at_end (machine_after m asks) = subst (λ p. IsFollowed ds c.events p (machine_after m asks)) e f in k.1

-- A `gc` AFTER THEM TAKES AWAY what the collection could not miss, unless it is abandoned.
pub followed-gone : (m : Machine) (s : State) (asks : List Ask) (ds : List Name) → IsRunning (machine_after m asks) s →
    (let c = first_collection m asks in IsFollowed ds c.events c.progress (machine_after m asks)) →
    (first_collection m (asks ++ taken Gc ∷ [])).progress ≢ refused → (x : Name) → Among x ds →
    ¬ (Among x (names_there (gc (machine_after m asks)).machine.heap))
followed-gone m s asks ds r f unrefused x i = grind (arith, first_collection-append, gc-gone_at_once, then_later-progress, gc-gone)

-- Right after `gc`

-- a machine that runs does so after `gc`
pub after_gc-runs : (m : Machine) (s : State) → IsRunning m s → IsRunning (gc m).machine (next s (taken Gc) (do_ask m (taken Gc)).answer)
unfolding do_ask
after_gc-runs m s r = any-runs m s (taken Gc) r refl

-- a collection that begins now dooms what is garbage, and no script marking is ended before it
abbrev pub Dooms : Machine → Type 0
Dooms m = (m.snapshot ≡ None) × (m.marking ≡ None) × IsDoomed (view (with_empty_buffer m.heap)) (begun m.heap) (garbage m.heap)

-- and no script marking goes on
after_gc-unmarked : (m : Machine) → (gc m).machine.marking ≡ None
unfolding gc
after_gc-unmarked m = go (is_some m.snapshot)
  where
    go : (b : Bool) → (then_scripts (elim b [ true ↦ to_the_end (no_units (without_marking m)) | false ↦ no_units (without_marking m) ])).machine.marking ≡ None
    go true = units_done-keep (λ (u : UnitsDone). u.machine.marking ≡ None) (λ u e q. q) (enough_units (without_marking m)) (no_units (without_marking m)) refl
    go false = refl

-- right after `gc` a collection that begins dooms what is garbage
pub after_gc-dooms : (m : Machine) (s : State) → IsRunning m s → IsSuspectedNow m → Dooms (gc m).machine
after_gc-dooms m s r suspected =
    let f = gc-collects m (running-going m s r suspected) in
    (f.4, after_gc-unmarked m, subst (λ (h : Heap). IsDoomed (view (with_empty_buffer h)) (begun h) (garbage h)) (sym f.3) (collected-doomed f.0 f.1 f.2))

module _ (m : Machine) (s : State) (r : IsRunning m s) (dooms : Dooms m) where
  -- THE ASK THAT BEGINS A COLLECTION that dooms garbage makes one that can't miss what was lost.
  pub begun-follows : (ask : Ask) → begins_one ask ≡ true → IsFollowed (lost m.heap) (first_units m ask).events (first_units m ask).progress (do_ask m ask).machine
  begun-follows ask e = begin-follows m s (lost m.heap) r dooms.0 dooms.1 (lost-doomed m.heap s.graph r.sound r.well_made r.stands dooms.2) ask e

  -- A COLLECTION THAT DOOMED GARBAGE CAN'T MISS WHAT WAS LOST, under later asks that bring nothing back.
  pub all-follow : (ask : Ask) (asks : List Ask) → begins_one ask ≡ true → IsTrue (list_all ask_in_range asks) → IsTrue (list_all brings_none_back asks) →
      let c = first_collection m (ask ∷ asks) in IsFollowed (lost m.heap) c.events c.progress (machine_after m (ask ∷ asks))
  all-follow ask asks e range none =
      let u : State = next s ask (do_ask m ask).answer in
      let still : IsRunning (do_ask m ask).machine u = begin-runs m s ask r e in
      let keeps : KeepsReflectors (lost m.heap) = lost-keeps m.heap r.sound in
      ask-then m u ask asks (lost m.heap) still range keeps (begun-follows ask e)
      (asks-follow (do_ask m ask).machine u asks (lost m.heap) still range none keeps)
