-- ASKS IN A ROW, from a machine that runs and from the empty one: it runs on and forgets nothing, and a collection after `gc` misses nothing.
use Rattle.std.specs.Prelude.{IsTrue}
use Rattle.std.specs.List.{list_all}
use Rattle.std.proofs.Common.{arith, ◌≡◌, ◌≢◌, Bool, true, List, [], ◌∷◌, ◌++◌, refl, sym, ◌∙◌, ap, subst}
use Rattle.std.proofs.lemmas.Bool.{false≢true, and_parts, and_from}
use Rattle.cc_lists.specs.Members.{Among}
use Rattle.cc_lists.proofs.Members.{Among-right}
use Rattle.cc_names.specs.Allowance.{Allowance}
use Rattle.cc_names.specs.declared.name.Name.{Name}
use Rattle.cc_names.specs.Names.{native}
use Rattle.cc_model.specs.declared.command.Command.TheVariants.{Nothing, Gc}
use Rattle.cc_model.specs.declared.item.Event.{Event}
use Rattle.cc_model.specs.Asks.{Ask, taken}
use Rattle.cc_model.specs.Given.{GivenFrom}
use Rattle.cc_model.specs.WellFormed.{names_there}
use Rattle.cc_model.specs.End.{at_end, refused}
use Rattle.cc_model.specs.Lawful.{State, start, next}
use Rattle.cc_model.specs.Collecting.{Machine, empty_machine, gc}
use Rattle.cc_model.specs.Run.{Turn, do_ask, turns, machine_after, plain_run}
use Rattle.cc_laws_run.specs.Running.{IsRunning, ask_in_range, state_after}
use Rattle.cc_laws_run.specs.Doomed.{IsDoomedNow, IsSuspectedNow, KeepsReflectors}
use Rattle.cc_laws_run.specs.Followed.{first_collection}
use Rattle.cc_laws_run.specs.Returning.{MayBeBack, met_over, brings_none_back}
use Rattle.cc_laws_run.specs.Missing.{asks_nothing, begins_one, after_asks, state_by, graph_by, met_by, graph_then, met_then, AreTold, BeginsAfterGc, AreLeftOf, CannotMissNow, MissesNone, MissesNoneAtAll, MissesNothing, MissesNothingAtAll, lost}
use Rattle.cc_laws_run.specs.Spent.{IsSpent}
use Rattle.cc_laws_run.proofs.InARow.{turns-append, machine_after-append}
use Rattle.cc_laws_run.proofs.RunsOn.{empty-runs}
use Rattle.cc_laws_run.proofs.PlainLawful.{any-runs}
use Rattle.cc_laws_run.proofs.PlainQuiet.{empty-suspected}
use Rattle.cc_laws_run.proofs.AsksSuspected.{ask-suspected}
use Rattle.cc_laws_run.proofs.FirstCollection.{first_collection-told}
use Rattle.cc_laws_run.proofs.MissesLost.{native-lost, lost-keeps}
use Rattle.cc_laws_run.proofs.FollowedAsks.{Dooms, asks-follow, after_gc-runs, after_gc-dooms, all-follow, begin-runs, followed-misses, followed-spent, followed-gone}
use Rattle.cc_laws_run.proofs.FollowedBack.{HasMet, Shrinks, now-shrinks, all-shrink, shrunk-misses, shrunk-spent, shrunk-gone, met-front, front-stays, state_after-append}

-- Asks in a row

-- they leave a machine that runs
pub asks-run : (m : Machine) (s : State) (asks : List Ask) → IsRunning m s → IsTrue (list_all ask_in_range asks) →
    IsRunning (machine_after m asks) (state_after s asks (turns m asks))
asks-run m s [] r range = r
asks-run m s (ask ∷ asks) r range =
    let both = and_parts (ask_in_range ask) (list_all ask_in_range asks) range in
    let t : Turn = do_ask m ask in
    asks-run t.machine (next s ask t.answer) asks (any-runs m s ask r both.0) both.1

-- and that forgets nothing
asks-suspected : (m : Machine) (s : State) (asks : List Ask) → IsRunning m s → IsTrue (list_all ask_in_range asks) → IsSuspectedNow m →
    IsSuspectedNow (machine_after m asks)
asks-suspected m s [] r range suspected = suspected
asks-suspected m s (ask ∷ asks) r range suspected =
    let both = and_parts (ask_in_range ask) (list_all ask_in_range asks) range in
    let t : Turn = do_ask m ask in
    asks-suspected t.machine (next s ask t.answer) asks (any-runs m s ask r both.0) both.1 (ask-suspected m s ask r both.0 suspected)

-- THE MACHINE OF A RUN RUNS.
pub run-runs : (limits : Allowance) (memory : List Bool) (asks : List Ask) → IsTrue (list_all ask_in_range asks) →
    IsRunning (machine_after (empty_machine limits memory) asks) (state_after (start limits) asks (plain_run limits memory asks))
run-runs limits memory asks range = asks-run (empty_machine limits memory) (start limits) asks (empty-runs limits memory) range

-- AND FORGETS NOTHING.
pub run-suspected : (limits : Allowance) (memory : List Bool) (asks : List Ask) → IsTrue (list_all ask_in_range asks) →
    IsSuspectedNow (machine_after (empty_machine limits memory) asks)
run-suspected limits memory asks range =
    asks-suspected (empty_machine limits memory) (start limits) asks (empty-runs limits memory) range (empty-suspected limits)

-- lines that ask nothing leave the machine
blanks-leave : (m : Machine) (blanks : List Ask) → IsTrue (list_all asks_nothing blanks) → machine_after m blanks ≡ m
unfolding do_ask
blanks-leave m [] b = refl
blanks-leave m (taken Nothing ∷ blanks) b = blanks-leave m blanks b
blanks-leave m (ask ∷ blanks) b = absurd (false≢true b)

-- lines that ask nothing are in range
blanks-range : (blanks : List Ask) → IsTrue (list_all asks_nothing blanks) → IsTrue (list_all ask_in_range blanks)
blanks-range [] b = refl
blanks-range (taken Nothing ∷ blanks) b = blanks-range blanks b
blanks-range (ask ∷ blanks) b = absurd (false≢true b)

-- where asks pass a test, and then others do, all of them do
list_all-append : (p : Ask → Bool) (xs ys : List Ask) → IsTrue (list_all p xs) → IsTrue (list_all p ys) → IsTrue (list_all p (xs ++ ys))
list_all-append p [] ys a b = b
list_all-append p (x ∷ xs) ys a b =
    let both = and_parts (p x) (list_all p xs) a in
    and_from (p x) (list_all p (xs ++ ys)) both.0 (list_all-append p xs ys both.1 b)

-- the machine after asks and a `gc`
gc-after : (m : Machine) (asks : List Ask) → machine_after m (asks ++ taken Gc ∷ []) ≡ (gc (machine_after m asks)).machine
unfolding do_ask
gc-after m asks = machine_after-append m asks (taken Gc ∷ [])

-- A collection that can't miss names

module _ (m : Machine) (s : State) (asks : List Ask) (ds : List Name) (r : IsRunning m s) (range : IsTrue (list_all ask_in_range asks)) where
  module _ (met : List Name) (now : CannotMissNow m s.graph met ds) where
    -- asks in a row make it miss none but what may be back
    pub asks-miss : MissesNone ds met m s asks
    asks-miss = shrunk-misses met m s asks ds (now-shrinks m s asks ds met r range now)

    -- where the collection ended, the names that are left are spent
    pub asks-end : (first_collection m asks).progress ≡ at_end →
        (left : List Name) × AreLeftOf (graph_then m s asks) (met_then met m s asks) ds left × IsSpent (machine_after m asks).heap left
    asks-end e = shrunk-spent (met_then met m s asks) m asks ds (graph_then m s asks) (now-shrinks m s asks ds met r range now) e

    -- after a `gc` those names are gone that may not be back
    pub asks-gone : (first_collection m (asks ++ taken Gc ∷ [])).progress ≢ refused → (x : Name) → Among x ds →
        ¬ (MayBeBack (graph_then m s asks) (met_then met m s asks) x) → ¬ (Among x (names_there (machine_after m (asks ++ taken Gc ∷ [])).heap))
    asks-gone u x i out = subst (λ (n : Machine). ¬ (Among x (names_there n.heap))) (sym (gc-after m asks))
        (shrunk-gone (met_then met m s asks) m (state_after s asks (turns m asks)) asks ds (graph_then m s asks) (asks-run m s asks r range)
        (now-shrinks m s asks ds met r range now) u x i out)

  module _ (none : IsTrue (list_all brings_none_back asks)) (keeps : KeepsReflectors ds) (d : IsDoomedNow m ds) where
    -- asks that bring nothing back make it miss none at all
    pub asks-miss_none : MissesNoneAtAll ds m asks
    asks-miss_none = followed-misses m asks ds (asks-follow m s asks ds r range none keeps d)

    -- where nothing came back, all names are spent where the collection ended
    pub asks-end_all : (first_collection m asks).progress ≡ at_end → IsSpent (machine_after m asks).heap ds
    asks-end_all e = followed-spent m asks ds (asks-follow m s asks ds r range none keeps d) e

    -- where nothing came back, all names are gone after a `gc`
    pub asks-gone_all : (first_collection m (asks ++ taken Gc ∷ [])).progress ≢ refused → (x : Name) → Among x ds →
        ¬ (Among x (names_there (machine_after m (asks ++ taken Gc ∷ [])).heap))
    asks-gone_all u x i = subst (λ (n : Machine). ¬ (Among x (names_there n.heap))) (sym (gc-after m asks))
        (followed-gone m (state_after s asks (turns m asks)) asks ds (asks-run m s asks r range) (asks-follow m s asks ds r range none keeps d) u x i)

-- A collection that begins where it dooms garbage

module _ (m : Machine) (s : State) (r : IsRunning m s) (dooms : Dooms m) (ask : Ask) (asks : List Ask) (begins : begins_one ask ≡ true)
    (range : IsTrue (list_all ask_in_range asks)) where
  -- what was met since
  abbrev met_since : List Name
  met_since = met_over s (ask ∷ asks) (turns m (ask ∷ asks))

  -- what was lost is left, or may be back
  lost-shrinks : let c = first_collection m (ask ∷ asks) in Shrinks met_since (lost m.heap) c.events c.progress (machine_after m (ask ∷ asks)) (graph_then m s (ask ∷ asks))
  lost-shrinks = all-shrink m s r dooms ask begins met_since asks range (λ x i. i)

  -- the collection misses none of what was lost but what may be back
  pub begun-misses : MissesNone (lost m.heap) [] m s (ask ∷ asks)
  begun-misses = shrunk-misses [] m s (ask ∷ asks) (lost m.heap) lost-shrinks

  -- where it ended, what is left of what was lost is spent
  pub begun-end : (first_collection m (ask ∷ asks)).progress ≡ at_end →
      (left : List Name) × AreLeftOf (graph_then m s (ask ∷ asks)) met_since (lost m.heap) left × IsSpent (machine_after m (ask ∷ asks)).heap left
  begun-end e = shrunk-spent met_since m (ask ∷ asks) (lost m.heap) (graph_then m s (ask ∷ asks)) lost-shrinks e

  -- the machine after the asks runs
  begun-run : IsRunning (machine_after m (ask ∷ asks)) (state_after s (ask ∷ asks) (turns m (ask ∷ asks)))
  begun-run = asks-run (do_ask m ask).machine (next s ask (do_ask m ask).answer) asks (begin-runs m s ask r begins) range

  -- what was lost and may not be back after the next `gc` is gone then
  pub begun-gone : let all = ask ∷ (asks ++ taken Gc ∷ []) in (first_collection m all).progress ≢ refused → (x : Name) → Among x (lost m.heap) →
      ¬ (MayBeBack (graph_then m s all) (met_over s all (turns m all)) x) → ¬ (Among x (names_there (machine_after m all).heap))
  begun-gone u x i out =
      let all : List Ask = ask ∷ (asks ++ taken Gc ∷ []) in
      let met : List Name = met_over s all (turns m all) in
      let front : HasMet s (ask ∷ asks) (turns m (ask ∷ asks)) met = met-front m s (ask ∷ asks) (taken Gc ∷ []) met (λ x i. i) in
      subst (λ (n : Machine). ¬ (Among x (names_there n.heap))) (sym (gc-after m (ask ∷ asks)))
      (shrunk-gone met m (state_after s (ask ∷ asks) (turns m (ask ∷ asks))) (ask ∷ asks) (lost m.heap) (graph_then m s (ask ∷ asks)) begun-run
      (all-shrink m s r dooms ask begins met asks range front) u x i
      (λ b. out (front-stays m s (ask ∷ asks) (taken Gc ∷ []) met (λ y j. j) x b)))

  module _ (none : IsTrue (list_all brings_none_back asks)) where
    -- where nothing comes back, the collection misses nothing that was lost
    pub begun-misses_none : MissesNoneAtAll (lost m.heap) m (ask ∷ asks)
    begun-misses_none = followed-misses m (ask ∷ asks) (lost m.heap) (all-follow m s r dooms ask asks begins range none)

    -- where nothing comes back and it ended, all that was lost is spent
    pub begun-end_all : (first_collection m (ask ∷ asks)).progress ≡ at_end → IsSpent (machine_after m (ask ∷ asks)).heap (lost m.heap)
    begun-end_all e = followed-spent m (ask ∷ asks) (lost m.heap) (all-follow m s r dooms ask asks begins range none) e

    -- where nothing comes back, all that was lost is gone after the next `gc`
    pub begun-gone_all : let all = ask ∷ (asks ++ taken Gc ∷ []) in (first_collection m all).progress ≢ refused → (x : Name) → Among x (lost m.heap) →
        ¬ (Among x (names_there (machine_after m all).heap))
    begun-gone_all u x i = subst (λ (n : Machine). ¬ (Among x (names_there n.heap))) (sym (gc-after m (ask ∷ asks)))
        (followed-gone m (state_after s (ask ∷ asks) (turns m (ask ∷ asks))) (ask ∷ asks) (lost m.heap) begun-run
        (all-follow m s r dooms ask asks begins range none) u x i)

-- AFTER `gc` A REFLECTOR IS LOST ONLY WITH ITS NATIVE.
pub after_gc-keeps : (m : Machine) (s : State) → IsRunning m s → KeepsReflectors (lost (gc m).machine.heap)
after_gc-keeps m s r = lost-keeps (gc m).machine.heap (after_gc-runs m s r).sound

-- Any run

module _ (limits : Allowance) (memory : List Bool) (before blanks : List Ask) (ask : Ask) (asks : List Ask) (b : BeginsAfterGc before blanks ask asks) where
  -- before `gc`
  abbrev first : Machine
  first = machine_after (empty_machine limits memory) before

  -- the asks before the collection begins
  abbrev earlier : List Ask
  earlier = before ++ taken Gc ∷ blanks

  -- after these asks the machine is that after the `gc`
  then_gc : machine_after (empty_machine limits memory) earlier ≡ (gc first).machine
  unfolding do_ask
  then_gc = machine_after-append (empty_machine limits memory) before (taken Gc ∷ blanks) ∙ blanks-leave (gc first).machine blanks b.between

  -- the run from there on
  abbrev start_of : Machine
  start_of = after_asks limits memory earlier

  -- the machine after the earlier asks runs
  start-runs : IsRunning start_of (state_by limits memory earlier)
  start-runs = run-runs limits memory earlier (list_all-append ask_in_range before (taken Gc ∷ blanks) b.before_it (blanks-range blanks b.between))

  -- a collection that begins after the earlier asks dooms garbage
  start-dooms : Dooms start_of
  start-dooms = subst Dooms (sym then_gc) (after_gc-dooms first (state_after (start limits) before (plain_run limits memory before))
      (run-runs limits memory before b.before_it) (run-suspected limits memory before b.before_it))

  -- what it tells is told by the answers of the whole run, behind the earlier ones
  told-later : (es : List Event) → AreTold es (turns start_of (ask ∷ asks)) → AreTold es (plain_run limits memory (earlier ++ ask ∷ asks))
  told-later es t = grind (arith, turns-append, Among-right)

  -- the whole run is that of the earlier asks, and then of these
  after-all : (later : List Ask) → after_asks limits memory (earlier ++ later) ≡ machine_after start_of later
  after-all later = machine_after-append (empty_machine limits memory) earlier later

  state-all : (later : List Ask) → state_by limits memory (earlier ++ later) ≡ state_after (state_by limits memory earlier) later (turns start_of later)
  state-all later = state_after-append (empty_machine limits memory) (start limits) earlier later

  graph-all : (later : List Ask) → graph_by limits memory earlier later ≡ graph_then start_of (state_by limits memory earlier) later
  graph-all later = ap (λ (s : State). s.graph) (state-all later)

  -- the collection that begins then misses none of what was lost but what may be back
  misses : MissesNone (lost start_of.heap) [] start_of (state_by limits memory earlier) (ask ∷ asks)
  misses = begun-misses start_of (state_by limits memory earlier) start-runs start-dooms ask asks b.begins b.after_it

  -- A COLLECTION AFTER `gc` MISSES NOTHING in any run, but what a weak reference may have brought back.
  pub run-misses_nothing : MissesNothing limits memory earlier (ask ∷ asks)
  run-misses_nothing = record {
    unlinked = λ e k i out. misses.unlinks e k (native-lost start_of.heap k i)
        (λ g. out (subst (λ g. GivenFrom g (met_by limits memory earlier (ask ∷ asks)) (native k)) (sym (graph-all (ask ∷ asks))) g));
    told = λ stopped. told-later (first_collection start_of (ask ∷ asks)).events (first_collection-told start_of (ask ∷ asks) stopped);
    goes_on = λ e. subst (λ g. (left : List Name) × AreLeftOf g (met_by limits memory earlier (ask ∷ asks)) (lost start_of.heap) left ×
        CannotMissNow (after_asks limits memory (earlier ++ ask ∷ asks)) g (met_by limits memory earlier (ask ∷ asks)) left) (sym (graph-all (ask ∷ asks)))
        (subst (λ (n : Machine). (left : List Name) ×
        AreLeftOf (graph_then start_of (state_by limits memory earlier) (ask ∷ asks)) (met_by limits memory earlier (ask ∷ asks)) (lost start_of.heap) left ×
        CannotMissNow n (graph_then start_of (state_by limits memory earlier) (ask ∷ asks)) (met_by limits memory earlier (ask ∷ asks)) left)
        (sym (after-all (ask ∷ asks))) (misses.goes_on e));
    abandoned = misses.abandoned;
    gone = λ u x i out. subst (λ (n : Machine). ¬ (Among x (names_there n.heap))) (sym (after-all (ask ∷ (asks ++ taken Gc ∷ []))))
        (begun-gone start_of (state_by limits memory earlier) start-runs start-dooms ask asks b.begins b.after_it u x i
        (λ c. out (subst (λ g. MayBeBack g (met_by limits memory earlier (ask ∷ (asks ++ taken Gc ∷ []))) x) (sym (graph-all (ask ∷ (asks ++ taken Gc ∷ [])))) c)));
  }

  module _ (none : IsTrue (list_all brings_none_back asks)) where
    -- where nothing comes back, it misses nothing that was lost
    misses_none : MissesNoneAtAll (lost start_of.heap) start_of (ask ∷ asks)
    misses_none = begun-misses_none start_of (state_by limits memory earlier) start-runs start-dooms ask asks b.begins b.after_it none

    -- A COLLECTION AFTER `gc` MISSES NOTHING AT ALL where nothing comes back.
    pub run-misses_nothing_at_all : MissesNothingAtAll limits memory earlier (ask ∷ asks)
    run-misses_nothing_at_all = record {
      unlinked = λ e k i. misses_none.unlinks e k (native-lost start_of.heap k i);
      told = λ stopped. told-later (first_collection start_of (ask ∷ asks)).events (first_collection-told start_of (ask ∷ asks) stopped);
      goes_on = λ e. subst (λ (m : Machine). IsDoomedNow m (lost start_of.heap)) (sym (after-all (ask ∷ asks))) (misses_none.goes_on e);
      abandoned = misses_none.abandoned;
      gone = λ u x i. subst (λ (m : Machine). ¬ (Among x (names_there m.heap))) (sym (after-all (ask ∷ (asks ++ taken Gc ∷ []))))
          (begun-gone_all start_of (state_by limits memory earlier) start-runs start-dooms ask asks b.begins b.after_it none u x i);
    }
