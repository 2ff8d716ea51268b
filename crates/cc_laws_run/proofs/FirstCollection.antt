-- THE FIRST COLLECTION UNDER ASKS, of any machine: what it tells stands first in an answer, and later asks leave what it came to.
use Rattle.std.proofs.Common.{arith, ◌≡◌, ◌≢◌, ℕ, Bool, true, false, List, [], ◌∷◌, ◌++◌, Some, is_some, refl, sym, ◌∙◌, ap, inl, inr}
use Rattle.std.proofs.lemmas.List.{append_assoc, append-nil}
use Rattle.cc_model.specs.declared.item.Event.{Event}
use Rattle.cc_model.specs.Answers.{Answer}
use Rattle.cc_model.specs.Mutating.{Class, so_many, whole, runs, collects_scripts, class_of}
use Rattle.cc_model.specs.Asks.{Ask, taken}
use Rattle.cc_model.specs.Snapshot.{Snapshot}
use Rattle.cc_model.specs.Sweep.{collect_scripts}
use Rattle.cc_model.specs.Marking.{ended_marks}
use Rattle.cc_model.specs.End.{Progress, went_on, UnitDone, unit}
use Rattle.cc_model.specs.Collecting.{Machine, UnitsDone, no_units, next_answer, units_done, enough_units, to_the_end, finish_running, without_marking, finish_marking, behind, slice, starting_anew, unless_stopped, collect_cycles, collect, gc, mark}
use Rattle.cc_model.specs.Run.{Turn, do_ask, turns, machine_after, do_class}
use Rattle.cc_laws_run.specs.Followed.{first_units, then_later, first_collection, first_units_of}
use Rattle.cc_laws_run.specs.Missing.{AreTold}
use Rattle.cc_laws_run.proofs.MarkedUnits.{one_marked-cases, units_marked-keep}
use Rattle.cc_laws_run.proofs.HoldingUnits.{units_done-keep, unless_stopped-cases}

-- `collect`

-- a running collection is brought to its end
pub finish-some : (m : Machine) (s : Snapshot) → m.snapshot ≡ Some s → finish_running m ≡ to_the_end (no_units m)
finish-some m s e = ap (λ (b : Bool). elim b [ true ↦ to_the_end (no_units m) | false ↦ no_units m ]) (ap is_some e)

-- a whole collection of cycles brings the one that runs to its end, or the one that it begins; then it may begin a second one
pub collect-cases : (m : Machine) (P : UnitsDone → Type 0) → P (to_the_end (no_units m)) → P (unless_stopped (to_the_end (no_units m))) → P (collect_cycles m)
unfolding collect_cycles
collect-cases m P first second = go (is_some m.snapshot)
  where
    go : (b : Bool) → P (unless_stopped (elim b [ true ↦ to_the_end (no_units m) | false ↦ no_units m ]))
    go true = second
    go false = first

-- What units tell

-- the list begins with these events
abbrev BeginsWith : List Event → List Event → Type 0
BeginsWith es all = (rest : List Event) × (all ≡ es ++ rest)

-- units only add to what was told before
units_done-begin : (es : List Event) (n : ℕ) (d : UnitsDone) → BeginsWith es d.events → BeginsWith es (units_done n d).events
units_done-begin es n d b = units_done-keep (λ d. BeginsWith es d.events)
    (λ d e b. let u : UnitDone = unit d.machine.heap d.machine.snapshot (next_answer d.machine.memory) in
    (b.0 ++ u.events, ap (λ l. l ++ u.events) b.1 ∙ append_assoc es b.0 u.events)) n d b

-- what collections of cycles tell begins with what the first of them tells
cycles-begin : (m : Machine) → BeginsWith (to_the_end (no_units m)).events (collect_cycles m).events
cycles-begin m =
    let d : UnitsDone = to_the_end (no_units m) in
    let all : BeginsWith d.events d.events = ([], sym (append-nil d.events)) in
    collect-cases m (λ u. BeginsWith d.events u.events) all
    (unless_stopped-cases d (λ u. BeginsWith d.events u.events) (λ e. all) (λ e. units_done-begin d.events (enough_units d.machine) (starting_anew d) all))

-- so it is behind what was told before
behind-begins : (before es all : List Event) → BeginsWith es all → BeginsWith (before ++ es) (before ++ all)
behind-begins before es all b = (b.0, ap (λ l. before ++ l) b.1 ∙ sym (append_assoc before es b.0))

-- and in `collect`, where the end of a marking stands before
collect-begins : (m : Machine) → let before = finish_marking m in
    BeginsWith (behind before (to_the_end (no_units before.machine))).events (collect m).events
unfolding collect
collect-begins m =
    let before : UnitsDone = finish_marking m in
    behind-begins before.events (to_the_end (no_units before.machine)).events (collect_cycles before.machine).events (cycles-begin before.machine)

-- so does what a script marking tells that ends a collection first
mark-begins : (n : ℕ) (m : Machine) → BeginsWith (finish_running m).events (mark n m).events
unfolding mark
mark-begins n m =
    let es = (finish_running m).events in
    units_marked-keep (λ d. BeginsWith es d.events)
    (λ d b. one_marked-cases d.machine d.events (λ u. BeginsWith es u.events) (λ marking. b)
    (λ marks. let told = (ended_marks d.machine.heap marks).events in (b.0 ++ told, ap (λ l. l ++ told) b.1 ∙ append_assoc es b.0 told)))
    n (starting_anew (finish_running m)) ([], sym (append-nil es))

-- the answer to an ask begins with what the first collection tells under it
ask-begins : (m : Machine) (ask : Ask) → BeginsWith (first_units m ask).events (do_ask m ask).answer.events
unfolding do_ask gc
ask-begins m (taken c) = go (class_of c)
  where
    go : (k : Class) → BeginsWith (first_units_of m (do_class m c k).machine k).events (do_class m c k).answer.events
    go (runs (so_many n)) = ([], sym (append-nil (slice n m).events))
    go (runs whole) = collect-begins m
    go (collects_scripts whole) = ((collect_scripts (finish_running (without_marking m)).machine.heap).events, refl)
    go (collects_scripts (so_many n)) = mark-begins n m
    go k = ((do_class m c k).answer.events, refl)
ask-begins m ask = ((do_ask m ask).answer.events, refl)

-- AN ANSWER BEGINS WITH WHAT THE FIRST COLLECTION TELLS, where it does not go on.
pub first_collection-told : (m : Machine) (asks : List Ask) → (first_collection m asks).progress ≢ went_on → AreTold (first_collection m asks).events (turns m asks)
first_collection-told m [] stopped = absurd (stopped refl)
first_collection-told m (ask ∷ asks) stopped = go (first_collection-told t.machine asks) d.progress stopped
  where
    t : Turn
    t = do_ask m ask

    d : UnitsDone
    d = first_units m ask

    later : UnitsDone
    later = first_collection t.machine asks

    followed_by : Progress → UnitsDone
    followed_by went_on = later
    followed_by _ = d

    all : List Answer
    all = t.answer ∷ turns t.machine asks

    here : AreTold d.events all
    here = let b = ask-begins m ask in (t.answer, inl refl, b.0, b.1)

    go : (later.progress ≢ went_on → AreTold later.events (turns t.machine asks)) → (p : Progress) →
        (followed_by p).progress ≢ went_on → AreTold (followed_by p).events all
    go ih went_on stopped = let a = ih stopped in (a.0, inr a.1, a.2, a.3)
    go ih _ stopped = here

-- Later asks

-- what units came to, and then later ones where the collection went on
abbrev pub progress_then : Progress → Progress → Progress
progress_then went_on q = q
progress_then x q = x

-- one after the other
progress_then-assoc : (p q r : Progress) → progress_then p (progress_then q r) ≡ progress_then (progress_then p q) r
progress_then-assoc p q r = grind arith

-- units and later ones come to that
pub then_later-progress : (d later : UnitsDone) → (then_later d later).progress ≡ progress_then d.progress later.progress
then_later-progress d later = grind arith

-- LATER ASKS LEAVE WHAT THE FIRST COLLECTION CAME TO, where it did not go on.
pub first_collection-append : (m : Machine) (xs ys : List Ask) →
    (first_collection m (xs ++ ys)).progress ≡ progress_then (first_collection m xs).progress (first_collection (machine_after m xs) ys).progress
first_collection-append m [] ys = refl
first_collection-append m (x ∷ xs) ys =
    let d : UnitsDone = first_units m x in
    let n : Machine = (do_ask m x).machine in
    let last : Progress = (first_collection (machine_after n xs) ys).progress in
    then_later-progress d (first_collection n (xs ++ ys))
    ∙ (ap (progress_then d.progress) (first_collection-append n xs ys)
    ∙ (progress_then-assoc d.progress (first_collection n xs).progress last
    ∙ ap (λ p. progress_then p last) (sym (then_later-progress d (first_collection n xs)))))
