-- A RUNNING COLLECTION MAKES WAY for `gc` and for a marking, whatever ending it came to; and what `gc` comes to then.
use Rattle.std.specs.Prelude.{IfSome, OnOk, OnErr}
use Rattle.std.proofs.Common.{◌≡◌, true, false, List, [], ◌++◌, Bool, Option, None, Result, Ok, Err, is_some, refl, sym, ap, ◌∙◌, subst}
use Rattle.cc_lists.proofs.Held.{is_some-none}
use Rattle.cc_model.specs.declared.item.Event.{Event}
use Rattle.cc_model.specs.Telling.{Telling, TellsEvents}
use Rattle.cc_model.specs.View.{view}
use Rattle.cc_model.specs.Colours.{HasColourInvariant}
use Rattle.cc_model.specs.Marking.{NewMarks}
use Rattle.cc_model.specs.Sweep.{collect_scripts}
use Rattle.cc_model.specs.WellFormed.{IsWellFormed}
use Rattle.cc_model.specs.End.{Progress, went_on, at_end, refused}
use Rattle.cc_model.specs.Collecting.{Machine, UnitsDone, units_came, finish_running, then_scripts, gc}
use Rattle.cc_model.proofs.Tellings.{Tells-nil, TellsEvents-trans}
use Rattle.cc_laws_run.specs.Memory.{with_memory}
use Rattle.cc_heaps.specs.Keyed.{Keyed}
use Rattle.cc_heaps.specs.NewMarks.{marks_of}
use Rattle.cc_heaps.specs.Keeping.{KeepsHeaps}
use Rattle.cc_gc.proofs.Sparing.{keeps-same, spares-nothing}
use Rattle.cc_builder.specs.Building.{Built}
use Rattle.cc_collector.specs.Kept.{GoesOn, Kept, RunsIn, machine_of, machine_with}
use Rattle.cc_collector.specs.Collected.{LedTo, IsSwept}
use Rattle.cc_collector.specs.Units.{HasDoneAll, HasFinished, HasSpared}
use Rattle.cc_collector.proofs.Rows.{finish-none, finish-stopped}
use Rattle.cc_collector.proofs.Sparing.{spared-nothing, spared-then}
use Rattle.cc_collector.proofs.UnitsSpare.{finish-units, spared-units}
use Rattle.cc_collector.proofs.Marking.{alone-in, alone-of, alone-running, kept-is, machine-is, marking_with, marks-none, none-of, of_parts, running-unmarked}
use Rattle.cc_collector.proofs.Coming.{led-to, some-runs}

-- what ending a running collection came to, if one ran; a marking that goes on stays
pub record HasMadeWay (v : Keyed) (k : Kept) (w : Keyed) (t t₁ : Telling) : Type 0 where
  pub memory : List Bool
  pub events : List Event
  pub progress : Progress
  pub made : finish_running (with_memory (machine_of v k) memory) ≡ units_came (with_memory (machine_with w None) []) events progress
  pub told : TellsEvents t t₁ events
  pub spared : HasSpared v k.running w None events
  pub runs : RunsIn w (marking_with k.marking)

module _ (v : Keyed) (k : Kept) (r : RunsIn v k) where
  -- where none ran
  way-idle : (t : Telling) → k.running ≡ None → HasMadeWay v k v t t
  way-idle t none = record {
    memory = [];
    events = [];
    progress = went_on;
    made = finish-none (machine_of v k) (ap (λ (c : Option Built). (machine_with v c).snapshot) none)
        ∙ ap (λ (c : Option Built). units_came (machine_with v c) [] went_on) none;
    told = Tells-nil t;
    spared = subst (λ (c : Option Built). HasSpared v c v None []) (sym none) (spared-nothing v None r.order);
    runs = subst (RunsIn v) (kept-is k k.marking none refl) r;
  }

  -- where one ran
  pub way-ran : (w : Keyed) (p : Progress) (t t₁ : Telling) → is_some k.running ≡ true → HasDoneAll v k.running w p t t₁ → HasMadeWay v k w t t₁
  way-ran w p t t₁ some a =
      let made = finish-stopped (machine_of v k) (machine_with w None) a.events p a.stopped [] (some-runs v k.running some) in
      record {
        memory = a.stopped.memory [];
        events = a.events;
        progress = p;
        made = made;
        told = a.told;
        spared = spared-units v k.running w None (finish_running (with_memory (machine_of v k) (a.stopped.memory []))) [] a.events p made
            (finish-units v k.running (alone-running v k r some) (a.stopped.memory [])) a.keeps;
        runs = alone-in w (marking_with k.marking) (running-unmarked v k r some) a.keeps.runs;
      }

  -- so it is where it was finished, if any ran
  pub way-finished : (w : Keyed) (t t₁ : Telling) → HasFinished v k.running w t t₁ → HasMadeWay v k w t t₁
  way-finished w t t₁ f = go (is_some k.running) refl
    where
      go : (b : Bool) → is_some k.running ≡ b → HasMadeWay v k w t t₁
      go true e = way-ran w at_end t t₁ e (f.ran e)
      go false e =
          let idle = f.idle e in
          subst (λ (u : Keyed). HasMadeWay v k u t t₁) (sym idle.0) (subst (HasMadeWay v k v t) (sym idle.1) (way-idle t (is_some-none k.running e)))

  -- whatever it came to
  pub way-made : {T E : Type 0} (result : Result T E) (w : Keyed) (t t₁ : Telling) → OnOk result (HasFinished v k.running w t t₁) →
      OnErr result (HasDoneAll v k.running w refused t t₁) → OnErr result (is_some k.running ≡ true) → HasMadeWay v k w t t₁
  way-made (Ok x) w t t₁ f a some = way-finished w t t₁ f
  way-made (Err x) w t t₁ f a some = way-ran w refused t t₁ some a

-- A marking that goes on is dropped before `gc`

-- the heaps without it
abbrev pub unmarked : Keyed → Keyed
unmarked v = record v { marking = None }

-- where none went on they are the same
unmarked-same : (v : Keyed) → v.marking ≡ None → v ≡ unmarked v
unmarked-same v e = ap (λ m. record v { marking = m }) e

-- all that is said of `gc`
pub record HasSwept (v : Keyed) (k : Kept) (w : Keyed) (has : Kept) (t t₁ : Telling) : Type 0 where
  pub swept : IsSwept (machine_of v k) (machine_of w has) t t₁
  pub events : List Event
  pub told : TellsEvents t t₁ events
  pub spared : HasSpared v k.running w has.running events
  pub runs : RunsIn w has

-- The heaps without a marking are the same otherwise.
module _ (v : Keyed) (k : Kept) (r : RunsIn v k) (kept : KeepsHeaps [] [] v (unmarked v)) where
  -- the collection that runs goes on over them
  pub dropped-runs : RunsIn (unmarked v) (record k { marking = false })
  dropped-runs = record {
    order = kept.order [] r.order;
    colours = r.colours;
    goes_on = go k.marking refl;
    marks = refl;
  }
    where
      go : (b : Bool) → k.marking ≡ b → IfSome k.running (GoesOn (unmarked v))
      go true e = subst (λ (c : Option Built). IfSome c (GoesOn (unmarked v))) (sym (none-of v k r e)) tt
      go false e = let a = alone-of v k r e in subst (λ (u : Keyed). IfSome k.running (GoesOn u)) (unmarked-same v a.unmarked) r.goes_on

  dropped-spared : HasSpared v k.running (unmarked v) k.running []
  dropped-spared = record {
    keeps = keeps-same v.heap r.order.sound.well_formed;
    spares = spares-nothing v.heap v.heap refl;
    stands = λ g well stands. stands;
    suspected = λ s. s;
    kept = kept;
  }

  -- `gc`: after that, and after a collection that made way, a script collection
  pub swept : (w u : Keyed) (t t₁ t₂ : Telling) → HasMadeWay (unmarked v) (record k { marking = false }) w t t₁ → u.heap ≡ (collect_scripts w.heap).heap → u.marking ≡ None →
      TellsEvents t₁ t₂ (collect_scripts w.heap).events → HasSpared w None u None (collect_scripts w.heap).events → HasColourInvariant (view u.heap) → HasSwept v k u (marking_with false) t t₂
  unfolding gc
  swept w u t t₁ t₂ way heap marking told second colours = record {
    swept = record {
      memory = way.memory;
      led = subst (λ (p : Progress). LedTo (gc start) (machine_of v k) (machine_with u None) p t t₂) (sym (ap (λ (d : UnitsDone). d.progress) is))
          (led-to v k.running u None (gc start) [] all way.progress t t₂ is r.order.sound.well_formed told_all spared);
    };
    events = all;
    told = told_all;
    spared = spared;
    runs = record { order = second.kept.order [] way.runs.order; colours = colours; goes_on = tt; marks = marking };
  }
    where
      start : Machine
      start = with_memory (machine_of v k) way.memory

      all : List Event
      all = way.events ++ (collect_scripts w.heap).events

      by_parts : (o : Option NewMarks) → marks_of w ≡ o → o ≡ None → record (machine_with w None) { heap = (collect_scripts w.heap).heap } ≡ with_memory (machine_with u None) []
      by_parts o e none =
          ap (λ (q : Option NewMarks). of_parts (collect_scripts w.heap).heap q None []) (e ∙ none)
          ∙ machine-is u None [] (collect_scripts w.heap).heap None heap (marks-none u marking)

      is : gc start ≡ units_came (with_memory (machine_with u None) []) all way.progress
      is = ap then_scripts way.made ∙ ap (λ (m : Machine). units_came m all way.progress) (by_parts (marks_of w) refl (marks-none w way.runs.marks))

      told_all : TellsEvents t t₂ all
      told_all = TellsEvents-trans t t₁ t₂ way.events (collect_scripts w.heap).events way.told told

      well : IsWellFormed w.heap
      well = way.runs.order.sound.well_formed

      well_now : IsWellFormed u.heap
      well_now = (second.kept.order [] way.runs.order).sound.well_formed

      spared : HasSpared v k.running u None all
      spared = spared-then v k.running (unmarked v) k.running u None [] all (kept.order [] r.order).sound.well_formed well_now dropped-spared
          (spared-then (unmarked v) k.running w None u None way.events (collect_scripts w.heap).events well well_now way.spared second)

-- The same where these are the heaps without a marking, and the collector without it.
module _ (v : Keyed) (k : Kept) (r : RunsIn v k) (u : Keyed) (l : Kept) (heaps : u ≡ unmarked v) (over : l ≡ record k { marking = false }) (kept : KeepsHeaps [] [] v u) where
  pub dropped-kept : KeepsHeaps [] [] v (unmarked v)
  dropped-kept = subst (KeepsHeaps [] [] v) heaps kept

  pub dropped-in : RunsIn u l
  dropped-in = subst (RunsIn u) (sym over) (subst (λ (w : Keyed). RunsIn w (record k { marking = false })) (sym heaps) (dropped-runs v k r dropped-kept))

  pub dropped-way : {T E : Type 0} (result : Result T E) (w : Keyed) (t t₁ : Telling) → OnOk result (HasFinished u l.running w t t₁) →
      OnErr result (HasDoneAll u l.running w refused t t₁) → OnErr result (is_some l.running ≡ true) → HasMadeWay (unmarked v) (record k { marking = false }) w t t₁
  dropped-way result w t t₁ f a some =
      subst (λ (h : Keyed). HasMadeWay h (record k { marking = false }) w t t₁) heaps
      (subst (λ (q : Kept). HasMadeWay u q w t t₁) over (way-made u l dropped-in result w t t₁ f a some))
