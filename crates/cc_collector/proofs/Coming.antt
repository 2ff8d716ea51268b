-- WHAT SLICES AND COLLECTIONS COME TO, by what finished a marking before, and by what their units did and told.
use Rattle.std.specs.Prelude.{OnOk, OnErr}
use Rattle.std.proofs.Common.{◌≡◌, ◌≢◌, ℕ, ◌+◌, ◌<◌, true, false, List, [], ◌++◌, Bool, Option, None, Result, Ok, Err, is_some, refl, sym, ap, ◌∙◌, subst, arith}
use Rattle.cc_lists.proofs.Held.{is_some-none}
use Rattle.cc_model.specs.declared.item.Event.{Event}
use Rattle.cc_model.specs.Telling.{Telling, TellsEvents}
use Rattle.cc_model.specs.WellFormed.{IsWellFormed}
use Rattle.cc_model.specs.End.{Progress, went_on, at_end, refused}
use Rattle.cc_model.specs.Collecting.{Machine, UnitsDone, no_units, units_came, slice_cycles, collect_cycles, finish_marking, behind, slice, collect}
use Rattle.cc_model.proofs.Tellings.{TellsEvents-trans}
use Rattle.cc_laws_run.specs.Memory.{with_memory}
use Rattle.cc_heaps.specs.Keyed.{Keyed}
use Rattle.cc_builder.specs.Building.{Built}
use Rattle.cc_collector.specs.Kept.{RunsAlone, machine_with}
use Rattle.cc_collector.specs.Collected.{counted_one, units_counted, LedTo, IsSliced, IsCollected, IsSliceGivenUp, IsCollectGivenUp}
use Rattle.cc_collector.specs.Units.{HasGoneOn, HasStopped, Keeps, HasDoneUnit, HasDoneAll, HasFinished, HasSpared, HasFinishedMarking}
use Rattle.cc_collector.proofs.Rows.{IsUnit-silent, ComeTo, ComeTo-went_on, ComeTo-stopped, HasStopped-from, collect-alone, collect-refused, collect-both}
use Rattle.cc_collector.proofs.Keeping.{Keeps-then}
use Rattle.cc_collector.proofs.Sparing.{spares-graphs, spared-then}
use Rattle.cc_collector.proofs.UnitsSpare.{slice-units, collect-units, spared-units}
use Rattle.cc_collector.proofs.GivingUp.{sliced-given_up, collected-given_up}

-- a unit that goes on tells nothing
pub still-told : (v : Keyed) (c : Option Built) (w : Keyed) (d : Option Built) (t t₁ t₂ : Telling) → TellsEvents t t₁ [] → HasDoneUnit v c w d went_on t₁ t₂ → TellsEvents t t₂ []
still-told v c w d t t₁ t₂ told u =
    subst (TellsEvents t t₂) (IsUnit-silent (machine_with v c) (machine_with w d) u.events went_on u.unit refl) (TellsEvents-trans t t₁ t₂ [] u.events told u.told)

-- WHAT UNITS CAME TO leads from one machine to another.
pub led-to : (v : Keyed) (c : Option Built) (w : Keyed) (d : Option Built) (u : UnitsDone) (memory : List Bool) (events : List Event) (p : Progress) (t t₁ : Telling) →
    u ≡ units_came (with_memory (machine_with w d) memory) events p → IsWellFormed v.heap → TellsEvents t t₁ events → HasSpared v c w d events →
    LedTo u (machine_with v c) (machine_with w d) p t t₁
led-to v c w d u memory events p t t₁ is well told s =
    subst (λ (e : UnitsDone). LedTo e (machine_with v c) (machine_with w d) p t t₁) (sym is) (record {
      same = record { heap = refl; weak = refl; marking = refl; snapshot = refl };
      came_to = refl;
      told = told;
      spares = spares-graphs v.heap w.heap events well s.spares;
      unreached = s.spares;
    })

-- a running collection has a snapshot
pub some-runs : (v : Keyed) (c : Option Built) → is_some c ≡ true → is_some (machine_with v c).snapshot ≡ true
some-runs v c e = grind arith

-- Units to the end
pub all-done : (v : Keyed) (c : Option Built) (k : ℕ) (m : Keyed) (b : Option Built) (w : Keyed) (d : Option Built) (p : Progress) (t t₁ t₂ : Telling) → p ≢ went_on →
    HasGoneOn k (machine_with v c) (machine_with m b) → TellsEvents t t₁ [] → Keeps v c m b → HasDoneUnit m b w d p t₁ t₂ → HasDoneAll v c w p t t₂
all-done v c k m b w d p t t₁ t₂ stopped g told keeps u = record {
  events = u.events;
  stopped = subst (λ (e : Option Built). HasStopped (machine_with v c) (machine_with w e) u.events p) (u.over stopped)
      (HasStopped-from k (machine_with v c) (machine_with m b) (machine_with w d) u.events p g u.unit stopped);
  told = TellsEvents-trans t t₁ t₂ [] u.events told u.told;
  keeps = subst (Keeps v c w) (u.over stopped) (Keeps-then v c m b w d keeps u.keeps);
}

-- ALL THAT A SLICE PROMISES, whatever it came to
pub record HasSliced (n : ℕ) (v : Keyed) (c : Option Built) (w : Keyed) (d : Option Built) (p : Progress) (steps steps_now : ℕ) (t t₁ : Telling) : Type 0 where
  pub sliced : IsSliced n (machine_with v c) (machine_with w d) p steps steps_now t t₁
  pub given_up : p ≡ refused → IsSliceGivenUp (machine_with v c) w.heap
  pub events : List Event
  pub told : TellsEvents t t₁ events
  pub spared : HasSpared v c w d events
  pub runs : RunsAlone w d

-- all that a collection promises
pub record HasCollected (v : Keyed) (c : Option Built) (w : Keyed) (d : Option Built) (p : Progress) (t t₁ : Telling) : Type 0 where
  pub collected : IsCollected (machine_with v c) (machine_with w d) p t t₁
  pub given_up : p ≡ refused → IsCollectGivenUp (machine_with v c) w.heap
  pub events : List Event
  pub told : TellsEvents t t₁ events
  pub spared : HasSpared v c w d events
  pub runs : RunsAlone w d

-- and by the result of the call
pub record HasCollectedBy {T E : Type 0} (result : Result T E) (v : Keyed) (c : Option Built) (w : Keyed) (d : Option Built) (t t₁ : Telling) : Type 0 where
  pub progress : Progress
  pub done : OnOk result (progress ≡ at_end)
  pub stopped : OnErr result (progress ≡ refused)
  pub is : HasCollected v c w d progress t t₁

-- After a marking was finished, if any

module _ (v : Keyed) (c : Option Built) (m : Keyed) (t t₁ : Telling) (well : IsWellFormed v.heap) (f : HasFinishedMarking v c m t t₁) where
  -- what runs behind it
  led-behind : (run : Machine → UnitsDone) (memory : List Bool) (now : Machine) (events : List Event) (p : Progress) →
      run (with_memory (machine_with m c) memory) ≡ units_came now events p →
      let first = finish_marking (with_memory (machine_with v c) memory) in behind first (run first.machine) ≡ units_came now (f.events ++ events) p
  led-behind run memory now events p is =
      ap (λ (d : UnitsDone). behind d (run d.machine)) (f.finished memory) ∙ ap (λ (d : UnitsDone). record d { events = f.events ++ d.events }) is

  -- Slices

  come-sliced : (n : ℕ) (w : Keyed) (d : Option Built) (events : List Event) (p : Progress) (counted steps : ℕ) (t₂ : Telling) →
      ComeTo n (machine_with m c) (machine_with w d) events p counted → TellsEvents t₁ t₂ events → Keeps m c w d → HasSliced n v c w d p steps (steps + counted) t t₂
  unfolding slice
  come-sliced n w d events p counted steps t₂ come told keeps =
      let now : Machine = with_memory (machine_with w d) [] in
      let is : slice n (with_memory (machine_with v c) come.memory) ≡ units_came now (f.events ++ events) p = led-behind (slice_cycles n) come.memory now events p come.is in
      let spared : HasSpared v c w d (f.events ++ events) = spared-then v c m c w d f.events events f.runs.order.sound.well_formed keeps.runs.order.sound.well_formed f.spared
      (spared-units m c w d (slice_cycles n (with_memory (machine_with m c) come.memory)) [] events p come.is (slice-units m c f.runs come.memory n) keeps) in
      let told_all = TellsEvents-trans t t₁ t₂ f.events events f.told told in
      record {
        sliced = record {
          memory = come.memory;
          led = led-to v c w d (slice n (with_memory (machine_with v c) come.memory)) [] (f.events ++ events) p t t₂ is well told_all spared;
          counted = ap (λ (k : ℕ). steps + k) (sym come.counts ∙ ap (λ (e : UnitsDone). units_counted n (no_units e.machine)) (sym (f.finished come.memory)));
        };
        given_up = λ e. sliced-given_up v c m t t₁ f n come.memory now (f.events ++ events) p is e;
        events = f.events ++ events;
        told = told_all;
        spared = spared;
        runs = keeps.runs;
      }

  -- all units went on
  pub sliced-went_on : (n : ℕ) (w : Keyed) (d : Option Built) (steps steps_now : ℕ) (t₂ : Telling) → HasGoneOn n (machine_with m c) (machine_with w d) →
      TellsEvents t₁ t₂ [] → Keeps m c w d → steps_now ≡ steps + n → HasSliced n v c w d went_on steps steps_now t t₂
  sliced-went_on n w d steps steps_now t₂ g told keeps counted =
      subst (λ (k : ℕ). HasSliced n v c w d went_on steps k t t₂) (sym counted)
      (come-sliced n w d [] went_on n steps t₂ (ComeTo-went_on n (machine_with m c) (machine_with w d) g) told keeps)

  -- one of them stopped
  pub sliced-stopped : (n k : ℕ) (u : Keyed) (b : Option Built) (w : Keyed) (d : Option Built) (p : Progress) (steps steps_now : ℕ) (t₂ t₃ : Telling) → k < n → p ≢ went_on →
      HasGoneOn k (machine_with m c) (machine_with u b) → TellsEvents t₁ t₂ [] → Keeps m c u b → HasDoneUnit u b w d p t₂ t₃ → steps_now ≡ steps + k + counted_one p →
      HasSliced n v c w d p steps steps_now t t₃
  sliced-stopped n k u b w d p steps steps_now t₂ t₃ less stopped g told keeps one counted =
      let sum : steps + (k + counted_one p) ≡ steps_now = omega (arith, counted) in
      subst (λ (j : ℕ). HasSliced n v c w d p steps j t t₃) sum
      (come-sliced n w d one.events p (k + counted_one p) steps t₃
      (ComeTo-stopped n k (machine_with m c) (machine_with u b) (machine_with w d) one.events p g one.unit stopped less)
      (TellsEvents-trans t₁ t₂ t₃ [] one.events told one.told) (Keeps-then m c u b w d keeps one.keeps))

  -- Collections

  come-collected : (memory : List Bool) (w : Keyed) (events : List Event) (p : Progress) (t₂ : Telling) →
      collect_cycles (with_memory (machine_with m c) memory) ≡ units_came (with_memory (machine_with w None) []) events p → TellsEvents t₁ t₂ events → Keeps m c w None →
      HasCollected v c w None p t t₂
  unfolding collect
  come-collected memory w events p t₂ come told keeps =
      let now : Machine = with_memory (machine_with w None) [] in
      let is : collect (with_memory (machine_with v c) memory) ≡ units_came now (f.events ++ events) p = led-behind collect_cycles memory now events p come in
      let spared : HasSpared v c w None (f.events ++ events) = spared-then v c m c w None f.events events f.runs.order.sound.well_formed keeps.runs.order.sound.well_formed f.spared
      (spared-units m c w None (collect_cycles (with_memory (machine_with m c) memory)) [] events p come (collect-units m c f.runs memory) keeps) in
      let told_all = TellsEvents-trans t t₁ t₂ f.events events f.told told in
      record {
        collected = record {
          memory = memory;
          led = led-to v c w None (collect (with_memory (machine_with v c) memory)) [] (f.events ++ events) p t t₂ is well told_all spared;
        };
        given_up = λ e. collected-given_up v c m t t₁ f memory now (f.events ++ events) p is e;
        events = f.events ++ events;
        told = told_all;
        spared = spared;
        runs = keeps.runs;
      }

  -- where the end of the running one is refused
  pub collected-refused : (w : Keyed) (t₂ : Telling) → is_some c ≡ true → HasDoneAll m c w refused t₁ t₂ → HasCollected v c w None refused t t₂
  collected-refused w t₂ some a = come-collected (a.stopped.memory []) w a.events refused t₂
      (collect-refused (machine_with m c) (machine_with w None) a.events a.stopped (some-runs m c some)) a.told a.keeps

  -- where none runs
  collected-alone : (w : Keyed) (p : Progress) (t₂ : Telling) → c ≡ None → HasDoneAll m c w p t₁ t₂ → HasCollected v c w None p t t₂
  collected-alone w p t₂ none a = come-collected (a.stopped.memory []) w a.events p t₂
      (collect-alone (machine_with m c) (machine_with w None) a.events p a.stopped (ap (λ (d : Option Built). (machine_with m d).snapshot) none)) a.told a.keeps

  -- after a running one
  collected-both : (u w : Keyed) (p : Progress) (t₂ t₃ : Telling) → is_some c ≡ true → HasDoneAll m c u at_end t₁ t₂ → HasDoneAll u None w p t₂ t₃ → HasCollected v c w None p t t₃
  collected-both u w p t₂ t₃ some a b = come-collected (a.stopped.memory (b.stopped.memory [])) w (a.events ++ b.events) p t₃
      (collect-both (machine_with m c) (machine_with u None) (machine_with w None) a.events b.events p a.stopped b.stopped (some-runs m c some))
      (TellsEvents-trans t₁ t₂ t₃ a.events b.events a.told b.told) (Keeps-then m c u None w None a.keeps b.keeps)

  -- so it is after a running one was finished, if any
  pub collected : (u w : Keyed) (p : Progress) (t₂ t₃ : Telling) → HasFinished m c u t₁ t₂ → HasDoneAll u None w p t₂ t₃ → HasCollected v c w None p t t₃
  collected u w p t₂ t₃ g b = go (is_some c) refl
    where
      go : (some : Bool) → is_some c ≡ some → HasCollected v c w None p t t₃
      go true e = collected-both u w p t₂ t₃ e (g.ran e) b
      go false e =
          let none : c ≡ None = is_some-none c e in
          let idle = g.idle e in
          collected-alone w p t₃ none
          (subst (λ (d : Option Built). HasDoneAll m d w p t₁ t₃) (sym none)
          (subst (λ (h : Keyed). HasDoneAll h None w p t₁ t₃) idle.0 (subst (λ (s : Telling). HasDoneAll u None w p s t₃) idle.1 b)))

  -- whatever the result was
  pub collected-by : {T E : Type 0} (result : Result T E) (u : Keyed) (b : Option Built) (w : Keyed) (d : Option Built) (t₂ t₃ : Telling) → b ≡ None → d ≡ None → HasFinished m c u t₁ t₂ →
      OnOk result (HasDoneAll u b w at_end t₂ t₃) → OnErr result (HasDoneAll u b w refused t₂ t₃) → HasCollectedBy result v c w d t t₃
  collected-by (Ok x) u b w d t₂ t₃ none over g ok err = record {
    progress = at_end;
    done = refl;
    stopped = tt;
    is = subst (λ (e : Option Built). HasCollected v c w e at_end t t₃) (sym over) (collected u w at_end t₂ t₃ g (subst (λ (e : Option Built). HasDoneAll u e w at_end t₂ t₃) none ok));
  }
  collected-by (Err x) u b w d t₂ t₃ none over g ok err = record {
    progress = refused;
    done = tt;
    stopped = refl;
    is = subst (λ (e : Option Built). HasCollected v c w e refused t t₃) (sym over) (collected u w refused t₂ t₃ g (subst (λ (e : Option Built). HasDoneAll u e w refused t₂ t₃) none err));
  }
