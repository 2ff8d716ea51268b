-- WHAT UNITS OF A MARKING COME TO, one after the other, once a running collection made way.
use Rattle.std.proofs.Common.{◌≡◌, ℕ, zero, suc, ◌+◌, ◌-◌, ◌<◌, true, List, [], ◌++◌, Bool, None, Ok, refl, sym, ap, ◌∙◌, subst, arith, zero-add}
use Rattle.std.proofs.lemmas.List.{append-nil}
use Rattle.cc_model.specs.declared.item.Event.{Event}
use Rattle.cc_model.specs.Telling.{Telling, TellsEvents}
use Rattle.cc_model.specs.End.{went_on, at_end}
use Rattle.cc_model.specs.Collecting.{UnitsDone, units_came, starting_anew, finish_running, one_marked, units_marked, mark}
use Rattle.cc_model.proofs.Tellings.{Tells-nil, TellsEvents-trans}
use Rattle.cc_laws_run.specs.Memory.{with_memory}
use Rattle.cc_heaps.specs.Keyed.{Keyed}
use Rattle.cc_collector.specs.declared.collector.Ended.{Ended}
use Rattle.cc_collector.specs.declared.collector.Ended.TheVariants.{Yes, No}
use Rattle.cc_collector.specs.Kept.{Kept, RunsIn, machine_of, machine_with}
use Rattle.cc_collector.specs.Collected.{IsMarkedOn, marks_counted, progress_of}
use Rattle.cc_collector.specs.Units.{HasMarkedUnit, HasSpared}
use Rattle.cc_collector.proofs.Sparing.{spared-nothing, spared-then}
use Rattle.cc_collector.proofs.Marking.{marked-done, marking_with}
use Rattle.cc_collector.proofs.Coming.{led-to}
use Rattle.cc_collector.proofs.MakingWay.{HasMadeWay}

-- Units that go on

-- so many went on: what follows follows
pub record HasMarkedOn (so_far : ℕ) (v w : Keyed) (has : Bool) (t t₁ : Telling) : Type 0 where
  pub later : (es : List Event) (n : ℕ) → units_marked (so_far + n) (units_came (machine_with v None) es went_on) ≡ units_marked n (units_came (machine_with w None) es went_on)
  pub counted : (es : List Event) (n : ℕ) →
      marks_counted (so_far + n) (units_came (machine_with v None) es went_on) ≡ so_far + marks_counted n (units_came (machine_with w None) es went_on)
  pub told : TellsEvents t t₁ []
  pub spared : HasSpared v None w None []
  pub runs : RunsIn w (marking_with has)
  pub some : 0 < so_far → has ≡ true

-- none yet
pub marked_on-none : (v : Keyed) (has : Bool) (t : Telling) → RunsIn v (marking_with has) → HasMarkedOn 0 v v has t t
marked_on-none v has t r = record {
  later = λ es n. rw zero-add refl;
  counted = λ es n. rw zero-add (rw zero-add refl);
  told = Tells-nil t;
  spared = spared-nothing v None r.order;
  runs = r;
  some = λ less. absurd (omega (arith, less));
}

-- one more unit than before
one_more : (n k : ℕ) → n + 1 + k ≡ n + suc k
one_more n k = omega arith

module _ (k : ℕ) (v w : Keyed) (has : Bool) (u : Keyed) (now : Bool) (t t₁ t₂ : Telling) (a : HasMarkedOn k v w has t t₁) where
  -- one that goes on
  pub marked_on-more : HasMarkedUnit w has u now No t₁ t₂ → HasMarkedOn (k + 1) v u now t t₂
  marked_on-more one = record {
    later = λ es n. subst (λ (j : ℕ). units_marked j (units_came (machine_with v None) es went_on) ≡ units_marked n (units_came (machine_with u None) es went_on)) (sym (one_more k n))
        (a.later es (suc n) ∙ ap (units_marked n) (is es));
    counted = λ es n.
        let c = marks_counted n (units_came (machine_with u None) es went_on) in
        let sum : k + suc c ≡ k + 1 + c = omega arith in
        subst (λ (j : ℕ). marks_counted j (units_came (machine_with v None) es went_on) ≡ k + 1 + c) (sym (one_more k n))
        (a.counted es (suc n) ∙ (ap (λ (d : UnitsDone). k + suc (marks_counted n d)) (is es) ∙ sum));
    told = TellsEvents-trans t t₁ t₂ [] [] a.told (subst (TellsEvents t₁ t₂) (one.goes_on refl).1 one.told);
    spared = spared-then v None w None u None [] [] a.runs.order.sound.well_formed one.runs.order.sound.well_formed a.spared
        (subst (HasSpared w None u None) (one.goes_on refl).1 one.spared);
    runs = one.runs;
    some = λ less. (one.goes_on refl).0;
  }
    where
      is : (es : List Event) → one_marked (machine_with w None) es ≡ units_came (machine_with u None) es went_on
      is es = one.unit es ∙ ap (λ fs. units_came (machine_with u None) fs went_on) (ap (λ gs. es ++ gs) (one.goes_on refl).1 ∙ append-nil es)

-- ALL THAT UNITS OF A MARKING PROMISE
pub record HasMarked (n : ℕ) (v : Keyed) (k : Kept) (w : Keyed) (has : Kept) (ended : Ended) (steps steps_now : ℕ) (t t₁ : Telling) : Type 0 where
  pub marked : IsMarkedOn n (machine_of v k) (machine_of w has) ended steps steps_now t t₁
  pub events : List Event
  pub told : TellsEvents t t₁ events
  pub spared : HasSpared v k.running w has.running events
  pub runs : RunsIn w has

module _ (v : Keyed) (k : Kept) (r : RunsIn v k) (m : Keyed) (t t₁ : Telling) (way : HasMadeWay v k m t t₁) where
  -- where they start
  begins : starting_anew (finish_running (with_memory (machine_of v k) way.memory)) ≡ units_came (machine_with m None) way.events went_on
  begins = ap starting_anew way.made

  come-marked : (n : ℕ) (w : Keyed) (has : Bool) (events : List Event) (ended : Ended) (counted steps : ℕ) (t₂ : Telling) →
      units_marked n (units_came (machine_with m None) way.events went_on) ≡ units_came (machine_with w None) (way.events ++ events) (progress_of (Ok ended)) →
      marks_counted n (units_came (machine_with m None) way.events went_on) ≡ counted → TellsEvents t₁ t₂ events → HasSpared m None w None events → RunsIn w (marking_with has) →
      HasMarked n v k w (marking_with has) ended steps (steps + counted) t t₂
  unfolding mark
  come-marked n w has events ended counted steps t₂ is counts told one runs =
      let spared : HasSpared v k.running w None (way.events ++ events) = spared-then v k.running m None w None way.events events way.runs.order.sound.well_formed runs.order.sound.well_formed
      way.spared one in
      let told_all = TellsEvents-trans t t₁ t₂ way.events events way.told told in
      record {
        marked = record {
          memory = way.memory;
          led = led-to v k.running w None (mark n (with_memory (machine_of v k) way.memory)) [] (way.events ++ events) (progress_of (Ok ended)) t t₂
              (ap (units_marked n) begins ∙ is) r.order.sound.well_formed told_all spared;
          counted = ap (λ (j : ℕ). steps + j) (sym (ap (marks_counted n) begins ∙ counts));
        };
        events = way.events ++ events;
        told = told_all;
        spared = spared;
        runs = runs;
      }

  -- all units went on
  pub marked-went_on : (n : ℕ) (w : Keyed) (has : Bool) (steps steps_now : ℕ) (t₂ : Telling) → HasMarkedOn n m w has t₁ t₂ → steps_now ≡ steps + n →
      HasMarked n v k w (marking_with has) No steps steps_now t t₂
  marked-went_on n w has steps steps_now t₂ a counted =
      subst (λ (j : ℕ). HasMarked n v k w (marking_with has) No steps j t t₂) (sym counted)
      (come-marked n w has [] No n steps t₂
      (subst (λ (j : ℕ). units_marked j (units_came (machine_with m None) way.events went_on) ≡ units_came (machine_with w None) (way.events ++ []) went_on) all
      (a.later way.events 0 ∙ sym (ap (λ fs. units_came (machine_with w None) fs went_on) (append-nil way.events))))
      (subst (λ (j : ℕ). marks_counted j (units_came (machine_with m None) way.events went_on) ≡ n) all (a.counted way.events 0 ∙ all)) a.told a.spared a.runs)
    where
      all : n + 0 ≡ n
      all = omega arith

  -- one of them ended the marking
  pub marked-ended : (n j : ℕ) (u : Keyed) (had : Bool) (w : Keyed) (has : Bool) (steps steps_now : ℕ) (t₂ t₃ : Telling) → j < n → HasMarkedOn j m u had t₁ t₂ →
      HasMarkedUnit u had w has Yes t₂ t₃ → steps_now ≡ steps + j + 1 → HasMarked n v k w (marking_with has) Yes steps steps_now t t₃
  marked-ended n j u had w has steps steps_now t₂ t₃ less a one counted =
      let sum : steps + (j + 1) ≡ steps_now = omega (arith, counted) in
      subst (λ (i : ℕ). HasMarked n v k w (marking_with has) Yes steps i t t₃) sum
      (come-marked n w has one.events Yes (j + 1) steps t₃
      (subst (λ (i : ℕ). units_marked i start ≡ last) all (a.later way.events (suc left) ∙ (ap (units_marked left) (one.unit way.events) ∙ marked-done left (machine_with w None) (way.events ++ one.events))))
      (subst (λ (i : ℕ). marks_counted i start ≡ j + 1) all
      (a.counted way.events (suc left) ∙ (ap (λ (d : UnitsDone). j + suc (marks_counted left d)) (one.unit way.events) ∙ ap (λ (i : ℕ). j + suc i) (counted-done left))))
      (TellsEvents-trans t₁ t₂ t₃ [] one.events a.told one.told)
      (spared-then m None u None w None [] one.events a.runs.order.sound.well_formed one.runs.order.sound.well_formed a.spared one.spared) one.runs)
    where
      left : ℕ
      left = n - (j + 1)

      all : j + suc left ≡ n
      all = omega (arith, less)

      start : UnitsDone
      start = units_came (machine_with m None) way.events went_on

      last : UnitsDone
      last = units_came (machine_with w None) (way.events ++ one.events) at_end

      counted-done : (i : ℕ) → marks_counted i last ≡ 0
      counted-done zero = refl
      counted-done (suc i) = refl
