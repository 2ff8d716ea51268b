-- UNITS OF A MARKING over the heaps are those of the plain run; those that finish one come to its end.
use Rattle.std.proofs.Common.{◌≡◌, ℕ, zero, suc, ◌<◌, Bool, true, false, List, [], ◌++◌, Option, Some, None, is_some, refl, sym, ap, ◌∙◌, subst, arith}
use Rattle.std.proofs.lemmas.Bool.{false≢true}
use Rattle.std.proofs.lemmas.List.{append-nil}
use Rattle.cc_names.specs.Sizes.{weak_length}
use Rattle.cc_model.specs.declared.item.Event.{Event}
use Rattle.cc_model.specs.Slots.{empty_slots}
use Rattle.cc_model.specs.Telling.{Telling, TellsEvents}
use Rattle.cc_model.specs.Heap.{Heap}
use Rattle.cc_model.specs.View.{view}
use Rattle.cc_model.specs.WellFormed.{names_there}
use Rattle.cc_model.specs.Colours.{HasColourInvariant}
use Rattle.cc_model.specs.Suspected.{IsSuspected}
use Rattle.cc_model.specs.Marking.{NewMarks, begun_marks, is_scanned, scanned, ended_marks, scans_left}
use Rattle.cc_model.specs.End.{went_on, at_end}
use Rattle.cc_model.specs.Collecting.{Machine, no_units, units_came, with_outcome, one_marked, units_marked, finish_marking}
use Rattle.cc_model.proofs.Tellings.{Tells-nil, TellsEvents-trans}
use Rattle.cc_laws_run.specs.Memory.{with_memory}
use Rattle.cc_laws_run.proofs.Face.{finish_marking-none}
use Rattle.cc_heaps.specs.Keyed.{Keyed}
use Rattle.cc_heaps.specs.NewMarks.{marks_of, new_marks_with}
use Rattle.cc_heaps.specs.Standing.{StillStands}
use Rattle.cc_heaps.specs.Keeping.{KeepsAllButMarks, KeepsHeaps}
use Rattle.cc_gc.specs.Sparing.{KeepsWhatIsReached, SparesWhatIsReached}
use Rattle.cc_gc.proofs.Sparing.{keeps-same, spares-nothing}
use Rattle.cc_markslice.specs.declared.marking.MarkStep.{MarkStep}
use Rattle.cc_markslice.specs.declared.marking.MarkStep.TheVariants.{Scanned, Ended}
use Rattle.cc_markslice.specs.Going.{IsMarkingWell, scans_left_in}
use Rattle.cc_markslice.specs.Stepping.{HasScanned, HasEnded, IsStepped}
use Rattle.cc_builder.specs.Building.{Built}
use Rattle.cc_collector.specs.declared.collector.Ended.TheVariants.{Yes, No}
use Rattle.cc_collector.specs.Kept.{Kept, RunsIn, RunsAlone, MarksIn, machine_with, running_snapshot}
use Rattle.cc_collector.specs.Units.{HasSpared, HasFinishedMarking, HasMarkedUnit}
use Rattle.cc_collector.proofs.Sparing.{spared-nothing, spared-then}

-- One unit of the plain run

-- a machine by its parts
abbrev pub of_parts : Heap → Option NewMarks → Option Built → List Bool → Machine
of_parts h o c memory = record { heap = h; weak = empty_slots weak_length; marking = o; snapshot = running_snapshot c; memory = memory }

pub machine-is : (w : Keyed) (c : Option Built) (memory : List Bool) (h : Heap) (o : Option NewMarks) → w.heap ≡ h → marks_of w ≡ o →
    of_parts h o c memory ≡ with_memory (machine_with w c) memory
machine-is w c memory h o e f = sym (ap (λ (k : Heap). of_parts k (marks_of w) c memory) e ∙ ap (λ (q : Option NewMarks). of_parts h q c memory) f)

-- where no marking goes on, no marks are there
pub marks-none : (v : Keyed) → v.marking ≡ None → marks_of v ≡ None
marks-none v e = ap (λ o. elim o [ None ↦ None | Some t ↦ Some (new_marks_with v t) ]) e

-- a unit begins a marking
unit-begins : (m : Machine) (es : List Event) → m.marking ≡ None → one_marked m es ≡ units_came (record m { marking = Some (begun_marks m.heap) }) es went_on
unit-begins m es e = grind arith

-- or scans an object
unit-scans : (m : Machine) (es : List Event) (marks : NewMarks) → m.marking ≡ Some marks → is_scanned marks ≡ false →
    one_marked m es ≡ units_came (record m { marking = Some (scanned m.heap marks) }) es went_on
unit-scans m es marks e f = grind arith

-- or ends it
unit-ends : (m : Machine) (es : List Event) (marks : NewMarks) → m.marking ≡ Some marks → is_scanned marks ≡ true →
    one_marked m es ≡ with_outcome (units_came (record m { marking = None }) es at_end) (ended_marks m.heap marks)
unit-ends m es marks e f = grind arith

-- One step over the heaps

-- what a step says of itself
pub record HasStepped (s : MarkStep) (v w : Keyed) (t t₁ : Telling) : Type 0 where
  pub stepped : (m : NewMarks) → marks_of v ≡ Some m → IsStepped s m v w t t₁
  pub well : s ≡ Scanned → IsMarkingWell w
  pub less : s ≡ Scanned → scans_left_in w < scans_left_in v
  pub over : s ≡ Ended → w.marking ≡ None
  pub invariant : s ≡ Ended → HasColourInvariant (view w.heap)
  pub keeps : KeepsWhatIsReached v.heap w.heap
  pub spares : (m : NewMarks) → marks_of v ≡ Some m → s ≡ Ended → SparesWhatIsReached v.heap w.heap (ended_marks v.heap m).events
  pub stands : StillStands v.heap w.heap
  pub suspected : IsSuspected (view v.heap) [] → IsSuspected (view w.heap) []
  pub kept : KeepsHeaps [] [] v w

-- a collector that has a marking, or none, and no collection
abbrev pub marking_with : Bool → Kept
marking_with b = record { running = None; marking = b }

module _ (v : Keyed) (r : RunsIn v (marking_with true)) (w : Keyed) (t t₁ : Telling) where
  abbrev well : IsMarkingWell v
  well = r.marks.0

  module _ (s : HasStepped Scanned v w t t₁) where
    scan : HasScanned well.marks v w t t₁
    scan = s.stepped well.marks well.has_marks

    -- A SCAN is a unit that goes on,
    pub scanned-unit : (memory : List Bool) (es : List Event) →
        one_marked (with_memory (machine_with v None) memory) es ≡ units_came (with_memory (machine_with w None) memory) es went_on
    scanned-unit memory es =
        unit-scans (with_memory (machine_with v None) memory) es well.marks well.has_marks scan.some_left
        ∙ ap (λ (m : Machine). units_came m es went_on) (machine-is w None memory v.heap (Some (scanned v.heap well.marks)) scan.heap scan.marks)

    -- tells nothing,
    pub scanned-told : TellsEvents t t₁ []
    scanned-told = subst (λ u. TellsEvents t u []) (sym scan.told) (Tells-nil t)

    -- spares what is reached,
    pub scanned-spared : HasSpared v None w None []
    scanned-spared = record {
      keeps = s.keeps;
      spares = spares-nothing v.heap w.heap (ap names_there scan.heap);
      stands = s.stands;
      suspected = s.suspected;
      kept = s.kept;
    }

    -- and leaves a collector that runs.
    pub scanned-runs : RunsIn w (marking_with true)
    scanned-runs = record {
      order = s.kept.order [] r.order;
      colours = s.kept.colours r.colours;
      goes_on = tt;
      marks = (s.well refl, refl);
    }

  module _ (s : HasStepped Ended v w t t₁) where
    end : HasEnded well.marks v w t t₁
    end = s.stepped well.marks well.has_marks

    -- what it tells
    abbrev pub freed : List Event
    freed = (ended_marks v.heap well.marks).events

    -- AN END is the last unit,
    pub ended-unit : (memory : List Bool) (es : List Event) →
        one_marked (with_memory (machine_with v None) memory) es ≡ units_came (with_memory (machine_with w None) memory) (es ++ freed) at_end
    ended-unit memory es =
        unit-ends (with_memory (machine_with v None) memory) es well.marks well.has_marks end.none_left
        ∙ ap (λ (m : Machine). units_came m (es ++ freed) at_end) (machine-is w None memory (ended_marks v.heap well.marks).heap None end.heap (marks-none w end.marking))

    -- spares what is reached,
    pub ended-spared : HasSpared v None w None freed
    ended-spared = record {
      keeps = s.keeps;
      spares = s.spares well.marks well.has_marks refl;
      stands = s.stands;
      suspected = s.suspected;
      kept = s.kept;
    }

    -- and leaves a collector that runs without a marking.
    pub ended-runs : RunsAlone w None
    ended-runs = record {
      order = s.kept.order [] r.order;
      colours = s.invariant refl;
      goes_on = tt;
      unmarked = end.marking;
    }

-- Units until one ends the marking

-- units after the end are none
pub marked-done : (n : ℕ) (m : Machine) (es : List Event) → units_marked n (units_came m es at_end) ≡ units_came m es at_end
marked-done zero m es = refl
marked-done (suc n) m es = refl

-- steps that all scanned: what is left to finish
pub record HasScannedOn (v w : Keyed) (t t₁ : Telling) : Type 0 where
  pub units : ℕ
  pub enough : scans_left_in w < units
  pub left : (memory : List Bool) →
      finish_marking (with_memory (machine_with v None) memory) ≡ units_marked units (no_units (with_memory (machine_with w None) memory))
  pub told : TellsEvents t t₁ []
  pub spared : HasSpared v None w None []
  pub runs : RunsIn w (marking_with true)

-- none yet
pub scanned_on-none : (v : Keyed) (t : Telling) → RunsIn v (marking_with true) → HasScannedOn v v t t
unfolding finish_marking
scanned_on-none v t r = record {
  units = suc (scans_left_in v);
  enough = omega arith;
  left = λ memory.
      let m : Machine = with_memory (machine_with v None) memory in
      ap (λ (o : Option NewMarks). elim o [ None ↦ no_units m | Some marks ↦ units_marked (suc (scans_left marks)) (no_units m) ]) r.marks.0.has_marks
      ∙ sym (ap (λ (o : Option NewMarks). units_marked (suc (elim o [ None ↦ 0 | Some marks ↦ scans_left marks ])) (no_units m)) r.marks.0.has_marks);
  told = Tells-nil t;
  spared = spared-nothing v None r.order;
  runs = r;
}

-- one more
pub scanned_on-more : (v w u : Keyed) (t t₁ t₂ : Telling) → HasScannedOn v w t t₁ → HasStepped Scanned w u t₁ t₂ → HasScannedOn v u t t₂
scanned_on-more v w u t t₁ t₂ a s = go a.units a.enough a.left
  where
    runs : RunsIn u (marking_with true)
    runs = scanned-runs w a.runs u t₁ t₂ s

    go : (n : ℕ) → scans_left_in w < n →
        ((memory : List Bool) → finish_marking (with_memory (machine_with v None) memory) ≡ units_marked n (no_units (with_memory (machine_with w None) memory))) →
        HasScannedOn v u t t₂
    go zero less left = absurd (omega (arith, less))
    go (suc n) less left = record {
      units = n;
      enough = omega (arith, less, s.less refl);
      left = λ memory. left memory ∙ ap (units_marked n) (scanned-unit w a.runs u t₁ t₂ s memory []);
      told = TellsEvents-trans t t₁ t₂ [] [] a.told (scanned-told w a.runs u t₁ t₂ s);
      spared = spared-then v None w None u None [] [] a.runs.order.sound.well_formed runs.order.sound.well_formed a.spared (scanned-spared w a.runs u t₁ t₂ s);
      runs = runs;
    }

-- THE LAST ONE ended the marking.
pub finished-ended : (v w u : Keyed) (t t₁ t₂ : Telling) → HasScannedOn v w t t₁ → HasStepped Ended w u t₁ t₂ → HasFinishedMarking v None u t t₂
finished-ended v w u t t₁ t₂ a s = go a.units a.enough a.left
  where
    runs : RunsAlone u None
    runs = ended-runs w a.runs u t₁ t₂ s

    events : List Event
    events = freed w a.runs u t₁ t₂ s

    go : (n : ℕ) → scans_left_in w < n →
        ((memory : List Bool) → finish_marking (with_memory (machine_with v None) memory) ≡ units_marked n (no_units (with_memory (machine_with w None) memory))) →
        HasFinishedMarking v None u t t₂
    go zero less left = absurd (omega (arith, less))
    go (suc n) less left = record {
      events = events;
      progress = at_end;
      finished = λ memory. left memory
          ∙ (ap (units_marked n) (ended-unit w a.runs u t₁ t₂ s memory [])
          ∙ marked-done n (with_memory (machine_with u None) memory) events);
      told = TellsEvents-trans t t₁ t₂ [] events a.told (end w a.runs u t₁ t₂ s).told;
      spared = spared-then v None w None u None [] events a.runs.order.sound.well_formed runs.order.sound.well_formed a.spared (ended-spared w a.runs u t₁ t₂ s);
      runs = runs;
    }

-- where none goes on, none is finished
pub finished-none : (v : Keyed) (c : Option Built) (t : Telling) → RunsAlone v c → HasFinishedMarking v c v t t
finished-none v c t r = record {
  events = [];
  progress = went_on;
  finished = λ memory. finish_marking-none (with_memory (machine_with v c) memory) (marks-none v r.unmarked);
  told = Tells-nil t;
  spared = spared-nothing v c r.order;
  runs = r;
}

-- Collectors by what they have

-- without a marking
pub alone-of : (v : Keyed) (k : Kept) → RunsIn v k → k.marking ≡ false → RunsAlone v k.running
alone-of v k r e = record { order = r.order; colours = r.colours; goes_on = r.goes_on; unmarked = subst (MarksIn v k.running) e r.marks }

pub alone-in : (v : Keyed) (k : Kept) → k.marking ≡ false → RunsAlone v k.running → RunsIn v k
alone-in v k e r = record { order = r.order; colours = r.colours; goes_on = r.goes_on; marks = subst (MarksIn v k.running) (sym e) r.unmarked }

-- with one
pub none-of : (v : Keyed) (k : Kept) → RunsIn v k → k.marking ≡ true → k.running ≡ None
none-of v k r e = (subst (MarksIn v k.running) e r.marks).1

pub marking-of : (v : Keyed) (k : Kept) → RunsIn v k → k.marking ≡ true → RunsIn v (marking_with true)
marking-of v k r e = record {
  order = r.order;
  colours = r.colours;
  goes_on = tt;
  marks = ((subst (MarksIn v k.running) e r.marks).0, refl);
}

-- with a collection
pub alone-running : (v : Keyed) (k : Kept) → RunsIn v k → is_some k.running ≡ true → RunsAlone v k.running
alone-running v k r some = go k.marking refl
  where
    go : (b : Bool) → k.marking ≡ b → RunsAlone v k.running
    go false e = alone-of v k r e
    go true e = absurd (false≢true (sym (ap is_some (none-of v k r e)) ∙ some))

-- One unit of a collector's marking

-- what keeps all but marks keeps the heaps
pub but_marks : (v w : Keyed) → KeepsAllButMarks v w → KeepsHeaps [] [] v w
but_marks v w kept = record {
  keys = kept.keys;
  order = kept.order;
  counts = kept.counts;
  colours = kept.colours;
  fresh = tt;
  suspected = tt;
  marks = tt;
}

-- A BEGIN
pub marked-begun : (v w : Keyed) (t : Telling) → RunsIn v (marking_with false) → marks_of w ≡ Some (begun_marks v.heap) → IsMarkingWell w → w.heap ≡ v.heap →
    KeepsAllButMarks v w → StillStands v.heap w.heap → HasMarkedUnit v false w true No t t
marked-begun v w t r marks well heap kept stands = record {
  events = [];
  unit = λ es.
      unit-begins (machine_with v None) es (marks-none v r.marks)
      ∙ (ap (λ (m : Machine). units_came m es went_on) (machine-is w None [] v.heap (Some (begun_marks v.heap)) heap marks)
      ∙ sym (ap (λ fs. units_came (machine_with w None) fs went_on) (append-nil es)));
  told = Tells-nil t;
  spared = record {
    keeps = subst (KeepsWhatIsReached v.heap) (sym heap) (keeps-same v.heap r.order.sound.well_formed);
    spares = spares-nothing v.heap w.heap (ap names_there heap);
    stands = stands;
    suspected = λ s. subst (λ h. IsSuspected (view h) []) (sym heap) s;
    kept = but_marks v w kept;
  };
  runs = record {
    order = kept.order [] r.order;
    colours = kept.colours r.colours;
    goes_on = tt;
    marks = (well, refl);
  };
  goes_on = λ _. (refl, refl);
  over = λ e. cc;
}

-- A SCAN
pub marked-scanned : (v w : Keyed) (t t₁ : Telling) → RunsIn v (marking_with true) → HasStepped Scanned v w t t₁ → HasMarkedUnit v true w true No t t₁
marked-scanned v w t t₁ r s = record {
  events = [];
  unit = λ es. scanned-unit v r w t t₁ s [] es ∙ sym (ap (λ fs. units_came (machine_with w None) fs went_on) (append-nil es));
  told = scanned-told v r w t t₁ s;
  spared = scanned-spared v r w t t₁ s;
  runs = scanned-runs v r w t t₁ s;
  goes_on = λ _. (refl, refl);
  over = λ e. cc;
}

-- AN END
pub marked-ended : (v w : Keyed) (t t₁ : Telling) → RunsIn v (marking_with true) → HasStepped Ended v w t t₁ → HasMarkedUnit v true w false Yes t t₁
marked-ended v w t t₁ r s = record {
  events = freed v r w t t₁ s;
  unit = λ es. ended-unit v r w t t₁ s [] es;
  told = (end v r w t t₁ s).told;
  spared = ended-spared v r w t t₁ s;
  runs = alone-in w (marking_with false) refl (ended-runs v r w t t₁ s);
  goes_on = λ e. cc;
  over = λ _. refl;
}

-- a collector without a collection
pub kept-is : (k : Kept) (b : Bool) → k.running ≡ None → k.marking ≡ b → k ≡ marking_with b
kept-is k b e f = ap (λ (c : Option Built). record { running = c; marking = k.marking }) e ∙ ap marking_with f

-- a running collection stands beside no marking
pub running-unmarked : (v : Keyed) (k : Kept) → RunsIn v k → is_some k.running ≡ true → k.marking ≡ false
running-unmarked v k r some = go k.marking refl
  where
    go : (b : Bool) → k.marking ≡ b → b ≡ false
    go false e = refl
    go true e = absurd (false≢true (sym (ap is_some (none-of v k r e)) ∙ some))
