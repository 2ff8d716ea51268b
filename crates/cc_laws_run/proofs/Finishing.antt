-- WHAT THE FINISHING OF A MARKING COMES TO: nothing where none goes on, and else the end of one that goes on as it should.
use Rattle.std.proofs.Common.{◌≡◌, ◌≢◌, ℕ, zero, suc, ◌<◌, Bool, true, false, [], Option, None, Some, refl, sym, subst, arith}
use Rattle.cc_model.specs.Heap.{Heap}
use Rattle.cc_model.specs.Snapshot.{Snapshot}
use Rattle.cc_model.specs.Marking.{NewMarks, is_scanned, scanned, scans_left, ended_marks}
use Rattle.cc_model.specs.End.{went_on, at_end, refused}
use Rattle.cc_model.specs.Collecting.{Machine, UnitsDone, no_units, units_came, with_outcome, without_marking, units_marked, finish_marking}
use Rattle.cc_laws_heap.specs.Sound.{IsSound}
use Rattle.cc_laws_heap.proofs.Raising.{Raises-scanned, IsUnderMarking-raised}
use Rattle.cc_laws_heap.proofs.ScanningOn.{IsScannedSoFar-scanned}
use Rattle.cc_laws_heap.proofs.ScansLeft.{scanned-less}
use Rattle.cc_laws_run.specs.Running.{IsMarking, IsMarkingNow}

-- the end of a marking with these marks
abbrev pub ended_with : Machine → NewMarks → UnitsDone
ended_with m marks = with_outcome (units_came (without_marking m) [] at_end) (ended_marks m.heap marks)

pub data IsFinished (m : Machine) : UnitsDone → Type 0 where
  nothing : m.marking ≡ None → IsFinished m (no_units m)
  ended : (marks : NewMarks) → IsMarking m.heap marks m.snapshot → is_scanned marks ≡ true → IsFinished m (ended_with m marks)

-- where no marking goes on
pub finish_marking-none : (m : Machine) → m.marking ≡ None → finish_marking m ≡ no_units m
unfolding finish_marking
finish_marking-none m e = rw e refl

-- a marking that ended stays so
pub ended-stays : (n : ℕ) (d : UnitsDone) → d.progress ≡ at_end → units_marked n d ≡ d
ended-stays zero d e = refl
ended-stays (suc n) d e = rw e refl

-- the machine with these marks
abbrev pub with_marks : Machine → NewMarks → Machine
with_marks m marks = record m { marking = Some marks }

-- Any marks that scans keep in a manner

-- units end the marking of a machine, with marks of that manner
pub record EndsSo (m : Machine) (P : NewMarks → Type 0) (d : UnitsDone) : Type 0 where
  pub marks : NewMarks
  pub manner : P marks
  pub none_left : is_scanned marks ≡ true
  pub is_end : d ≡ ended_with m marks

module _ (m : Machine) (P : NewMarks → Type 0) (step : (marks : NewMarks) → P marks → P (scanned m.heap marks)) where
  -- ENOUGH UNITS END IT.
  pub units_marked-end : (n : ℕ) (marks : NewMarks) → P marks → scans_left marks < n → EndsSo m P (units_marked n (no_units (with_marks m marks)))
  units_marked-end zero marks p few = absurd (omega (arith, few))
  units_marked-end (suc n) marks p few = go (λ less. units_marked-end n (scanned m.heap marks) (step marks p) less) (is_scanned marks) refl
    where
      after_one : Bool → UnitsDone
      after_one true = ended_with m marks
      after_one false = no_units (with_marks m (scanned m.heap marks))

      go : (scans_left (scanned m.heap marks) < n → EndsSo m P (units_marked n (no_units (with_marks m (scanned m.heap marks))))) →
          (b : Bool) → is_scanned marks ≡ b → EndsSo m P (units_marked n (after_one b))
      go ih true e = record { marks = marks; manner = p; none_left = e; is_end = ended-stays n (ended_with m marks) refl }
      go ih false e = ih (let less = scanned-less m.heap marks e in omega (arith, few, less))

  -- THE FINISHING ENDS A MARKING that goes on.
  pub finish_marking-some : (marks : NewMarks) → m.marking ≡ Some marks → P marks → EndsSo m P (finish_marking m)
  unfolding finish_marking
  finish_marking-some marks e p = subst (λ (o : Option NewMarks). EndsSo m P (by_marking o)) (sym e)
      (subst (λ (o : Option NewMarks). EndsSo m P (units_marked (suc (scans_left marks)) (no_units (record m { marking = o })))) (sym e)
      (units_marked-end (suc (scans_left marks)) marks p (omega arith)))
    where
      by_marking : Option NewMarks → UnitsDone
      by_marking None = no_units m
      by_marking (Some marks) = units_marked (suc (scans_left marks)) (no_units m)

-- Whatever holds of nothing, where no marking goes on, and of the end with any marks, holds of the finishing.
pub finish_marking-any : (m : Machine) (Q : UnitsDone → Type 0) → (m.marking ≡ None → Q (no_units m)) → ((marks : NewMarks) → Q (ended_with m marks)) → Q (finish_marking m)
finish_marking-any m Q none ends = go m.marking refl
  where
    go : (o : Option NewMarks) → m.marking ≡ o → Q (finish_marking m)
    go None e = subst Q (sym (finish_marking-none m e)) (none e)
    go (Some marks) e =
        let end = finish_marking-some m (λ _. Unit {0}) (λ marks p. tt) marks e tt in
        subst Q (sym end.is_end) (ends end.marks)

-- A marking that goes on as it should

-- a scan leaves a marking that goes on as it should
pub scanned-on : (h : Heap) (s : Option Snapshot) → IsSound [] h → (marks : NewMarks) → IsMarking h marks s → IsMarking h (scanned h marks) s
scanned-on h s sound marks t = record {
  under = IsUnderMarking-raised h marks (scanned h marks) (Raises-scanned h marks) t.under;
  so_far = IsScannedSoFar-scanned h marks sound.well_formed t.under.within t.under.there t.so_far;
  alone = t.alone;
}

-- THE FINISHING COMES TO NOTHING, OR TO THE END.
pub finish-cases : (m : Machine) → IsSound [] m.heap → IsMarkingNow m.heap m.marking m.snapshot → IsFinished m (finish_marking m)
finish-cases m s t = go m.marking refl t
  where
    go : (o : Option NewMarks) → m.marking ≡ o → IsMarkingNow m.heap o m.snapshot → IsFinished m (finish_marking m)
    go None e t = subst (IsFinished m) (sym (finish_marking-none m e)) (nothing e)
    go (Some marks) e t =
        let end = finish_marking-some m (λ marks. IsMarking m.heap marks m.snapshot) (scanned-on m.heap m.snapshot s) marks e t in
        subst (IsFinished m) (sym end.is_end) (ended end.marks end.manner end.none_left)

-- Whatever holds of nothing, where no marking goes on, and of its end, where one goes on as it should, holds of the finishing.
pub finish-by : (m : Machine) (Q : UnitsDone → Type 0) → IsSound [] m.heap → IsMarkingNow m.heap m.marking m.snapshot → (m.marking ≡ None → Q (no_units m)) →
    ((marks : NewMarks) → IsMarking m.heap marks m.snapshot → is_scanned marks ≡ true → Q (ended_with m marks)) → Q (finish_marking m)
finish-by m Q s t none ends = go (finish_marking m) (finish-cases m s t)
  where
    go : (d : UnitsDone) → IsFinished m d → Q d
    go _ (nothing e) = none e
    go _ (ended marks t e) = ends marks t e

-- What stands beside the heaps

-- weak registers, the snapshot and the answers of memory stay, no marking goes on, and memory is not wanted
pub record LeavesNone (m : Machine) (d : UnitsDone) : Type 0 where
  pub weak : d.machine.weak ≡ m.weak
  pub snapshot : d.machine.snapshot ≡ m.snapshot
  pub memory : d.machine.memory ≡ m.memory
  pub marking : d.machine.marking ≡ None
  pub granted : d.progress ≢ refused

pub finishing-leaves : (m : Machine) → LeavesNone m (finish_marking m)
finishing-leaves m = finish_marking-any m (LeavesNone m)
    (λ e. record { weak = refl; snapshot = refl; memory = refl; marking = e; granted = λ q. going q })
    (λ marks. record { weak = refl; snapshot = refl; memory = refl; marking = refl; granted = λ q. stopped q })
  where
    going : went_on ≡ refused → ⊥
    going q = cc

    stopped : at_end ≡ refused → ⊥
    stopped q = cc
