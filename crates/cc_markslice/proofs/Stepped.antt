-- ONE STEP, from what its calls say.
use Rattle.std.specs.Prelude.{IfSome, option_map}
use Rattle.std.proofs.Common.{◌≡◌, ◌<◌, ℕ, Bool, true, false, not, List, [], None, Some, map, sym, ◌∙◌, ap, subst, arith}
use Rattle.cc_lists.specs.Members.{Among}
use Rattle.cc_model.specs.Heap.{Heap}
use Rattle.cc_model.specs.Marking.{NewMarks, scanned, is_scanned, ended_marks, scans_left}
use Rattle.cc_model.specs.Suspected.{IsSuspected}
use Rattle.cc_model.specs.Telling.{Telling, TellsEvents}
use Rattle.cc_model.specs.View.{view}
use Rattle.cc_model.specs.WellFormed.{native_names, script_names}
use Rattle.cc_laws_heap.specs.Sound.{IsSound}
use Rattle.cc_laws_heap.specs.UnderMarking.{IsUnderMarking}
use Rattle.cc_laws_heap.proofs.ScansLeft.{scanned-less}
use Rattle.cc_laws_marking.proofs.Face.{ended-suspected}
use Rattle.cc_counted.specs.Counts.{key_left}
use Rattle.cc_heaps.specs.Changes.{KeepsKeys}
use Rattle.cc_heaps.specs.Ending.{IsToEnd}
use Rattle.cc_heaps.specs.Keyed.{Keyed, IsInOrder}
use Rattle.cc_heaps.specs.NewMarks.{AreListed, marks_of}
use Rattle.cc_gc.specs.Sparing.{KeepsWhatIsReached, SparesWhatIsReached}
use Rattle.cc_gc.proofs.RoundsLeft.{KeepsKeys-then}
use Rattle.cc_markslice.specs.Going.{IsMarkingWell, scans_left_in}
use Rattle.cc_markslice.specs.Stepping.{HasEnded, SparesWhatIsMarked}
use Rattle.cc_markslice.proofs.EndSpares.{ended-keeps, ended-natives, ended-scripts, ended-spares, ended-spares_marked}
use Rattle.cc_markslice.proofs.Going.{marks-after, well-scanned}

-- where nothing is left to scan a scan changes nothing
scanned-none : (h : Heap) (m : NewMarks) → is_scanned m ≡ true → scanned h m ≡ m
unfolding scanned
scanned-none h m e = grind arith

-- it was tried to scan an object
pub record HasTried (old mid : Keyed) (some : Bool) : Type 0 where
  pub owned : List ℕ
  pub well : IsMarkingWell old
  pub sound : IsSound owned old.heap
  pub some_left : IfSome (marks_of old) (λ m. some ≡ not (is_scanned m))
  pub marks : marks_of mid ≡ option_map (scanned old.heap) (marks_of old)
  pub heap : mid.heap ≡ old.heap
  pub rest : mid ≡ record old { scripts = mid.scripts; marking = mid.marking }
  pub keys : KeepsKeys old mid
  pub listed : AreListed mid

-- as the heaps say of a scan, by what it answers
pub tried : (old mid : Keyed) (result some : Bool) → result ≡ some → (owned : List ℕ) → IsInOrder owned old → IsMarkingWell old →
    IfSome (marks_of old) (λ m. result ≡ not (is_scanned m)) → marks_of mid ≡ option_map (scanned old.heap) (marks_of old) → mid.heap ≡ old.heap →
    mid ≡ record old { scripts = mid.scripts; marking = mid.marking } → KeepsKeys old mid → AreListed mid → HasTried old mid some
tried old mid result some is owned order well left marks heap rest keys listed = record {
  owned = owned;
  well = well;
  sound = order.sound;
  some_left = subst (λ r. IfSome (marks_of old) (λ m. r ≡ not (is_scanned m))) is left;
  marks = marks;
  heap = heap;
  rest = rest;
  keys = keys;
  listed = listed;
}

module _ {some : Bool} (old mid : Keyed) (t : HasTried old mid some) where
  -- The marking goes on as it should,
  pub tried-well : IsMarkingWell mid
  tried-well = well-scanned old t.well mid t.sound t.heap t.marks t.listed

  -- by the marks of the scan.
  tried-marks : marks_of mid ≡ Some (scanned old.heap t.well.marks)
  tried-marks = marks-after old t.well (scanned old.heap) mid t.marks

  -- whether something was left
  some-is : some ≡ not (is_scanned t.well.marks)
  some-is = subst (λ o. IfSome o (λ m. some ≡ not (is_scanned m))) t.well.has_marks t.some_left

  -- Less is left, where something was.
  pub tried-less : some ≡ true → scans_left_in mid < scans_left_in old
  tried-less e =
      let left : is_scanned t.well.marks ≡ false = grind (arith, some-is) in
      subst (λ o. elim o [ None ↦ 0 | Some m ↦ scans_left m ] < scans_left_in old) (sym tried-marks)
      (subst (λ o. scans_left (scanned old.heap t.well.marks) < elim o [ None ↦ 0 | Some m ↦ scans_left m ]) (sym t.well.has_marks)
      (scanned-less old.heap t.well.marks left))

module _ (old mid : Keyed) (t : HasTried old mid false) where
  none-left : is_scanned t.well.marks ≡ true
  none-left = grind (arith, some-is old mid t)

  -- where nothing was left the marks are those that they were
  same-marks : marks_of mid ≡ marks_of old
  same-marks = tried-marks old mid t ∙ (ap Some (scanned-none old.heap t.well.marks none-left) ∙ sym t.well.has_marks)

  mid-marks : (tried-well old mid t).marks ≡ t.well.marks
  mid-marks =
      let a = (tried-well old mid t).has_marks in
      let b = same-marks ∙ t.well.has_marks in
      cc

  -- The marking may end.
  pub tried-ends : (m : NewMarks) × (marks_of mid ≡ Some m) × IsToEnd mid.heap m
  tried-ends =
      let w = tried-well old mid t in
      (w.marks, w.has_marks, record { under = w.under; so_far = w.so_far; scanned = ap is_scanned mid-marks ∙ none-left })

  -- the marks are the ones that it has
  same-as : (m : NewMarks) → marks_of old ≡ Some m → t.well.marks ≡ m
  same-as m is = let a = t.well.has_marks in cc

  -- what its end says
  module _ (new : Keyed) (before after : Telling)
      (heap : (m : NewMarks) → marks_of mid ≡ Some m → new.heap ≡ (ended_marks mid.heap m).heap)
      (told : (m : NewMarks) → marks_of mid ≡ Some m → TellsEvents before after (ended_marks mid.heap m).events)
      (natives : new.keys ≡ map (key_left new.heap) mid.keys) (marking : new.marking ≡ None) (keys : KeepsKeys mid new) where
    -- the heaps are those that the end of these marks gives
    ended-heap : (m : NewMarks) → marks_of old ≡ Some m → new.heap ≡ (ended_marks old.heap m).heap
    ended-heap m is = heap m (same-marks ∙ is) ∙ ap (λ h. (ended_marks h m).heap) t.heap

    ours : new.heap ≡ (ended_marks old.heap t.well.marks).heap
    ours = ended-heap t.well.marks t.well.has_marks

    -- THE MARKING HAS ENDED.
    pub has-ended : (m : NewMarks) → marks_of old ≡ Some m → HasEnded m old new before after
    has-ended m is = record {
      none_left = subst (λ n. is_scanned n ≡ true) (same-as m is) none-left;
      marking = marking;
      heap = ended-heap m is;
      natives = natives ∙ ap (λ (v : Keyed). map (key_left new.heap) v.keys) t.rest;
      told = subst (λ h. TellsEvents before after (ended_marks h m).events) t.heap (told m (same-marks ∙ is));
    }

    -- WHAT IS THERE KEEPS ITS KEY.
    pub ended-keys : KeepsKeys old new
    ended-keys = KeepsKeys-then old mid new t.keys keys
        (λ x i. subst (λ h. Among x (native_names h)) (sym t.heap)
        (ended-natives old.heap t.well.marks t.sound t.well.under x (subst (λ h. Among x (native_names h)) ours i)))
        (λ x i. subst (λ h. Among x (script_names h)) (sym t.heap)
        (ended-scripts old.heap t.well.marks t.sound t.well.under x (subst (λ h. Among x (script_names h)) ours i)))

    -- NOTHING IS FORGOTTEN.
    pub ended-forgets_nothing : IsSuspected (view old.heap) [] → IsSuspected (view new.heap) []
    ended-forgets_nothing suspected = subst (λ h. IsSuspected (view h) []) (sym ours) (ended-suspected old.heap t.well.marks t.sound t.well.under suspected)

    -- WHAT IS REACHED STAYS AS IT WAS,
    pub ended-keeps_reached : KeepsWhatIsReached old.heap new.heap
    ended-keeps_reached = subst (KeepsWhatIsReached old.heap) (sym ours) (ended-keeps old.heap t.well.marks t.sound t.well.under)

    -- AND WHAT IS TOLD SPARES IT,
    pub ended-spares_reached : (m : NewMarks) → marks_of old ≡ Some m → SparesWhatIsReached old.heap new.heap (ended_marks old.heap m).events
    ended-spares_reached m is =
        subst (λ h. SparesWhatIsReached old.heap h (ended_marks old.heap m).events) (sym (ended-heap m is))
        (ended-spares old.heap m t.sound (subst (IsUnderMarking old.heap) (same-as m is) t.well.under))

    -- AND WHAT IS MARKED.
    pub ended-spares_held : (m : NewMarks) → marks_of old ≡ Some m → SparesWhatIsMarked old.heap (ended_marks old.heap m).events
    ended-spares_held m is = ended-spares_marked old.heap m t.sound (subst (IsUnderMarking old.heap) (same-as m is) t.well.under)
