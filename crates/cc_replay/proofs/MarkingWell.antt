-- A MARKING IN SLICES GOES ON AS IT SHOULD, behind what a command does between two steps.
use Rattle.std.specs.Prelude.{IsTrue}
use Rattle.std.proofs.Common.{◌≡◌, ◌≢◌, ℕ, Bool, true, false, [], List, Option, Some, None, IfSome, option_map, refl, sym, ◌∙◌, ap, subst}
use Rattle.std.proofs.lemmas.Bool.{false≢true}
use Rattle.cc_lists.specs.Members.{Among}
use Rattle.cc_names.specs.declared.name.Name.{Name}
use Rattle.cc_model.specs.declared.command.Command.{Command}
use Rattle.cc_model.specs.declared.item.Refusal.{Refusal}
use Rattle.cc_model.specs.declared.item.Refusal.TheVariants.{NoMemory}
use Rattle.cc_model.specs.declared.item.Reply.{Reply}
use Rattle.cc_model.specs.declared.item.Reply.TheVariants.{Refused}
use Rattle.cc_model.specs.Telling.{Telling}
use Rattle.cc_model.specs.Ranges.{in_range}
use Rattle.cc_model.specs.Mutating.{is_applied, does, reads_weak, class_of}
use Rattle.cc_model.specs.Slots.{Slots, contents}
use Rattle.cc_model.specs.Checks.{refusal_of}
use Rattle.cc_model.specs.Heap.{objects_of}
use Rattle.cc_model.specs.Effects.{done_in, takes_memory}
use Rattle.cc_model.specs.Marking.{NewMarks, marking_after}
use Rattle.cc_model.specs.Skipping.{forgotten}
use Rattle.cc_model.proofs.Replies.{is_without_memory-true}
use Rattle.cc_model.specs.Lawful.{is_without_memory}
use Rattle.cc_laws_heap.specs.Sound.{IsSound}
use Rattle.cc_laws_marking.specs.Between.{KeepsMarkings}
use Rattle.cc_laws_marking.proofs.Face.{forgotten-keeps, hold_native-keeps}
use Rattle.cc_heaps.specs.Keyed.{Keyed}
use Rattle.cc_heaps.specs.Keeping.{KeepsAll}
use Rattle.cc_heaps.specs.Marks.{KeepsMarks}
use Rattle.cc_heaps.specs.NewMarks.{AreListed, AreListedIn, marks_of, new_marks_with}
use Rattle.cc_heaps.proofs.MarksKept.{listed-still}
use Rattle.cc_markslice.specs.Going.{IsMarkingWell}
use Rattle.cc_markslice.proofs.Going.{well-beside, well-command}
use Rattle.cc_weakrefs.specs.declared.noted.Noted.{Noted}
use Rattle.cc_weakrefs.specs.Noting.{names_noted, usable_noted}
use Rattle.cc_mutator.specs.Applied.{IsCarriedOut, deed_by, deed_in}
use Rattle.cc_mutator.specs.Commands.{AreHeldMarked, HasMarksAfter}
use Rattle.cc_mutator.proofs.Following.{mutator-cases}
use Rattle.cc_mutator.proofs.WeakRead.{deed-effects, read-effects}
use Rattle.cc_collector.specs.Kept.{Kept, MarksIn, RunsIn}
use Rattle.cc_replay.proofs.Replying.{reads-unmarked}

-- what is to be scanned is well listed, and registers hold what is black by the new marks: where a marking goes on, for it does so as
-- it should; and where none does there is nothing to say

well-held : (v : Keyed) → IsMarkingWell v → AreHeldMarked v
well-held v w = subst (λ o. IfSome o (λ (m : NewMarks). (x : Name) → Among x (contents v.heap.script_registers) → ¬ (Among x m.unblack))) (sym w.has_marks) w.under.registers

pub listed-running : (v : Keyed) (k : Kept) → RunsIn v k → AreListed v
listed-running v k r = go k.marking r.marks
  where
    go : (b : Bool) → MarksIn v k.running b → AreListed v
    go true m = m.0.listed
    go false none = subst (λ t. IfSome t (AreListedIn v.scripts)) (sym none) tt

pub held-running : (v : Keyed) (k : Kept) → RunsIn v k → AreHeldMarked v
held-running v k r = go k.marking r.marks
  where
    go : (b : Bool) → MarksIn v k.running b → AreHeldMarked v
    go true m = well-held v m.0
    go false none = subst (λ t. IfSome (option_map (new_marks_with v) t) (λ (m : NewMarks). (x : Name) → Among x (contents v.heap.script_registers) → ¬ (Among x m.unblack))) (sym none) tt

-- a command that is carried out: a deed leaves the new marks after it, and where a weak register is read the marks stay
module _ (c : Command) (old new : Keyed) (names : Slots) (applied : IsTrue (is_applied c)) (range : IsTrue (in_range c)) (sound : IsSound [] old.heap)
    (kept : KeepsAll old new) (none : refusal_of (objects_of old.heap) c ≡ None) (heap : new.heap ≡ (done_in old.heap (deed_by old.heap names c)).heap)
    (marking : HasMarksAfter (deed_by old.heap names c) old new) (well : IsMarkingWell old) where
  marks : marks_of new ≡ option_map (marking_after old.heap (deed_by old.heap names c)) (marks_of old)
  marks = marking well.listed (well-held old well)

  listed : AreListed new
  listed = listed-still old new kept.marks well.listed

  by_deed : class_of c ≡ does → IsMarkingWell new
  by_deed is = well-command old well new c sound range none (record {
    heap = heap ∙ deed-effects old.heap names c is;
    marks = marks ∙ ap (λ k. option_map (marking_after old.heap (deed_in old.heap names c k)) (marks_of old)) is;
    listed = listed;
  })

  by_reading : (d w : ℕ) → class_of c ≡ reads_weak d w → IsMarkingWell new
  by_reading d w is = well-beside old well new
      (subst (KeepsMarkings old.heap) (sym (heap ∙ read-effects old.heap names c d w is)) (hold_native-keeps old.heap d (usable_noted old.heap names w)))
      (reads-unmarked old.heap names c d w is (marks_of old) (marks_of new) marks) listed

  carried-well : IsMarkingWell new
  carried-well = mutator-cases (λ k. class_of c ≡ k → IsMarkingWell new) (class_of c) applied by_deed by_reading refl

-- A COMMAND OF THE MUTATOR keeps it so; refused or without memory it changes nothing
pub applied-well : (c : Command) (old new : Keyed) (weak noted : List (Option Noted)) (before mid : Telling) (r : Reply) → IsTrue (is_applied c) → IsTrue (in_range c) →
    IsSound [] old.heap → KeepsAll old new →
    ((cause : Refusal) → refusal_of (objects_of old.heap) c ≡ Some cause → (r ≡ Refused cause) × (new ≡ old) × (noted ≡ weak) × (mid ≡ before)) →
    (refusal_of (objects_of old.heap) c ≡ None → r ≢ Refused NoMemory → IsCarriedOut c old.heap new.heap (names_noted weak) (names_noted noted) r before mid) →
    (r ≡ Refused NoMemory → (refusal_of (objects_of old.heap) c ≡ None) × (takes_memory old.heap c ≡ true) × (new ≡ old) × (noted ≡ weak) × (mid ≡ before)) →
    (refusal_of (objects_of old.heap) c ≡ None → r ≢ Refused NoMemory → HasMarksAfter (deed_by old.heap (names_noted weak) c) old new) →
    IsMarkingWell old → IsMarkingWell new
applied-well c old new weak noted before mid r applied range sound kept refused done memory marking well = by_checks (refusal_of (objects_of old.heap) c) refl
  where
    by_memory : refusal_of (objects_of old.heap) c ≡ None → (b : Bool) → is_without_memory r ≡ b → IsMarkingWell new
    by_memory none true e = subst IsMarkingWell (sym (memory (is_without_memory-true r e)).2) well
    by_memory none false e =
        let granted : r ≢ Refused NoMemory = λ is. absurd (false≢true (sym e ∙ ap is_without_memory is)) in
        carried-well c old new (names_noted weak) applied range sound kept none (done none granted).heap (marking none granted) well

    by_checks : (o : Option Refusal) → refusal_of (objects_of old.heap) c ≡ o → IsMarkingWell new
    by_checks (Some cause) e = subst IsMarkingWell (sym (refused cause e).1) well
    by_checks None e = by_memory e (is_without_memory r) refl

-- SUSPECTS THAT CAN BE SKIPPED may lose their mark meanwhile
pub forgotten-well : (old new : Keyed) → new.heap ≡ forgotten old.heap → KeepsAll old new → KeepsMarks old new → IsMarkingWell old → IsMarkingWell new
forgotten-well old new e kept marks well = well-beside old well new (subst (KeepsMarkings old.heap) (sym e) (forgotten-keeps old.heap)) (marks.by_names well.listed)
    (listed-still old new kept.marks well.listed)
