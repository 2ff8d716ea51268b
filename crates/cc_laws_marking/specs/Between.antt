-- WHAT MAY COME BETWEEN THE BEGIN OF A MARKING AND ITS END: scans, and commands of the mutator. Collections do not run meanwhile.
use Rattle.std.specs.Prelude.{◌≡◌, ℕ, ◌<◌, IsTrue, List, [], ◌++◌, length, Option, None}
use Rattle.cc_names.specs.declared.name.Name.{Name}
use Rattle.cc_names.specs.declared.register.Reg.TheVariants.{N}
use Rattle.cc_model.specs.declared.command.Command.{Command}
use Rattle.cc_model.specs.Ranges.{in_range}
use Rattle.cc_model.specs.Checks.{refusal_of}
use Rattle.cc_model.specs.Deeds.{deed_of}
use Rattle.cc_model.specs.Graph.{Graph, set_register, step}
use Rattle.cc_model.specs.Heap.{Heap, objects_of}
use Rattle.cc_model.specs.Effects.{effects, hold_native}
use Rattle.cc_model.specs.Given.{MayComeBack}
use Rattle.cc_model.specs.Skipping.{forgotten}
use Rattle.cc_model.specs.Marking.{NewMarks, begun_marks, scanned, marking_after}
use Rattle.cc_laws_heap.specs.UnderMarking.{IsUnderMarking, IsScannedSoFar}
use Rattle.cc_laws_marking.specs.Lists.{HasListsInOrder}
use Rattle.cc_laws_marking.specs.Unmarkable.{IsUnmarkable, wrapped_by}

-- a change of the heaps leaves every marking as it should be, with the marks that it has
pub record KeepsMarkings (h g : Heap) : Type 0 where
  pub under : (m : NewMarks) → IsUnderMarking h m → IsUnderMarking g m
  pub so_far : (m : NewMarks) → IsScannedSoFar h m → IsScannedSoFar g m
  pub lists : (m : NewMarks) → HasListsInOrder h m → HasListsInOrder g m
  pub unmarkable : (m : NewMarks) (them : List Name) → IsUnmarkable h m them → IsUnmarkable g m them

-- A MARKING THAT BEGAN over the heaps `h` GOES ON: to the heaps `k` and the marks `m`, and to the graph `f` from the graph `g`. The
-- list has the reflectors that were answered where natives were wrapped.
pub data GoesOn (h : Heap) (g : Graph) : List Name → Heap → Graph → NewMarks → Type 0 where
  begins : GoesOn h g [] h g (begun_marks h)
  scans : (answered : List Name) (k : Heap) (f : Graph) (m : NewMarks) → GoesOn h g answered k f m → GoesOn h g answered k f (scanned k m)
  does : (answered : List Name) (k : Heap) (f : Graph) (m : NewMarks) (c : Command) → GoesOn h g answered k f m → IsTrue (in_range c) →
      refusal_of (objects_of k) c ≡ None →
      GoesOn h g (answered ++ wrapped_by (deed_of (objects_of k) c)) (effects k c).heap (step f c) (marking_after k (deed_of (objects_of k) c) m)
  -- a native register holds what a weak register gives
  reads_weak : (answered : List Name) (k : Heap) (f : Graph) (m : NewMarks) (d : ℕ) (x : Option Name) → GoesOn h g answered k f m →
      d < length k.native_registers → MayComeBack k x → GoesOn h g answered (hold_native k d x).heap (set_register f (N d) x) m
  -- suspects are forgotten
  forgets : (answered : List Name) (k : Heap) (f : Graph) (m : NewMarks) → GoesOn h g answered k f m → GoesOn h g answered (forgotten k) f m
