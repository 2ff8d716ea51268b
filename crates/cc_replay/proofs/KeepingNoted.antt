-- WEAK REGISTERS GO ON HOLDING KEYS over units of collections and of markings, and where suspects lose their mark.
use Rattle.std.proofs.Common.{◌≡◌, ℕ, Ok, sym, ◌∙◌, ap, subst, arith}
use Rattle.cc_lists.specs.Members.{Among}
use Rattle.cc_lists.proofs.Members.{Among-left}
use Rattle.cc_names.specs.Names.{native}
use Rattle.cc_model.specs.Telling.{Telling}
use Rattle.cc_model.specs.Heap.{Heap}
use Rattle.cc_model.specs.Skipping.{forgotten}
use Rattle.cc_model.specs.Collecting.{UnitsDone, slice, collect, gc, mark}
use Rattle.cc_model.specs.End.{Progress}
use Rattle.cc_model.specs.WellFormed.{IsWellFormed, native_names, script_names}
use Rattle.cc_laws_heap.proofs.Face.{native-there}
use Rattle.cc_laws_run.specs.Memory.{with_memory}
use Rattle.cc_heaps.specs.Keyed.{Keyed}
use Rattle.cc_heaps.specs.Changes.{KeepsKeys}
use Rattle.cc_collector.specs.Kept.{Kept, RunsIn, machine_of}
use Rattle.cc_collector.specs.Collected.{LedTo, IsSliced, IsCollected, IsMarkedOn, IsSwept, TellsWhatLeaves, progress_of}
use Rattle.cc_collector.specs.declared.collector.Ended.{Ended}
use Rattle.cc_weakrefs.proofs.Noting.{hold-on}
use Rattle.cc_replay.specs.Beside.{KeepsNoted}
use Rattle.cc_replay.proofs.MadeStays.{MadeAsMany, collect-made, gc-made, mark-made, slice-made}

module _ (v w : Keyed) (keys : KeepsKeys v w) where
  -- where all that leaves is told, and none is made
  noted-on : {before after : Telling} → IsWellFormed v.heap → TellsWhatLeaves v.heap w.heap before after → MadeAsMany v.heap w.heap → KeepsNoted v w
  noted-on formed tells made weak h = hold-on weak v w keys
      (λ k below there. native-there v.heap k formed ((tells.unreached.left (native k)).0 (Among-left (native k) (native_names w.heap) (script_names w.heap) there)).0)
      (omega (arith, made)) h

  -- where the same natives are there
  pub noted-same : native_names w.heap ≡ native_names v.heap → MadeAsMany v.heap w.heap → KeepsNoted v w
  noted-same same made weak h = hold-on weak v w keys (λ k below there. subst (Among (native k)) same there) (omega (arith, made)) h

  module _ (b d : Kept) {before after : Telling} (runs : RunsIn v b) (tells : TellsWhatLeaves v.heap w.heap before after) where
    -- the natives made, where units led from one machine to the other
    led-made : (e : UnitsDone) (p : Progress) → MadeAsMany v.heap e.machine.heap → LedTo e (machine_of v b) (machine_of w d) p before after → MadeAsMany v.heap w.heap
    led-made e p made l = sym (ap (λ (h : Heap). h.natives_made) l.same.heap) ∙ made

    -- A SLICE
    pub noted-slice : (units : ℕ) (p : Progress) (steps steps_now : ℕ) → IsSliced units (machine_of v b) (machine_of w d) p steps steps_now before after → KeepsNoted v w
    noted-slice units p steps steps_now s = noted-on runs.order.sound.well_formed tells
        (led-made (slice units (with_memory (machine_of v b) s.memory)) p (slice-made units (with_memory (machine_of v b) s.memory)) s.led)

    -- A WHOLE COLLECTION
    pub noted-collect : (p : Progress) → IsCollected (machine_of v b) (machine_of w d) p before after → KeepsNoted v w
    noted-collect p s = noted-on runs.order.sound.well_formed tells
        (led-made (collect (with_memory (machine_of v b) s.memory)) p (collect-made (with_memory (machine_of v b) s.memory)) s.led)

    -- UNITS OF A MARKING
    pub noted-mark : (units : ℕ) (ended : Ended) (steps steps_now : ℕ) → IsMarkedOn units (machine_of v b) (machine_of w d) ended steps steps_now before after → KeepsNoted v w
    noted-mark units ended steps steps_now s = noted-on runs.order.sound.well_formed tells
        (led-made (mark units (with_memory (machine_of v b) s.memory)) (progress_of (Ok ended)) (mark-made units (with_memory (machine_of v b) s.memory)) s.led)

    -- A SCRIPT COLLECTION
    pub noted-gc : IsSwept (machine_of v b) (machine_of w d) before after → KeepsNoted v w
    noted-gc s = let e = gc (with_memory (machine_of v b) s.memory) in
        noted-on runs.order.sound.well_formed tells (led-made e e.progress (gc-made (with_memory (machine_of v b) s.memory)) s.led)

-- SUSPECTS THAT CAN BE SKIPPED lose their mark
pub noted-forget : (v w : Keyed) → KeepsKeys v w → w.heap ≡ forgotten v.heap → KeepsNoted v w
unfolding forgotten
noted-forget v w keys e = noted-same v w keys (ap native_names e) (ap (λ (h : Heap). h.natives_made) e)
