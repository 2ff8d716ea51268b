-- SLICES, WHOLE COLLECTIONS, `gc` AND UNITS OF A MARKING TELL FEW ITEMS; after the last three no collection runs, and after the first
-- two no marking goes on.
use Rattle.std.proofs.Common.{◌≡◌, ◌≢◌, ℕ, ◌+◌, ◌≤◌, [], ◌++◌, length, None, refl, sym, ◌∙◌, subst, arith}
use Rattle.cc_model.specs.Heap.{Heap, Outcome}
use Rattle.cc_model.specs.Marking.{NewMarks, ended_marks}
use Rattle.cc_model.specs.End.{Progress, went_on, at_end, refused}
use Rattle.cc_model.specs.Sweep.{collect_scripts}
use Rattle.cc_model.specs.Collecting.{Machine, UnitsDone, no_units, units_done, enough_units, to_the_end, finish_running, finish_marking, behind, slice_cycles, slice, starting_anew, unless_stopped, collect_cycles, collect, then_scripts, without_marking, gc, one_marked, units_marked, mark}
use Rattle.cc_laws_heap.specs.Sound.{IsSound}
use Rattle.cc_laws_heap.specs.UnderMarking.{IsUnderMarking}
use Rattle.cc_laws_heap.proofs.MarkingEnded.{ended-sound, ended-frees}
use Rattle.cc_laws_run.specs.Running.{IsMarkingNow}
use Rattle.cc_laws_run.proofs.HoldingUnits.{unless_stopped-cases}
use Rattle.cc_laws_run.proofs.Finishing.{finish-by, finishing-leaves}
use Rattle.cc_laws_run.proofs.MarkedUnits.{units_marked-keep}
use Rattle.cc_laws_run.proofs.MarkingOn.{IsMarkingOn, one_marked-going}
use Rattle.cc_laws_run.proofs.MarkLawful.{finish_running-none, finished-marking}
use Rattle.cc_laws_run.proofs.BesideUnits.{slice-beside, collect-beside, units_marked-beside}
use Rattle.cc_laws_told.specs.Told.{TellsFew}
use Rattle.cc_laws_told.proofs.Few.{IsFew, IsFew-none, IsFew-then, IsFew-more, TellsFew-from}
use Rattle.cc_laws_told.proofs.UnitTells.{allowed, allowed-few}
use Rattle.cc_laws_told.proofs.UnitsTell.{AreFew, units_done-tells, no_units-tells, finish-tells, to_the_end-drops, finish-drops}
use Rattle.cc_laws_told.proofs.ScriptsTell.{freed-tells, collect_scripts-tells}

-- what units told is within the natives and one, besides what was told before
units-within : (before besides : ℕ) (m : Machine) (d : UnitsDone) → before + (length m.heap.natives + 1) ≤ besides → AreFew before m.heap d → TellsFew besides m d
units-within before besides m d more f = TellsFew-from besides m d
    (IsFew-more (before + allowed d.progress (length m.heap.natives)) besides m.heap d.machine.heap d.events
    (omega (arith, more, allowed-few d.progress (length m.heap.natives))) f)

-- the units of a slice
slice_cycles-tells : (n : ℕ) (m : Machine) → IsSound [] m.heap → TellsFew (length m.heap.natives + 1) m (slice_cycles n m)
unfolding slice_cycles
slice_cycles-tells n m s = units-within 0 (length m.heap.natives + 1) m (units_done n (no_units m)) (omega arith) (units_done-tells 0 m.heap n (no_units m) (no_units-tells m s))

-- what has not been refused has told each native at most
allowed-unless : (p : Progress) (n : ℕ) → p ≢ refused → allowed p n ≤ n
allowed-unless went_on n d = omega arith
allowed-unless at_end n d = omega arith
allowed-unless refused n d = absurd (d refl)

-- the units of a whole collection
collect_cycles-tells : (m : Machine) → IsSound [] m.heap → TellsFew (length m.heap.natives + (length m.heap.natives + 1)) m (collect_cycles m)
unfolding collect_cycles
collect_cycles-tells m s =
    let n : ℕ = length m.heap.natives in
    let d : UnitsDone = finish_running m in
    let f : AreFew 0 m.heap d = finish-tells m s in
    unless_stopped-cases d (TellsFew (n + (n + 1)) m)
    (λ e. units-within 0 (n + (n + 1)) m d (omega arith) f)
    (λ e. units-within n (n + (n + 1)) m (to_the_end (starting_anew d)) (omega arith) (units_done-tells n m.heap (enough_units d.machine) (starting_anew d)
    (IsFew-more (0 + allowed d.progress n) (n + 0) m.heap d.machine.heap d.events (omega (arith, allowed-unless d.progress n e)) f)))

-- those of one that begins where none runs
collect_cycles_alone-tells : (m : Machine) → IsSound [] m.heap → m.snapshot ≡ None → TellsFew (length m.heap.natives + 1) m (collect_cycles m)
unfolding collect_cycles
collect_cycles_alone-tells m s e = subst (λ d. TellsFew (length m.heap.natives + 1) m (unless_stopped d)) (sym (finish_running-none m e))
    (units-within 0 (length m.heap.natives + 1) m (to_the_end (no_units m)) (omega arith) (units_done-tells 0 m.heap (enough_units m) (no_units m) (no_units-tells m s)))

-- Behind the end of a marking

-- the end of a marking tells what leaves, and nothing besides
ended-tells : (h : Heap) (marks : NewMarks) → IsSound [] h → IsUnderMarking h marks → IsFew 0 h (ended_marks h marks).events (ended_marks h marks).heap
ended-tells h marks s u = let f = ended-frees h marks s u in freed-tells h f.0 (ended_marks h marks) f.1 (ended-sound h marks s u)

-- so does what brings one to its end
finishing-tells : (m : Machine) → IsSound [] m.heap → IsMarkingNow m.heap m.marking m.snapshot →
    let d = finish_marking m in IsFew 0 m.heap d.events d.machine.heap
finishing-tells m s t = finish-by m (λ d. IsFew 0 m.heap d.events d.machine.heap) s t (λ e. IsFew-none m.heap s) (λ marks on over. ended-tells m.heap marks s on.under)

-- what comes behind it tells what it tells, besides what leaves
behind-tells : (besides more : ℕ) (m : Machine) (d : UnitsDone) → IsSound [] m.heap → IsMarkingNow m.heap m.marking m.snapshot → besides ≤ more →
    TellsFew besides (finish_marking m).machine d → TellsFew more m (behind (finish_marking m) d)
behind-tells besides more m d s t few u =
    let b : UnitsDone = finish_marking m in
    let later : IsFew besides b.machine.heap d.events d.machine.heap = record { told = u.told; natives = u.natives; scripts = u.scripts; sound = u.sound } in
    TellsFew-from more m (behind b d) (IsFew-more (0 + besides) more m.heap d.machine.heap (b.events ++ d.events) (omega (arith, few))
    (IsFew-then 0 besides m.heap b.machine.heap d.machine.heap b.events d.events (finishing-tells m s t) later))

-- A SLICE
pub slice-tells : (n : ℕ) (m : Machine) → IsSound [] m.heap → IsMarkingNow m.heap m.marking m.snapshot → TellsFew (length m.heap.natives + 1) m (slice n m)
unfolding slice
slice-tells n m s t =
    let f = finishing-tells m s t in
    let k : Machine = (finish_marking m).machine in
    behind-tells (length k.heap.natives + 1) (length m.heap.natives + 1) m (slice_cycles n k) s t (omega (arith, f.natives)) (slice_cycles-tells n k f.sound)

-- A WHOLE COLLECTION
pub collect-tells : (m : Machine) → IsSound [] m.heap → IsMarkingNow m.heap m.marking m.snapshot →
    TellsFew (length m.heap.natives + (length m.heap.natives + 1)) m (collect m)
unfolding collect
collect-tells m s t =
    let f = finishing-tells m s t in
    let k : Machine = (finish_marking m).machine in
    let n : ℕ = length m.heap.natives in
    let l : ℕ = length k.heap.natives in
    behind-tells (l + (l + 1)) (n + (n + 1)) m (collect_cycles k) s t (omega (arith, f.natives)) (collect_cycles-tells k f.sound)

-- one that begins where none runs
pub collect_alone-tells : (m : Machine) → IsSound [] m.heap → IsMarkingNow m.heap m.marking m.snapshot → m.snapshot ≡ None →
    TellsFew (length m.heap.natives + 1) m (collect m)
unfolding collect
collect_alone-tells m s t e =
    let f = finishing-tells m s t in
    let k : Machine = (finish_marking m).machine in
    behind-tells (length k.heap.natives + 1) (length m.heap.natives + 1) m (collect_cycles k) s t (omega (arith, f.natives))
    (collect_cycles_alone-tells k f.sound ((finishing-leaves m).snapshot ∙ e))

-- Script objects

-- a script collection after others
then_scripts-tells : (besides : ℕ) (m : Machine) (d : UnitsDone) → IsFew besides m.heap d.events d.machine.heap → TellsFew besides m (then_scripts d)
then_scripts-tells besides m d f =
    let o : Outcome = collect_scripts d.machine.heap in
    TellsFew-from besides m (then_scripts d) (IsFew-more (besides + 0) besides m.heap o.heap (then_scripts d).events (omega arith)
    (IsFew-then besides 0 m.heap d.machine.heap o.heap d.events o.events f (collect_scripts-tells d.machine.heap f.sound)))

-- GC
pub gc-tells : (m : Machine) → IsSound [] m.heap → TellsFew (length m.heap.natives + 1) m (gc m)
unfolding gc
gc-tells m s =
    let n : ℕ = length m.heap.natives in
    let k : Machine = without_marking m in
    let d : UnitsDone = finish_running k in
    then_scripts-tells (n + 1) m d (IsFew-more (0 + allowed d.progress n) (n + 1) m.heap d.machine.heap d.events (omega (arith, allowed-few d.progress n)) (finish-tells k s))

-- where no collection runs
pub gc_alone-tells : (m : Machine) → IsSound [] m.heap → m.snapshot ≡ None → TellsFew 0 m (gc m)
unfolding gc
gc_alone-tells m s e =
    let k : Machine = without_marking m in
    subst (λ d. TellsFew 0 m (then_scripts d)) (sym (finish_running-none k e)) (then_scripts-tells 0 m (no_units k) (no_units-tells k s))

-- units of a marking after others, where no collection runs
record MarksFew (besides : ℕ) (h : Heap) (d : UnitsDone) : Type 0 where
  few : IsFew besides h d.events d.machine.heap
  marking : IsMarkingOn d
  alone : d.machine.snapshot ≡ None

-- one more unit
one_marked-tells : (besides : ℕ) (h : Heap) (d : UnitsDone) → MarksFew besides h d → MarksFew besides h (one_marked d.machine d.events)
one_marked-tells besides h d t = one_marked-going d.machine d.events (MarksFew besides h) t.few.sound t.marking t.alone
    (λ marks on. record { few = t.few; marking = on; alone = t.alone })
    (λ marks on.
    let k : Heap = d.machine.heap in
    let o : Outcome = ended_marks k marks in
    record {
      few = IsFew-more (besides + 0) besides h o.heap (d.events ++ o.events) (omega arith)
          (IsFew-then besides 0 h k o.heap d.events o.events t.few (ended-tells k marks t.few.sound on.under));
      marking = tt;
      alone = t.alone;
    })

-- MARK, by what the end of a running collection tells
mark-within : (besides : ℕ) (n : ℕ) (m : Machine) → IsMarkingNow m.heap m.marking m.snapshot →
    (let d = finish_running m in IsFew besides m.heap d.events d.machine.heap) → TellsFew besides m (mark n m)
unfolding mark
mark-within besides n m t f =
    let d : UnitsDone = starting_anew (finish_running m) in
    TellsFew-from besides m (units_marked n d)
    (units_marked-keep (MarksFew besides m.heap) (one_marked-tells besides m.heap) n d
    (record { few = f; marking = finished-marking m t; alone = finish-drops m })).few

-- MARK
pub mark-tells : (n : ℕ) (m : Machine) → IsSound [] m.heap → IsMarkingNow m.heap m.marking m.snapshot → TellsFew (length m.heap.natives + 1) m (mark n m)
mark-tells n m s t =
    let l : ℕ = length m.heap.natives in
    let d : UnitsDone = finish_running m in
    mark-within (l + 1) n m t (IsFew-more (0 + allowed d.progress l) (l + 1) m.heap d.machine.heap d.events (omega (arith, allowed-few d.progress l)) (finish-tells m s))

-- where no collection runs
pub mark_alone-tells : (n : ℕ) (m : Machine) → IsSound [] m.heap → IsMarkingNow m.heap m.marking m.snapshot → m.snapshot ≡ None → TellsFew 0 m (mark n m)
mark_alone-tells n m s t e = mark-within 0 n m t
    (subst (λ (d : UnitsDone). IsFew 0 m.heap d.events d.machine.heap) (sym (finish_running-none m e)) (no_units-tells m s))

-- What runs then

-- NO COLLECTION RUNS after a whole one,
pub collect-drops : (m : Machine) → (collect m).machine.snapshot ≡ None
unfolding collect collect_cycles
collect-drops m =
    let k : Machine = (finish_marking m).machine in
    unless_stopped-cases (finish_running k) (λ d. d.machine.snapshot ≡ None) (λ e. finish-drops k)
    (λ e. to_the_end-drops (starting_anew (finish_running k)) refl)

-- nor after a script collection,
pub gc-drops : (m : Machine) → (gc m).machine.snapshot ≡ None
unfolding gc
gc-drops m = finish-drops (without_marking m)

-- nor after units of a marking.
pub mark-drops : (n : ℕ) (m : Machine) → (mark n m).machine.snapshot ≡ None
unfolding mark
mark-drops n m = (units_marked-beside n (starting_anew (finish_running m))).snapshot ∙ finish-drops m

-- NO MARKING GOES ON after a slice,
pub slice-unmarks : (n : ℕ) (m : Machine) → (slice n m).machine.marking ≡ None
slice-unmarks n m = (slice-beside n m).marking

-- nor after a whole collection.
pub collect-unmarks : (m : Machine) → (collect m).machine.marking ≡ None
collect-unmarks m = (collect-beside m).marking
