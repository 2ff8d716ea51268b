-- SETTLED HEAPS have exactly what the registers reach.
use Rattle.std.proofs.Common.{◌≡◌, ◌≢◌, ◌++◌, [], None, refl, sym, ◌∙◌, subst}
use Rattle.cc_model.specs.Telling.{Telling}
use Rattle.cc_model.specs.Heap.{Heap}
use Rattle.cc_model.specs.View.{view}
use Rattle.cc_model.specs.WellFormed.{IsWellFormed}
use Rattle.cc_model.specs.Sweep.{collect_scripts}
use Rattle.cc_model.specs.Suspected.{IsSuspected}
use Rattle.cc_model.specs.End.{at_end, refused}
use Rattle.cc_model.specs.Collecting.{Machine, collect, gc}
use Rattle.cc_model.proofs.Tellings.{TellsEvents-trans}
use Rattle.cc_laws_heap.specs.Sound.{IsSound}
use Rattle.cc_laws_heap.proofs.Face.{collect_scripts-sound}
use Rattle.cc_laws_snapshot.proofs.Face.{IsTidy, reached-there}
use Rattle.cc_laws_run.specs.Doomed.{IsSuspectedNow}
use Rattle.cc_laws_run.specs.Memory.{with_memory}
use Rattle.cc_laws_run.proofs.Face.{collect-tidy, collected-reached, gc-collects, gc-none, gc-unmarked}
use Rattle.cc_heaps.specs.Keyed.{Keyed}
use Rattle.cc_heaps.specs.Keeping.{KeepsHeaps}
use Rattle.cc_gc.specs.Sparing.{KeepsWhatIsReached}
use Rattle.cc_gc.proofs.Sparing.{spares-then}
use Rattle.cc_collector.specs.Kept.{Kept, RunsIn, machine_of}
use Rattle.cc_collector.specs.Collected.{TellsWhatLeaves}
use Rattle.cc_collector.specs.Settled.{HasWhatIsReached, IsSettled}
use Rattle.cc_collector.proofs.Keeping.{RunsIn-fresh}
use Rattle.cc_collector.proofs.Sparing.{kept-then}

-- One call after the other

-- what leaves is told
pub tells-then : (h g k : Heap) (t t₁ t₂ : Telling) → KeepsWhatIsReached h g → KeepsWhatIsReached g k → TellsWhatLeaves h g t t₁ → TellsWhatLeaves g k t₁ t₂ →
    TellsWhatLeaves h k t t₂
tells-then h g k t t₁ t₂ a b s r = record {
  events = s.events ++ r.events;
  told = TellsEvents-trans t t₁ t₂ s.events r.events s.told r.told;
  unreached = spares-then h g k s.events r.events a b s.unreached r.unreached;
}

-- and all is kept that a collection keeps
pub all_kept-then : (u v w : Keyed) (t t₁ : Telling) → IsWellFormed v.heap → IsWellFormed w.heap → TellsWhatLeaves v.heap w.heap t t₁ → KeepsHeaps [] [] u v →
    KeepsHeaps [] [] v w → KeepsHeaps [] [] u w
all_kept-then u v w t t₁ well well_now told a b = kept-then u v w told.events well well_now told.unreached a b

-- `gc`, a collection that was not refused, and `gc`

-- SO EXACTLY WHAT IS REACHED IS THERE, where no native was forgotten before.
pub settled-exact : (v : Keyed) (kept : Kept) (new : Machine) (t t₁ : Telling) → RunsIn v kept → IsSuspectedNow (machine_of v kept) →
    IsSettled (machine_of v kept) new t t₁ → HasWhatIsReached new.heap
settled-exact v kept new t t₁ r suspected s = subst HasWhatIsReached (sym last) (λ x. (
  collected-reached k sound tidy x,
  reached-there (collect_scripts k).heap (collect_scripts-sound k sound).well_formed x,
))
  where
    before : Machine
    before = with_memory (machine_of v kept) s.collected.swept.memory

    -- the first is a script collection of sound heaps in which no native is forgotten
    first : (h : Heap) × IsSound [] h × IsSuspected (view h) [] × ((gc before).machine.heap ≡ (collect_scripts h).heap) × ((gc before).machine.snapshot ≡ None)
    first = gc-collects before (record { sound = r.order.sound; colours = r.colours; fresh = RunsIn-fresh v kept r; suspected = suspected; stopped = λ d. absurd (d refl) })

    mid : Machine
    mid = with_memory s.collected.first s.collected.collected.memory

    taken : ¬ ((collect mid).progress ≡ refused)
    taken e = absurd (apart (sym s.collected.collected.led.came_to ∙ e))
      where
        apart : at_end ≢ refused
        apart f = cc

    -- so the collection misses nothing
    second : ((collect mid).machine.snapshot ≡ None) × IsSound [] (collect mid).machine.heap × IsTidy (collect mid).machine.heap
    second =
        let same = s.collected.swept.led.same in
        collect-tidy first.0 mid first.1 first.2 (sym same.heap ∙ first.3) (sym same.snapshot ∙ first.4) (sym same.marking ∙ gc-unmarked before) taken

    k : Heap
    k = s.second.heap

    sound : IsSound [] k
    sound = subst (IsSound []) s.collected.collected.led.same.heap second.1

    tidy : IsTidy k
    tidy = subst IsTidy s.collected.collected.led.same.heap second.2

    -- and the last is a script collection alone
    last : new.heap ≡ (collect_scripts k).heap
    last = sym s.swept.led.same.heap ∙ gc-none (with_memory s.second s.swept.memory) (sym s.collected.collected.led.same.snapshot ∙ second.0)
