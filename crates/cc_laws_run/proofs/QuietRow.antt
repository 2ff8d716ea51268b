-- AFTER `gc`, `collect`, `gc` IN A ROW, the `collect` not refused, exactly what is reached is there.
use Rattle.std.proofs.Common.{◌≡◌, sym, subst, refl, []}
use Rattle.std.specs.Prelude.{◌↔◌}
use Rattle.cc_lists.specs.Members.{Among}
use Rattle.cc_names.specs.declared.name.Name.{Name}
use Rattle.cc_model.specs.Heap.{Heap}
use Rattle.cc_model.specs.View.{view, ReachedIn}
use Rattle.cc_model.specs.WellFormed.{names_there}
use Rattle.cc_model.specs.Colours.{HasColourInvariant}
use Rattle.cc_model.specs.Sweep.{collect_scripts}
use Rattle.cc_model.specs.End.{refused}
use Rattle.cc_model.specs.Collecting.{Machine, collect, gc}
use Rattle.cc_laws_heap.specs.Sound.{IsSound}
use Rattle.cc_laws_heap.proofs.CollectedColours.{collect_scripts-sound}
use Rattle.cc_laws_run.specs.Running.{IsFreshNow}
use Rattle.cc_laws_run.specs.Doomed.{IsSuspectedNow}
use Rattle.cc_laws_snapshot.proofs.ReachedStays.{reached-there}
use Rattle.cc_laws_run.proofs.QuietRounds.{collected-reached}
use Rattle.cc_laws_run.proofs.QuietUnits.{gc-collects, gc-none, gc-unmarked, collect-tidy}

-- the machine before them runs and forgot nothing
pub row-quiet : (m : Machine) (x : Name) → IsSound [] m.heap → HasColourInvariant (view m.heap) → IsFreshNow m.heap m.snapshot →
    IsSuspectedNow m → ¬ ((collect (gc m).machine).progress ≡ refused) →
    Among x (names_there (gc (collect (gc m).machine).machine).machine.heap) ↔
    ReachedIn (view (gc (collect (gc m).machine).machine).machine.heap) x
row-quiet m x sound colours fresh suspected taken =
    let first = gc-collects m (record { sound = sound; colours = colours; fresh = fresh; suspected = suspected; stopped = λ d. absurd (d refl) }) in
    let n : Machine = (collect (gc m).machine).machine in
    let k : Heap = n.heap in
    let second = collect-tidy first.0 (gc m).machine first.1 first.2 first.3 first.4 (gc-unmarked m) taken in
    subst (λ (h : Heap). (Among x (names_there h) → ReachedIn (view h) x) × (ReachedIn (view h) x → Among x (names_there h)))
    (sym (gc-none n second.0)) (
      collected-reached k second.1 second.2 x,
      reached-there (collect_scripts k).heap (collect_scripts-sound k second.1).well_formed x,
    )
