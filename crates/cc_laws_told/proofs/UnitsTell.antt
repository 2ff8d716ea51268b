-- SEVERAL UNITS TELL FEW ITEMS, since nothing is told but by the last.
use Rattle.std.proofs.Common.{◌≡◌, ◌≢◌, ℕ, ◌+◌, ◌≤◌, [], length, Option, None, refl, sym, subst, arith}
use Rattle.cc_model.specs.Heap.{Heap}
use Rattle.cc_model.specs.End.{Progress, went_on, at_end, refused, UnitDone, unit}
use Rattle.cc_model.specs.Snapshot.{Snapshot}
use Rattle.cc_model.specs.Collecting.{Machine, UnitsDone, next_answer, no_units, one_unit, units_done, enough_units, to_the_end, finish_running}
use Rattle.cc_model.proofs.UnitsEnd.{units_due, due, units_done-stops, due-enough_units}
use Rattle.cc_laws_heap.specs.Sound.{IsSound}
use Rattle.cc_laws_run.proofs.UnitLawful.{DropsAt}
use Rattle.cc_laws_run.proofs.HoldingUnits.{units_done-keep, finish-cases}
use Rattle.cc_laws_told.proofs.Few.{IsFew, IsFew-none, IsFew-then, IsFew-more}
use Rattle.cc_laws_told.proofs.UnitTells.{allowed, allowed-le, unit-tells, unit-drops}

-- what units told since these heaps, where so many items may have been told besides before them
abbrev pub AreFew : ℕ → Heap → UnitsDone → Type 0
AreFew before h d = IsFew (before + allowed d.progress (length h.natives)) h d.events d.machine.heap

-- one more unit
one_unit-tells : (before : ℕ) (h : Heap) (d : UnitsDone) → d.progress ≡ went_on → AreFew before h d → AreFew before h (one_unit d.machine d.events)
one_unit-tells before h d e f =
    let k : Heap = d.machine.heap in
    let u : UnitDone = unit k d.machine.snapshot (next_answer d.machine.memory) in
    let quiet : IsFew (before + 0) h d.events k = subst (λ p. IsFew (before + allowed p (length h.natives)) h d.events k) e f in
    IsFew-more (before + 0 + allowed u.progress (length k.natives)) (before + allowed u.progress (length h.natives)) h u.heap (one_unit d.machine d.events).events
    (omega (arith, allowed-le u.progress (length k.natives) (length h.natives) quiet.natives))
    (IsFew-then (before + 0) (allowed u.progress (length k.natives)) h k u.heap d.events u.events quiet (unit-tells k d.machine.snapshot (next_answer d.machine.memory) quiet.sound))

-- UNITS TELL FEW ITEMS.
pub units_done-tells : (before : ℕ) (h : Heap) (n : ℕ) (d : UnitsDone) → AreFew before h d → AreFew before h (units_done n d)
units_done-tells before h n d f = units_done-keep (AreFew before h) (one_unit-tells before h) n d f

-- no units tell nothing
pub no_units-tells : (m : Machine) → IsSound [] m.heap → AreFew 0 m.heap (no_units m)
no_units-tells m s = IsFew-none m.heap s

-- a running collection brought to its end tells few items
pub finish-tells : (m : Machine) → IsSound [] m.heap → AreFew 0 m.heap (finish_running m)
finish-tells m s = finish-cases m (AreFew 0 m.heap) (units_done-tells 0 m.heap (enough_units m) (no_units m) (no_units-tells m s)) (λ e. no_units-tells m s)

-- What runs then

-- units that did not go on left no snapshot
dropped : (p : Progress) (s : Option Snapshot) → p ≢ went_on → DropsAt p s → s ≡ None
dropped went_on s stopped d = absurd (stopped refl)
dropped at_end s stopped d = d
dropped refused s stopped d = d

-- units drop what the last of them drops
units_done-drops : (n : ℕ) (d : UnitsDone) → DropsAt d.progress d.machine.snapshot → DropsAt (units_done n d).progress (units_done n d).machine.snapshot
units_done-drops n d q = units_done-keep (λ d. DropsAt d.progress d.machine.snapshot)
    (λ d e q. unit-drops d.machine.heap d.machine.snapshot (next_answer d.machine.memory)) n d q

-- AFTER A WHOLE COLLECTION NO SNAPSHOT IS THERE,
pub to_the_end-drops : (d : UnitsDone) → d.progress ≡ went_on → (to_the_end d).machine.snapshot ≡ None
to_the_end-drops d e =
    let n : ℕ = enough_units d.machine in
    let enough : due d ≤ n = subst (λ p. units_due p d.machine.heap d.machine.snapshot ≤ n) (sym e) (due-enough_units d.machine) in
    dropped (units_done n d).progress (units_done n d).machine.snapshot (units_done-stops n d enough)
    (units_done-drops n d (subst (λ p. DropsAt p d.machine.snapshot) (sym e) tt))

-- nor after a running one was ended.
pub finish-drops : (m : Machine) → (finish_running m).machine.snapshot ≡ None
finish-drops m = finish-cases m (λ d. d.machine.snapshot ≡ None) (to_the_end-drops (no_units m) refl) (λ e. e)
