use Rattle.std.proofs.Common.{◌≡◌, length, refl, sym, ◌∙◌, ap, subst, arith}
use Rattle.std.specs.Prelude.{◌↔◌}
use Rattle.cc_lists.specs.Members.{Among}
use Rattle.cc_names.specs.Names.{native}
use Rattle.cc_model.specs.Heap.{Heap}
use Rattle.cc_model.specs.Skipping.{IsSkippable, forgotten}
use Rattle.cc_model.specs.StandsFor.{StandsFor}
use Rattle.cc_model.specs.View.{view}
use Rattle.cc_model.specs.WellFormed.{native_names, script_names}
use Rattle.cc_laws_snapshot.proofs.Face.{forgotten-exactly, forgotten-names, forgotten-stands, forgotten-taken}
use Rattle.cc_names.specs.declared.kind.Walked.TheVariants.{Out}
use Rattle.cc_script.specs.Objects.{with_walked}
use Rattle.cc_heaps.specs.Keyed.{Keyed, changed_to}
use Rattle.cc_heaps.specs.Walking.{unwalked}
use Rattle.cc_heaps.proofs.MarksKept.{marks-mapped}
use Rattle.cc_skip.proofs.Entering.{kept-over}
use Rattle.cc_skip.proofs.Marks.{kept-forgotten}
use Rattle.cc_skip.proofs.States.{unwalked-again}
use Rattle.cc_skip.proofs.forgetting.forget.Goals as goal

pub walk-forgotten-requires-clause-order : goal.walk-forgotten-requires-clause-order
walk-forgotten-requires-clause-order c = let f = c.requires.order in (f.0, c.walk_clear.ensures.kept.order f.0 f.1)

pub walk-forgotten-requires-clause-empty : goal.walk-forgotten-requires-clause-empty
walk-forgotten-requires-clause-empty c =
    let e = c.walk_clear.ensures.walk in
    e ∙ (sym (unwalked-again c.args.heaps.now) ∙ ap unwalked (sym e))

-- the heaps once the walk has taken marks, and it is over
walked-is : (c : goal.After-walk_clear-2) → unwalked c.walk-forgotten.new.heaps ≡ changed_to c.walk_clear.new.self (forgotten c.walk_clear.new.self.heap)
walked-is c = c.walk-forgotten.ensures.forgotten

heap-walked : (c : goal.After-walk_clear-2) → c.walk-forgotten.new.heaps.heap ≡ forgotten c.args.heaps.now.heap
heap-walked c = ap (λ (u : Keyed). u.heap) (walked-is c) ∙ ap forgotten c.walk_clear.ensures.heap

heap-is : (c : goal.After-walk_clear-2) → c.walk_clear-2.new.self.heap ≡ forgotten c.args.heaps.now.heap
heap-is c = c.walk_clear-2.ensures.heap ∙ heap-walked c

pub returns-clause-forgotten : goal.returns-clause-forgotten
returns-clause-forgotten c =
    c.walk_clear-2.ensures.walk
    ∙ (walked-is c
    ∙ ap (λ (u : Keyed). changed_to u (forgotten u.heap)) c.walk_clear.ensures.walk)

pub returns-clause-count : goal.returns-clause-count
returns-clause-count c =
    let last : length (view c.walk_clear-2.new.self.heap).purple ≡ length (view c.walk-forgotten.new.heaps.heap).purple = ap (λ (h : Heap). length (view h).purple) c.walk_clear-2.ensures.heap in
    let first : length (view c.walk_clear.new.self.heap).purple ≡ length (view c.args.heaps.now.heap).purple = ap (λ (h : Heap). length (view h).purple) c.walk_clear.ensures.heap in
    omega (arith, last, first, c.walk-forgotten.ensures.count)

pub returns-clause-exactly : goal.returns-clause-exactly
returns-clause-exactly c k m =
    let h = c.args.heaps.now.heap in
    subst (λ (g : Heap). (¬ (Among (native k) (view g).purple)) ↔ IsSkippable h (native k)) (sym (heap-is c)) (
      λ gone. forgotten-taken h (native k) m gone,
      λ s p. ((forgotten-exactly h (native k)).0 p).1 s,
    )

pub returns-clause-places : goal.returns-clause-places
returns-clause-places c = ap (λ (h : Heap). (view h).buffer) (heap-is c) ∙ forgotten-names c.args.heaps.now.heap

pub returns-clause-kept : goal.returns-clause-kept
returns-clause-kept c =
    let v = c.args.heaps.now in
    let walked = kept-forgotten v c.walk_clear.new.self c.walk-forgotten.new.heaps (ap (λ (u : Keyed). u.heap) (walked-is c)) c.walk_clear.ensures.kept c.walk-forgotten.ensures.kept in
    kept-over v c.walk-forgotten.new.heaps c.walk_clear-2.new.self (ap native_names c.walk_clear-2.ensures.heap) (ap script_names c.walk_clear-2.ensures.heap) walked
    c.walk_clear-2.ensures.kept

pub returns-clause-stands : goal.returns-clause-stands
returns-clause-stands c g made stands = subst (λ (h : Heap). StandsFor h g) (sym (heap-is c)) (forgotten-stands c.args.heaps.now.heap g stands)

-- a marking in slices stays as it is: script objects keep their new marks
pub returns-clause-marks : goal.returns-clause-marks
returns-clause-marks c =
    let e = returns-clause-forgotten c in
    marks-mapped c.args.heaps.now c.walk_clear-2.new.self (with_walked Out) (ap (λ (u : Keyed). u.marking) e) (ap (λ (u : Keyed). u.scripts) e) (λ o. refl) (λ o. refl) (λ o. refl)
