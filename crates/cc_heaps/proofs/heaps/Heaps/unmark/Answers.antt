use Rattle.std.proofs.Common.{◌≡◌, true, false, sym, ◌∙◌, ap, subst, refl}
use Rattle.cc_model.specs.Skipping.{unmarked}
use Rattle.cc_counted.specs.Suspects.{is_in_buffer}
use Rattle.cc_heaps.specs.Keyed.{Keyed, IsInOrder, changed_to, the_number}
use Rattle.cc_heaps.specs.Fields.{keyed_of}
use Rattle.cc_heaps.specs.Standing.{StillStands}
use Rattle.cc_heaps.proofs.Calls.{changed-keyed, changed-linked, mark-changes}
use Rattle.cc_heaps.proofs.StandingStill.{buffer-goes_on}
use Rattle.cc_heaps.proofs.Unmarking.{absent-unmarked, touched-unmarked, unmarked-keeps}
use Rattle.cc_heaps.proofs.MarksKept.{marks-stay-changed, marks-stay}
use Rattle.cc_heaps.proofs.heaps.Heaps.unmark.Goals as goal

pub invariant_of-self : goal.invariant_of-self
invariant_of-self c =
    changed-linked (mark-changes c.self.inside c.self.invariant (the_number (keyed_of c.self.inside) c.args.key.0) false c.touch.ensures.heap)

pub returns-then-in_buffer-clause-heap : goal.returns-then-in_buffer-clause-heap
returns-then-in_buffer-clause-heap c =
    let p = c.self.inside in
    let k = the_number (keyed_of p) c.args.key.0 in
    let f = c.requires.owned in
    let order : IsInOrder f.0 (keyed_of p) = subst (IsInOrder f.0) (sym c.self.view_is) f.1 in
    let within : is_in_buffer (keyed_of p).heap.buffer k ≡ true = sym c.in_buffer.ensures ∙ c.if-in_buffer.true in
    rw (← c.self.view_is)
    (changed-keyed (mark-changes p c.self.invariant k false c.touch.ensures.heap) ∙ ap (changed_to (keyed_of p)) (touched-unmarked f.0 (keyed_of p) k order within))

pub returns-then-in_buffer-clause-kept : goal.returns-then-in_buffer-clause-kept
returns-then-in_buffer-clause-kept c = unmarked-keeps c.args.self.now _ c.args.key.0 c.requires.live c.requires.owned (returns-then-in_buffer-clause-heap c)

pub returns-then-in_buffer-clause-stands : goal.returns-then-in_buffer-clause-stands
returns-then-in_buffer-clause-stands c =
    let v = c.args.self.now in
    subst (λ (w : Keyed). StillStands v.heap w.heap) (sym (returns-then-in_buffer-clause-heap c))
    ((buffer-goes_on v.heap (unmarked v.heap (the_number v c.args.key.0)).buffer).stands)

pub returns-else-in_buffer-clause-heap : goal.returns-else-in_buffer-clause-heap
returns-else-in_buffer-clause-heap c =
    let p = c.self.inside in
    let k = the_number (keyed_of p) c.args.key.0 in
    let outside : is_in_buffer (keyed_of p).heap.buffer k ≡ false = sym c.in_buffer.ensures ∙ c.if-in_buffer.false in
    rw (← c.self.view_is) (absent-unmarked (keyed_of p) k outside)

pub returns-else-in_buffer-clause-kept : goal.returns-else-in_buffer-clause-kept
returns-else-in_buffer-clause-kept c = unmarked-keeps c.args.self.now c.args.self.now c.args.key.0 c.requires.live c.requires.owned (returns-else-in_buffer-clause-heap c)

pub returns-then-in_buffer-clause-marks : goal.returns-then-in_buffer-clause-marks
returns-then-in_buffer-clause-marks c = marks-stay-changed c.args.self.now _ _ (returns-then-in_buffer-clause-heap c)

pub returns-else-in_buffer-clause-marks : goal.returns-else-in_buffer-clause-marks
returns-else-in_buffer-clause-marks c = marks-stay c.args.self.now c.args.self.now refl refl
