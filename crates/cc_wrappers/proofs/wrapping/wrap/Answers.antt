use Rattle.std.proofs.Common.{◌≡◌, true, false, Some, option_map, Result, Ok, Err, OnOk, sym, ◌∙◌, ap}
use Rattle.cc_heaps.proofs.ObjectsKept.{named-there}
use Rattle.std.proofs.lemmas.Result.{on_ok_weaker}
use Rattle.cc_lists.proofs.KnownBytes.{on_err_of}
use Rattle.cc_names.specs.Names.{native, reflector}
use Rattle.cc_model.specs.Heap.{has_reflector}
use Rattle.cc_model.specs.Marking.{exposed_marks}
use Rattle.cc_laws_heap.proofs.Face.{has_reflector-none}
use Rattle.cc_counted.specs.Counts.{reflector_at}
use Rattle.cc_script.specs.Objects.{name_at}
use Rattle.cc_heaps.specs.Keyed.{counts_of, the_number}
use Rattle.cc_heaps.specs.NewMarks.{marks_of}
use Rattle.cc_heaps.specs.Standing.{IsReached}
use Rattle.cc_heaps.proofs.Kept.{KeepsAll-if_reached}
use Rattle.cc_wrappers.proofs.Marked.{exposed-absent}
use Rattle.cc_wrappers.proofs.Wrapped.{reflector-name, reflector-none, reflector-has, exposed-wrapped, exposed-name, exposed-colour, exposed-stands, exposed-keeps_reached, made-wrapped, made-colour, made-keeps_reached}
use Rattle.cc_wrappers.proofs.wrapping.wrap.Goals as goal

pub expose-requires-clause-order : goal.expose-requires-clause-order
expose-requires-clause-order c = let f = c.requires.order in (f.0, f.1)

pub expose-requires-clause-live : goal.expose-requires-clause-live
expose-requires-clause-live c =
    let v = c.args.heaps.now in
    named-there v.scripts c.in-Some.there.0 (reflector (the_number v c.args.key.0))
    (reflector-name v c.requires.order.1 c.args.key.0 c.requires.live c.in-Some.there.0
    (sym (c.in-Some.ensures ∙ ap (λ w. reflector_at w c.args.key.0) c.counted.ensures)))

pub new_reflector-requires-clause-lacks : goal.new_reflector-requires-clause-lacks
new_reflector-requires-clause-lacks c = reflector-none c.args.heaps.now c.requires.order.1 c.args.key.0 c.requires.live
    (sym (c.in-None.ensures ∙ ap (λ w. reflector_at w c.args.key.0) c.counted.ensures))

-- The reflector that is there

-- the counted heap has its key
found : (c : goal.After-expose) → reflector_at (counts_of c.args.heaps.now) c.args.key.0 ≡ Some c.in-Some.there.0
found c = sym (c.in-Some.ensures ∙ ap (λ w. reflector_at w c.args.key.0) c.counted.ensures)

-- it has its name there
named : (c : goal.After-expose) → name_at c.args.heaps.now.scripts c.in-Some.there.0 ≡ Some (reflector (the_number c.args.heaps.now c.args.key.0))
named c = reflector-name c.args.heaps.now c.requires.order.1 c.args.key.0 c.requires.live c.in-Some.there.0 (found c)

-- and by name it is there
has : (c : goal.After-expose) → has_reflector c.args.heaps.now.heap (the_number c.args.heaps.now c.args.key.0) ≡ true
has c = reflector-has c.args.heaps.now c.requires.order.1 c.args.key.0 c.requires.live c.in-Some.there.0 (found c)

pub returns-in-Some-clause-heap : goal.returns-in-Some-clause-heap
returns-in-Some-clause-heap c =
    let v = c.args.heaps.now in
    exposed-wrapped v c.expose.new.self c.requires.order.1 (c.expose.ensures.kept.order c.requires.order.0 c.requires.order.1) (the_number v c.args.key.0) c.in-Some.there.0 (named c) (has c) c.expose.ensures.heap c.expose.ensures.kept.keys

pub returns-in-Some-clause-kept : goal.returns-in-Some-clause-kept
returns-in-Some-clause-kept c =
    let v = c.args.heaps.now in
    KeepsAll-if_reached (IsReached v.heap (Some (native (the_number v c.args.key.0)))) v c.expose.new.self c.expose.ensures.kept

pub returns-in-Some-clause-name : goal.returns-in-Some-clause-name
returns-in-Some-clause-name c =
    let v = c.args.heaps.now in
    exposed-name v c.expose.new.self c.requires.order.1 (c.expose.ensures.kept.order c.requires.order.0 c.requires.order.1) (the_number v c.args.key.0) c.in-Some.there.0 (named c) (has c) c.expose.ensures.heap c.expose.ensures.kept.keys

pub returns-in-Some-clause-there : goal.returns-in-Some-clause-there
returns-in-Some-clause-there c = named-there c.expose.new.self.scripts c.in-Some.there.0 (reflector (the_number c.args.heaps.now c.args.key.0)) (returns-in-Some-clause-name c)

pub returns-in-Some-clause-black : goal.returns-in-Some-clause-black
returns-in-Some-clause-black c =
    let v = c.args.heaps.now in
    exposed-colour v c.expose.new.self c.requires.order.1 (c.expose.ensures.kept.order c.requires.order.0 c.requires.order.1) (the_number v c.args.key.0) c.in-Some.there.0 (named c) (has c) c.expose.ensures.heap c.expose.ensures.kept.keys

pub returns-in-Some-clause-stands : goal.returns-in-Some-clause-stands
returns-in-Some-clause-stands c =
    let v = c.args.heaps.now in
    exposed-stands v c.expose.new.self c.requires.order.1 (c.expose.ensures.kept.order c.requires.order.0 c.requires.order.1) (the_number v c.args.key.0) c.in-Some.there.0 (named c) (has c) c.expose.ensures.heap c.expose.ensures.kept.keys

pub returns-in-Some-clause-reached : goal.returns-in-Some-clause-reached
returns-in-Some-clause-reached c =
    let v = c.args.heaps.now in
    exposed-keeps_reached v c.expose.new.self c.requires.order.1 (c.expose.ensures.kept.order c.requires.order.0 c.requires.order.1) (the_number v c.args.key.0) c.in-Some.there.0 (named c) (has c) c.expose.ensures.heap c.expose.ensures.kept.keys

pub returns-in-Some-clause-marking : goal.returns-in-Some-clause-marking
returns-in-Some-clause-marking c listed = c.expose.ensures.marking ∙ ap (λ x. option_map (exposed_marks c.args.heaps.now.heap x) (marks_of c.args.heaps.now)) (named c)

-- A new one

-- there was none
lacks : (c : goal.After-new_reflector) → has_reflector c.args.heaps.now.heap (the_number c.args.heaps.now c.args.key.0) ≡ false
lacks c = reflector-none c.args.heaps.now c.requires.order.1 c.args.key.0 c.requires.live
    (sym (c.in-None.ensures ∙ ap (λ w. reflector_at w c.args.key.0) c.counted.ensures))

pub returns-in-None-clause-kept : goal.returns-in-None-clause-kept
returns-in-None-clause-kept c = c.new_reflector.ensures.kept

pub returns-in-None-clause-heap : goal.returns-in-None-clause-heap
returns-in-None-clause-heap c =
    let v = c.args.heaps.now in
    on_ok_weaker c.new_reflector.result
    (made-wrapped v c.new_reflector.new.self (c.new_reflector.ensures.kept.order c.requires.order.0 c.requires.order.1) (the_number v c.args.key.0) (lacks c))
    c.new_reflector.ensures.heap

pub returns-in-None-clause-black : goal.returns-in-None-clause-black
returns-in-None-clause-black c =
    let v = c.args.heaps.now in
    made-colour v c.new_reflector.new.self (c.new_reflector.ensures.kept.order c.requires.order.0 c.requires.order.1) (the_number v c.args.key.0) (lacks c) c.new_reflector.result
    c.new_reflector.ensures.heap c.new_reflector.ensures.name

pub returns-in-None-clause-lacks : goal.returns-in-None-clause-lacks
returns-in-None-clause-lacks c = on_err_of c.new_reflector.result (lacks c)

pub returns-in-None-clause-reached : goal.returns-in-None-clause-reached
returns-in-None-clause-reached c =
    let v = c.args.heaps.now in
    made-keeps_reached v c.new_reflector.new.self (c.new_reflector.ensures.kept.order c.requires.order.0 c.requires.order.1) (the_number v c.args.key.0) (lacks c) c.new_reflector.result
    c.new_reflector.ensures.heap c.new_reflector.ensures.same

pub returns-in-None-clause-marking : goal.returns-in-None-clause-marking
returns-in-None-clause-marking c listed =
    let v = c.args.heaps.now in
    let k = the_number v c.args.key.0 in
    on_ok_of c.new_reflector.result
    (c.new_reflector.ensures.marks.by_names listed ∙ exposed-absent v c.requires.order.1.named v.heap (reflector k) (has_reflector-none v.heap k (lacks c)))
  where
    on_ok_of : {T E P : Type 0} (r : Result T E) → P → OnOk r P
    on_ok_of (Ok x) p = p
    on_ok_of (Err e) p = tt
