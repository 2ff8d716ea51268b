use Rattle.std.proofs.Common.{◌<◌, length, get_or, Option, option_map, Some, None, IsSome, refl, sym, ◌∙◌, ap, subst}
use Rattle.cc_names.specs.Names.{native}
use Rattle.cc_model.specs.Effects.{touched}
use Rattle.cc_model.specs.Heap.{set_slot, with_native_slot}
use Rattle.cc_model.specs.WellFormed.{native_names, script_names}
use Rattle.cc_laws_heap.proofs.Face.{native_names-change}
use Rattle.cc_heaps.specs.Keyed.{Keyed, the_number}
use Rattle.cc_heaps.specs.Changes.{held_name}
use Rattle.cc_heaps.proofs.Following.{within-named}
use Rattle.cc_heaps.proofs.Kept.{KeepsKeys-on}
use Rattle.cc_heaps.proofs.Moving.{number-same, slot-named, slots-touched}
use Rattle.cc_heaps.proofs.MarksKept.{marks-changed, marks-then}
use Rattle.cc_heaps.specs.NewMarks.{marks_of}
use Rattle.cc_names.specs.declared.name.Name.{Name}
use Rattle.cc_model.specs.Marking.{exposed_marks}
use Rattle.cc_heaps.proofs.heaps.Heaps.take_out.Goals as goal

pub touch_content-requires-clause-there : goal.touch_content-requires-clause-there
touch_content-requires-clause-there c =
    let v = c.args.self.now in
    (slot-named c.requires.order.0 v c.requires.order.1 _ c.counted.ensures c.args.key.0 c.args.j c.slot-content.result c.requires.within c.slot-content.ensures.name c.slot-content.ensures.live).there

pub replace_slot-requires-clause-order : goal.replace_slot-requires-clause-order
replace_slot-requires-clause-order c = let f = c.requires.order in (f.0, c.touch_content.ensures.order f.0 f.1)

pub replace_slot-requires-clause-live : goal.replace_slot-requires-clause-live
replace_slot-requires-clause-live c = subst (λ ks. IsSome (get_or ks c.args.key.0 None)) (sym c.touch_content.ensures.natives) c.requires.live

pub replace_slot-requires-clause-within : goal.replace_slot-requires-clause-within
replace_slot-requires-clause-within c =
    let v = c.args.self.now in
    subst (λ ss. c.args.j < length ss) (sym (slots-touched v c.touch_content.new.self c.args.key.0 _ c.touch_content.ensures.natives c.touch_content.ensures.heap))
    (within-named v c.args.key.0 c.args.j c.requires.within)

pub returns-clause-heap : goal.returns-clause-heap
returns-clause-heap c =
    let v = c.args.self.now in
    let e = c.touch_content.ensures in
    let content = slot-named c.requires.order.0 v c.requires.order.1 _ c.counted.ensures c.args.key.0 c.args.j c.slot-content.result c.requires.within c.slot-content.ensures.name c.slot-content.ensures.live in
    ap (λ (u : Keyed). u.heap) c.replace_slot.ensures.heap
    ∙ (λ l. set_slot ((e.heap ∙ ap (touched v.heap) content.name) l) (Some (native (number-same v c.touch_content.new.self c.args.key.0 e.natives l))) c.args.j None)

pub returns-clause-natives : goal.returns-clause-natives
returns-clause-natives c = ap (λ (u : Keyed). u.keys) c.replace_slot.ensures.heap ∙ c.touch_content.ensures.natives

pub returns-clause-keys : goal.returns-clause-keys
returns-clause-keys c =
    let mid = c.touch_content.new.self in
    let put = c.replace_slot.ensures.heap in
    KeepsKeys-on c.args.self.now mid c.replace_slot.new.self c.touch_content.ensures.keys (ap (λ (u : Keyed). u.keys) put) (ap (λ (u : Keyed). u.scripts) put)
    (ap (λ (u : Keyed). native_names u.heap) put ∙ native_names-change mid.heap (the_number mid c.args.key.0) (with_native_slot c.args.j None) (λ n. refl))
    (ap (λ (u : Keyed). script_names u.heap) put)

pub returns-clause-name : goal.returns-clause-name
returns-clause-name c =
    let e = c.touch_content.ensures in
    ap (λ (u : Keyed). held_name u c.replace_slot.result) c.replace_slot.ensures.heap
    ∙ (c.replace_slot.ensures.held
    ∙ ap (λ ss. get_or ss c.args.j None) (slots-touched c.args.self.now c.touch_content.new.self c.args.key.0 _ e.natives e.heap))

pub returns-clause-order : goal.returns-clause-order
returns-clause-order c owned o = c.replace_slot.ensures.order owned (c.touch_content.ensures.order owned o)

pub returns-clause-marks : goal.returns-clause-marks
returns-clause-marks c = marks-then c.touch_content.ensures.marks (marks-changed c.touch_content.new.self c.replace_slot.new.self _ c.replace_slot.ensures.heap)

pub returns-clause-marking : goal.returns-clause-marking
returns-clause-marking c =
    let v = c.args.self.now in
    let content = slot-named c.requires.order.0 v c.requires.order.1 _ c.counted.ensures c.args.key.0 c.args.j c.slot-content.result c.requires.within c.slot-content.ensures.name c.slot-content.ensures.live in
    ap marks_of c.replace_slot.ensures.heap
    ∙ (c.touch_content.ensures.marking
    ∙ ap (λ (x : Option Name). option_map (exposed_marks v.heap x) (marks_of v)) content.name)
