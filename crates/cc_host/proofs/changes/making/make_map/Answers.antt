use Rattle.std.proofs.Common.{rules, ◌+◌, Some, None, sym, ◌∙◌, ap, subst, arith, []}
use Rattle.cc_names.specs.declared.register.Reg.TheVariants.{N}
use Rattle.cc_model.specs.Heap.{Heap, register}
use Rattle.cc_host.specs.Hosted.{spare}
use Rattle.cc_host.specs.Missing.{KeepsDoomed}
use Rattle.cc_host.proofs.KeptDoomed.{make_map-doomed}
use Rattle.cc_lists.specs.Members.{Among}
use Rattle.cc_names.specs.Names.{object}
use Rattle.cc_names.specs.declared.kind.Kind.TheVariants.{Map}
use Rattle.cc_model.specs.WellFormed.{names_there}
use Rattle.cc_heaps.specs.Changes.{script_name}
use Rattle.cc_host.proofs.Coming.{OneCame-named, left-into, object-came, object-left}
use Rattle.cc_host.proofs.MarkedCalls.{made_object-marking}
use Rattle.cc_laws_told.proofs.Face.{ended-as}
use Rattle.cc_host.proofs.LastingSteps.{object-ended}
use Rattle.cc_host.proofs.Usable.{object-usable, usable-as}
use Rattle.cc_host.proofs.changes.making.make_map.Goals as goal
use Rattle.cc_host.proofs.SpotsKeyed.{made_object-only}
use Rattle.cc_host.proofs.MadeKinds.{made-kind}

pub new_map-requires-clause-within : goal.new_map-requires-clause-within
new_map-requires-clause-within c = omega (arith, c.requires.within, c.requires.ready.order.sound.well_formed.registers.1.enough)

pub returns-clause-change : goal.returns-clause-change
returns-clause-change c =
    let h = c.args.heaps.now.heap in
    let e = c.in_ok-new_map.ensures in
    record {
      kept = e.kept;
      spared = ap (λ (k : Heap). register k (N spare)) e.heap ∙ c.requires.ready.spared;
      stands = λ d. e.stands;
      doomed = λ d. subst (KeepsDoomed h) (sym e.heap) (make_map-doomed h c.requires.ready.order.sound.well_formed c.args.r);
    }

pub returns-clause-came : goal.returns-clause-came
returns-clause-came c =
    let h = c.args.heaps.now.heap in
    let w = c.new_map.new.self in
    OneCame-named h w.heap (object (h.scripts_made + 1)) (script_name w (Some c.in-Some.key)) (search rules)
    (λ y m. object-came h c.args.r Map 0 None y (subst (λ (k : Heap). Among y (names_there k)) c.in_ok-new_map.ensures.heap m))

pub returns-clause-marking : goal.returns-clause-marking
returns-clause-marking c =
    let e = c.in_ok-new_map.ensures in
    made_object-marking c.args.heaps.now c.new_map.new.self c.args.r Map 0 c.requires.ready.order.sound.well_formed e.heap c.new_map.ensures.marks

pub returns-clause-none_left : goal.returns-clause-none_left
returns-clause-none_left c =
    let h = c.args.heaps.now.heap in
    left-into h _ c.new_map.new.self.heap c.in_ok-new_map.ensures.heap (object-left h c.args.r Map 0 None)

pub returns-clause-writes : goal.returns-clause-writes
returns-clause-writes c =
    let e = c.in_ok-new_map.ensures in
    made_object-only c.args.heaps.now.heap c.new_map.new.self.heap c.args.r Map 0 e.heap (e.kept.order [] c.requires.ready.order).sound.well_formed

pub returns-clause-ended : goal.returns-clause-ended
returns-clause-ended c =
    let h = c.args.heaps.now.heap in
    ended-as h _ c.new_map.new.self.heap c.in_ok-new_map.ensures.heap (object-ended h c.args.r _ 0 None)

pub returns-clause-kind : goal.returns-clause-kind
returns-clause-kind c =
    let e = c.in_ok-new_map.ensures in
    made-kind c.new_map.new.self (e.kept.order [] c.requires.ready.order) c.args.heaps.now.heap c.args.r Map 0 None e.heap c.in-Some.key.0 (search rules)

pub returns-clause-usable : goal.returns-clause-usable
returns-clause-usable c =
    let h = c.args.heaps.now.heap in
    usable-as h _ c.new_map.new.self.heap c.in_ok-new_map.ensures.heap (object-usable h c.args.r _ 0 None)
