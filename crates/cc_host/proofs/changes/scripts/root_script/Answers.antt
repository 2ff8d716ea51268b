use Rattle.std.proofs.Common.{[], sym, subst, arith}
use Rattle.cc_heaps.specs.Changes.{script_name}
use Rattle.cc_host.specs.Missing.{KeepsDoomed}
use Rattle.cc_host.proofs.KeptDoomed.{hold_script-doomed}
use Rattle.cc_host.proofs.ScriptSteps.{StaysBeside, beside-none_came, beside-none_left, beside-spared, hold_script-beside}
use Rattle.cc_host.proofs.MarkedCalls.{held_script-marking}
use Rattle.cc_host.proofs.PlacesKept.{hold_script-places, places-as}
use Rattle.cc_host.proofs.LastingSteps.{hold_script-stays, stays-as, stays-ended}
use Rattle.cc_host.proofs.Usable.{stays-usable}
use Rattle.cc_host.proofs.changes.scripts.root_script.Goals as goal
use Rattle.cc_host.proofs.SpotsKeyed.{script_held-only, script_held-written}

pub set_script_reg-requires-clause-within : goal.set_script_reg-requires-clause-within
set_script_reg-requires-clause-within c = omega (arith, c.requires.within, c.requires.ready.order.sound.well_formed.registers.1.enough)

pub set_script_reg-requires-clause-order : goal.set_script_reg-requires-clause-order
set_script_reg-requires-clause-order c = ([], c.requires.ready.order)

beside : (c : goal.After-set_script_reg) → StaysBeside c.args.heaps.now.heap c.set_script_reg.new.self.heap
beside c =
    let v = c.args.heaps.now in
    subst (StaysBeside v.heap) (sym c.set_script_reg.ensures.heap) (hold_script-beside v.heap c.requires.ready.order.sound.well_formed c.args.r (script_name v c.args.content))

pub returns-clause-change : goal.returns-clause-change
returns-clause-change c =
    let v = c.args.heaps.now in
    let e = c.set_script_reg.ensures in
    record { kept = e.kept; spared = beside-spared c.args.heaps.now c.set_script_reg.new.self (beside c) c.requires.ready.spared; stands = e.stands; doomed = λ p. subst (KeepsDoomed v.heap) (sym e.heap) (hold_script-doomed v.heap c.args.r (script_name v c.args.content) p) }

pub returns-clause-none_left : goal.returns-clause-none_left
returns-clause-none_left c = beside-none_left c.args.heaps.now c.set_script_reg.new.self (beside c)

pub returns-clause-none_came : goal.returns-clause-none_came
returns-clause-none_came c = beside-none_came c.args.heaps.now c.set_script_reg.new.self (beside c)

pub returns-clause-marking : goal.returns-clause-marking
returns-clause-marking c =
    let v = c.args.heaps.now in
    let e = c.set_script_reg.ensures in
    held_script-marking v c.set_script_reg.new.self (script_name v c.args.content) e.marking e.kept.marks c.requires.ready.order.sound.well_formed c.args.r e.heap

pub returns-clause-places : goal.returns-clause-places
returns-clause-places c =
    let v = c.args.heaps.now in
    places-as v.heap _ c.set_script_reg.new.self.heap c.set_script_reg.ensures.heap (hold_script-places v.heap c.args.r (script_name v c.args.content) (omega (arith, c.requires.within)))

pub returns-clause-writes : goal.returns-clause-writes
returns-clause-writes c =
    let v = c.args.heaps.now in
    let e = c.set_script_reg.ensures in
    script_held-only v.heap c.set_script_reg.new.self.heap c.args.r (script_name v c.args.content) e.heap (e.kept.order [] c.requires.ready.order).sound.well_formed

pub returns-clause-written : goal.returns-clause-written
returns-clause-written c =
    let v = c.args.heaps.now in
    script_held-written v.heap c.set_script_reg.new.self.heap c.args.r (script_name v c.args.content)
    (omega (arith, c.requires.within, c.requires.ready.order.sound.well_formed.registers.1.enough)) c.set_script_reg.ensures.heap

pub returns-clause-ended : goal.returns-clause-ended
returns-clause-ended c =
    let v = c.args.heaps.now in
    let w = c.set_script_reg.new.self in
    stays-ended v w c.requires.ready.order (stays-as v.heap _ w.heap c.set_script_reg.ensures.heap (hold_script-stays v.heap c.args.r (script_name v c.args.content)))

pub returns-clause-usable : goal.returns-clause-usable
returns-clause-usable c =
    let v = c.args.heaps.now in
    let w = c.set_script_reg.new.self in
    stays-usable v w c.requires.ready.order (stays-as v.heap _ w.heap c.set_script_reg.ensures.heap (hold_script-stays v.heap c.args.r (script_name v c.args.content)))
