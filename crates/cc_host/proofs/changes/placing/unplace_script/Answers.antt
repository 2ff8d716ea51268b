use Rattle.std.proofs.Common.{None, sym, subst, arith, []}
use Rattle.cc_host.specs.Missing.{KeepsDoomed}
use Rattle.cc_host.specs.Writing.{WritesScript}
use Rattle.cc_host.proofs.KeptDoomed.{hold_script-doomed}
use Rattle.cc_host.proofs.MarkedCalls.{held_script-marking}
use Rattle.cc_host.proofs.Placed.{beyond_scripts-change, held_script-writes}
use Rattle.cc_host.proofs.ScriptSteps.{StaysBeside, beside-none_came, beside-none_left, beside-spared, hold_script-beside}
use Rattle.cc_host.proofs.LastingSteps.{hold_script-stays, stays-as, stays-ended}
use Rattle.cc_host.proofs.Usable.{stays-usable}
use Rattle.cc_host.proofs.changes.placing.unplace_script.Goals as goal
use Rattle.cc_host.proofs.changes.placing.unplace_script.Goals.{After-set_script_reg}
use Rattle.cc_host.proofs.SpotsKeyed.{script_held-only}

beside : (c : After-set_script_reg) → StaysBeside c.args.heaps.now.heap c.set_script_reg.new.self.heap
beside c =
    let v = c.args.heaps.now in
    subst (StaysBeside v.heap) (sym c.set_script_reg.ensures.heap) (hold_script-beside v.heap c.requires.ready.order.sound.well_formed c.args.r None)

pub returns-then-r-script_reg_count-clause-change :
    goal.returns-then-r-script_reg_count-clause-change
returns-then-r-script_reg_count-clause-change c =
    let v = c.args.heaps.now in
    let e = c.set_script_reg.ensures in
    record {
      kept = e.kept;
      spared = beside-spared v c.set_script_reg.new.self (beside c) c.requires.ready.spared;
      stands = e.stands;
      doomed = λ p. subst (KeepsDoomed v.heap) (sym e.heap) (hold_script-doomed v.heap c.args.r None p);
    }

pub returns-then-r-script_reg_count-clause-marking :
    goal.returns-then-r-script_reg_count-clause-marking
returns-then-r-script_reg_count-clause-marking c =
    let e = c.set_script_reg.ensures in
    held_script-marking c.args.heaps.now c.set_script_reg.new.self None e.marking e.kept.marks c.requires.ready.order.sound.well_formed c.args.r e.heap

pub returns-then-r-script_reg_count-clause-writes :
    goal.returns-then-r-script_reg_count-clause-writes
returns-then-r-script_reg_count-clause-writes c =
    let v = c.args.heaps.now in
    subst (WritesScript c.args.r v.heap) (sym c.set_script_reg.ensures.heap) (held_script-writes v.heap c.args.r None)

pub returns-then-r-script_reg_count-clause-none_left :
    goal.returns-then-r-script_reg_count-clause-none_left
returns-then-r-script_reg_count-clause-none_left c = beside-none_left c.args.heaps.now c.set_script_reg.new.self (beside c)

pub returns-then-r-script_reg_count-clause-none_came :
    goal.returns-then-r-script_reg_count-clause-none_came
returns-then-r-script_reg_count-clause-none_came c = beside-none_came c.args.heaps.now c.set_script_reg.new.self (beside c)

pub returns-else-r-script_reg_count-clause-change :
    goal.returns-else-r-script_reg_count-clause-change
returns-else-r-script_reg_count-clause-change c = beyond_scripts-change c.args.heaps.now c.args.r c.requires.ready (omega arith)

pub returns-then-r-script_reg_count-clause-only :
    goal.returns-then-r-script_reg_count-clause-only
returns-then-r-script_reg_count-clause-only c =
    let v = c.args.heaps.now in
    let e = c.set_script_reg.ensures in
    script_held-only v.heap c.set_script_reg.new.self.heap c.args.r None e.heap (e.kept.order [] c.requires.ready.order).sound.well_formed

pub returns-then-r-script_reg_count-clause-ended :
    goal.returns-then-r-script_reg_count-clause-ended
returns-then-r-script_reg_count-clause-ended c =
    let v = c.args.heaps.now in
    let w = c.set_script_reg.new.self in
    stays-ended v w c.requires.ready.order (stays-as v.heap _ w.heap c.set_script_reg.ensures.heap (hold_script-stays v.heap c.args.r None))

pub returns-then-r-script_reg_count-clause-usable :
    goal.returns-then-r-script_reg_count-clause-usable
returns-then-r-script_reg_count-clause-usable c =
    let v = c.args.heaps.now in
    let w = c.set_script_reg.new.self in
    stays-usable v w c.requires.ready.order (stays-as v.heap _ w.heap c.set_script_reg.ensures.heap (hold_script-stays v.heap c.args.r None))
