use Rattle.std.proofs.Common.{None, arith, []}
use Rattle.cc_host.proofs.MarkedCalls.{held-marking}
use Rattle.cc_host.proofs.Placed.{beyond-change, emptied-change, held-none_came, held-writes}
use Rattle.cc_host.proofs.Spare.{root-held}
use Rattle.cc_host.proofs.LastingSteps.{held-stays, stays-ended}
use Rattle.cc_host.proofs.Usable.{stays-usable}
use Rattle.cc_host.proofs.changes.placing.unplace_native.Goals as goal
use Rattle.cc_host.proofs.SpotsKeyed.{held-only}

pub returns-then-r-native_reg_count-clause-change :
    goal.returns-then-r-native_reg_count-clause-change
returns-then-r-native_reg_count-clause-change g c =
    let e = c.set_native_reg.ensures in
    emptied-change c.args.heaps.now c.set_native_reg.new.self c.args.r c.requires.ready c.requires.behind e.heap e.kept e.stands

pub returns-then-r-native_reg_count-clause-marking :
    goal.returns-then-r-native_reg_count-clause-marking
returns-then-r-native_reg_count-clause-marking g c =
    let e = c.set_native_reg.ensures in
    held-marking c.args.heaps.now c.set_native_reg.new.self c.args.r None e.heap e.marks

pub returns-then-r-native_reg_count-clause-empty :
    goal.returns-then-r-native_reg_count-clause-empty
returns-then-r-native_reg_count-clause-empty g c =
    root-held c.args.heaps.now c.set_native_reg.new.self c.args.r None (omega arith) c.set_native_reg.ensures.heap

pub returns-then-r-native_reg_count-clause-writes :
    goal.returns-then-r-native_reg_count-clause-writes
returns-then-r-native_reg_count-clause-writes g c = held-writes c.args.heaps.now c.set_native_reg.new.self c.args.r None c.set_native_reg.ensures.heap

pub returns-then-r-native_reg_count-clause-none_came :
    goal.returns-then-r-native_reg_count-clause-none_came
returns-then-r-native_reg_count-clause-none_came g c = held-none_came c.args.heaps.now c.set_native_reg.new.self c.args.r None c.set_native_reg.ensures.heap

pub returns-else-r-native_reg_count-clause-change :
    goal.returns-else-r-native_reg_count-clause-change
returns-else-r-native_reg_count-clause-change g c = beyond-change c.args.heaps.now c.args.r c.requires.ready (omega arith)

pub returns-then-r-native_reg_count-clause-only :
    goal.returns-then-r-native_reg_count-clause-only
returns-then-r-native_reg_count-clause-only g c =
    let e = c.set_native_reg.ensures in
    held-only c.args.heaps.now c.set_native_reg.new.self c.args.r None e.heap (e.kept.order [] c.requires.ready.order).sound.well_formed

pub returns-then-r-native_reg_count-clause-ended :
    goal.returns-then-r-native_reg_count-clause-ended
returns-then-r-native_reg_count-clause-ended g c =
    let v = c.args.heaps.now in
    let w = c.set_native_reg.new.self in
    stays-ended v w c.requires.ready.order (held-stays v w c.args.r None c.set_native_reg.ensures.heap)

pub returns-then-r-native_reg_count-clause-usable :
    goal.returns-then-r-native_reg_count-clause-usable
returns-then-r-native_reg_count-clause-usable g c =
    let v = c.args.heaps.now in
    let w = c.set_native_reg.new.self in
    stays-usable v w c.requires.ready.order (held-stays v w c.args.r None c.set_native_reg.ensures.heap)
