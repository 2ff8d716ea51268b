use Rattle.std.proofs.Common.{[], arith}
use Rattle.cc_heaps.proofs.FewCounts.{none-owned}
use Rattle.cc_tests_heaps.proofs.mark_steps.frees.Goals as goal

pub new_plain-requires-clause-within : goal.new_plain-requires-clause-within
new_plain-requires-clause-within c = omega (arith, (c.new_native.ensures.kept.order [] c.requires.order).sound.well_formed.registers.1.enough)

pub new_plain-requires-clause-order : goal.new_plain-requires-clause-order
new_plain-requires-clause-order c = ([], c.new_native.ensures.kept.order [] c.requires.order)

pub store_native-requires-clause-order : goal.store_native-requires-clause-order
store_native-requires-clause-order c = none-owned c.new_plain.new.self (c.new_plain.ensures.kept.order [] (c.new_native.ensures.kept.order [] c.requires.order))

pub new_plain-requires-2-clause-within : goal.new_plain-requires-2-clause-within
new_plain-requires-2-clause-within c =
    let before = c.store_native.ensures.kept.order [] (c.new_plain.ensures.kept.order [] (c.new_native.ensures.kept.order [] c.requires.order)) in
    omega (arith, before.sound.well_formed.registers.1.enough)

pub new_plain-requires-2-clause-order : goal.new_plain-requires-2-clause-order
new_plain-requires-2-clause-order c =
    let before = c.store_native.ensures.kept.order [] (c.new_plain.ensures.kept.order [] (c.new_native.ensures.kept.order [] c.requires.order)) in
    ([], before)

pub new_plain-requires-3-clause-within : goal.new_plain-requires-3-clause-within
new_plain-requires-3-clause-within c =
    let before = c.store_native.ensures.kept.order [] (c.new_plain.ensures.kept.order [] (c.new_native.ensures.kept.order [] c.requires.order)) in
    omega (arith, (c.new_plain-2.ensures.kept.order [] before).sound.well_formed.registers.1.enough)

pub new_plain-requires-3-clause-order : goal.new_plain-requires-3-clause-order
new_plain-requires-3-clause-order c =
    let before = c.store_native.ensures.kept.order [] (c.new_plain.ensures.kept.order [] (c.new_native.ensures.kept.order [] c.requires.order)) in
    ([], c.new_plain-2.ensures.kept.order [] before)

pub mark_to_the_end-requires-clause-order : goal.mark_to_the_end-requires-clause-order
mark_to_the_end-requires-clause-order c =
    let before = c.store_native.ensures.kept.order [] (c.new_plain.ensures.kept.order [] (c.new_native.ensures.kept.order [] c.requires.order)) in
    c.new_plain-3.ensures.kept.order [] (c.new_plain-2.ensures.kept.order [] before)

pub mark_to_the_end-requires-2-clause-order : goal.mark_to_the_end-requires-2-clause-order
mark_to_the_end-requires-2-clause-order c = c.set_script_reg.ensures.kept.order [] c.mark_to_the_end.ensures.order
