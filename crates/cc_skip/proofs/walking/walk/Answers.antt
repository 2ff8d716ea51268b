use Rattle.std.proofs.Common.{Some, ◌∙◌, arith}
use Rattle.cc_skip.proofs.States.{there-rest}
use Rattle.cc_skip.proofs.Taking.{taken-all, taken-count, taking-fewer, taking-fits, taking-next, taking-none}
use Rattle.cc_skip.proofs.Walks.{entered-both, next-rest}
use Rattle.cc_skip.proofs.walking.walk.Goals as goal

pub walk-init : goal.walk-init
walk-init c =
    let v = c.args.heaps.now in
    taking-none v c.enter_scripts.new.heaps c.requires.empty (entered-both v c.enter_natives.new.heaps c.enter_scripts.new.heaps c.enter_natives.ensures c.enter_scripts.ensures)

pub enter_places-requires-clause-order : goal.enter_places-requires-clause-order
enter_places-requires-clause-order c =
    let f = c.requires.order in
    (f.0, c.walk_next.ensures.kept.order f.0 (c.walk.invariant.kept.order f.0 f.1))

pub enter_places-requires-clause-there : goal.enter_places-requires-clause-there
enter_places-requires-clause-there c =
    there-rest c.walk.heaps c.walk_next.new.self (next-rest c.walk.heaps c.walk_next.new.self c.in-Some.object c.in-Some.ensures.next) (Some c.in-Some.object) c.in-Some.ensures.next.2

-- the heaps between
pub unmark-forgotten-requires-clause-order : goal.unmark-forgotten-requires-clause-order
unmark-forgotten-requires-clause-order c =
    let f = c.requires.order in
    (f.0, c.enter_places.ensures.kept.order f.0 (c.walk_next.ensures.kept.order f.0 (c.walk.invariant.kept.order f.0 f.1)))

pub unmark-forgotten-requires-clause-there : goal.unmark-forgotten-requires-clause-there
unmark-forgotten-requires-clause-there c =
    let g = c.in-Some.ensures.next in
    there-rest c.walk.heaps c.enter_places.new.heaps (c.enter_places.ensures.rest ∙ next-rest c.walk.heaps c.walk_next.new.self c.in-Some.object g) (Some c.in-Some.object) g.2

-- the marks that are taken fit their type
pub overflow_add-forgotten : goal.overflow_add-forgotten
overflow_add-forgotten c =
    let f = c.requires.order in
    let few = taking-fits c.args.heaps.now c.walk.heaps c.walk_next.new.self c.enter_places.new.heaps c.unmark-forgotten.new.heaps f.0 f.1 c.walk.forgotten c.walk.invariant c.in-Some.object
    c.in-Some.ensures.next c.enter_places.ensures c.unmark-forgotten.ensures.heap c.unmark-forgotten.result c.unmark-forgotten.ensures.count in
    omega (arith, few)

pub walk-smaller : goal.walk-smaller
walk-smaller c =
    let f = c.requires.order in
    taking-fewer c.args.heaps.now c.walk.heaps c.walk_next.new.self c.enter_places.new.heaps c.unmark-forgotten.new.heaps f.0 f.1 c.walk.forgotten c.walk.invariant c.in-Some.object
    c.in-Some.ensures.next c.enter_places.ensures c.unmark-forgotten.ensures.heap

pub walk-preserved : goal.walk-preserved
walk-preserved c =
    let f = c.requires.order in
    taking-next c.args.heaps.now c.walk.heaps c.walk_next.new.self c.enter_places.new.heaps c.unmark-forgotten.new.heaps f.0 f.1 c.walk.forgotten c.walk.invariant c.in-Some.object
    c.in-Some.ensures.next c.enter_places.ensures c.unmark-forgotten.ensures.heap c.unmark-forgotten.result c.unmark-forgotten.ensures.count c.walk_next.ensures.kept c.unmark-forgotten.ensures.kept

pub returns-clause-forgotten : goal.returns-clause-forgotten
returns-clause-forgotten c = taken-all c.args.heaps.now c.walk.heaps c.walk_next.new.self c.walk.forgotten c.walk.invariant c.in_default.ensures.next

pub returns-clause-count : goal.returns-clause-count
returns-clause-count c = taken-count c.args.heaps.now c.walk.heaps c.walk_next.new.self c.walk.forgotten c.walk.invariant c.in_default.ensures.next
