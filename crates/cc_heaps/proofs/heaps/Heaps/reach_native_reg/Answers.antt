use Rattle.std.proofs.Common.{◌+◌, ◌≤◌, arith}
use Rattle.cc_names.specs.Sizes.{most_roots}
use Rattle.cc_heaps.proofs.Lengthened.{natives-as_before, natives-linked, natives-longer}
use Rattle.cc_heaps.proofs.heaps.Heaps.reach_native_reg.Goals as goal

pub invariant_of-self : goal.invariant_of-self
invariant_of-self c =
    let few : c.args.place + 1 ≤ most_roots = omega (arith, c.requires) in
    natives-linked c.self.inside (c.args.place + 1) few c.self.invariant c.lengthen_natives.result c.lengthen_natives.new.bank c.lengthen_natives.ensures.items

pub returns-clause-heap : goal.returns-clause-heap
returns-clause-heap c = rw (← c.self.view_is) (natives-longer c.self.inside (c.args.place + 1) c.lengthen_natives.result c.lengthen_natives.new.bank c.lengthen_natives.ensures.items)

pub returns-clause-same : goal.returns-clause-same
returns-clause-same c = rw (← c.self.view_is) (natives-as_before c.self.inside (c.args.place + 1) c.lengthen_natives.result c.lengthen_natives.new.bank c.lengthen_natives.ensures.items)
