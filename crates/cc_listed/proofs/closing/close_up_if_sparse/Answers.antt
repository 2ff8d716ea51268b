use Rattle.std.proofs.Common.{arith}
use Rattle.cc_listed.proofs.Standing.{contents-few}
use Rattle.cc_listed.proofs.closing.close_up_if_sparse.Goals as goal

pub overflow_sub-len : goal.overflow_sub-len
overflow_sub-len c = omega (arith, contents-few c.args.places.now.items, c.requires.names, c.args.places.now.ok.0)

pub overflow_add-names : goal.overflow_add-names
overflow_add-names c = omega (arith, contents-few c.args.places.now.items, c.requires.names, c.args.places.now.ok.0)
