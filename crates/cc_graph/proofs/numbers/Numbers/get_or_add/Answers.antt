use Rattle.std.proofs.Common.{Some}
use Rattle.cc_pages.proofs.Places.{value-then}
use Rattle.cc_graph.proofs.NodesByName.{native-changed}
use Rattle.cc_graph.proofs.numbers.Numbers.get_or_add.Goals as goal

pub returns-in-Native-clause-added : goal.returns-in-Native-clause-added
returns-in-Native-clause-added c = rw c.in-Native.is (value-then c.get_or_insert.result c.get_or_insert.ensures.values (λ n given. native-changed c.args.self.now c.get_or_insert.new.self c.in-Native.k (Some n) given))
