use Rattle.std.proofs.Common.{drop}
use Rattle.cc_counted.specs.Natives.{lists_of}
use Rattle.cc_counted.proofs.Threading.{stored-buffer}
use Rattle.cc_counted.proofs.natives.Natives.select_next.Goals as goal

pub invariant_of-self : goal.invariant_of-self
invariant_of-self c = (stored-buffer c.self.inside c.self.invariant _ c.self.view_is c.select_next.new.store _ (drop 1) c.select_next.ensures.beside (c.select_next.ensures.marks (lists_of c.self.inside).marks c.self.invariant.chained.buffer)).1

pub returns-clause-lists : goal.returns-clause-lists
returns-clause-lists c = (stored-buffer c.self.inside c.self.invariant _ c.self.view_is c.select_next.new.store _ (drop 1) c.select_next.ensures.beside (c.select_next.ensures.marks (lists_of c.self.inside).marks c.self.invariant.chained.buffer)).0
