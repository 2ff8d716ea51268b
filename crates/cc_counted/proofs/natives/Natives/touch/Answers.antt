use Rattle.std.proofs.Common.{false}
use Rattle.cc_purple.specs.Marks.{with_mark}
use Rattle.cc_counted.specs.Natives.{lists_of}
use Rattle.cc_counted.proofs.Threading.{stored-buffer}
use Rattle.cc_counted.proofs.natives.Natives.touch.Goals as goal

pub invariant_of-self : goal.invariant_of-self
invariant_of-self c = (stored-buffer c.self.inside c.self.invariant _ c.self.view_is c.touch.new.store _ (with_mark false c.args.key.0) c.touch.ensures.beside (c.touch.ensures.marks (lists_of c.self.inside).marks c.self.invariant.chained.buffer)).1

pub returns : goal.returns
returns c = (stored-buffer c.self.inside c.self.invariant _ c.self.view_is c.touch.new.store _ (with_mark false c.args.key.0) c.touch.ensures.beside (c.touch.ensures.marks (lists_of c.self.inside).marks c.self.invariant.chained.buffer)).0
