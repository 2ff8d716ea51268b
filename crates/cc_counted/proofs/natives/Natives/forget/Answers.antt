use Rattle.cc_purple.specs.Marks.{without_key}
use Rattle.cc_counted.specs.Natives.{lists_of}
use Rattle.cc_counted.proofs.Threading.{stored-buffer}
use Rattle.cc_counted.proofs.natives.Natives.forget.Goals as goal

pub invariant_of-self : goal.invariant_of-self
invariant_of-self c = (stored-buffer c.self.inside c.self.invariant _ c.self.view_is c.forget.new.store _ (without_key c.args.key.0) c.forget.ensures.beside (c.forget.ensures.marks (lists_of c.self.inside).marks c.self.invariant.chained.buffer)).1

pub returns : goal.returns
returns c = (stored-buffer c.self.inside c.self.invariant _ c.self.view_is c.forget.new.store _ (without_key c.args.key.0) c.forget.ensures.beside (c.forget.ensures.marks (lists_of c.self.inside).marks c.self.invariant.chained.buffer)).0
