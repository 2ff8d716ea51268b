use Rattle.std.proofs.Common.{ap, refl}
use Rattle.cc_counted.specs.Lists.{with_one_more}
use Rattle.cc_counted.proofs.Threading.{stored-written, kept-counted}
use Rattle.cc_counted.proofs.natives.Natives.raise.Goals as goal

pub invariant_of-self : goal.invariant_of-self
invariant_of-self c = kept-counted c.self.inside c.self.invariant _ c.self.view_is c.args.key.0 _ c.index_mut.ensures.value with_one_more _ (ap with_one_more c.cell.view_is) c.self.inside.holders refl refl refl refl

pub returns : goal.returns
returns c = stored-written c.self.inside c.self.invariant _ c.self.view_is c.args.key.0 _ c.index_mut.ensures.value with_one_more _ (ap with_one_more c.cell.view_is) c.self.inside.holders
