use Rattle.std.proofs.Common.{ap, ◌∙◌}
use Rattle.cc_script.specs.Objects.{native_at}
use Rattle.cc_wrappers.proofs.Wrapped.{behind-at}
use Rattle.cc_wrappers.proofs.wrapping.unwrap_of.Goals as goal

pub returns-clause-name : goal.returns-clause-name
returns-clause-name c = (behind-at c.args.heaps.now c.requires.order.1 c.args.key.0 c.native_of.result c.requires.live
    (c.native_of.ensures.native ∙ ap (λ objects. native_at objects c.args.key.0) c.scripts.ensures)).name

pub returns-clause-there : goal.returns-clause-there
returns-clause-there c = (behind-at c.args.heaps.now c.requires.order.1 c.args.key.0 c.native_of.result c.requires.live
    (c.native_of.ensures.native ∙ ap (λ objects. native_at objects c.args.key.0) c.scripts.ensures)).there
