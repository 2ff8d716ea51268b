use Rattle.std.proofs.Common.{ap, ◌∙◌}
use Rattle.cc_counted.specs.Counts.{number_at}
use Rattle.cc_mutator.proofs.WeakRead.{native-held}
use Rattle.cc_mutator.proofs.weak.note_native.Goals as goal

pub returns-clause-keys : goal.returns-clause-keys
returns-clause-keys c = c.set.ensures.keys c.args.heaps.now c.requires.keys
    (native-held c.args.heaps.now c.requires.order.1 c.in-Some.key c.in-Some-number.number c.number.result c.in-Some-number.is
    (c.number.ensures ∙ ap (λ d. number_at d c.in-Some.key.0) c.counted.ensures))
