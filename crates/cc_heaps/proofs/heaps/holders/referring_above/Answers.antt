use Rattle.cc_counted.specs.Counts.{number_at}
use Rattle.std.proofs.Common.{option_and_then}
use Rattle.cc_names.specs.declared.number.NKey.{NKey}
use Rattle.cc_heaps.proofs.NextHolder.{next-referring, next-there, none-referring}
use Rattle.cc_heaps.proofs.heaps.holders.referring_above.Goals as goal

pub returns-in-Some-clause-number : goal.returns-in-Some-clause-number
returns-in-Some-clause-number c =
    next-referring c.args.counted.now c.requires.keyed (option_and_then (λ (k : NKey). number_at c.args.counted.now k.0) c.args.after) c.in-Some.key.0 c.in-Some.ensures.next

pub returns-in-Some-clause-there : goal.returns-in-Some-clause-there
returns-in-Some-clause-there c = next-there c.args.counted.now (option_and_then (λ (k : NKey). number_at c.args.counted.now k.0) c.args.after) c.in-Some.key.0 c.in-Some.ensures.next

pub returns-in-None-clause-number : goal.returns-in-None-clause-number
returns-in-None-clause-number c =
    none-referring c.args.counted.now c.requires.keyed (option_and_then (λ (k : NKey). number_at c.args.counted.now k.0) c.args.after) c.in-None.ensures.last
