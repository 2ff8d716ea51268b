use Rattle.std.proofs.Common.{◌∙◌, ap, length}
use Rattle.cc_counted.specs.Counts.{Counts, slots_of}
use Rattle.cc_mutator.proofs.NativesRead.{slots-as_many}
use Rattle.cc_mutator.proofs.reads.native_slots.Goals as goal

pub returns-in-Some : goal.returns-in-Some
returns-in-Some c =
    c.slots.ensures
    ∙ (ap (λ (d : Counts). length (slots_of d c.in-Some.key.0)) c.counted.ensures
    ∙ slots-as_many c.requires.0 c.args.heaps.now c.requires.1 c.args.r c.in-Some.key c.in-Some.ensures.name c.in-Some.ensures.there)
