use Rattle.std.proofs.Common.{◌∙◌, ap, length, List}
use Rattle.cc_script.specs.Objects.{Object, slots_at}
use Rattle.cc_mutator.proofs.ScriptsRead.{script_slots-as_many}
use Rattle.cc_mutator.proofs.reads.script_slots.Goals as goal

pub returns-in-Some : goal.returns-in-Some
returns-in-Some c =
    c.slots.ensures
    ∙ (ap (λ (os : List Object). length (slots_at os c.in-Some.key.0)) c.scripts.ensures
    ∙ script_slots-as_many c.requires.0 c.args.heaps.now c.requires.1 c.args.r c.in-Some.key c.in-Some.ensures.name c.in-Some.ensures.there)
