use Rattle.std.proofs.Common.{sym, ◌∙◌}
use Rattle.cc_builder.proofs.HeldObjects.{object-noted}
use Rattle.cc_builder.proofs.build.traversing.is_noted.Goals as goal

pub returns-in-Script : goal.returns-in-Script
returns-in-Script c =
    c.eq.ensures
    ∙ sym (object-noted c.args.heaps.now c.scripts.result.now c.args.object c.in-Script.key c.colour.result c.requires.order c.requires.there c.in-Script.is c.scripts.ensures c.colour.ensures)
