use Rattle.std.proofs.Common.{subst, sym, arith}
use Rattle.cc_names.specs.declared.kind.Colour.TheVariants.{Gray, Black}
use Rattle.cc_script.specs.ColourOrder.{HasColourOrder}
use Rattle.cc_script.specs.Objects.{AreWhole}
use Rattle.cc_marking.specs.Levels.{has_at_least}
use Rattle.cc_marking.specs.Marking.{AreEntriesThere}
use Rattle.cc_marking.proofs.CarriedOn.{blacked-entries, blacked-order, blacked-whole, colours-by_steps}
use Rattle.cc_marking.proofs.LeastColours.{marked-least}
use Rattle.cc_marking.proofs.Looked.{sides-all, sides-less}
use Rattle.cc_marking.proofs.Steps.{black-gray}
use Rattle.cc_marking.proofs.marking.mark_on.Goals as goal

pub carry_on-requires-2-clause-entries : goal.carry_on-requires-2-clause-entries
carry_on-requires-2-clause-entries g c = subst (λ os. AreEntriesThere os c.args.weak.now) (sym c.carry_on.ensures.carried) (blacked-entries c.args.weak.now c.args.scripts.now c.requires.whole c.requires.entries)

pub carry_on-requires-2-clause-whole : goal.carry_on-requires-2-clause-whole
carry_on-requires-2-clause-whole g c = subst AreWhole (sym c.carry_on.ensures.carried) (blacked-whole c.args.weak.now c.args.scripts.now c.requires.whole c.requires.entries)

pub carry_on-requires-2-clause-ordered : goal.carry_on-requires-2-clause-ordered
carry_on-requires-2-clause-ordered g c = subst HasColourOrder (sym c.carry_on.ensures.carried) (blacked-order c.args.weak.now c.args.scripts.now c.requires.whole c.requires.entries c.requires.ordered)

pub returns-clause-colours : goal.returns-clause-colours
returns-clause-colours g c = search (colours-by_steps)

pub returns-clause-least : goal.returns-clause-least
returns-clause-least g c = search (marked-least, returns-clause-colours)

-- each entry twice, and a step for each side at most
pub returns-clause-steps : goal.returns-clause-steps
returns-clause-steps g c =
    let first = c.carry_on.ensures.steps in
    let second = c.carry_on-2.ensures.steps in
    let between = sides-less (has_at_least Black c.carry_on.new.scripts) (has_at_least Gray c.carry_on.new.scripts) c.args.weak.now (black-gray c.carry_on.new.scripts) in
    let all = sides-all (has_at_least Black c.args.scripts.now) c.args.weak.now in
    omega (arith, first, second, between, all)
