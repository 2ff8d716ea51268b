use Rattle.std.proofs.Common.{◌≡◌, refl, arith}
use Rattle.cc_names.specs.declared.kind.Colour.TheVariants.{Black}
use Rattle.cc_marking.specs.Marking.{marked_from}
use Rattle.cc_marking.proofs.There.{AreThere-stay, AreEntriesThere-stay, StayThere-whitened}
use Rattle.cc_marking.proofs.Steps.{AreFollowed-black, AreFollowed-white, AreOrdered-white, AreOrdered-black, StayThere-black, black-gray, marked-by_steps}
use Rattle.cc_marking.proofs.Looked.{sides-all, sides-less}
use Rattle.cc_marking.proofs.LeastColours.{marked-least}
use Rattle.cc_marking.proofs.marking.mark.Given as given
use Rattle.cc_marking.proofs.marking.mark.Goals as goal

pub mark_to-requires-clause-live : goal.mark_to-requires-clause-live
mark_to-requires-clause-live g c = grind (arith, AreThere-stay, StayThere-whitened, g.B.Roots.left)

pub mark_to-requires-clause-entries : goal.mark_to-requires-clause-entries
mark_to-requires-clause-entries g c = search (AreEntriesThere-stay, StayThere-whitened)

pub mark_to-requires-clause-ordered : goal.mark_to-requires-clause-ordered
mark_to-requires-clause-ordered g c = AreOrdered-white c.args.scripts.now c.clear_marks.new.self c.clear_marks.ensures Black refl c.requires.whole

pub mark_to-requires-2-clause-live : goal.mark_to-requires-2-clause-live
mark_to-requires-2-clause-live g c =
    AreThere-stay c.args.scripts.now c.mark_to.new.scripts
    (StayThere-black c.args.scripts.now c.args.weak.now (g.B.Roots.left c.args.black.now)
    c.clear_marks.new.self c.mark_to.new.scripts c.clear_marks.ensures c.mark_to.ensures.raised)
    (g.G.Roots.left c.args.gray.now) c.requires.gray

pub mark_to-requires-2-clause-entries : goal.mark_to-requires-2-clause-entries
mark_to-requires-2-clause-entries g c = search (AreEntriesThere-stay, StayThere-black)

pub mark_to-requires-2-clause-ordered : goal.mark_to-requires-2-clause-ordered
mark_to-requires-2-clause-ordered g c = search (AreOrdered-black)

marked : (g : given.Over) (c : goal.After-mark_to-2 g) →
    c.mark_to-2.new.scripts ≡ marked_from (g.B.Roots.left c.args.black.now) (g.G.Roots.left c.args.gray.now) c.args.weak.now c.args.scripts.now
marked g c = search (marked-by_steps)

pub returns-clause-colours : goal.returns-clause-colours
returns-clause-colours g c = marked g c

pub returns-clause-least : goal.returns-clause-least
returns-clause-least g c = search (marked-least, marked)

pub mark_to-requires-clause-followed : goal.mark_to-requires-clause-followed
mark_to-requires-clause-followed g c = AreFollowed-white c.args.scripts.now c.clear_marks.new.self c.clear_marks.ensures Black refl c.args.weak.now

pub mark_to-requires-2-clause-followed : goal.mark_to-requires-2-clause-followed
mark_to-requires-2-clause-followed g c = search (AreFollowed-black)

-- a step for each side at most, and two sides for each entry
pub returns-clause-steps : goal.returns-clause-steps
returns-clause-steps g c = grind (arith, sides-all, sides-less, black-gray)
