use Rattle.std.proofs.Common.{◌∙◌, subst, sym, arith}
use Rattle.cc_script.specs.Underway.{Underway, marks_of}
use Rattle.cc_marking.specs.Levels.{keys_at_least}
use Rattle.cc_marking.specs.Marking.{AreEntriesThere}
use Rattle.cc_marking.proofs.Begun.{IsBegunFrom, entries-begin, begun-so_far, begun-sides, begun-carried}
use Rattle.cc_marking.proofs.CarriedOn.{AreOrdered-coloured}
use Rattle.cc_marking.proofs.marking.carry_on.Given as given
use Rattle.cc_marking.proofs.marking.carry_on.Goals as goal

pub mark_all_entries-requires-clause-entries : goal.mark_all_entries-requires-clause-entries
mark_all_entries-requires-clause-entries g c = subst (λ (u : Underway). AreEntriesThere u.objects c.args.weak.now) (sym c.start_marking-marking.ensures.marking) c.requires.entries

pub look_into_all-requires-clause-so_far : goal.look_into_all-requires-clause-so_far
look_into_all-requires-clause-so_far g c =
    begun-so_far c.args.to c.args.weak.now c.args.scripts.now (keys_at_least c.args.to c.args.scripts.now) (marks_of c.mark_all_entries.new.marking)
    (entries-begin c.args.to c.args.weak.now c.args.scripts.now c.requires.entries c.start_marking-marking.result c.mark_all_entries.new.marking
    c.start_marking-marking.ensures.marking c.mark_all_entries.ensures.given)
    (AreOrdered-coloured c.args.to c.args.scripts.now c.requires.whole c.start_marking-marking.ensures.own c.requires.ordered)
    c.start_marking-marking.ensures.own c.requires.entries

-- what the entries gave
begun : (g : given.Over) (c : goal.After-end_marking g) →
    IsBegunFrom c.args.to c.args.weak.now c.args.scripts.now (keys_at_least c.args.to c.args.scripts.now) (marks_of c.mark_all_entries.new.marking)
begun g c =
    entries-begin c.args.to c.args.weak.now c.args.scripts.now c.requires.entries c.start_marking-marking.result c.mark_all_entries.new.marking
    c.start_marking-marking.ensures.marking c.mark_all_entries.ensures.given

pub returns-clause-carried : goal.returns-clause-carried
returns-clause-carried g c =
    c.end_marking.ensures ∙ (c.look_into_all.ensures.carried
    ∙ begun-carried c.args.to c.args.weak.now c.args.scripts.now (keys_at_least c.args.to c.args.scripts.now) (marks_of c.mark_all_entries.new.marking) (begun g c))

pub returns-clause-steps : goal.returns-clause-steps
returns-clause-steps g c =
    let sides = begun-sides c.args.to c.args.weak.now c.args.scripts.now (keys_at_least c.args.to c.args.scripts.now) (marks_of c.mark_all_entries.new.marking) (begun g c) in
    let taken = c.look_into_all.ensures.steps in
    let before = c.mark_all_entries.ensures.steps in
    rw c.end_marking.ensures (omega (arith, sides, taken, before))
