use Rattle.std.proofs.Common.{◌++◌, ◌∙◌, List, ℕ, subst, sym, arith}
use Rattle.cc_script.specs.Objects.{AreWhole}
use Rattle.cc_script.specs.Underway.{Underway, marks_of}
use Rattle.cc_marking.specs.Levels.{keys_at_least}
use Rattle.cc_marking.proofs.Begun.{IsBegunFrom, roots-begin, begun-so_far, begun-sides, begun-carried}
use Rattle.cc_marking.proofs.marking.mark_to.Given as given
use Rattle.cc_marking.proofs.marking.mark_to.Goals as goal

pub start_each-requires-clause-whole : goal.start_each-requires-clause-whole
start_each-requires-clause-whole g c = subst (λ (u : Underway). AreWhole u.objects) (sym c.start_marking-marking.ensures.marking) c.requires.ordered.whole

pub look_into_all-requires-clause-so_far : goal.look_into_all-requires-clause-so_far
look_into_all-requires-clause-so_far g c =
    begun-so_far c.args.to c.args.weak.now c.args.scripts.now _ (marks_of c.start_each.new.marking)
    (roots-begin c.args.to c.args.weak.now c.args.scripts.now (g.R.Roots.left c.args.roots.now) c.requires.followed c.requires.live c.start_marking-marking.result
    c.start_each.new.marking c.start_marking-marking.ensures.marking c.start_each.ensures.started)
    c.requires.ordered c.start_marking-marking.ensures.own c.requires.entries

-- the roots were started
module _ (g : given.Over) (c : goal.After-end_marking g) where
  abbrev from : List ℕ
  from = keys_at_least c.args.to c.args.scripts.now ++ g.R.Roots.left c.args.roots.now

  begun : IsBegunFrom c.args.to c.args.weak.now c.args.scripts.now from (marks_of c.start_each.new.marking)
  begun =
      roots-begin c.args.to c.args.weak.now c.args.scripts.now (g.R.Roots.left c.args.roots.now) c.requires.followed c.requires.live c.start_marking-marking.result
      c.start_each.new.marking c.start_marking-marking.ensures.marking c.start_each.ensures.started

pub returns-clause-raised : goal.returns-clause-raised
returns-clause-raised g c =
    c.end_marking.ensures ∙ (c.look_into_all.ensures.carried
    ∙ begun-carried c.args.to c.args.weak.now c.args.scripts.now (from g c) (marks_of c.start_each.new.marking) (begun g c))

pub returns-clause-steps : goal.returns-clause-steps
returns-clause-steps g c =
    let sides = begun-sides c.args.to c.args.weak.now c.args.scripts.now (from g c) (marks_of c.start_each.new.marking) (begun g c) in
    let taken = c.look_into_all.ensures.steps in
    rw c.end_marking.ensures (omega (arith, sides, taken))
