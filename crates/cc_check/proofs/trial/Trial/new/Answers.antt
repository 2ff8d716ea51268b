use Rattle.std.proofs.Common.{[], refl, sym, subst}
use Rattle.cc_model.specs.Graph.{empty_graph}
use Rattle.cc_verdict.specs.GoingOn.{CanGoOn}
use Rattle.cc_verdict.specs.Positions.{Position}
use Rattle.cc_check.specs.declared.row.Row.TheVariants.{NothingYet}
use Rattle.cc_check.specs.Standing.{asks_left}
use Rattle.cc_check.proofs.Ahead.{row-can}
use Rattle.cc_check.proofs.Trials.{tried-new}
use Rattle.cc_check.proofs.trial.Trial.new.Goals as goal

pub returns-clause-tried : goal.returns-clause-tried
returns-clause-tried c = tried-new c.args.limits c.args.script.now _ refl refl refl refl c.in_ok-new.ensures.start c.new-2.ensures.asks c.new-2.ensures.asked c.in_ok-new.ensures.unread
    (c.all_that_is_reached_is_listed.ensures.start c.args.limits) c.other_ends_lead_on.ensures c.transcripts_part_line_by_line.ensures.so_far

pub returns-clause-ready : goal.returns-clause-ready
returns-clause-ready c = λ is. (
  c.in_ok-new.ensures.kept,
  subst (λ (p : Position). CanGoOn p (asks_left c.new-2.result)) (sym c.in_ok-new.ensures.start)
      (row-can (empty_graph c.args.limits) [] [] NothingYet (asks_left c.new-2.result) (λ e. cc)),
)
