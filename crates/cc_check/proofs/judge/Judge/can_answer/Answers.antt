use Rattle.std.proofs.Common.{List, refl, sym, ◌∙◌, subst}
use Rattle.cc_names.specs.declared.name.Name.{Name}
use Rattle.cc_model.specs.declared.command.Command.TheVariants.{Census}
use Rattle.cc_model.specs.Asks.{taken}
use Rattle.cc_model.specs.Lawful.{state_of}
use Rattle.cc_model.specs.Quiet.{CensusIsQuiet}
use Rattle.cc_check.specs.Standing.{asks_left, place_of, row_meant}
use Rattle.cc_check.proofs.Ahead.{census-can, no_census-can}
use Rattle.cc_check.proofs.Judged.{IfOk-then}
use Rattle.cc_check.proofs.judge.Judge.can_answer.Goals as goal

pub returns-then-not-census_is_next-clause-can : goal.returns-then-not-census_is_next-clause-can
returns-then-not-census_is_next-clause-can c = (
  (λ _. no_census-can (place_of c.args.self.now) (asks_left c.args.script) (sym c.census_is_next.ensures ∙ c.if-not-census_is_next.true)),
  (λ _. refl),
)

pub returns-clause-can : goal.returns-clause-can
returns-clause-can c =
    let j = c.args.self.now in
    let next = census-can (place_of j) (asks_left c.args.script) (sym c.census_is_next.ensures ∙ c.if-not-census_is_next.false) in
    let quiet = λ (q : CensusIsQuiet (row_meant j.row) (state_of j.graph c.census.new.self j.ended) (taken Census)).
    subst (λ (names : List Name). CensusIsQuiet (row_meant j.row) (state_of j.graph names j.ended) (taken Census)) c.in_ok-names.ensures.same q in
    let back = λ (q : CensusIsQuiet (row_meant j.row) (state_of j.graph j.listed j.ended) (taken Census)).
    subst (λ (names : List Name). CensusIsQuiet (row_meant j.row) (state_of j.graph names j.ended) (taken Census)) (sym c.in_ok-names.ensures.same) q in
    IfOk-then c.is_quiet.result _ _ (λ b d. ((λ t. next.1 (quiet ((d j.ended).0 t))), (λ a. (d j.ended).1 (back (next.0 a))))) c.is_quiet.ensures.quiet
