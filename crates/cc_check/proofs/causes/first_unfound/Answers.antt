use Rattle.std.proofs.Common.{arith, ◌∙◌, sym}
use Rattle.std.proofs.lemmas.Bool.{true≢false}
use Rattle.std.proofs.lemmas.Option.{slice_get-get_or}
use Rattle.cc_lists.specs.Members.{Among}
use Rattle.cc_lists.proofs.Members.{has-among, has-there}
use Rattle.cc_names.specs.Names.{same_name}
use Rattle.cc_names.proofs.NameTests.{same_name-exact}
use Rattle.cc_model.specs.Derivations.{named}
use Rattle.cc_check.proofs.Through.{Among-got, HoldsBefore-all, HoldsBefore-more}
use Rattle.cc_check.proofs.causes.first_unfound.Goals as goal

pub loop-name-init : goal.loop-name-init
loop-name-init c = λ k l. absurd (omega arith)

pub returns-then-not-has-clause-some : goal.returns-then-not-has-clause-some
returns-then-not-has-clause-some c = (
  Among-got c.args.names.now c.loop-name.name-index _ (slice_get-get_or c.args.names.now c.loop-name.name-index _ c.loop-name-test.true),
  (λ m. true≢false (sym (has-there same_name same_name-exact (named c.args.reach.now) _ m) ∙ (sym c.has.ensures ∙ c.if-not-has.true))),
)

pub loop-name-preserved : goal.loop-name-preserved
loop-name-preserved c = HoldsBefore-more (λ x. Among x (named c.args.reach.now)) c.args.names.now c.loop-name.name-index _ c.loop-name.invariant
    (slice_get-get_or c.args.names.now c.loop-name.name-index _ c.loop-name-test.true)
    (has-among same_name same_name-exact (named c.args.reach.now) _ (sym c.has.ensures ∙ c.if-not-has.false))

pub returns-clause-none : goal.returns-clause-none
returns-clause-none c = HoldsBefore-all (λ x. Among x (named c.args.reach.now)) c.args.names.now c.loop-name.name-index c.loop-name.invariant c.loop-name-test.false
