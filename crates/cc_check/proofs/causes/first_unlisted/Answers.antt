use Rattle.std.proofs.Common.{arith, ◌≡◌, ◌≤◌, length, ◌∙◌, sym}
use Rattle.std.proofs.lemmas.Bool.{true≢false}
use Rattle.std.proofs.lemmas.List.{length-map}
use Rattle.cc_lists.specs.Members.{Among}
use Rattle.cc_lists.proofs.Members.{has-among, has-there}
use Rattle.cc_names.specs.Names.{same_name}
use Rattle.cc_names.proofs.NameTests.{same_name-exact}
use Rattle.cc_model.specs.Answers.{Step}
use Rattle.cc_model.specs.Derivations.{named}
use Rattle.cc_check.proofs.Through.{Among-got, HoldsBefore-all, HoldsBefore-more}
use Rattle.cc_check.proofs.causes.first_unlisted.Goals as goal

pub loop-i-init : goal.loop-i-init
loop-i-init c = λ k l. absurd (omega arith)

pub returns-then-not-has-clause-found : goal.returns-then-not-has-clause-found
returns-then-not-has-clause-found c = Among-got (named c.args.reach.now) c.loop-i.i c.name-found.result c.name-found.ensures

pub returns-then-not-has-clause-unlisted : goal.returns-then-not-has-clause-unlisted
returns-then-not-has-clause-unlisted c = λ m. true≢false (sym (has-there same_name same_name-exact c.args.listed.now c.name-found.result m) ∙ (sym c.has.ensures ∙ c.if-not-has.true))

pub loop-i-preserved : goal.loop-i-preserved
loop-i-preserved c = HoldsBefore-more (λ x. Among x c.args.listed.now) (named c.args.reach.now) c.loop-i.i c.name-found.result c.loop-i.invariant c.name-found.ensures
    (has-among same_name same_name-exact c.args.listed.now c.name-found.result (sym c.has.ensures ∙ c.if-not-has.false))

pub unreachable-requires : goal.unreachable-requires
unreachable-requires c = c.requires.some (HoldsBefore-all (λ x. Among x c.args.listed.now) (named c.args.reach.now) c.loop-i.i c.loop-i.invariant
    (let as_long : length (named c.args.reach.now) ≡ length c.args.reach.now = length-map c.args.reach.now (λ (s : Step). s.0) in
    let is : c.len-i-end.result ≡ length c.args.reach.now = c.len-i-end.ensures in
    let past : c.len-i-end.result ≤ c.loop-i.i = c.loop-i-test.false in
    omega arith))
