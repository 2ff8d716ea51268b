use Rattle.std.proofs.Common.{arith, ◌≡◌, ◌≤◌, length, ◌∙◌, sym, refl}
use Rattle.std.proofs.lemmas.Bool.{true≢false, false≢true}
use Rattle.std.proofs.lemmas.List.{length-map}
use Rattle.cc_lists.specs.Members.{Among}
use Rattle.cc_lists.proofs.Members.{has-among, has-there}
use Rattle.cc_names.specs.Names.{same_name}
use Rattle.cc_names.proofs.NameTests.{same_name-exact}
use Rattle.cc_model.specs.Answers.{Step}
use Rattle.cc_model.specs.Derivations.{named}
use Rattle.cc_check.proofs.Through.{Among-got, HoldsBefore-all, HoldsBefore-more}
use Rattle.cc_check.proofs.known.are_listed.Goals as goal

pub loop-i-init : goal.loop-i-init
loop-i-init c = λ k l. absurd (omega arith)

pub returns-then-not-has : goal.returns-then-not-has
returns-then-not-has c = (
  (λ no. absurd (false≢true no)),
  (λ all. absurd (true≢false (sym (has-there same_name same_name-exact c.args.listed.now c.name.result
      (all c.name.result (Among-got (named c.args.reach.now) c.loop-i.i c.name.result c.name.ensures)))
      ∙ (sym c.has.ensures ∙ c.if-not-has.true)))),
)

pub loop-i-preserved : goal.loop-i-preserved
loop-i-preserved c = HoldsBefore-more (λ x. Among x c.args.listed.now) (named c.args.reach.now) c.loop-i.i c.name.result c.loop-i.invariant c.name.ensures
    (has-among same_name same_name-exact c.args.listed.now c.name.result (sym c.has.ensures ∙ c.if-not-has.false))

pub returns : goal.returns
returns c = (
  (λ yes. HoldsBefore-all (λ x. Among x c.args.listed.now) (named c.args.reach.now) c.loop-i.i c.loop-i.invariant
      (let as_long : length (named c.args.reach.now) ≡ length c.args.reach.now = length-map c.args.reach.now (λ (s : Step). s.0) in
      let is : c.len-i-end.result ≡ length c.args.reach.now = c.len-i-end.ensures in
      let past : c.len-i-end.result ≤ c.loop-i.i = c.loop-i-test.false in
      omega arith)),
  (λ all. refl),
)
