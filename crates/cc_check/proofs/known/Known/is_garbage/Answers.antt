use Rattle.std.proofs.Common.{◌≡◌, Bool, true, false, not, ◌∙◌, sym, refl}
use Rattle.std.proofs.lemmas.Bool.{true≢false, false≢true}
use Rattle.cc_lists.proofs.Members.{has-among, has-there}
use Rattle.cc_names.specs.Names.{same_name}
use Rattle.cc_names.proofs.NameTests.{same_name-exact}
use Rattle.cc_check.proofs.Found.{found-reached, reached-found}
use Rattle.cc_check.proofs.known.Known.is_garbage.Goals as goal

pub returns-then-not-has-clause-garbage : goal.returns-then-not-has-clause-garbage
returns-then-not-has-clause-garbage c = (
  (λ no. absurd (false≢true no)),
  (λ g. absurd (true≢false (sym (has-there same_name same_name-exact c.args.listed.now c.args.name g.0) ∙ (sym c.has.ensures ∙ c.if-not-has.true)))),
)

not-true : (b : Bool) → not b ≡ true → b ≡ true → ⊥
not-true true e f = true≢false (sym e)
not-true false e f = true≢false (sym f)

true-not : (b : Bool) → (b ≡ true → ⊥) → not b ≡ true
true-not true n = absurd (n refl)
true-not false n = refl

pub returns-clause-garbage : goal.returns-clause-garbage
returns-clause-garbage c = (
  (λ yes. (
    has-among same_name same_name-exact c.args.listed.now c.args.name (sym c.has.ensures ∙ c.if-not-has.false),
    λ r. not-true c.has-2.result yes (c.has-2.ensures ∙ reached-found c.args.graph.now c.find.new.self c.args.name c.requires.well_made c.in_ok-find.ensures r),
  )),
  (λ g. true-not c.has-2.result (λ e. g.1 (found-reached c.args.graph.now c.find.new.self c.args.name c.requires.well_made c.in_ok-find.ensures (sym c.has-2.ensures ∙ e)))),
)
