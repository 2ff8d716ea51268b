use Rattle.std.proofs.Common.{◌≡◌, None, sym, ◌∙◌}
use Rattle.cc_check.proofs.Trials.{blame_of, early-there, parts-there, taken-same}
use Rattle.cc_check.proofs.trial.Trial.parting.Goals as goal

pub returns-in-Some-clause-line : goal.returns-in-Some-clause-line
returns-in-Some-clause-line c = λ b is limits script lines tried.
    let same : blame_of c.args.self.now c.in-Some.cause ≡ b = cc in
    parts-there limits script c.args.self.now lines b c.in-Some.cause (sym c.take.ensures.value ∙ c.in-Some.is) same tried

pub returns-in-Lawful-clause-lawful : goal.returns-in-Lawful-clause-lawful
returns-in-Lawful-clause-lawful c = λ is limits script text count tried.
    c.verdict.ensures.lawful c.in-Lawful.is limits script text count
    (taken-same limits script c.args.self.now c.take.new.self _ (sym c.take.ensures.value ∙ c.in_default.is) c.take.ensures.after tried)

pub returns-in-Unlawful-clause-end : goal.returns-in-Unlawful-clause-end
returns-in-Unlawful-clause-end c = λ is limits script text count tried.
    let none : c.args.self.now.cause ≡ None = sym c.take.ensures.value ∙ c.in_default.is in
    early-there limits script c.args.self.now text none
    (c.verdict.ensures.unlawful c.in-Unlawful.is limits script text count (taken-same limits script c.args.self.now c.take.new.self _ none c.take.ensures.after tried)) tried
