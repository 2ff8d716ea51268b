use Rattle.std.proofs.Common.{sym, ◌∙◌, arith}
use Rattle.cc_pages.proofs.group.first_in.Goals as goal

pub returns-in-Some-clause-found : goal.returns-in-Some-clause-found
returns-in-Some-clause-found c = record {
  from = omega arith;
  there = sym c.value_of.ensures ∙ c.in-Some.is;
  before = λ j after until. absurd (omega (arith, after, until));
}
