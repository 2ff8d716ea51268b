use Rattle.std.proofs.Common.{◌≡◌, Bool, true, false, List, ◌∷◌, refl, sym, ◌∙◌, ap}
use Rattle.cc_model.specs.Asks.{Ask}
use Rattle.cc_check.specs.Judging.{asks_nothing, from_next}
use Rattle.cc_check.specs.Standing.{ask_meant, asks_left}
use Rattle.cc_check.proofs.ReadOn.{last-on, one-on}
use Rattle.cc_check.proofs.asking.next_asked.Goals as goal

from-answered : (ask : Ask) (asks : List Ask) → asks_nothing ask ≡ false → from_next (ask ∷ asks) ≡ ask ∷ asks
from-answered ask asks e = ap (λ (b : Bool). elim b [ true ↦ from_next asks | false ↦ ask ∷ asks ]) e

from-nothing : (ask : Ask) (asks : List Ask) → asks_nothing ask ≡ true → from_next (ask ∷ asks) ≡ from_next asks
from-nothing ask asks e = ap (λ (b : Bool). elim b [ true ↦ from_next asks | false ↦ ask ∷ asks ]) e

pub loop-asked-init : goal.loop-asked-init
loop-asked-init c = record { next = refl; along = λ asks e. e; same = refl }

pub loop-asked-preserved : goal.loop-asked-preserved
loop-asked-preserved c = record {
  next = c.loop-asked.invariant.next
      ∙ (ap from_next c.in-Some.ensures.some
      ∙ from-nothing (ask_meant c.in-Some.asked) (asks_left c.next.new.self) (sym c.asks_nothing.ensures ∙ c.if-not-asks_nothing.false));
  along = λ asks e. one-on c.loop-asked.ahead c.next.new.self (ask_meant c.in-Some.asked) c.in-Some.ensures.some c.in-Some.ensures.asked asks
      (c.loop-asked.invariant.along asks e);
  same = c.loop-asked.invariant.same;
}

pub returns-then-not-asks_nothing-clause-some : goal.returns-then-not-asks_nothing-clause-some
returns-then-not-asks_nothing-clause-some c =
    c.loop-asked.invariant.next
    ∙ (ap from_next c.in-Some.ensures.some
    ∙ from-answered (ask_meant c.in-Some.asked) (asks_left c.next.new.self) (sym c.asks_nothing.ensures ∙ c.if-not-asks_nothing.true))

pub returns-then-not-asks_nothing-clause-along : goal.returns-then-not-asks_nothing-clause-along
returns-then-not-asks_nothing-clause-along c = λ asks e.
    let was = c.loop-asked.invariant.along asks e.left in
    record {
      left = one-on c.loop-asked.ahead c.next.new.self (ask_meant c.in-Some.asked) c.in-Some.ensures.some c.in-Some.ensures.asked asks was;
      last = last-on c.loop-asked.ahead c.next.new.self (ask_meant c.in-Some.asked) asks c.in-Some.ensures.some c.in-Some.ensures.asked
          (sym c.asks_nothing.ensures ∙ c.if-not-asks_nothing.true) was;
    }

pub returns-clause-none : goal.returns-clause-none
returns-clause-none c = c.loop-asked.invariant.next ∙ ap from_next c.in_default.ensures.none
