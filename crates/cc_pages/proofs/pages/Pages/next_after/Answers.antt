use Rattle.std.proofs.Common.{◌≡◌, ℕ, ◌≤◌, None, subst}
use Rattle.cc_pages.specs.Values.{IsFirst, value_at}
use Rattle.cc_pages.proofs.Numbers.{first-within, value-none}
use Rattle.cc_pages.proofs.pages.Pages.next_after.Goals as goal

pub returns-in-Some-clause-next : goal.returns-in-Some-clause-next
returns-in-Some-clause-next c =
    subst (λ start. IsFirst (value_at c.args.self.now) start c.in-Some.number c.in-Some.value) c.next.ensures.value
    (first-within c.args.self.now c.next.result c.in-Some.number c.in-Some.value c.in-Some.ensures.small c.in-Some.ensures.found)

pub returns-in-None-clause-last : goal.returns-in-None-clause-last
returns-in-None-clause-last c =
    subst (λ start. (n : ℕ) → start ≤ n → value_at c.args.self.now n ≡ None) c.next.ensures.value
    (λ n from. value-none c.args.self.now n (λ small. c.in-None.ensures.none n small from))
