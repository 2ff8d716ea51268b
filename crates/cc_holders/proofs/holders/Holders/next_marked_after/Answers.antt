use Rattle.std.proofs.Common.{◌≡◌, ℕ, ◌≤◌, None, subst}
use Rattle.cc_holders.specs.Entries.{IsFirst}
use Rattle.cc_holders.specs.Known.{key_at}
use Rattle.cc_holders.proofs.Known.{first-within, key-none}
use Rattle.cc_holders.proofs.holders.Holders.next_marked_after.Goals as goal

pub returns-in-Some-clause-next : goal.returns-in-Some-clause-next
returns-in-Some-clause-next c =
    subst (λ start. IsFirst (key_at c.args.self.now) start c.in-Some.number c.in-Some.key) c.next.ensures.value
    (first-within c.args.self.now c.next.result c.in-Some.number c.in-Some.key c.in-Some.ensures.small c.in-Some.ensures.found)

pub returns-in-None-clause-last : goal.returns-in-None-clause-last
returns-in-None-clause-last c =
    subst (λ start. (n : ℕ) → start ≤ n → key_at c.args.self.now n ≡ None) c.next.ensures.value
    (λ n from. key-none c.args.self.now n (λ small. c.in-None.ensures.none n small from))
