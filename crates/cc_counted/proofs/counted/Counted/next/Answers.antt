use Rattle.std.proofs.Common.{◌≡◌, is_some, IfSome, true, sym, subst, arith}
use Rattle.cc_lists.specs.Walks.{first_of}
use Rattle.cc_chain.specs.Chains.{behind}
use Rattle.cc_names.specs.declared.number.NKey.{NKey}
use Rattle.cc_counted.specs.Counts.{Counts, number_at}
use Rattle.cc_counted.proofs.Reading.{live-found}
use Rattle.cc_counted.proofs.Ordering.{number-next, and_then-key, behind-among, live-key}
use Rattle.cc_counted.proofs.counted.Counted.next.Goals as goal

pub next-requires : goal.next-requires
next-requires c =
    let l = c.self.inside.natives.lists in
    let f = live-found l c.args.key.0 (subst (λ (v : Counts). is_some (number_at v c.args.key.0) ≡ true) (sym c.self.view_is) c.requires.live) in
    c.self.invariant.placed.ordered c.args.key.0 f.0 f.1

pub returns-clause-number : goal.returns-clause-number
returns-clause-number c = grind (arith, live-found, and_then-key, number-next)

pub returns-clause-live : goal.returns-clause-live
returns-clause-live c =
    let l = c.self.inside.natives.lists in
    subst (λ (v : Counts). IfSome c.next.result (λ (k : NKey). is_some (number_at v k.0) ≡ true)) c.self.view_is
    (live-key l c.self.invariant.placed c.next.result (first_of (behind c.args.key.0 l.order)) c.next.ensures (behind-among l.order c.args.key.0))
