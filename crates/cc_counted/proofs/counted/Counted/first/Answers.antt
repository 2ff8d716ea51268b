use Rattle.std.proofs.Common.{◌≡◌, option_and_then, is_some, IfSome, true, subst, ◌∙◌}
use Rattle.cc_lists.specs.Walks.{first_of}
use Rattle.cc_names.specs.declared.number.NKey.{NKey}
use Rattle.cc_counted.specs.Counts.{Counts, number_at, first_number}
use Rattle.cc_counted.specs.Lists.{counts_of}
use Rattle.cc_counted.proofs.Ordering.{number-first, and_then-key, first-among, live-key}
use Rattle.cc_counted.proofs.counted.Counted.first.Goals as goal

pub returns-clause-number : goal.returns-clause-number
returns-clause-number c =
    let l = c.self.inside.natives.lists in
    subst (λ (v : Counts). option_and_then (λ (k : NKey). number_at v k.0) c.first.result ≡ first_number v.natives) c.self.view_is
    (and_then-key (number_at (counts_of l)) c.first.result (first_of l.order) c.first.ensures ∙ number-first l c.self.invariant.placed l.order c.self.invariant.placed.in_order)

pub returns-clause-live : goal.returns-clause-live
returns-clause-live c =
    let l = c.self.inside.natives.lists in
    subst (λ (v : Counts). IfSome c.first.result (λ (k : NKey). is_some (number_at v k.0) ≡ true)) c.self.view_is
    (live-key l c.self.invariant.placed c.first.result (first_of l.order) c.first.ensures (first-among l.order))
