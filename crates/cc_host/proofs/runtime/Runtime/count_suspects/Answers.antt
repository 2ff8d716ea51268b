use Rattle.std.proofs.Common.{◌≡◌, Option, ◌∙◌, ap, subst, arith, length, rules}
use Rattle.cc_lists.specs.Walks.{first_key}
use Rattle.cc_names.specs.declared.number.NKey.{NKey}
use Rattle.cc_heaps.specs.Keyed.{counts_of}
use Rattle.cc_heaps.specs.Changes.{IsNativeThere}
use Rattle.cc_host.specs.Hosted.{Hosted, IsKept}
use Rattle.cc_host.proofs.WalksBuffer.{number_in, number_of_native, waiting-here, waiting-next, waiting_from}
use Rattle.cc_host.proofs.WalksNatives.{native-there}
use Rattle.cc_host.proofs.runtime.Runtime.count_suspects.Goals as goal

pub next_in_buffer-at-requires-clause-buffered : goal.next_in_buffer-at-requires-clause-buffered
next_in_buffer-at-requires-clause-buffered c =
    let v = c.args.self.now.heaps in
    let o = (subst IsKept c.self.view_is c.self.invariant).runs.order in
    let is = c.counted-in-Some.ensures ∙ ap (λ (h : Hosted). counts_of h.heaps) c.self.view_is in
    waiting-here v o c.in-Some.key (subst (IsNativeThere v) c.in-Some.is c.loop-at.invariant.there)
    (subst (λ (at : Option NKey). first_key number_in (waiting_from v at) ≡ number_of_native v at) c.in-Some.is c.loop-at.invariant.stands)
    c.counted-in-Some.result.now is

pub loop-at-preserved : goal.loop-at-preserved
loop-at-preserved c =
    let v = c.args.self.now.heaps in
    let o = (subst IsKept c.self.view_is c.self.invariant).runs.order in
    let is = c.counted-in-Some.ensures ∙ ap (λ (h : Hosted). counts_of h.heaps) c.self.view_is in
    let n = waiting-next v o c.in-Some.key (subst (IsNativeThere v) c.in-Some.is c.loop-at.invariant.there)
    (subst (λ (at : Option NKey). first_key number_in (waiting_from v at) ≡ number_of_native v at) c.in-Some.is c.loop-at.invariant.stands)
    c.counted-in-Some.result.now is c.next_in_buffer-at.result c.next_in_buffer-at.ensures.number in
    record {
      counted = omega (arith, c.loop-at.invariant.counted, ap length (ap (waiting_from v) c.in-Some.is ∙ n.1));
      few = search rules;
      stands = n.2;
      there = native-there v o c.counted-in-Some.result.now is c.next_in_buffer-at.result c.next_in_buffer-at.ensures.live;
    }
