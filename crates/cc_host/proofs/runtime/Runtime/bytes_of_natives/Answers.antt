use Rattle.std.proofs.Common.{◌∙◌, ap, subst, arith, length}
use Rattle.std.specs.Prelude.{sum_by}
use Rattle.std.proofs.lemmas.List.Sums.{sum_by-cons}
use Rattle.cc_heaps.specs.Keyed.{counts_of}
use Rattle.cc_heaps.specs.Changes.{IsNativeThere}
use Rattle.cc_host.specs.Hosted.{Hosted, IsKept}
use Rattle.cc_host.specs.Walks.{bytes_of_native, natives_from}
use Rattle.cc_host.proofs.WalksBytes.{native_slots, natives-bounded}
use Rattle.cc_host.proofs.WalksNatives.{native-at, native-there, natives-first, natives-left, natives-next, those_behind}
use Rattle.cc_host.proofs.runtime.Runtime.bytes_of_natives.Goals as goal

pub loop-at-init : goal.loop-at-init
loop-at-init c =
    let v = c.args.self.now.heaps in
    let o = (subst IsKept c.self.view_is c.self.invariant).runs.order in
    let is = c.counted.ensures ∙ ap (λ (h : Hosted). counts_of h.heaps) c.self.view_is in
    record {
      there = native-there v o c.counted.result.now is c.first-at.result c.first-at.ensures.live;
      counted = omega (arith, ap (sum_by bytes_of_native) (natives-first v o c.counted.result.now is c.first-at.result c.first-at.ensures.number));
    }

pub overflow_add-sum-in-Some : goal.overflow_add-sum-in-Some
overflow_add-sum-in-Some c =
    let v = c.args.self.now.heaps in
    let o = (subst IsKept c.self.view_is c.self.invariant).runs.order in
    let is = c.counted-in-Some.ensures ∙ ap (λ (h : Hosted). counts_of h.heaps) c.self.view_is in
    let key = c.in-Some.key in
    let a = native-at v o key (subst (IsNativeThere v) c.in-Some.is c.loop-at.invariant.there) in
    omega (
      arith,
      c.loop-at.invariant.counted,
      ap (sum_by bytes_of_native) (ap (natives_from v) c.in-Some.is ∙ natives-left v o key a.0 a.1),
      sum_by-cons bytes_of_native a.0 (those_behind v o key a.0 a.1),
      c.slots.ensures ∙ native_slots v o key a.0 a.1 c.counted-in-Some.result.now is,
      natives-bounded v o,
    )

pub loop-at-smaller : goal.loop-at-smaller
loop-at-smaller c =
    let v = c.args.self.now.heaps in
    let o = (subst IsKept c.self.view_is c.self.invariant).runs.order in
    let is = c.counted-in-Some-2.ensures ∙ ap (λ (h : Hosted). counts_of h.heaps) c.self.view_is in
    let key = c.in-Some.key in
    let a = native-at v o key (subst (IsNativeThere v) c.in-Some.is c.loop-at.invariant.there) in
    omega (arith, ap length (ap (natives_from v) c.in-Some.is ∙ natives-next v o key a.0 a.1 c.counted-in-Some-2.result.now is c.next-at.result c.next-at.ensures.number))

pub loop-at-preserved : goal.loop-at-preserved
loop-at-preserved c =
    let v = c.args.self.now.heaps in
    let o = (subst IsKept c.self.view_is c.self.invariant).runs.order in
    let is = c.counted-in-Some.ensures ∙ ap (λ (h : Hosted). counts_of h.heaps) c.self.view_is in
    let is_later = c.counted-in-Some-2.ensures ∙ ap (λ (h : Hosted). counts_of h.heaps) c.self.view_is in
    let key = c.in-Some.key in
    let a = native-at v o key (subst (IsNativeThere v) c.in-Some.is c.loop-at.invariant.there) in
    record {
      there = native-there v o c.counted-in-Some-2.result.now is_later c.next-at.result c.next-at.ensures.live;
      counted = omega (
        arith,
        c.loop-at.invariant.counted,
        ap (sum_by bytes_of_native) (ap (natives_from v) c.in-Some.is ∙ natives-next v o key a.0 a.1 c.counted-in-Some-2.result.now is_later c.next-at.result c.next-at.ensures.number),
        sum_by-cons bytes_of_native a.0 (natives_from v c.next-at.result),
        c.slots.ensures ∙ native_slots v o key a.0 a.1 c.counted-in-Some.result.now is,
      );
    }

pub returns-clause-few : goal.returns-clause-few
returns-clause-few c =
    let v = c.args.self.now.heaps in
    let o = (subst IsKept c.self.view_is c.self.invariant).runs.order in
    omega (arith, c.loop-at.invariant.counted, natives-bounded v o)
