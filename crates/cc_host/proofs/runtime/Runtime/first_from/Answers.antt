use Rattle.std.proofs.Common.{option_map, sym, ◌∙◌, ap, subst, arith, length, rules}
use Rattle.cc_names.specs.Names.{native}
use Rattle.cc_lists.specs.Walks.{first_of}
use Rattle.cc_heaps.specs.Keyed.{counts_of}
use Rattle.cc_heaps.specs.Changes.{IsNativeThere}
use Rattle.cc_host.specs.Hosted.{Hosted, IsKept}
use Rattle.cc_host.specs.Walks.{names_from, natives_from}
use Rattle.cc_host.proofs.WalksNatives.{native-at, native-there, names-living, names-passed, natives-next, unlinked-is}
use Rattle.cc_host.proofs.runtime.Runtime.first_from.Goals as goal

pub returns-then-not-unlinked-clause-name : goal.returns-then-not-unlinked-clause-name
returns-then-not-unlinked-clause-name c =
    let v = c.args.self.now.heaps in
    let o = (subst IsKept c.self.view_is c.self.invariant).runs.order in
    let is = c.counted.ensures ∙ ap (λ (h : Hosted). counts_of h.heaps) c.self.view_is in
    let key = c.in-Some.key in
    let a = native-at v o key (subst (IsNativeThere v) c.in-Some.is c.loop-at.invariant.there) in
    let flag = unlinked-is v o key a.0 a.1 c.counted.result.now is in
    c.of_native.ensures.name
    ∙ (ap (option_map native) a.1.here
    ∙ (sym (names-living v o key a.0 a.1 (sym flag ∙ (sym c.unlinked.ensures ∙ search rules)))
    ∙ (ap (λ at. first_of (names_from v at)) (sym c.in-Some.is) ∙ c.loop-at.invariant.first)))

pub loop-at-smaller : goal.loop-at-smaller
loop-at-smaller c =
    let v = c.args.self.now.heaps in
    let o = (subst IsKept c.self.view_is c.self.invariant).runs.order in
    let is = c.counted-in-Some.ensures ∙ ap (λ (h : Hosted). counts_of h.heaps) c.self.view_is in
    let key = c.in-Some.key in
    let a = native-at v o key (subst (IsNativeThere v) c.in-Some.is c.loop-at.invariant.there) in
    omega (arith, ap length (ap (natives_from v) c.in-Some.is ∙ natives-next v o key a.0 a.1 c.counted-in-Some.result.now is c.next-at.result c.next-at.ensures.number))

pub loop-at-preserved : goal.loop-at-preserved
loop-at-preserved c =
    let v = c.args.self.now.heaps in
    let o = (subst IsKept c.self.view_is c.self.invariant).runs.order in
    let is = c.counted.ensures ∙ ap (λ (h : Hosted). counts_of h.heaps) c.self.view_is in
    let is_later = c.counted-in-Some.ensures ∙ ap (λ (h : Hosted). counts_of h.heaps) c.self.view_is in
    let key = c.in-Some.key in
    let a = native-at v o key (subst (IsNativeThere v) c.in-Some.is c.loop-at.invariant.there) in
    let flag = unlinked-is v o key a.0 a.1 c.counted.result.now is in
    let left = natives-next v o key a.0 a.1 c.counted-in-Some.result.now is_later c.next-at.result c.next-at.ensures.number in
    record {
      there = native-there v o c.counted-in-Some.result.now is_later c.next-at.result c.next-at.ensures.live;
      first = ap first_of (sym (names-passed v o key a.0 a.1 (natives_from v c.next-at.result) left (sym flag ∙ (sym c.unlinked.ensures ∙ search rules))))
          ∙ (ap (λ at. first_of (names_from v at)) (sym c.in-Some.is) ∙ c.loop-at.invariant.first);
    }
