use Rattle.std.proofs.Common.{sym, ◌∙◌, ap, subst, rules}
use Rattle.cc_heaps.specs.Keyed.{counts_of}
use Rattle.cc_host.specs.Hosted.{Hosted, IsKept}
use Rattle.cc_host.specs.Walks.{behind, natives_from, objects_in}
use Rattle.cc_host.specs.Stops.{stop_at}
use Rattle.cc_host.proofs.Stopping.{passed}
use Rattle.cc_host.proofs.WalksNatives.{names-behind, native-at, natives-next, not-unlinked}
use Rattle.cc_host.proofs.WalksScripts.{scripts-next}
use Rattle.cc_host.proofs.WalksWhole.{next-taken}
use Rattle.cc_host.proofs.runtime.Runtime.next_object.Goals as goal

pub returns-in_ok-key-in-Native-clause-name : goal.returns-in_ok-key-in-Native-clause-name
returns-in_ok-key-in-Native-clause-name c =
    let h = c.args.self.now in
    let v = h.heaps in
    let o = (subst IsKept c.self.view_is c.self.invariant).runs.order in
    let is = c.counted.ensures ∙ ap (λ (k : Hosted). counts_of k.heaps) c.self.view_is in
    let k = c.in_ok-key-in-Native in
    let a = native-at v o k.key k.ensures.live in
    let left = natives-next v o k.key a.0 a.1 c.counted.result.now is c.next.result c.next.ensures.number in
    let n = not-unlinked h o c.args.x c.in-Native.field-0 c.in-Native.is (passed (stop_at h c.args.x) _ c.in_ok-look.ensures) k.key a.0 a.1 k.ensures.name in
    c.first_from.ensures.name
    ∙ (sym (names-behind v o k.key a.0 a.1 (natives_from v c.next.result) left n.0) ∙ ap (λ x. behind x (objects_in v.heap)) n.1)

pub returns-in_ok-key-in-Script : goal.returns-in_ok-key-in-Script
returns-in_ok-key-in-Script c =
    let k = c.in_ok-key-in-Script in
    let name = c.of_script.ensures.name
    ∙ scripts-next c.args.self.now.heaps (subst IsKept c.self.view_is c.self.invariant).runs.order k.key c.args.x.name k.ensures.name
    c.scripts.result.now (c.scripts.ensures ∙ ap (λ (h : Hosted). h.heaps.scripts) c.self.view_is) c.next-in-Script.result c.next-in-Script.ensures.key in
    record {
      stops = search rules;
      name = name;
      there = c.of_script.ensures.there;
      taken = next-taken c.args.self.now (subst IsKept c.self.view_is c.self.invariant) c.of_script.result c.of_script.ensures.there c.args.x.name name;
    }

pub returns-in_ok-key-in-Native-clause-taken : goal.returns-in_ok-key-in-Native-clause-taken
returns-in_ok-key-in-Native-clause-taken c =
    next-taken c.args.self.now (subst IsKept c.self.view_is c.self.invariant) c.first_from.result c.first_from.ensures.there c.args.x.name
    (returns-in_ok-key-in-Native-clause-name c)
