use Rattle.std.proofs.Common.{◌≡◌, List, sym, ◌∙◌, ap, subst}
use Rattle.cc_weakmaps.specs.Entries.{KeyedEntry}
use Rattle.cc_weakmaps.specs.Index.{place_below}
use Rattle.cc_host.specs.Hosted.{Hosted, IsKept}
use Rattle.cc_host.proofs.WalksNamed.{entries-next, entries-none}
use Rattle.cc_host.proofs.runtime.Runtime.next_entry.Goals as goal

pub returns-in-Some-clause-names : goal.returns-in-Some-clause-names
returns-in-Some-clause-names c =
    let v = c.args.self.now.heaps in
    let o = (subst IsKept c.self.view_is c.self.invariant).runs.order in
    let m = c.in_ok-the_map in
    let k = c.in_ok-key in
    let is = c.weak.ensures ∙ ap (λ (h : Hosted). h.heaps.entries) c.self.view_is in
    c.entry_from.ensures.names
    ∙ entries-next v o m.the_map.0 c.args.the_map.name m.ensures.name m.ensures.live k.key.0 c.args.key.name k.ensures.name k.ensures.live
    c.in-Some.place c.in-Some.ensures.found c.next_with-next.result
    (subst (λ (fs : List KeyedEntry). c.next_with-next.result ≡ place_below fs m.the_map.0 c.in-Some.place) is c.next_with-next.ensures.place)

pub returns-in-None-clause-names : goal.returns-in-None-clause-names
returns-in-None-clause-names c =
    let v = c.args.self.now.heaps in
    let o = (subst IsKept c.self.view_is c.self.invariant).runs.order in
    let m = c.in_ok-the_map in
    let k = c.in_ok-key in
    sym (entries-none v o m.the_map.0 c.args.the_map.name m.ensures.name m.ensures.live k.key.0 c.args.key.name k.ensures.name k.ensures.live c.in-None.ensures.none)
