use Rattle.std.proofs.Common.{◌≡◌, List, length, ◌∙◌, ap, subst}
use Rattle.cc_weakmaps.specs.Entries.{KeyedEntry}
use Rattle.cc_weakmaps.specs.Index.{place_below}
use Rattle.cc_host.specs.Hosted.{Hosted, IsKept}
use Rattle.cc_host.proofs.WalksNamed.{entries-first}
use Rattle.cc_host.proofs.WalksValues.{entries-once, entries-whole}
use Rattle.cc_host.proofs.runtime.Runtime.first_entry.Goals as goal

pub returns-clause-names : goal.returns-clause-names
returns-clause-names c =
    let v = c.args.self.now.heaps in
    let o = (subst IsKept c.self.view_is c.self.invariant).runs.order in
    let m = c.in_ok-key in
    let is = c.weak.ensures ∙ ap (λ (h : Hosted). h.heaps.entries) c.self.view_is in
    c.entry_from.ensures.names
    ∙ entries-first v o m.key.0 c.args.the_map.name m.ensures.name m.ensures.live c.first_with.result
    (subst (λ (fs : List KeyedEntry). c.first_with.result ≡ place_below fs m.key.0 (length fs)) is c.first_with.ensures.place)

pub returns-clause-whole : goal.returns-clause-whole
returns-clause-whole c k =
    entries-whole c.args.the_map.name k c.args.self.now.heaps.heap (subst IsKept c.self.view_is c.self.invariant).runs.order.sound.well_formed

pub returns-clause-once : goal.returns-clause-once
returns-clause-once c k =
    entries-once c.args.the_map.name k c.args.self.now.heaps.heap (subst IsKept c.self.view_is c.self.invariant).runs.order.sound.well_formed
