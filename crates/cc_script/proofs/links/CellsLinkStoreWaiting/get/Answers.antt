use Rattle.std.proofs.Common.{Some, ap, sym, ◌∙◌, arith}
use Rattle.std.proofs.lemmas.List.{get_or_default}
use Rattle.cc_lists.proofs.Held.{is_some-found}
use Rattle.slab.specs.Slab.{get}
use Rattle.cc_script.specs.Threads.{of_waiting}
use Rattle.cc_script.specs.Cells.{Content, nothing}
use Rattle.cc_script.proofs.Coloured.{held-linked, read-linked}
use Rattle.cc_script.proofs.links.CellsLinkStoreWaiting.get.Goals as goal

pub index-requires : goal.index-requires
index-requires c =
    let held = held-linked c.self.inside.slab c.self.inside.bodies.items c.self.inside.new_marks.items c.self.inside.colours.items c.args.self.now c.self.view_is c.args.key of_waiting c.requires in
    omega (arith, c.self.invariant.filled c.args.key held, c.self.inside.bodies.ok.0)

pub returns : goal.returns
returns c =
    let s = c.self.inside.slab in
    let contents = c.self.inside.bodies.items in
    let held = held-linked s contents c.self.inside.new_marks.items c.self.inside.colours.items c.args.self.now c.self.view_is c.args.key of_waiting c.requires in
    let there = is_some-found (get s c.args.key) held in
    read-linked s contents c.self.inside.new_marks.items c.self.inside.colours.items c.args.self.now c.self.view_is c.args.key of_waiting there.0 there.1
    ∙ (ap (λ (w : Content). Some w.waiting) (sym (c.index.ensures ∙ get_or_default contents c.args.key c.index.result.now nothing (c.self.invariant.filled c.args.key held)))
    ∙ (ap (λ (w : Content). Some w.waiting) (sym c.behind-self.view_is) ∙ ap Some (sym c.link.ensures)))
