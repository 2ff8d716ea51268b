use Rattle.std.proofs.Common.{Some, ap, sym, ◌∙◌}
use Rattle.cc_script.specs.Threads.{of_walk}
use Rattle.cc_script.specs.Cells.{Label}
use Rattle.cc_script.proofs.Coloured.{held-linked, read-linked}
use Rattle.cc_script.proofs.links.CellsLinkStoreWalking.get.Goals as goal

pub index-requires : goal.index-requires
index-requires c = held-linked c.self.inside.slab c.self.inside.bodies.items c.self.inside.new_marks.items c.self.inside.colours.items c.args.self.now c.self.view_is c.args.key of_walk c.requires

pub returns : goal.returns
returns c =
    read-linked c.self.inside.slab c.self.inside.bodies.items c.self.inside.new_marks.items c.self.inside.colours.items c.args.self.now c.self.view_is c.args.key of_walk c.index.result.now c.index.ensures
    ∙ (ap (λ (b : Label). Some b.walk) (sym c.behind-self.view_is) ∙ ap Some (sym c.link.ensures))
