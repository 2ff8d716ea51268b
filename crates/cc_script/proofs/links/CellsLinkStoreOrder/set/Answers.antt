use Rattle.std.proofs.Common.{◌≡◌, false, get_or, ap, ◌∙◌}
use Rattle.cc_script.specs.Beings.{delegate_key_of, kind_of, name_of, native_key_of}
use Rattle.cc_script.specs.Threads.{Thread, of_order, same_thread}
use Rattle.cc_script.specs.Cells.{Label, filled, link_of, nothing}
use Rattle.cc_script.proofs.Linking.{threaded-order}
use Rattle.cc_script.proofs.Coloured.{held-linked, label-relinked}
use Rattle.cc_script.proofs.links.CellsLinkStoreOrder.set.Goals as goal

pub index_mut-requires : goal.index_mut-requires
index_mut-requires c = held-linked c.self.inside.slab c.self.inside.bodies.items c.self.inside.new_marks.items c.self.inside.colours.items c.args.self.now c.self.view_is c.args.key of_order c.requires

pub returns : goal.returns
returns c =
    let contents = c.self.inside.bodies.items in
    let content = get_or contents c.args.key nothing in
    let inside = c.behind-self.inside in
    let label : Label = record { name = name_of inside.being; kind = kind_of inside.being; native = native_key_of inside.being; delegate = delegate_key_of inside.being; order = c.of.result; walk = inside.walk } in
    let others : (u : Thread) → same_thread of_order u ≡ false → link_of u (filled content label) ≡ link_of u (filled content c.index_mut.result.now) = λ u other.
    threaded-order c.of.result inside.order content.waiting inside.walk u other ∙ ap (λ (l : Label). link_of u (filled content l)) c.behind-self.view_is in
    let r = label-relinked c.self.inside.slab contents c.self.inside.new_marks.items c.self.inside.colours.items c.args.self.now c.self.view_is c.args.key of_order c.index_mut.result.now c.index_mut.ensures.value
    c.args.link label (ap (λ (l : Label). (filled content l).placed) c.behind-self.view_is) c.of.ensures others in
    record { links = r.links; rest = r.rest }
