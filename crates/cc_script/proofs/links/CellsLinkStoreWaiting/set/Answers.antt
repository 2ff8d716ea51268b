use Rattle.std.proofs.Common.{map, get_or, ap, ◌∙◌, arith}
use Rattle.std.proofs.lemmas.List.{get_or_default}
use Rattle.cc_lists.proofs.Held.{is_some-found}
use Rattle.slab.specs.Slab.{get}
use Rattle.cc_script.specs.Threads.{of_waiting}
use Rattle.cc_script.specs.Cells.{Content, filled, nothing}
use Rattle.cc_script.proofs.Reading.{held_key}
use Rattle.cc_script.proofs.Linking.{threaded-waiting}
use Rattle.cc_script.proofs.Coloured.{HaveAll-written, content-relinked, held-linked}
use Rattle.cc_script.proofs.links.CellsLinkStoreWaiting.set.Goals as goal

pub index_mut-requires : goal.index_mut-requires
index_mut-requires c =
    let held = held-linked c.self.inside.slab c.self.inside.bodies.items c.self.inside.new_marks.items c.self.inside.colours.items c.args.self.now c.self.view_is c.args.key of_waiting c.requires in
    omega (arith, c.self.invariant.filled c.args.key held, c.self.inside.bodies.ok.0)

pub returns : goal.returns
returns c =
    let s = c.self.inside.slab in
    let contents = c.self.inside.bodies.items in
    let held = held-linked s contents c.self.inside.new_marks.items c.self.inside.colours.items c.args.self.now c.self.view_is c.args.key of_waiting c.requires in
    let within = c.self.invariant.filled c.args.key held in
    let there = is_some-found (get s c.args.key) held in
    let content : Content = record { slots = map held_key c.behind-self.inside.slots.items; is_proxy = c.behind-self.inside.is_proxy; waiting = c.of.result } in
    let seen = c.behind-self.view_is ∙ (c.index_mut.ensures.value ∙ get_or_default contents c.args.key c.index_mut.result.now nothing within) in
    let r = content-relinked s contents c.self.inside.new_marks.items c.self.inside.colours.items c.args.self.now c.self.view_is c.args.key of_waiting there.0 there.1
    c.args.link content within (ap (λ (w : Content). (filled w there.0).placed) seen) c.of.ensures
    (threaded-waiting there.0.order c.of.result (get_or contents c.args.key nothing).waiting there.0.walk) in
    record { links = r.links; rest = r.rest }

pub invariant_of-self : goal.invariant_of-self
invariant_of-self c =
    let s = c.self.inside.slab in
    let contents = c.self.inside.bodies.items in
    let held = held-linked s contents c.self.inside.new_marks.items c.self.inside.colours.items c.args.self.now c.self.view_is c.args.key of_waiting c.requires in
    HaveAll-written s contents c.self.inside.new_marks.items c.self.inside.colours.items c.args.key _ held c.self.invariant
