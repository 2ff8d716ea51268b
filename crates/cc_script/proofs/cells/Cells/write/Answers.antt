use Rattle.std.proofs.Common.{◌+◌, List, Option, length, map, get_or, ap, sym, subst, ◌∙◌, arith}
use Rattle.std.specs.Prelude.{vec_capacity}
use Rattle.std.proofs.Math.ListN.{set}
use Rattle.std.proofs.lemmas.List.{get_or_default, length-map, map-set}
use Rattle.cc_lists.proofs.Held.{is_some-found}
use Rattle.slab.specs.Slab.{Slab, get}
use Rattle.cc_names.specs.declared.kind.Colour.TheVariants.{White}
use Rattle.cc_script.specs.Lists.{slots_placed, written}
use Rattle.cc_script.specs.Threads.{threaded}
use Rattle.cc_script.specs.Cells.{Changes, Content, Linked, bare_slab, coloured_slab, filled, in_colour, in_new_mark, nothing}
use Rattle.cc_script.proofs.Reading.{held_key}
use Rattle.cc_script.proofs.Linking.{cell-held, cell-read}
use Rattle.cc_script.proofs.Coloured.{changes-bare, content-set, held-whole, read-bare, read-whole}
use Rattle.cc_script.proofs.cells.Cells.write.Goals as goal

pub index_mut-body-requires : goal.index_mut-body-requires
index_mut-body-requires c =
    let held = held-whole c.self.inside.slab c.self.inside.bodies.items c.self.inside.new_marks.items c.self.inside.colours.items c.args.self.now c.self.view_is c.args.key.0
    (cell-held c.args.self.now.slots c.args.key.0 c.requires.live) in
    omega (arith, c.self.invariant.filled c.args.key.0 held, c.self.inside.bodies.ok.0)

pub index_mut-requires : goal.index_mut-requires
index_mut-requires c =
    let s = c.self.inside.slab in
    let contents = c.self.inside.bodies.items in
    let marks = c.self.inside.new_marks.items in
    let colours = c.self.inside.colours.items in
    let held = held-whole s contents marks colours c.args.self.now c.self.view_is c.args.key.0 (cell-held c.args.self.now.slots c.args.key.0 c.requires.live) in
    let there = is_some-found (get s c.args.key.0) held in
    let mark = get_or marks c.args.key.0 White in
    let colour = get_or colours c.args.key.0 White in
    let b = filled (get_or contents c.args.key.0 nothing) there.0 in
    let read = cell-read c.args.self.now.slots c.args.key.0 (in_colour colour (in_new_mark mark b))
    (read-whole s contents marks colours c.args.self.now c.self.view_is c.args.key.0 there.0 there.1) in
    let seen = c.body.view_is ∙ (c.index_mut-body.ensures.value ∙ get_or_default contents c.args.key.0 c.index_mut-body.result.now nothing (c.self.invariant.filled c.args.key.0 held)) in
    omega (
      arith,
      c.requires.within,
      ap (λ o. length (slots_placed o)) read,
      ap (λ (w : Content). length w.slots) seen,
      length-map c.body.inside.slots.items held_key,
      c.body.inside.slots.ok.0,
    )

pub returns : goal.returns
returns c =
    let room = c.self.inside.slab.capacity + vec_capacity c.self.inside.bodies + vec_capacity c.self.inside.new_marks + vec_capacity c.self.inside.colours in
    let s = c.self.inside.slab in
    let contents = c.self.inside.bodies.items in
    let marks = c.self.inside.new_marks.items in
    let colours = c.self.inside.colours.items in
    let held = held-whole s contents marks colours c.args.self.now c.self.view_is c.args.key.0 (cell-held c.args.self.now.slots c.args.key.0 c.requires.live) in
    let f = bare_slab s contents marks in
    let there = is_some-found (get s c.args.key.0) held in
    let within = c.self.invariant.filled c.args.key.0 held in
    let mark = get_or marks c.args.key.0 White in
    let colour = get_or colours c.args.key.0 White in
    let x = held_key c.args.item in
    let content : List (Option _) → Content = λ ys. record { slots = ys; is_proxy = c.body.inside.is_proxy; waiting = c.body.inside.waiting } in
    let new = content (map held_key (set c.body.inside.slots.items c.args.i c.args.item)) in
    let b = in_new_mark mark (filled (get_or contents c.args.key.0 nothing) there.0) in
    let d = in_new_mark mark (filled new there.0) in
    let seen = c.body.view_is ∙ (c.index_mut-body.ensures.value ∙ get_or_default contents c.args.key.0 c.index_mut-body.result.now nothing within) in
    record {
      changes = subst (λ (z : Slab Linked). Changes z (coloured_slab room (bare_slab s (set contents c.args.key.0 new) marks) colours) c.args.key.0 (written c.args.i x)) c.self.view_is
          (subst (λ (z : Slab Linked). Changes (coloured_slab room f colours) (coloured_slab room z colours) c.args.key.0 (written c.args.i x)) (sym (content-set s contents marks c.args.key.0 there.0 new within there.1))
          (changes-bare f colours c.args.key.0 b d (written c.args.i x) (read-bare s contents marks c.args.key.0 there.0 there.1)
          (ap (λ ys. (in_colour colour (in_new_mark mark (filled (content ys) there.0))).placed) (map-set held_key c.body.inside.slots.items c.args.i c.args.item)
          ∙ ap (λ (w : Content). written c.args.i x (in_colour colour (in_new_mark mark (filled w there.0))).placed) seen)
          (λ t. ap (λ (w : Content). threaded there.0.order w.waiting there.0.walk t) seen)));
    }
