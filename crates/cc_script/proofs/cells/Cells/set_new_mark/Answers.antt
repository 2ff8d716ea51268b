use Rattle.std.proofs.Common.{◌+◌, get_or, refl, sym, subst, arith}
use Rattle.std.specs.Prelude.{vec_capacity}
use Rattle.std.proofs.Math.ListN.{set}
use Rattle.cc_lists.proofs.Held.{is_some-found}
use Rattle.slab.specs.Slab.{Slab, get}
use Rattle.cc_names.specs.declared.kind.Colour.TheVariants.{White}
use Rattle.cc_script.specs.Lists.{newly_marked}
use Rattle.cc_script.specs.Cells.{Changes, Linked, bare_slab, coloured_slab, filled, in_new_mark, nothing}
use Rattle.cc_script.proofs.Linking.{cell-held}
use Rattle.cc_script.proofs.Coloured.{changes-bare, held-whole, mark-set, read-bare}
use Rattle.cc_script.proofs.cells.Cells.set_new_mark.Goals as goal

pub index_mut-requires : goal.index_mut-requires
index_mut-requires c =
    let held = held-whole c.self.inside.slab c.self.inside.bodies.items c.self.inside.new_marks.items c.self.inside.colours.items c.args.self.now c.self.view_is c.args.key.0
    (cell-held c.args.self.now.slots c.args.key.0 c.requires.live) in
    omega (arith, c.self.invariant.marked c.args.key.0 held, c.self.inside.new_marks.ok.0)

pub returns : goal.returns
returns c =
    let room = c.self.inside.slab.capacity + vec_capacity c.self.inside.bodies + vec_capacity c.self.inside.new_marks + vec_capacity c.self.inside.colours in
    let s = c.self.inside.slab in
    let contents = c.self.inside.bodies.items in
    let marks = c.self.inside.new_marks.items in
    let colours = c.self.inside.colours.items in
    let key = c.args.key.0 in
    let held = held-whole s contents marks colours c.args.self.now c.self.view_is key (cell-held c.args.self.now.slots key c.requires.live) in
    let there = is_some-found (get s key) held in
    let bare = bare_slab s contents marks in
    let z = filled (get_or contents key nothing) there.0 in
    record {
      changes = subst (λ (old : Slab Linked). Changes old (coloured_slab room (bare_slab s contents (set marks key c.args.mark)) colours) key (newly_marked c.args.mark)) c.self.view_is
          (subst (λ (new : Slab Linked). Changes (coloured_slab room bare colours) (coloured_slab room new colours) key (newly_marked c.args.mark))
          (sym (mark-set s contents marks key there.0 c.args.mark (c.self.invariant.marked key held) there.1))
          (changes-bare bare colours key (in_new_mark (get_or marks key White) z) (in_new_mark c.args.mark z) (newly_marked c.args.mark)
          (read-bare s contents marks key there.0 there.1) refl (λ t. refl)));
    }
