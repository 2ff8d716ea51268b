use Rattle.std.proofs.Common.{◌+◌, subst, arith}
use Rattle.std.specs.Prelude.{vec_capacity}
use Rattle.std.proofs.Math.ListN.{set}
use Rattle.cc_lists.proofs.Held.{is_some-found}
use Rattle.slab.specs.Slab.{Slab, get}
use Rattle.cc_script.specs.Lists.{painted}
use Rattle.cc_script.specs.Cells.{Changes, Linked, bare_slab, coloured_slab}
use Rattle.cc_script.proofs.Linking.{cell-held}
use Rattle.cc_script.proofs.Coloured.{changes-painted, held-bare, reaches-bare}
use Rattle.cc_script.proofs.cells.Cells.paint.Goals as goal

pub index_mut-requires : goal.index_mut-requires
index_mut-requires c =
    let held = held-bare (bare_slab c.self.inside.slab c.self.inside.bodies.items c.self.inside.new_marks.items) c.self.inside.colours.items c.args.self.now c.self.view_is c.args.key.0 (cell-held c.args.self.now.slots c.args.key.0 c.requires.live) in
    omega (arith, reaches-bare c.self.inside.slab c.self.inside.bodies.items c.self.inside.new_marks.items c.self.inside.colours.items c.self.invariant.coloured c.args.key.0 held, c.self.inside.colours.ok.0)

pub returns : goal.returns
returns c =
    let room = c.self.inside.slab.capacity + vec_capacity c.self.inside.bodies + vec_capacity c.self.inside.new_marks + vec_capacity c.self.inside.colours in
    let s = bare_slab c.self.inside.slab c.self.inside.bodies.items c.self.inside.new_marks.items in
    let colours = c.self.inside.colours.items in
    let held = held-bare s colours c.args.self.now c.self.view_is c.args.key.0 (cell-held c.args.self.now.slots c.args.key.0 c.requires.live) in
    let there = is_some-found (get s c.args.key.0) held in
    record {
      changes = subst (λ (z : Slab Linked). Changes z (coloured_slab room s (set colours c.args.key.0 c.args.colour)) c.args.key.0 (painted c.args.colour)) c.self.view_is
          (changes-painted s colours c.args.key.0 c.args.colour there.0 (reaches-bare c.self.inside.slab c.self.inside.bodies.items c.self.inside.new_marks.items c.self.inside.colours.items c.self.invariant.coloured c.args.key.0 held) there.1);
    }
