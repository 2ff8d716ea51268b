use Rattle.std.proofs.Common.{◌≡◌, Some, ap, sym, ◌∙◌, arith, rules}
use Rattle.std.proofs.lemmas.Bool.{false≢true}
use Rattle.std.proofs.lemmas.List.{get_or_default}
use Rattle.cc_lists.proofs.Held.{is_some-found}
use Rattle.slab.specs.Slab.{get}
use denote.Enum.Bare.{differs_true, differs_false}
use Rattle.cc_names.specs.contracts.kind.Colour.{the_type}
use Rattle.cc_names.specs.declared.kind.Colour.TheVariants.{White}
use Rattle.cc_script.specs.Cells.{bare_slab}
use Rattle.cc_script.proofs.Coloured.{colour-coloured, held-coloured, held-filled, held-label, reaches-bare}
use Rattle.cc_script.proofs.cells.Cells.has_colour_at.Goals as goal

pub returns-then-key-len : goal.returns-then-key-len
returns-then-key-len c = (
  λ is. absurd (false≢true is),
  λ is.
      let held = held-coloured (bare_slab c.self.inside.slab c.self.inside.bodies.items c.self.inside.new_marks.items) c.self.inside.colours.items c.args.self.now c.self.view_is c.args.key is in
      absurd (omega (arith, reaches-bare c.self.inside.slab c.self.inside.bodies.items c.self.inside.new_marks.items c.self.inside.colours.items c.self.invariant.coloured c.args.key held, c.if-key-len.true, c.len.ensures, c.self.inside.colours.ok.0)),
)

pub returns-then-ne : goal.returns-then-ne
returns-then-ne c =
    let s = bare_slab c.self.inside.slab c.self.inside.bodies.items c.self.inside.new_marks.items in
    let colours = c.self.inside.colours.items in (
      λ is. absurd (false≢true is),
      λ is.
          let held = held-coloured s colours c.args.self.now c.self.view_is c.args.key is in
          let there = is_some-found (get s c.args.key) held in
          let read = get_or_default colours c.args.key c.index.result.now White (reaches-bare c.self.inside.slab c.self.inside.bodies.items c.self.inside.new_marks.items colours c.self.invariant.coloured c.args.key held) in
          let seen : Some c.args.colour ≡ Some c.index.result.now = sym is ∙ (colour-coloured s colours c.args.self.now c.self.view_is c.args.key there.0 there.1 ∙ ap Some (sym read ∙ sym c.index.ensures)) in
          let same : c.args.colour ≡ c.index.result.now = cc in
          absurd (differs_true the_type c.index.result.now c.args.colour (sym c.if-ne.ensures) (sym same)),
    )

pub returns : goal.returns
returns c =
    let s = bare_slab c.self.inside.slab c.self.inside.bodies.items c.self.inside.new_marks.items in
    let colours = c.self.inside.colours.items in (
      λ is.
          let held = held-filled c.self.inside.slab c.self.inside.bodies.items c.self.inside.new_marks.items c.args.key (c.contains.ensures.0 is) in
          let there = is_some-found (get s c.args.key) held in
          let read = get_or_default colours c.args.key c.index.result.now White (reaches-bare c.self.inside.slab c.self.inside.bodies.items c.self.inside.new_marks.items colours c.self.invariant.coloured c.args.key held) in
          let same = differs_false the_type (search rules) c.index.result.now c.args.colour (sym c.if-ne.ensures) in
          colour-coloured s colours c.args.self.now c.self.view_is c.args.key there.0 there.1 ∙ ap Some (sym read ∙ (sym c.index.ensures ∙ same)),
      λ is. c.contains.ensures.1 (held-label c.self.inside.slab c.self.inside.bodies.items c.self.inside.new_marks.items c.args.key (held-coloured s colours c.args.self.now c.self.view_is c.args.key is)),
    )
