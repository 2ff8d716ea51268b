use Rattle.std.proofs.Common.{◌≡◌, true, false, Option, Some, option_map, get_or, sym, ap, ◌∙◌, arith}
use Rattle.std.proofs.lemmas.List.{get_or_default}
use Rattle.slab.specs.Slab.{get}
use Rattle.cc_names.specs.declared.number.SKey.{SKey}
use Rattle.cc_names.specs.Places.{where_set}
use Rattle.cc_script.specs.Cells.{Content, Label, Linked, nothing}
use Rattle.cc_script.proofs.Coloured.{held-whole, read-whole}
use Rattle.cc_script.proofs.cells.Cells.delegate.Goals as goal
use Rattle.cc_lists.proofs.Held.{is_some-found}

pub index-requires : goal.index-requires
index-requires c =
    let held = held-whole c.self.inside.slab c.self.inside.bodies.items c.self.inside.new_marks.items c.self.inside.colours.items c.args.self.now c.self.view_is c.args.key c.requires in
    omega (arith, c.self.invariant.filled c.args.key held, c.self.inside.bodies.ok.0)

pub index-requires-then-index : goal.index-requires-then-index
index-requires-then-index c =
    held-whole c.self.inside.slab c.self.inside.bodies.items c.self.inside.new_marks.items c.self.inside.colours.items c.args.self.now c.self.view_is c.args.key c.requires

pub returns-then-index : goal.returns-then-index
returns-then-index c =
    let s = c.self.inside.slab in
    let contents = c.self.inside.bodies.items in
    let marks = c.self.inside.new_marks.items in
    let colours = c.self.inside.colours.items in
    let held = held-whole s contents marks colours c.args.self.now c.self.view_is c.args.key c.requires in
    let content = get_or contents c.args.key nothing in
    let label = c.index-then-index.result.now in
    let told : content.is_proxy ≡ true =
    sym (ap (λ (w : Content). w.is_proxy) (c.behind-self.view_is ∙ (c.index.ensures ∙ get_or_default contents c.args.key c.index.result.now nothing (c.self.invariant.filled c.args.key held)))) ∙ c.if-index.true in
    ap (option_map (λ (z : Linked). z.placed.delegate))
    (read-whole s contents marks colours c.args.self.now c.self.view_is c.args.key label c.index-then-index.ensures)
    ∙ ap Some (ap (λ b. where_set b label.delegate) told
    ∙ (ap (λ (l : Label). l.delegate) (sym c.behind-self-then-index.view_is) ∙ ap (λ (d : Option SKey). option_map (λ (k : SKey). k.0) d) (sym c.delegate.ensures)))

pub returns-else-index : goal.returns-else-index
returns-else-index c =
    let s = c.self.inside.slab in
    let contents = c.self.inside.bodies.items in
    let marks = c.self.inside.new_marks.items in
    let colours = c.self.inside.colours.items in
    let held = held-whole s contents marks colours c.args.self.now c.self.view_is c.args.key c.requires in
    let content = get_or contents c.args.key nothing in
    let there = is_some-found (get s c.args.key) held in
    let told : content.is_proxy ≡ false =
    sym (ap (λ (w : Content). w.is_proxy) (c.behind-self.view_is ∙ (c.index.ensures ∙ get_or_default contents c.args.key c.index.result.now nothing (c.self.invariant.filled c.args.key held)))) ∙ c.if-index.false in
    ap (option_map (λ (z : Linked). z.placed.delegate))
    (read-whole s contents marks colours c.args.self.now c.self.view_is c.args.key there.0 there.1)
    ∙ ap Some (ap (λ b. where_set b there.0.delegate) told)
