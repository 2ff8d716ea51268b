use Rattle.std.proofs.Common.{is_some, ap, sym, ◌∙◌}
use Rattle.cc_lists.proofs.Held.{is_some-map}
use Rattle.cc_chain.proofs.Slots.{parts-held}
use Rattle.cc_script.specs.Lists.{cell_at, with_key}
use Rattle.cc_script.specs.Cells.{Linked}
use Rattle.cc_script.specs.Parts.{lists_of}
use Rattle.cc_script.proofs.Places.{object_at-cell}
use Rattle.cc_script.proofs.parts.ScriptParts.contains.Goals as goal

pub returns : goal.returns
returns c =
    let l = lists_of c.args.self.now in
    let key = c.args.key.0 in
    c.contains.ensures
    ∙ (sym (parts-held (λ (z : Linked). z.placed) c.args.self.now.cells.slots key)
    ∙ (sym (is_some-map (with_key key (l.walks key)) (cell_at l.cells key))
    ∙ sym (ap is_some (object_at-cell l c.requires.placed key))))
