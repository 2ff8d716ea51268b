use Rattle.std.proofs.Common.{◌<◌, List, length, ap, sym, subst, ◌∙◌, arith}
use Rattle.std.proofs.lemmas.List.{length-map}
use Rattle.cc_script.specs.Objects.{Object, slots_at}
use Rattle.cc_script.specs.Cells.{Content, filled, in_colour, in_new_mark}
use Rattle.cc_script.specs.Parts.{lists_of}
use Rattle.cc_script.proofs.Places.{slots_at-placed}
use Rattle.cc_script.proofs.Reading.{held_key, slot-read}
use Rattle.cc_script.proofs.scripts.Scripts.slot.Goals as goal

pub index-requires : goal.index-requires
index-requires c =
    omega (
      arith,
      subst (λ (v : List Object). c.args.i < length (slots_at v c.args.key.0)) (sym c.self.view_is) c.requires.within,
      ap length (slots_at-placed (lists_of c.self.inside.parts) c.self.invariant.placed c.args.key.0 (in_colour c.body.ensures.0 (in_new_mark c.body.ensures.1.0 (filled c.body.result.now c.body.ensures.1.1.0))).placed c.body.ensures.1.1.1),
      ap (λ (p : Content). length p.slots) c.behind-self.view_is,
      length-map c.behind-self.inside.slots.items held_key,
      c.behind-self.inside.slots.ok.0,
    )

pub returns : goal.returns
returns c =
    let slots = ap (λ (p : Content). p.slots) c.behind-self.view_is ∙ sym (slots_at-placed (lists_of c.self.inside.parts) c.self.invariant.placed c.args.key.0 (in_colour c.body.ensures.0 (in_new_mark c.body.ensures.1.0 (filled c.body.result.now c.body.ensures.1.1.0))).placed c.body.ensures.1.1.1) in
    let same = ap (λ (v : List Object). slots_at v c.args.key.0) c.self.view_is in
    slot-read c.behind-self.inside.slots.items (slots_at c.args.self.now c.args.key.0) c.args.i c.index.result.now (slots ∙ same) c.requires.within c.index.ensures
