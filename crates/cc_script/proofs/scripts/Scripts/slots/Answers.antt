use Rattle.std.proofs.Common.{◌≡◌, ◌≤◌, List, length, ap, sym, subst, ◌∙◌, arith}
use Rattle.std.proofs.lemmas.List.{length-map}
use Rattle.cc_names.specs.Sizes.{most_slots}
use Rattle.cc_script.specs.Objects.{Object, slots_at}
use Rattle.cc_script.specs.Cells.{Content, filled, in_colour, in_new_mark}
use Rattle.cc_script.specs.Parts.{lists_of}
use Rattle.cc_script.proofs.Places.{slots_at-placed}
use Rattle.cc_script.proofs.Reading.{held_key}
use Rattle.cc_script.proofs.scripts.Scripts.slots.Goals as goal

pub overflow_cast-result : goal.overflow_cast-result
overflow_cast-result c =
    let few : length c.body.result.now.slots ≤ most_slots = c.self.invariant.placed.small c.args.key.0 (in_colour c.body.ensures.0 (in_new_mark c.body.ensures.1.0 (filled c.body.result.now c.body.ensures.1.1.0))).placed c.body.ensures.1.1.1 in
    omega (
      arith,
      c.len.ensures,
      c.behind-self.inside.slots.ok.0,
      length-map c.behind-self.inside.slots.items held_key,
      ap (λ (p : Content). length p.slots) c.behind-self.view_is,
    )

pub returns : goal.returns
returns c =
    let long : c.len.result ≡ length c.body.result.now.slots =
    omega (
      arith,
      c.len.ensures,
      c.behind-self.inside.slots.ok.0,
      length-map c.behind-self.inside.slots.items held_key,
      ap (λ (p : Content). length p.slots) c.behind-self.view_is,
    ) in
    subst (λ (v : List Object). c.len.result ≡ length (slots_at v c.args.key.0)) c.self.view_is
    (long ∙ ap length (sym (slots_at-placed (lists_of c.self.inside.parts) c.self.invariant.placed c.args.key.0 (in_colour c.body.ensures.0 (in_new_mark c.body.ensures.1.0 (filled c.body.result.now c.body.ensures.1.1.0))).placed c.body.ensures.1.1.1)))
