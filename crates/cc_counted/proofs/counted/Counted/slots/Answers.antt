use Rattle.std.proofs.Common.{◌≡◌, ◌≤◌, length, ap, sym, subst, ◌∙◌, arith}
use Rattle.cc_names.specs.Sizes.{most_slots}
use Rattle.cc_counted.specs.Counts.{Counts, slots_of}
use Rattle.cc_counted.specs.Lists.{Placed}
use Rattle.cc_counted.proofs.Reading.{length-slots_of}
use Rattle.cc_counted.proofs.counted.Counted.slots.Goals as goal

pub overflow_cast-result : goal.overflow_cast-result
overflow_cast-result c =
    let few : length c.at.result.now.slots ≤ most_slots = c.self.invariant.placed.small c.args.key.0 c.at.result.now c.at.ensures in
    omega (arith, c.len.ensures, ap (λ (p : Placed). length p.slots) c.behind-self.view_is)

pub returns : goal.returns
returns c =
    let long : c.len.result ≡ length c.at.result.now.slots = omega (arith, c.len.ensures, ap (λ (p : Placed). length p.slots) c.behind-self.view_is) in
    subst (λ (v : Counts). c.len.result ≡ length (slots_of v c.args.key.0)) c.self.view_is
    (long ∙ sym (length-slots_of c.self.inside.natives.lists c.self.invariant.placed c.args.key.0 c.at.result.now c.at.ensures))
