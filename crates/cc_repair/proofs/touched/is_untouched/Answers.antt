use Rattle.std.proofs.Common.{◌≡◌, None, option_and_then, sym, ◌∙◌, ap}
use Rattle.std.proofs.lemmas.Bool.{not-true}
use Rattle.cc_counted.specs.Counts as counts
use Rattle.cc_counted.specs.Counts.{Counts}
use Rattle.cc_counted.specs.Suspects.{front_number}
use Rattle.cc_repair.proofs.TouchedKeys.{no-some, untouched}
use Rattle.cc_repair.proofs.touched.is_untouched.Goals as goal

pub returns : goal.returns
returns c t =
    let none = no-some c.first_in_buffer.result c.is_some.result c.is_some.ensures c.if-is_some.false in
    let front : front_number c.counted.result.now.buffer ≡ None =
    sym c.first_in_buffer.ensures.number ∙ ap (option_and_then (λ k. counts.number_at c.counted.result.now k.0)) none in
    untouched c.args.heaps.now c.requires.order (ap (λ (z : Counts). front_number z.buffer) (sym c.counted.ensures) ∙ front)
    c.scripts.result.now c.has_colour.result c.scripts.ensures c.has_colour.ensures (not-true c.has_colour.result t)
