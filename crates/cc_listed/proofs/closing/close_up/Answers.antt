use Rattle.std.proofs.Common.{◌≤◌, ◌∙◌, sym, ap, length, arith}
use Rattle.std.proofs.lemmas.List.{length-take-le}
use Rattle.cc_listed.proofs.Finding.{found-front}
use Rattle.cc_listed.proofs.Standing.{contents-front}
use Rattle.cc_listed.proofs.closing.close_up.Goals as goal

pub returns-clause-found : goal.returns-clause-found
returns-clause-found c = rw c.truncate.ensures.items
    (found-front c.loop-place.end c.loop-place.places.items c.loop-place.by_name c.loop-place.invariant.found
    (λ k m l. c.loop-place.invariant.empty k m (omega (arith, c.loop-place.invariant.places, c.len-place-end.ensures, c.args.places.now.ok.0, c.loop-place-test.false))))

pub returns-clause-names : goal.returns-clause-names
returns-clause-names c = rw c.truncate.ensures.items
    (contents-front c.loop-place.end c.loop-place.places.items
    (λ k m l. c.loop-place.invariant.empty k m (omega (arith, c.loop-place.invariant.places, c.len-place-end.ensures, c.args.places.now.ok.0, c.loop-place-test.false)))
    ∙ c.loop-place.invariant.names)

pub returns-clause-closed : goal.returns-clause-closed
returns-clause-closed c =
    let within : c.loop-place.end ≤ length c.loop-place.places.items =
    omega (arith, c.loop-place.invariant.order, c.loop-place.invariant.places, c.len-place-end.ensures, c.args.places.now.ok.0, c.loop-place-test.false) in
    ap length c.truncate.ensures.items
    ∙ (length-take-le c.loop-place.end c.loop-place.places.items within
    ∙ (sym c.loop-place.invariant.full
    ∙ ap length (contents-front c.loop-place.end c.loop-place.places.items
    (λ k m l. c.loop-place.invariant.empty k m (omega (arith, c.loop-place.invariant.places, c.len-place-end.ensures, c.args.places.now.ok.0, c.loop-place-test.false)))
    ∙ c.loop-place.invariant.names)))
