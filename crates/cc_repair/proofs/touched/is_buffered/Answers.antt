use Rattle.std.proofs.Common.{◌≡◌, Some, None, option_and_then, sym, ◌∙◌, ap}
use Rattle.std.proofs.lemmas.Bool.{eqb-true, false≢true, eq-eqb}
use Rattle.cc_counted.specs.Counts.{Counts}
use Rattle.cc_names.specs.Names.{native}
use Rattle.cc_heaps.specs.Keyed.{number_at}
use Rattle.cc_counted.specs.Suspects.{front_number, is_in_buffer}
use Rattle.cc_counted.specs.Counts as counts
use Rattle.cc_repair.proofs.TouchedKeys.{buffer-empty, key-tells, key-elsewhere, no-first}
use Rattle.cc_repair.proofs.touched.is_buffered.Goals as goal

pub returns-then-is_none : goal.returns-then-is_none
returns-then-is_none c =
    let none = no-first c.first_in_buffer.result c.is_none.result c.is_none.ensures c.if-is_none.true in
    let front : front_number c.counted-counted.result.now.buffer ≡ None =
    sym c.first_in_buffer.ensures.number ∙ ap (option_and_then (λ k. counts.number_at c.counted-counted.result.now k.0)) none in
    sym (buffer-empty c.args.heaps.now.heap.buffer (native c.args.number.0) (ap (λ (z : Counts). front_number z.buffer) (sym c.counted-counted.ensures) ∙ front))

pub returns-then-eq : goal.returns-then-eq
returns-then-eq c =
    let v = c.args.heaps.now in
    let found : number_at v c.args.key.0 ≡ Some c.in-Some.found.0 = ap (λ z. counts.number_at z c.args.key.0) (sym c.counted-counted.ensures) ∙ sym c.in-Some.ensures in
    let same : c.in-Some.found.0 ≡ c.args.number.0 = eqb-true c.in-Some.found.0 c.args.number.0 (sym c.if-eq.ensures) in
    c.in_buffer.ensures ∙ (ap (λ (z : Counts). is_in_buffer z.buffer (counts.the_number z c.args.key.0)) c.counted-counted.ensures ∙
    sym (key-tells v c.args.number.0 c.args.key.0 (found ∙ ap Some same)))

pub returns-else-eq : goal.returns-else-eq
returns-else-eq c =
    let v = c.args.heaps.now in
    let found : number_at v c.args.key.0 ≡ Some c.in-Some.found.0 = ap (λ z. counts.number_at z c.args.key.0) (sym c.counted-counted.ensures) ∙ sym c.in-Some.ensures in
    c.if-eq.false ∙ sym (key-elsewhere v c.requires.order c.args.number.0 c.args.key.0 c.requires.held
    (λ here.
    let both : Some c.in-Some.found.0 ≡ Some c.args.number.0 = sym found ∙ here in
    let same : c.in-Some.found.0 ≡ c.args.number.0 = cc in
    false≢true (c.if-eq.ensures ∙ eq-eqb c.in-Some.found.0 c.args.number.0 same)))

pub returns-in-None : goal.returns-in-None
returns-in-None c =
    let v = c.args.heaps.now in
    let found : number_at v c.args.key.0 ≡ None = ap (λ z. counts.number_at z c.args.key.0) (sym c.counted-counted.ensures) ∙ sym c.in-None.ensures in
    sym (key-elsewhere v c.requires.order c.args.number.0 c.args.key.0 c.requires.held
    (λ here. let both : None ≡ Some c.args.number.0 = sym found ∙ here in absurd (cc)))
