use Rattle.std.proofs.Common.{◌≡◌, ◌<◌, sym, subst, arith, length, get_or, None, IsTrue}
use Rattle.cc_counted.specs.Counts.{Counts, name_of, is_live, slots_of}
use Rattle.cc_mutator.proofs.NativesRead.{slots-as_many, slots-few, slot-named}
use Rattle.cc_mutator.proofs.reads.native_content.Goals as goal

pub overflow_cast-i : goal.overflow_cast-i
overflow_cast-i c =
    omega (arith, slots-few c.requires.order.0 c.args.heaps.now c.requires.order.1 c.args.r c.in-Some.key c.in-Some.ensures.name c.in-Some.ensures.there, c.requires.slot)

pub slot-requires-clause-within : goal.slot-requires-clause-within
slot-requires-clause-within c =
    let many = slots-as_many c.requires.order.0 c.args.heaps.now c.requires.order.1 c.args.r c.in-Some.key c.in-Some.ensures.name c.in-Some.ensures.there in
    subst (λ (d : Counts). c.args.i < length (slots_of d c.in-Some.key.0)) (sym c.counted.ensures) (subst (λ n. c.args.i < n) (sym many) c.requires.slot)

pub returns : goal.returns
returns c =
    let held = slot-named c.requires.order.0 c.args.heaps.now c.requires.order.1 c.args.r c.in-Some.key c.in-Some.ensures.name c.in-Some.ensures.there c.args.i c.slot.result
    (subst (λ (d : Counts). name_of d c.slot.result ≡ get_or (slots_of d c.in-Some.key.0) c.args.i None) c.counted.ensures c.slot.ensures.name)
    (subst (λ (d : Counts). IsTrue (is_live d c.slot.result)) c.counted.ensures c.slot.ensures.live) in
    record { name = held.name; there = held.there }
