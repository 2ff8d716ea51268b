use Rattle.std.proofs.Common.{◌+◌, None, length, sym, ◌∙◌, ap, arith}
use Rattle.cc_counted.specs.Counts.{Counts, slots_of}
use Rattle.cc_counted.specs.declared.held.Held.TheVariants as held
use Rattle.cc_heaps.specs.Changes.{held_name, script_name}
use Rattle.cc_skip.proofs.Entering.{Enters-last, Enters-none, Enters-place, Enters-slots}
use Rattle.cc_skip.proofs.NativePlaces.{native_places-length, native_slot-read, native_slots-still, no_reflector-read, reflector-read}
use Rattle.cc_skip.proofs.walking.enter_of_native.Goals as goal

pub loop-i-init : goal.loop-i-init
loop-i-init c =
    let v = c.args.heaps.now in
    let f = c.requires.order in
    record {
      came = Enters-none v;
      many = native_places-length f.0 v f.1 c.args.key c.requires.there
          ∙ ap (λ n. n + 1) (sym (c.slots-i-end.ensures ∙ ap (λ (d : Counts). length (slots_of d c.args.key.0)) c.counted.ensures));
    }

-- A slot

pub slot-content-requires-clause-within : goal.slot-content-requires-clause-within
slot-content-requires-clause-within c =
    let f = c.requires.order in
    let i = c.loop-i.invariant in
    omega (
      arith,
      c.loop-i-test.true,
      native_slots-still f.0 c.args.heaps.now c.loop-i.heaps f.1 _ i.came c.args.key c.requires.there c.slots-i-end.result i.many c.counted-in-loop-i.result.now c.counted-in-loop-i.ensures,
    )

pub enter-requires : goal.enter-requires
enter-requires c =
    let f = c.requires.order in
    let i = c.loop-i.invariant in
    let read = native_slot-read f.0 c.args.heaps.now c.loop-i.heaps f.1 _ i.came c.args.key c.requires.there c.slots-i-end.result i.many c.counted-in-loop-i.result.now c.counted-in-loop-i.ensures
    c.loop-i.i c.slot-content.result c.loop-i-test.true c.slot-content.ensures.name c.slot-content.ensures.live in
    record { there = read.there }

pub loop-i-preserved : goal.loop-i-preserved
loop-i-preserved c =
    let v = c.args.heaps.now in
    let b = c.loop-i.heaps in
    let f = c.requires.order in
    let i = c.loop-i.invariant in
    let read = native_slot-read f.0 v b f.1 _ i.came c.args.key c.requires.there c.slots-i-end.result i.many c.counted-in-loop-i.result.now c.counted-in-loop-i.ensures
    c.loop-i.i c.slot-content.result c.loop-i-test.true c.slot-content.ensures.name c.slot-content.ensures.live in
    record {
      came = Enters-place v b c.enter.new.heaps (held.Native c.args.key) c.loop-i.i (held_name b c.slot-content.result) (omega (arith, i.many, c.loop-i-test.true))
          read.name i.came c.enter.ensures;
      many = i.many;
    }

-- Its reflector

pub enter_script-requires : goal.enter_script-requires
enter_script-requires c =
    let f = c.requires.order in
    let i = c.loop-i.invariant in
    let read = reflector-read f.0 c.args.heaps.now c.loop-i.heaps f.1 _ i.came c.args.key c.requires.there c.slots-i-end.result i.many c.counted-2.result.now c.counted-2.ensures
    c.counted-then-preserved.result.now c.counted-then-preserved.ensures c.reflector-its_reflector.result (sym c.preserved.ensures ∙ c.if-preserved.true) c.reflector-its_reflector.ensures in
    record { there = read.1 }

pub returns-then-preserved : goal.returns-then-preserved
returns-then-preserved c =
    let v = c.args.heaps.now in
    let b = c.loop-i.heaps in
    let f = c.requires.order in
    let i = c.loop-i.invariant in
    let n = c.slots-i-end.result in
    let x = c.reflector-its_reflector.result in
    let read = reflector-read f.0 v b f.1 _ i.came c.args.key c.requires.there n i.many c.counted-2.result.now c.counted-2.ensures
    c.counted-then-preserved.result.now c.counted-then-preserved.ensures x (sym c.preserved.ensures ∙ c.if-preserved.true) c.reflector-its_reflector.ensures in
    Enters-last v b c.enter_script.new.heaps (held.Native c.args.key) n (script_name b x) i.many read.0
    (Enters-slots v b (held.Native c.args.key) c.loop-i.i n c.loop-i.auto.i-end c.loop-i-test.false i.came) c.enter_script.ensures

pub returns-else-preserved : goal.returns-else-preserved
returns-else-preserved c =
    let v = c.args.heaps.now in
    let b = c.loop-i.heaps in
    let f = c.requires.order in
    let i = c.loop-i.invariant in
    let n = c.slots-i-end.result in
    let read = no_reflector-read f.0 v b f.1 _ i.came c.args.key c.requires.there n i.many c.counted-2.result.now c.counted-2.ensures (sym c.preserved.ensures ∙ c.if-preserved.false) in
    Enters-last v b b (held.Native c.args.key) n None i.many read
    (Enters-slots v b (held.Native c.args.key) c.loop-i.i n c.loop-i.auto.i-end c.loop-i-test.false i.came) (Enters-none b)
