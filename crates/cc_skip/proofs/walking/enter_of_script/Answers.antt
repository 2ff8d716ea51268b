use Rattle.std.proofs.Common.{◌+◌, length, sym, ◌∙◌, ap, arith}
use Rattle.cc_counted.specs.declared.held.Held.TheVariants as held
use Rattle.cc_script.specs.Objects.{slots_at}
use Rattle.cc_heaps.specs.Changes.{native_name, script_name}
use Rattle.cc_skip.proofs.Entering.{Enters-last, Enters-none, Enters-place}
use Rattle.cc_skip.proofs.ScriptPlaces.{delegate-entered, delegate-read, native-read, script-still, script_places-length, script_slot-read, script_slots-still}
use Rattle.cc_skip.proofs.walking.enter_of_script.Goals as goal

pub loop-i-init : goal.loop-i-init
loop-i-init c =
    let v = c.args.heaps.now in
    let f = c.requires.order in
    record {
      came = Enters-none v;
      many = script_places-length f.0 v f.1 c.args.key c.requires.there
          ∙ ap (λ n. n + 2) (sym (c.slots-i-end.ensures ∙ ap (λ os. length (slots_at os c.args.key.0)) c.scripts.ensures));
    }

-- A slot

pub slot-content-requires-clause-live : goal.slot-content-requires-clause-live
slot-content-requires-clause-live c =
    let f = c.requires.order in
    let i = c.loop-i.invariant in
    script-still f.0 c.args.heaps.now c.loop-i.heaps f.1 _ i.came c.args.key c.requires.there c.slots-i-end.result i.many c.scripts-in-loop-i.result.now c.scripts-in-loop-i.ensures

pub slot-content-requires-clause-within : goal.slot-content-requires-clause-within
slot-content-requires-clause-within c =
    let f = c.requires.order in
    let i = c.loop-i.invariant in
    omega (
      arith,
      c.loop-i-test.true,
      script_slots-still f.0 c.args.heaps.now c.loop-i.heaps f.1 _ i.came c.args.key c.requires.there c.slots-i-end.result i.many c.scripts-in-loop-i.result.now c.scripts-in-loop-i.ensures,
    )

pub enter_script-requires : goal.enter_script-requires
enter_script-requires c =
    let f = c.requires.order in
    let i = c.loop-i.invariant in
    let read = script_slot-read f.0 c.args.heaps.now c.loop-i.heaps f.1 _ i.came c.args.key c.requires.there c.slots-i-end.result i.many c.scripts-in-loop-i.result.now c.scripts-in-loop-i.ensures
    c.loop-i.i c.slot-content.result c.loop-i-test.true c.slot-content.ensures in
    record { there = read.1 }

pub loop-i-preserved : goal.loop-i-preserved
loop-i-preserved c =
    let v = c.args.heaps.now in
    let b = c.loop-i.heaps in
    let f = c.requires.order in
    let i = c.loop-i.invariant in
    let read = script_slot-read f.0 v b f.1 _ i.came c.args.key c.requires.there c.slots-i-end.result i.many c.scripts-in-loop-i.result.now c.scripts-in-loop-i.ensures
    c.loop-i.i c.slot-content.result c.loop-i-test.true c.slot-content.ensures in
    record {
      came = Enters-place v b c.enter_script.new.heaps (held.Script c.args.key) c.loop-i.i (script_name b c.slot-content.result) (omega (arith, i.many, c.loop-i-test.true))
          read.0 i.came c.enter_script.ensures;
      many = i.many;
    }

-- The delegate

pub delegate-delegate-requires : goal.delegate-delegate-requires
delegate-delegate-requires c =
    let f = c.requires.order in
    let i = c.loop-i.invariant in
    record { live = script-still f.0 c.args.heaps.now c.loop-i.heaps f.1 _ i.came c.args.key c.requires.there c.slots-i-end.result i.many c.scripts-2.result.now c.scripts-2.ensures }

pub enter_script-requires-2 : goal.enter_script-requires-2
enter_script-requires-2 c =
    let f = c.requires.order in
    let i = c.loop-i.invariant in
    let read = delegate-read f.0 c.args.heaps.now c.loop-i.heaps f.1 _ i.came c.args.key c.requires.there c.slots-i-end.result i.many c.scripts-2.result.now c.scripts-2.ensures
    c.delegate-delegate.result c.delegate-delegate.ensures.delegate in
    record { there = read.1 }

-- The native

pub native_of-native-requires : goal.native_of-native-requires
native_of-native-requires c =
    let v = c.args.heaps.now in
    let b = c.loop-i.heaps in
    let w = c.enter_script-2.new.heaps in
    let f = c.requires.order in
    let n = c.slots-i-end.result in
    let i = c.loop-i.invariant in
    let came = delegate-entered f.0 v b w f.1 c.args.key c.requires.there n i.many c.loop-i.i c.loop-i.auto.i-end c.loop-i-test.false i.came
    c.scripts-2.result.now c.scripts-2.ensures c.delegate-delegate.result c.delegate-delegate.ensures.delegate c.enter_script-2.ensures in
    record { live = script-still f.0 v w f.1 _ came c.args.key c.requires.there n i.many c.scripts-3.result.now c.scripts-3.ensures }

pub enter_native-requires : goal.enter_native-requires
enter_native-requires c =
    let v = c.args.heaps.now in
    let b = c.loop-i.heaps in
    let w = c.enter_script-2.new.heaps in
    let f = c.requires.order in
    let n = c.slots-i-end.result in
    let i = c.loop-i.invariant in
    let came = delegate-entered f.0 v b w f.1 c.args.key c.requires.there n i.many c.loop-i.i c.loop-i.auto.i-end c.loop-i-test.false i.came
    c.scripts-2.result.now c.scripts-2.ensures c.delegate-delegate.result c.delegate-delegate.ensures.delegate c.enter_script-2.ensures in
    let read = native-read f.0 v w f.1 _ came c.args.key c.requires.there n i.many c.scripts-3.result.now c.scripts-3.ensures c.native_of-native.result c.native_of-native.ensures.native in
    record { there = read.1 }

pub returns : goal.returns
returns c =
    let v = c.args.heaps.now in
    let b = c.loop-i.heaps in
    let w = c.enter_script-2.new.heaps in
    let f = c.requires.order in
    let n = c.slots-i-end.result in
    let i = c.loop-i.invariant in
    let came = delegate-entered f.0 v b w f.1 c.args.key c.requires.there n i.many c.loop-i.i c.loop-i.auto.i-end c.loop-i-test.false i.came
    c.scripts-2.result.now c.scripts-2.ensures c.delegate-delegate.result c.delegate-delegate.ensures.delegate c.enter_script-2.ensures in
    let read = native-read f.0 v w f.1 _ came c.args.key c.requires.there n i.many c.scripts-3.result.now c.scripts-3.ensures c.native_of-native.result c.native_of-native.ensures.native in
    Enters-last v w c.enter_native.new.heaps (held.Script c.args.key) (n + 1) (native_name w c.native_of-native.result) (omega (arith, i.many)) read.0 came c.enter_native.ensures
