use Rattle.std.proofs.Common.{◌≡◌, ◌<◌, sym, subst, arith, length, get_or, None, List, option_map}
use Rattle.cc_names.specs.declared.number.SKey.{SKey}
use Rattle.cc_script.specs.Objects.{Object, slots_at}
use Rattle.cc_mutator.proofs.ScriptsRead.{script_slots-as_many, script_slots-few, script_slot-named, script_slot-there}
use Rattle.cc_mutator.proofs.reads.script_content.Goals as goal

pub overflow_cast-i : goal.overflow_cast-i
overflow_cast-i c =
    omega (arith, script_slots-few c.requires.order.0 c.args.heaps.now c.requires.order.1 c.args.r c.in-Some.key c.in-Some.ensures.name c.in-Some.ensures.there, c.requires.slot)

pub slot-requires-clause-within : goal.slot-requires-clause-within
slot-requires-clause-within c =
    let many = script_slots-as_many c.requires.order.0 c.args.heaps.now c.requires.order.1 c.args.r c.in-Some.key c.in-Some.ensures.name c.in-Some.ensures.there in
    subst (λ (os : List Object). c.args.i < length (slots_at os c.in-Some.key.0)) (sym c.scripts.ensures) (subst (λ n. c.args.i < n) (sym many) c.requires.slot)

pub returns : goal.returns
returns c =
    let v = c.args.heaps.now in
    let e = c.in-Some.ensures in
    let slot = subst (λ (os : List Object). option_map (λ (k : SKey). k.0) c.slot.result ≡ get_or (slots_at os c.in-Some.key.0) c.args.i None) c.scripts.ensures c.slot.ensures in
    record {
      name = script_slot-named c.requires.order.0 v c.requires.order.1 c.args.r c.in-Some.key e.name e.there c.args.i c.slot.result slot;
      there = script_slot-there c.requires.order.0 v c.requires.order.1 c.args.r c.in-Some.key e.name e.there c.args.i c.slot.result slot;
    }
