use Rattle.std.proofs.Common.{rules, ◌≡◌, Some, None, sym, ◌∙◌, ap, subst, refl, []}
use Rattle.cc_counted.specs.declared.held.Held.TheVariants.{Native, Script}
use Rattle.cc_model.specs.Heap.{Heap}
use Rattle.cc_heaps.specs.Changes.{IsBlackHeld, held_name}
use Rattle.cc_heaps.specs.Standing.{IsReachedOrReflects}
use Rattle.cc_host.specs.Changes.{IsTried}
use Rattle.cc_host.proofs.Exposed.{exposed-names, exposed-change}
use Rattle.cc_host.proofs.Exposing.{exposed-slots, exposed-stays, same-change}
use Rattle.cc_host.proofs.Marked.{marking-same}
use Rattle.cc_host.specs.Marked.{IsPastIfAny}
use Rattle.cc_host.proofs.MarkedCalls.{native-past}
use Rattle.cc_host.proofs.LastingSteps.{exposes-stays, stays-ended}
use Rattle.cc_host.proofs.Usable.{stays-usable}
use Rattle.cc_host.proofs.changes.expose_held.Goals as goal
use Rattle.cc_host.proofs.SpotsThen.{writes-after, writes-same}

pub returns-in-Some-Script-clause-change : goal.returns-in-Some-Script-clause-change
returns-in-Some-Script-clause-change c =
    let v = c.args.heaps.now in
    let of : c.in-Some-Script.field-0 ≡ Script c.in-Some-Script.key = rw c.in-Some-Script.is at c.in-Some-Script.field-0-is in
    subst (λ x. IsTried (IsReachedOrReflects v.heap (held_name v x)) v c.expose_key.new.heaps) (sym (c.in-Some-Script.is ∙ ap (λ x. Some x) of))
    (exposed-change v c.expose_key.new.heaps c.expose_key.ensures.exposes c.requires.ready)

pub returns-in-Some-Script-clause-black : goal.returns-in-Some-Script-clause-black
returns-in-Some-Script-clause-black c =
    let of : c.in-Some-Script.field-0 ≡ Script c.in-Some-Script.key = rw c.in-Some-Script.is at c.in-Some-Script.field-0-is in
    subst (IsBlackHeld c.expose_key.new.heaps) (sym (c.in-Some-Script.is ∙ ap (λ x. Some x) of)) c.expose_key.ensures.black

pub returns-in-Some-Script-clause-stays : goal.returns-in-Some-Script-clause-stays
returns-in-Some-Script-clause-stays c = exposed-stays c.args.heaps.now c.expose_key.new.heaps c.expose_key.ensures.exposes

pub returns-in-Some-Script-clause-slots : goal.returns-in-Some-Script-clause-slots
returns-in-Some-Script-clause-slots c = exposed-slots c.args.heaps.now c.expose_key.new.heaps c.expose_key.ensures.exposes

pub returns-in-Some-Script-clause-names : goal.returns-in-Some-Script-clause-names
returns-in-Some-Script-clause-names c = exposed-names c.args.heaps.now c.expose_key.new.heaps c.expose_key.ensures.exposes

pub returns-in-Some-Script-clause-reached : goal.returns-in-Some-Script-clause-reached
returns-in-Some-Script-clause-reached c = c.expose_key.ensures.exposes.reached

pub returns-in-None-clause-change : goal.returns-in-None-clause-change
returns-in-None-clause-change c = same-change c.args.heaps.now c.requires.ready

pub returns-in-Some-Native-clause-change : goal.returns-in-Some-Native-clause-change
returns-in-Some-Native-clause-change c = same-change c.args.heaps.now c.requires.ready

pub returns-in-Some-Script-clause-registers : goal.returns-in-Some-Script-clause-registers
returns-in-Some-Script-clause-registers c = ap (λ (h : Heap). h.native_registers) c.expose_key.ensures.exposes.rest

pub returns-in-Some-Script-clause-made : goal.returns-in-Some-Script-clause-made
returns-in-Some-Script-clause-made c = ap (λ (h : Heap). h.natives_made) c.expose_key.ensures.exposes.rest

pub returns-in-Some-Script-clause-past : goal.returns-in-Some-Script-clause-past
returns-in-Some-Script-clause-past c =
    let v = c.args.heaps.now in
    let of : c.in-Some-Script.field-0 ≡ Script c.in-Some-Script.key = rw c.in-Some-Script.is at c.in-Some-Script.field-0-is in
    λ k. subst (λ x. IsPastIfAny c.expose_key.new.heaps (held_name v x)) (sym (c.in-Some-Script.is ∙ ap (λ x. Some x) of)) (c.expose_key.ensures.past k)

pub returns-in-None-clause-marking : goal.returns-in-None-clause-marking
returns-in-None-clause-marking c = marking-same c.args.heaps.now c.args.heaps.now refl

pub returns-in-Some-Native-clause-marking : goal.returns-in-Some-Native-clause-marking
returns-in-Some-Native-clause-marking c = marking-same c.args.heaps.now c.args.heaps.now refl

pub returns-in-None-clause-past : goal.returns-in-None-clause-past
returns-in-None-clause-past c =
    let v = c.args.heaps.now in
    let is : c.args.content ≡ None = search rules in
    λ well. subst (λ x. IsPastIfAny v (held_name v x)) (sym is) (λ y i. absurd i)

pub returns-in-Some-Native-clause-past : goal.returns-in-Some-Native-clause-past
returns-in-Some-Native-clause-past c =
    let v = c.args.heaps.now in
    let is : c.args.content ≡ Some (Native c.in-Some-Native._key) = search rules in
    λ well. subst (λ x. IsPastIfAny v (held_name v x)) (sym is) (native-past v (Some c.in-Some-Native._key) c.requires.ready.order.sound.well_formed well)

pub returns-in-None-clause-writes : goal.returns-in-None-clause-writes
returns-in-None-clause-writes c = writes-same c.args.heaps.now.heap

pub returns-in-Some-Native-clause-writes : goal.returns-in-Some-Native-clause-writes
returns-in-Some-Native-clause-writes c = writes-same c.args.heaps.now.heap

pub returns-in-Some-Script-clause-writes : goal.returns-in-Some-Script-clause-writes
returns-in-Some-Script-clause-writes c = writes-after [] c.args.heaps.now.heap c.expose_key.new.heaps.heap c.expose_key.new.heaps.heap c.expose_key.ensures.spots (writes-same c.expose_key.new.heaps.heap)

pub returns-in-Some-Script-clause-ended : goal.returns-in-Some-Script-clause-ended
returns-in-Some-Script-clause-ended c =
    let v = c.args.heaps.now in
    let w = c.expose_key.new.heaps in
    stays-ended v w c.requires.ready.order (exposes-stays v w c.expose_key.ensures.exposes)

pub returns-in-Some-Script-clause-usable : goal.returns-in-Some-Script-clause-usable
returns-in-Some-Script-clause-usable c =
    let v = c.args.heaps.now in
    let w = c.expose_key.new.heaps in
    stays-usable v w c.requires.ready.order (exposes-stays v w c.expose_key.ensures.exposes)
