use Rattle.std.proofs.Common.{◌<◌, List, None, IsTrue, sym, ◌∙◌, ap, subst, get_or, rules}
use Rattle.cc_script.specs.Objects as objects
use Rattle.cc_heaps.specs.Keyed.{counts_of}
use Rattle.cc_heaps.proofs.ContentNames.{IsHeldAs}
use Rattle.cc_host.specs.Hosted.{Hosted, IsKept, slots_of}
use Rattle.cc_host.proofs.Reading.{IsReadAs, native_slots-many, native_slot-held, script_slots-many, script_slot-read}
use Rattle.cc_host.proofs.runtime.Runtime.slot.Goals as goal
use Rattle.cc_host.proofs.runtime.Runtime.slot.Goals.{After-slot, After-slot-in-Script}

-- A native

pub slot-requires-clause-within : goal.slot-requires-clause-within
slot-requires-clause-within c =
    let k = c.in_ok-key-in-Native in
    subst (λ n. c.args.i < n) (sym (native_slots-many c.args.self.now (subst IsKept c.self.view_is c.self.invariant) c.args.x k.key k.ensures.name
    c.counted.result.now (c.counted.ensures ∙ ap (λ (h : Hosted). counts_of h.heaps) c.self.view_is)))
    (subst (λ n. c.args.i < n) c.count_slots.ensures c.if-i-count_slots.false)

held : (c : After-slot) → IsHeldAs c.args.self.now.heaps c.slot.result (get_or (slots_of c.args.self.now c.args.x) c.args.i None)
held c =
    let k = c.in_ok-key-in-Native in
    native_slot-held c.args.self.now (subst IsKept c.self.view_is c.self.invariant) c.args.x k.key k.ensures.name
    c.counted.result.now (c.counted.ensures ∙ ap (λ (h : Hosted). counts_of h.heaps) c.self.view_is)
    c.args.i c.slot.result c.slot.ensures.name c.slot.ensures.live

pub of_held-requires : goal.of_held-requires
of_held-requires c = (held c).there

pub returns-in_ok-key-in-Native-clause-name : goal.returns-in_ok-key-in-Native-clause-name
returns-in_ok-key-in-Native-clause-name c = c.of_held.ensures.name ∙ (held (goal.at.returns-in_ok-key-in-Native-clause-name c).After-slot).name

-- A script object

pub slot-requires-in-Script : goal.slot-requires-in-Script
slot-requires-in-Script c =
    let k = c.in_ok-key-in-Script in
    let is = c.scripts.ensures ∙ ap (λ (h : Hosted). h.heaps.scripts) c.self.view_is in
    record {
      live = subst (λ (os : List objects.Object). IsTrue (objects.is_there os k.key.0)) (sym is) k.ensures.live;
      within = subst (λ n. c.args.i < n) (sym (script_slots-many c.args.self.now (subst IsKept c.self.view_is c.self.invariant) c.args.x k.key k.ensures.name c.scripts.result.now is))
          (subst (λ n. c.args.i < n) c.count_slots.ensures c.if-i-count_slots.false);
    }

read : (c : After-slot-in-Script) → IsReadAs c.args.self.now.heaps c.slot-in-Script.result (get_or (slots_of c.args.self.now c.args.x) c.args.i None)
read c =
    let k = c.in_ok-key-in-Script in
    script_slot-read c.args.self.now (subst IsKept c.self.view_is c.self.invariant) c.args.x k.key k.ensures.name
    c.scripts.result.now (c.scripts.ensures ∙ ap (λ (h : Hosted). h.heaps.scripts) c.self.view_is) c.args.i c.slot-in-Script.result c.slot-in-Script.ensures

pub of_script-requires : goal.of_script-requires
of_script-requires c = (read c).there

pub returns-in_ok-key-in-Script : goal.returns-in_ok-key-in-Script
returns-in_ok-key-in-Script c = record { stops = search rules; name = c.of_script.ensures.name ∙ (read (goal.at.returns-in_ok-key-in-Script c).After-slot-in-Script).name; there = c.of_script.ensures.there }
