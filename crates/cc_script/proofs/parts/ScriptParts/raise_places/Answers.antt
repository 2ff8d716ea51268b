use Rattle.std.proofs.Common.{◌≡◌, Option, Some, ap, sym, ◌∙◌}
use Rattle.cc_script.specs.Objects.{delegate_at, is_there, slots_at}
use Rattle.cc_script.specs.Marking.{Marking, raise_each, raise_key, raise_slot}
use Rattle.cc_script.specs.Parts.{lists_of, shows, marking_of}
use Rattle.cc_script.proofs.Places.{delegate_at-cell}
use Rattle.cc_script.proofs.PlacesOf.{held-slot, held-delegate}
use Rattle.cc_script.proofs.Raising.{raise_each-delegate, raise_each-there, raise_places}
use Rattle.cc_script.proofs.Reading.{held_key}
use Rattle.cc_script.proofs.parts.ScriptParts.raise_places.Goals as goal

pub raise_each-requires-clause-held : goal.raise_each-requires-clause-held
raise_each-requires-clause-held c q m = c.requires.held q (held-slot (shows c.args.self.now) c.args.key.0 c.requires.live q m)

pub delegate-requires-clause-live : goal.delegate-requires-clause-live
delegate-requires-clause-live c =
    let m = marking_of c.args.self.now in
    ap (λ (z : Marking). is_there z.objects c.args.key.0) c.raise_each.ensures.raises
    ∙ (raise_each-there c.args.to (slots_at m.objects c.args.key.0) m c.args.key.0 ∙ c.requires.live)

pub raise-requires-clause-live : goal.raise-requires-clause-live
raise-requires-clause-live c =
    let m = marking_of c.args.self.now in
    let slots = slots_at m.objects c.args.key.0 in
    let stands : delegate_at m.objects c.args.key.0 ≡ Some c.in-Some.delegate.0 =
    sym (raise_each-delegate c.args.to slots m c.args.key.0)
    ∙ (sym (ap (λ (z : Marking). delegate_at z.objects c.args.key.0) c.raise_each.ensures.raises)
    ∙ (delegate_at-cell (lists_of c.raise_each.new.self) c.raise_each.ensures.under_way.placed c.args.key.0 _ c.delegate.ensures ∙ ap held_key c.in-Some.is)) in
    ap (λ (z : Marking). is_there z.objects c.in-Some.delegate.0) c.raise_each.ensures.raises
    ∙ (raise_each-there c.args.to slots m c.in-Some.delegate.0
    ∙ c.requires.held c.in-Some.delegate.0 (held-delegate m.objects c.args.key.0 c.requires.live c.in-Some.delegate.0 stands))

pub returns-in-Some-clause-raises : goal.returns-in-Some-clause-raises
returns-in-Some-clause-raises c =
    let m = marking_of c.args.self.now in
    let raises = c.raise_each.ensures.raises in
    let read = delegate_at-cell (lists_of c.raise_each.new.self) c.raise_each.ensures.under_way.placed c.args.key.0 _ c.delegate.ensures in
    c.raise.ensures.raises
    ∙ (ap (raise_key c.args.to c.in-Some.delegate.0) raises
    ∙ sym (raise_places c.args.to c.args.key.0 (Some c.in-Some.delegate.0) m c.requires.live
    (sym (ap (λ (z : Marking). delegate_at z.objects c.args.key.0) raises) ∙ (read ∙ ap held_key c.in-Some.is))))

pub returns-in_default-clause-raises : goal.returns-in_default-clause-raises
returns-in_default-clause-raises c =
    let m = marking_of c.args.self.now in
    let raises = c.raise_each.ensures.raises in
    let read = delegate_at-cell (lists_of c.raise_each.new.self) c.raise_each.ensures.under_way.placed c.args.key.0 _ c.delegate.ensures in
    raises
    ∙ sym (raise_places c.args.to c.args.key.0 (held_key c.delegate.result) m c.requires.live
    (sym (ap (λ (z : Marking). delegate_at z.objects c.args.key.0) raises) ∙ read)
    ∙ ap (λ (x : Option _). raise_slot c.args.to (held_key x) (raise_each c.args.to (slots_at m.objects c.args.key.0) m)) c.in_default.is)
