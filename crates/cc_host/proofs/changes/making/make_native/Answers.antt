use Rattle.std.proofs.Common.{◌≡◌, ◌+◌, [], None, Some, sym, ◌∙◌, ap, subst, arith}
use Rattle.cc_names.specs.Names.{native}
use Rattle.cc_heaps.specs.Changes.{native_name}
use Rattle.cc_host.specs.Hosted.{spare}
use Rattle.cc_host.specs.Missing.{KeepsDoomed}
use Rattle.cc_host.proofs.KeptDoomed.{make_native-doomed}
use Rattle.cc_host.proofs.Making.{native-beside, native-came, native-held, native-reaches}
use Rattle.cc_host.proofs.MadeTaken.{made-whole}
use Rattle.cc_host.proofs.Coming.{OneCame-named}
use Rattle.cc_host.proofs.MarkedCalls.{made_native-marking}
use Rattle.cc_host.proofs.PlacesKept.{make_native-places, places-as}
use Rattle.cc_laws_heap.proofs.Face.{IsWellFormed-distinct}
use Rattle.cc_laws_told.proofs.Face.{ended-as, ended-make}
use Rattle.cc_host.proofs.Usable.{make-usable, usable-as}
use Rattle.cc_host.proofs.changes.making.make_native.Goals as goal
use Rattle.cc_host.proofs.SpotsKeyed.{made_native-only}
use Rattle.cc_host.proofs.MadeKinds.{keyed-many}

pub new_native-requires-clause-within : goal.new_native-requires-clause-within
new_native-requires-clause-within g c = omega (arith, c.requires.within, c.requires.ready.order.sound.well_formed.registers.0.enough)

pub unreachable-requires : goal.unreachable-requires
unreachable-requires g c =
    let h = c.args.heaps.now.heap in
    let w = c.new_native.new.self in
    let e = c.in_ok-new_native.ensures in
    let held = native-held h w.heap c.args.r c.args.slots (omega (arith, c.requires.within)) c.requires.slots (λ few. let full = e.full_always few in absurd (cc)) c.requires.ready.order.sound e.heap in
    let both : None ≡ Some (native (h.natives_made + 1)) = sym (ap (native_name w) c.in-None.is) ∙ (c.native_reg.ensures.name ∙ held) in
    absurd (cc)

pub returns-clause-change : goal.returns-clause-change
returns-clause-change g c =
    let h = c.args.heaps.now.heap in
    let w = c.new_native.new.self in
    let e = c.in_ok-new_native.ensures in
    record {
      kept = e.kept;
      spared = native-beside h w.heap c.args.r c.args.slots (omega (arith, c.requires.within)) c.requires.slots (λ few. let full = e.full_always few in absurd (cc)) c.requires.ready.order.sound e.heap spare (λ same. omega (arith, c.requires.within, same))
          ∙ c.requires.ready.spared;
      stands = λ d. e.stands;
      doomed = λ d. subst (KeepsDoomed h) (sym e.heap) (make_native-doomed h c.requires.ready.order.sound.well_formed c.args.r c.args.slots);
    }

pub returns-clause-reaches : goal.returns-clause-reaches
returns-clause-reaches g c empty =
    let e = c.in_ok-new_native.ensures in
    native-reaches c.args.heaps.now.heap c.new_native.new.self.heap c.args.r c.args.slots empty (e.kept.order [] c.requires.ready.order).sound.well_formed e.heap

pub returns-clause-name : goal.returns-clause-name
returns-clause-name g c =
    let h = c.args.heaps.now.heap in
    let w = c.new_native.new.self in
    let e = c.in_ok-new_native.ensures in
    sym (ap (native_name w) c.in-Some.is)
    ∙ (c.native_reg.ensures.name ∙ native-held h w.heap c.args.r c.args.slots (omega (arith, c.requires.within)) c.requires.slots (λ few. let full = e.full_always few in absurd (cc)) c.requires.ready.order.sound e.heap)

pub returns-clause-held : goal.returns-clause-held
returns-clause-held g c =
    let h = c.args.heaps.now.heap in
    let e = c.in_ok-new_native.ensures in
    native-held h c.new_native.new.self.heap c.args.r c.args.slots (omega (arith, c.requires.within)) c.requires.slots (λ few. let full = e.full_always few in absurd (cc)) c.requires.ready.order.sound e.heap

pub returns-clause-came : goal.returns-clause-came
returns-clause-came g c =
    let h = c.args.heaps.now.heap in
    let e = c.in_ok-new_native.ensures in
    OneCame-named h c.new_native.new.self.heap (native (h.natives_made + 1)) _ (returns-clause-name g c) (native-came h c.new_native.new.self.heap c.args.r c.args.slots (omega (arith, c.requires.within)) c.requires.slots (λ few. let full = e.full_always few in absurd (cc)) c.requires.ready.order.sound e.heap)

pub returns-clause-whole : goal.returns-clause-whole
returns-clause-whole g c =
    made-whole c.args.heaps.now.heap c.new_native.new.self.heap c.args.r c.args.slots c.requires.ready.order.sound.well_formed c.in_ok-new_native.ensures.heap

pub returns-clause-marking : goal.returns-clause-marking
returns-clause-marking g c = made_native-marking c.args.heaps.now c.new_native.new.self c.args.r c.args.slots c.in_ok-new_native.ensures.heap c.new_native.ensures.marks

pub returns-clause-places : goal.returns-clause-places
returns-clause-places g c =
    let h = c.args.heaps.now.heap in
    places-as h _ c.new_native.new.self.heap c.in_ok-new_native.ensures.heap (make_native-places h c.args.r c.args.slots (omega (arith, c.requires.within)))

pub returns-clause-writes : goal.returns-clause-writes
returns-clause-writes g c =
    let e = c.in_ok-new_native.ensures in
    made_native-only c.args.heaps.now.heap c.new_native.new.self.heap c.args.r c.args.slots e.heap (e.kept.order [] c.requires.ready.order).sound.well_formed

pub returns-clause-ended : goal.returns-clause-ended
returns-clause-ended g c =
    let h = c.args.heaps.now.heap in
    ended-as h _ c.new_native.new.self.heap c.in_ok-new_native.ensures.heap (ended-make h c.args.r c.args.slots (IsWellFormed-distinct h c.requires.ready.order.sound.well_formed))

pub returns-clause-slots_made : goal.returns-clause-slots_made
returns-clause-slots_made g c =
    let e = c.in_ok-new_native.ensures in
    keyed-many c.new_native.new.self (e.kept.order [] c.requires.ready.order) c.args.heaps.now.heap c.args.r c.args.slots c.requires.ready.order.sound.well_formed e.heap
    c.in-Some.key.0 (returns-clause-name g c)

pub returns-clause-usable : goal.returns-clause-usable
returns-clause-usable g c =
    let h = c.args.heaps.now.heap in
    usable-as h _ c.new_native.new.self.heap c.in_ok-new_native.ensures.heap (make-usable h c.args.r c.args.slots (IsWellFormed-distinct h c.requires.ready.order.sound.well_formed))
