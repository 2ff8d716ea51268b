use Rattle.std.proofs.Common.{◌<◌, ◌++◌, length, Some, arith, sym, ◌∙◌, ap, subst, refl}
use Rattle.cc_model.specs.declared.command.Command.TheVariants.{Native}
use Rattle.cc_model.specs.Graph.{step}
use Rattle.cc_model.specs.Telling.{TellsEvents}
use Rattle.cc_model.specs.Heap.{Heap}
use Rattle.cc_model.specs.Effects.{put_in_register}
use Rattle.cc_model.specs.WellFormed.{names_there}
use Rattle.cc_laws_heap.specs.Sound.{numbers_of}
use Rattle.cc_heaps.specs.Keyed.{IsInOrder, Keyed}
use Rattle.cc_heaps.specs.Changes.{native_name}
use Rattle.cc_heaps.specs.Standing.{KeepsColours, KeepsFresh, KeepsSuspected, StandsAfter}
use Rattle.cc_heaps.proofs.Leaving.{make_native-tells, nothing-told}
use Rattle.cc_heaps.proofs.Kept.{KeepsAll-same}
use Rattle.cc_heaps.proofs.FewCounts.{few-owned}
use Rattle.cc_heaps.proofs.Following.{make_native-keeps}
use Rattle.cc_heaps.proofs.StandingAfter.{make_native-stands}
use Rattle.cc_heaps.proofs.Made.{made-is, made-keeps}
use Rattle.cc_heaps.proofs.MarksKept.{marks-go_on, marks-stay, marks-stay-left, marks-stay-then}
use Rattle.cc_heaps.proofs.heaps.Heaps.new_native.Goals as goal
use Rattle.cc_lists.specs.Members.{Among}

pub returns-in-Ok-clause-heap : goal.returns-in-Ok-clause-heap
returns-in-Ok-clause-heap g c =
    let mid = c.put.new.self in
    ap (λ (v : Keyed). v.heap) c.put_in_register.ensures.heap
    ∙ ap (λ o. o.heap)
    (made-is c.args.self.now.heap mid.heap (native_name mid (Some c.in-Ok.key)) c.args.r c.args.slots c.in-Ok.ensures.heap c.in-Ok.ensures.name)

pub returns-in-Ok-clause-told : goal.returns-in-Ok-clause-told
returns-in-Ok-clause-told g c =
    let mid = c.put.new.self in
    subst (λ o. TellsEvents (g.N.Notices.telling c.args.out.now) (g.N.Notices.telling c.put_in_register.new.out) o.events)
    (made-is c.args.self.now.heap mid.heap (native_name mid (Some c.in-Ok.key)) c.args.r c.args.slots c.in-Ok.ensures.heap c.in-Ok.ensures.name)
    c.put_in_register.ensures.told

pub put_in_register-requires-clause-within : goal.put_in_register-requires-clause-within
put_in_register-requires-clause-within g c =
    subst (λ (h : Heap). c.args.r < length h.native_registers) (sym c.in-Ok.ensures.heap) c.requires.within

-- the caller owns the new native, which the register is to hold
pub put_in_register-requires-clause-order : goal.put_in_register-requires-clause-order
put_in_register-requires-clause-order g c =
    let f = c.requires.order in
    (f.0, subst (λ y. IsInOrder (numbers_of y ++ f.0) c.put.new.self) (sym c.in-Ok.ensures.name) (c.in-Ok.ensures.order f.0 f.1))

pub returns-in-Ok-clause-name : goal.returns-in-Ok-clause-name
returns-in-Ok-clause-name g c = rw (← c.self.view_is)

pub returns-then-self-natives-clause-kept : goal.returns-then-self-natives-clause-kept
returns-then-self-natives-clause-kept g c = KeepsAll-same c.args.self.now _ refl

pub returns-in-Ok-clause-marks : goal.returns-in-Ok-clause-marks
returns-in-Ok-clause-marks g c = marks-stay-then c.put.ensures.marks (marks-stay-left c.put.new.self c.put_in_register.new.self _ c.put_in_register.ensures.heap)

pub returns-in-Ok-clause-kept : goal.returns-in-Ok-clause-kept
returns-in-Ok-clause-kept g c = record {
  keys = (let mid = c.put.new.self in
      made-keeps c.args.self.now mid c.put_in_register.new.self
      (put_in_register mid.heap c.args.r (native_name mid (Some c.in-Ok.key))).heap c.put_in_register.ensures.heap c.put.ensures.scripts c.put.ensures.kept);
  order = λ owned o. (c.put_in_register.ensures.order owned
      (subst (λ y. IsInOrder (numbers_of y ++ owned) c.put.new.self) (sym c.in-Ok.ensures.name) (c.in-Ok.ensures.order owned o)));
  counts = few-owned _;
  colours = (let v = c.args.self.now in
      let allowed : v.heap.natives_made < v.heap.limits.natives = rw (← c.self.view_is) (omega (arith, c.if-self-natives.false, c.natives.ensures.same)) in
      subst (KeepsColours v.heap) (sym (returns-in-Ok-clause-heap g c)) (make_native-keeps v.heap c.args.r c.args.slots c.requires.within c.requires.slots allowed c.requires.order.1.sound).follows.colours);
  fresh = (let v = c.args.self.now in
      let allowed : v.heap.natives_made < v.heap.limits.natives = rw (← c.self.view_is) (omega (arith, c.if-self-natives.false, c.natives.ensures.same)) in
      subst (KeepsFresh v.heap) (sym (returns-in-Ok-clause-heap g c)) (make_native-keeps v.heap c.args.r c.args.slots c.requires.within c.requires.slots allowed c.requires.order.1.sound).follows.fresh);
  suspected = (let v = c.args.self.now in
      let allowed : v.heap.natives_made < v.heap.limits.natives = rw (← c.self.view_is) (omega (arith, c.if-self-natives.false, c.natives.ensures.same)) in
      subst (KeepsSuspected v.heap) (sym (returns-in-Ok-clause-heap g c)) (make_native-keeps v.heap c.args.r c.args.slots c.requires.within c.requires.slots allowed c.requires.order.1.sound).suspected);
  marks = marks-go_on (returns-in-Ok-clause-marks g c);
}

pub returns-in-Ok-clause-stands : goal.returns-in-Ok-clause-stands
returns-in-Ok-clause-stands g c =
    let v = c.args.self.now in
    let allowed : v.heap.natives_made < v.heap.limits.natives = rw (← c.self.view_is) (omega (arith, c.if-self-natives.false, c.natives.ensures.same)) in
    subst (λ h. StandsAfter v.heap h (λ e. step e (Native c.args.r c.args.slots))) (sym (returns-in-Ok-clause-heap g c))
    (make_native-stands v.heap c.args.r c.args.slots c.requires.order.1.sound c.requires.within c.requires.slots allowed)

pub returns-in-Err-clause-kept : goal.returns-in-Err-clause-kept
returns-in-Err-clause-kept g c = KeepsAll-same c.args.self.now _ c.in-Err.ensures.same

pub returns-in-Ok-clause-tells : goal.returns-in-Ok-clause-tells
returns-in-Ok-clause-tells g c =
    let v = c.args.self.now in
    let f = c.requires.order in
    let allowed : v.heap.natives_made < v.heap.limits.natives = rw (← c.self.view_is) (omega (arith, c.if-self-natives.false, c.natives.ensures.same)) in
    make_native-tells f.0 v.heap c.put_in_register.new.self.heap c.args.r c.args.slots c.requires.within c.requires.slots allowed f.1.sound
    (g.N.Notices.telling c.args.out.now) (g.N.Notices.telling c.put_in_register.new.out)
    (returns-in-Ok-clause-heap g c) ((returns-in-Ok-clause-kept g c).order f.0 f.1).sound.well_formed (returns-in-Ok-clause-told g c)

pub returns-then-self-natives-clause-tells : goal.returns-then-self-natives-clause-tells
returns-then-self-natives-clause-tells g c = nothing-told c.args.self.now.heap c.args.self.now.heap (g.N.Notices.telling c.args.out.now) (λ x i. i)

pub returns-in-Err-clause-tells : goal.returns-in-Err-clause-tells
returns-in-Err-clause-tells g c =
    nothing-told c.args.self.now.heap c.put.new.self.heap (g.N.Notices.telling c.args.out.now)
    (λ x i. subst (λ (w : Keyed). Among x (names_there w.heap)) (sym c.in-Err.ensures.same) i)

pub returns-then-self-natives-clause-marks : goal.returns-then-self-natives-clause-marks
returns-then-self-natives-clause-marks g c = marks-stay c.args.self.now c.args.self.now refl refl

pub returns-in-Err-clause-marks : goal.returns-in-Err-clause-marks
returns-in-Err-clause-marks g c = c.put.ensures.marks
