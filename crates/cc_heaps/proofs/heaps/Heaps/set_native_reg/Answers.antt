use Rattle.std.proofs.Common.{◌≡◌, ℕ, ◌<◌, List, ◌++◌, length, Option, refl, sym, ◌∙◌, ap, subst}
use Rattle.cc_names.specs.declared.name.Name.{Name}
use Rattle.cc_names.specs.declared.number.NKey.{NKey}
use Rattle.cc_model.specs.Telling.{TellsEvents}
use Rattle.cc_model.specs.Heap.{Heap}
use Rattle.cc_model.specs.Cascade.{take_up}
use Rattle.cc_model.specs.Effects.{put_in_register, hold_native}
use Rattle.cc_laws_heap.specs.Sound.{numbers_of}
use Rattle.cc_laws_heap.proofs.Face.{room-take_up}
use Rattle.cc_counted.specs.declared.held.Held.{Held}
use Rattle.cc_counted.specs.Counts.{held_of_native}
use Rattle.cc_heaps.specs.Keyed.{Keyed, IsInOrder, changed_to, left_with}
use Rattle.cc_heaps.specs.Changes.{held_name, native_name}
use Rattle.cc_heaps.proofs.Leaving.{hold_native-tells}
use Rattle.cc_heaps.proofs.FewCounts.{few-owned}
use Rattle.cc_heaps.proofs.Following.{Keeps, hold_native-keeps}
use Rattle.cc_heaps.proofs.KeysKept.{KeepsKeys-left}
use Rattle.cc_heaps.proofs.StandingAfter.{native_register-stands}
use Rattle.cc_heaps.proofs.Content.{held_of_native-name, native-in}
use Rattle.cc_heaps.proofs.MarksKept.{marks-left, marks-stay-left}
use Rattle.cc_heaps.proofs.heaps.Heaps.set_native_reg.Given as given
use Rattle.cc_heaps.proofs.heaps.Heaps.set_native_reg.Goals as goal

hold_native-is : (h : Heap) (d : ℕ) (x : Option Name) → hold_native h d x ≡ put_in_register (take_up h x) d x
unfolding hold_native
hold_native-is h d x = refl

-- the new reference taken
module _ (v mid : Keyed) (r : ℕ) (x : Option NKey) (item : Option Held) (is : item ≡ held_of_native x) (taken : mid ≡ changed_to v (take_up v.heap (held_name v item))) where
  taken-is : mid ≡ changed_to v (take_up v.heap (native_name v x))
  taken-is = taken ∙ ap (λ y. changed_to v (take_up v.heap y)) (ap (held_name v) is ∙ held_of_native-name v x)

  held-is : put_in_register mid.heap r (native_name mid x) ≡ hold_native v.heap r (native_name v x)
  held-is = ap (λ (w : Keyed). put_in_register w.heap r (native_name w x)) taken-is ∙ sym (hold_native-is v.heap r (native_name v x))

  held-keyed : left_with mid (put_in_register mid.heap r (native_name mid x)).heap ≡ left_with v (hold_native v.heap r (native_name v x)).heap
  held-keyed = ap (λ (w : Keyed). left_with w (put_in_register w.heap r (native_name w x)).heap) taken-is ∙ ap (λ o. left_with v o.heap) (sym (hold_native-is v.heap r (native_name v x)))

  -- the reference that was taken is that of what the register is to hold
  held-owned : (owned : List ℕ) → IsInOrder (numbers_of (held_name v item) ++ owned) mid → IsInOrder (numbers_of (native_name mid x) ++ owned) mid
  held-owned owned o = subst (λ y. IsInOrder (numbers_of y ++ owned) mid)
      (ap (held_name v) is ∙ (held_of_native-name v x ∙ sym (ap (λ (w : Keyed). native_name w x) taken))) o

pub put_in_register-requires-clause-within : goal.put_in_register-requires-clause-within
put_in_register-requires-clause-within g c =
    let v = c.args.self.now in
    subst (λ (w : Keyed). c.args.r < length w.heap.native_registers) (sym c.take_up.ensures.heap)
    (room-take_up v.heap (held_name v c.of_native.result) c.args.r c.requires.within)

pub put_in_register-requires-clause-order : goal.put_in_register-requires-clause-order
put_in_register-requires-clause-order g c =
    let f = c.requires.order in
    (f.0, held-owned c.args.self.now c.take_up.new.self c.args.r c.args.content c.of_native.result c.of_native.ensures c.take_up.ensures.heap f.0 (c.take_up.ensures.order f.0 f.1))

pub returns-clause-heap : goal.returns-clause-heap
returns-clause-heap g c =
    c.put_in_register.ensures.heap
    ∙ held-keyed c.args.self.now c.take_up.new.self c.args.r c.args.content c.of_native.result c.of_native.ensures c.take_up.ensures.heap

pub returns-clause-told : goal.returns-clause-told
returns-clause-told g c =
    subst (λ o. TellsEvents (g.N.Notices.telling c.args.out.now) (g.N.Notices.telling c.put_in_register.new.out) o.events)
    (held-is c.args.self.now c.take_up.new.self c.args.r c.args.content c.of_native.result c.of_native.ensures c.take_up.ensures.heap)
    c.put_in_register.ensures.told

keeps : (g : given.Over) (c : goal.After-put_in_register g) → Keeps c.args.self.now.heap (hold_native c.args.self.now.heap c.args.r (native_name c.args.self.now c.args.content)).heap
keeps g c =
    let v = c.args.self.now in
    let f = c.requires.order in
    hold_native-keeps v.heap c.args.r (native_name v c.args.content) c.requires.within (native-in f.0 v c.args.content f.1) f.1.sound

pub returns-clause-kept : goal.returns-clause-kept
returns-clause-kept g c = record {
  keys = KeepsKeys-left c.args.self.now c.put_in_register.new.self _ (returns-clause-heap g c);
  order = λ owned o. (c.put_in_register.ensures.order owned
      (held-owned c.args.self.now c.take_up.new.self c.args.r c.args.content c.of_native.result c.of_native.ensures c.take_up.ensures.heap owned (c.take_up.ensures.order owned o)));
  counts = few-owned _;
  colours = rw (returns-clause-heap g c) ((keeps g c).follows.colours);
  fresh = rw (returns-clause-heap g c) ((keeps g c).follows.fresh);
  suspected = rw (returns-clause-heap g c) ((keeps g c).suspected);
  marks = marks-left c.args.self.now c.put_in_register.new.self _ (returns-clause-heap g c);
}

pub returns-clause-stands : goal.returns-clause-stands
returns-clause-stands g c =
    let f = c.requires.order in
    native_register-stands c.args.self.now c.put_in_register.new.self f.1 ((returns-clause-kept g c).order f.0 f.1) c.args.r c.args.content c.requires.within (returns-clause-heap g c)

pub returns-clause-tells : goal.returns-clause-tells
returns-clause-tells g c =
    let v = c.args.self.now in
    let w = c.put_in_register.new.self in
    let f = c.requires.order in
    hold_native-tells f.0 v w c.args.r (native_name v c.args.content) c.requires.within (native-in f.0 v c.args.content f.1) f.1
    (g.N.Notices.telling c.args.out.now) (g.N.Notices.telling c.put_in_register.new.out)
    (returns-clause-heap g c) ((returns-clause-kept g c).order f.0 f.1) (returns-clause-told g c)

pub returns-clause-marks : goal.returns-clause-marks
returns-clause-marks g c = marks-stay-left c.args.self.now c.put_in_register.new.self _ (returns-clause-heap g c)
