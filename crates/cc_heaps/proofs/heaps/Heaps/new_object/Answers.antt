use Rattle.std.proofs.Common.{◌≡◌, ◌<◌, length, Option, sym, ◌∙◌, subst, arith, refl, ap}
use Rattle.cc_names.specs.declared.name.Name.{Name}
use Rattle.cc_model.specs.Slots.{Slots}
use Rattle.cc_model.specs.Heap.{Heap, preserve}
use Rattle.cc_model.specs.WellFormed.{native_names, script_names}
use Rattle.cc_heaps.specs.Keyed.{Keyed}
use Rattle.cc_heaps.specs.Making.{delegate_name, made_in}
use Rattle.cc_heaps.specs.Standing.{StandsAfter}
use Rattle.cc_heaps.proofs.Kept.{KeepsAll-same, KeepsKeys-on}
use Rattle.cc_heaps.proofs.FewCounts.{few-owned}
use Rattle.cc_heaps.proofs.Following.{Keeps, made_by, made_first, make_object-keeps}
use Rattle.cc_heaps.proofs.KeysKept.{KeepsKeys-preserved}
use Rattle.cc_heaps.proofs.StandingAfter.{make_object-stands}
use Rattle.cc_heaps.proofs.MarksKept.{marks-go_on, marks-stay, marks-stay-changed, marks-stay-then}
use Rattle.cc_heaps.proofs.Reserved.{marks-unchanged}
use Rattle.cc_heaps.specs.Marks.{KeepsMarks}
use Rattle.cc_heaps.proofs.heaps.Heaps.new_object.Goals as goal

pub preserve_delegate-requires-clause-order : goal.preserve_delegate-requires-clause-order
preserve_delegate-requires-clause-order c = let f = c.requires.order in (f.0, c.add_object.ensures.order f.0 f.1)

-- a reflector preserved leaves script registers
registers-preserve : (h : Heap) (x : Option Name) → (preserve h x).script_registers ≡ h.script_registers
registers-preserve h x = grind arith

pub write_script_reg-requires-clause-within : goal.write_script_reg-requires-clause-within
write_script_reg-requires-clause-within c =
    let mid = c.add_object.new.self in
    subst (λ (rs : Slots). c.args.r < length rs)
    (sym (ap (λ (w : Keyed). w.heap.script_registers) c.preserve_delegate.ensures.heap
    ∙ (registers-preserve mid.heap (delegate_name mid c.args.what) ∙ ap (λ (h : Heap). h.script_registers) c.in-Ok.ensures.heap))) c.requires.within

pub write_script_reg-requires-clause-order : goal.write_script_reg-requires-clause-order
write_script_reg-requires-clause-order c = let f = c.requires.order in (f.0, c.preserve_delegate.ensures.order f.0 (c.add_object.ensures.order f.0 f.1))

-- the heaps afterwards
made : (c : goal.After-write_script_reg) → c.write_script_reg.new.self.heap ≡ made_by c.args.self.now c.args.r c.args.what
made c =
    rw (c.write_script_reg.ensures.heap, c.preserve_delegate.ensures.heap, c.in-Ok.ensures.delegate, c.in-Ok.ensures.heap, c.in-Ok.ensures.name)
    (made_first c.args.self.now c.args.r c.args.what)

pub returns-in-Ok-clause-heap : goal.returns-in-Ok-clause-heap
returns-in-Ok-clause-heap c = made c

pub returns-then-self-scripts-clause-kept : goal.returns-then-self-scripts-clause-kept
returns-then-self-scripts-clause-kept c = KeepsAll-same c.args.self.now _ refl

room : (c : goal.After-write_script_reg) → c.args.self.now.heap.scripts_made < c.args.self.now.heap.limits.scripts
room c = rw (← c.self.view_is) (omega (arith, c.if-self-scripts.false, c.scripts.ensures.same))

keeps : (c : goal.After-write_script_reg) → Keeps c.args.self.now.heap c.write_script_reg.new.self.heap
keeps c =
    let v = c.args.self.now in
    subst (Keeps v.heap) (sym (made c)) (make_object-keeps v c.requires.order.1 c.args.r c.args.what c.requires.may (room c))

pub returns-in-Ok-clause-natives : goal.returns-in-Ok-clause-natives
returns-in-Ok-clause-natives c = c.write_script_reg.ensures.natives ∙ (ap (λ (w : Keyed). w.keys) c.preserve_delegate.ensures.heap ∙ c.add_object.ensures.natives)

left : (c : goal.After-write_script_reg) → KeepsMarks c.args.self.now c.write_script_reg.new.self
left c = marks-stay-then c.add_object.ensures.marks
    (marks-stay-then (marks-stay-changed c.add_object.new.self c.preserve_delegate.new.self _ c.preserve_delegate.ensures.heap) c.write_script_reg.ensures.marks)

pub returns-in-Ok-clause-marks : goal.returns-in-Ok-clause-marks
returns-in-Ok-clause-marks c = left c

pub returns-in-Ok-clause-kept : goal.returns-in-Ok-clause-kept
returns-in-Ok-clause-kept c = record {
  keys = (let e = c.write_script_reg.ensures.heap in
      KeepsKeys-on c.args.self.now c.preserve_delegate.new.self c.write_script_reg.new.self
      (KeepsKeys-preserved c.args.self.now c.add_object.new.self c.preserve_delegate.new.self _ c.add_object.ensures.keys c.preserve_delegate.ensures.heap)
      c.write_script_reg.ensures.natives c.write_script_reg.ensures.scripts
      (ap native_names e) (ap script_names e));
  order = λ owned o. (c.write_script_reg.ensures.order owned (c.preserve_delegate.ensures.order owned (c.add_object.ensures.order owned o)));
  counts = few-owned c.write_script_reg.new.self;
  colours = (keeps c).follows.colours;
  fresh = (keeps c).follows.fresh;
  suspected = (keeps c).suspected;
  marks = marks-go_on (left c);
}

pub returns-in-Ok-clause-stands : goal.returns-in-Ok-clause-stands
returns-in-Ok-clause-stands c reached =
    let v = c.args.self.now in
    subst (λ h. StandsAfter v.heap h (λ g. made_in g c.args.r c.args.what (delegate_name v c.args.what))) (sym (made c))
    (make_object-stands v c.requires.order.1 c.args.r c.args.what c.requires.may (room c) reached)

pub returns-in-Err-clause-kept : goal.returns-in-Err-clause-kept
returns-in-Err-clause-kept c = KeepsAll-same c.args.self.now _ c.in-Err.ensures.same

pub returns-then-self-scripts-clause-marks : goal.returns-then-self-scripts-clause-marks
returns-then-self-scripts-clause-marks c = marks-stay c.args.self.now c.args.self.now refl refl

pub returns-in-Err-clause-marks : goal.returns-in-Err-clause-marks
returns-in-Err-clause-marks c = marks-unchanged c.args.self.now _ c.in-Err.ensures.same
