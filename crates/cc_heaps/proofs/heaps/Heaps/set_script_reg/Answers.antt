use Rattle.std.proofs.Common.{◌≡◌, ◌<◌, length, sym, ◌∙◌, subst, ap, option_map}
use Rattle.cc_model.specs.Slots.{Slots}
use Rattle.cc_model.specs.Heap.{Heap}
use Rattle.cc_model.specs.Effects.{hold_script}
use Rattle.cc_model.specs.WellFormed.{native_names, script_names}
use Rattle.cc_laws_heap.proofs.Face.{Leaves-exposed}
use Rattle.cc_heaps.specs.Changes.{script_name}
use Rattle.cc_heaps.proofs.Kept.{KeepsKeys-on}
use Rattle.cc_heaps.proofs.FewCounts.{few-owned}
use Rattle.cc_heaps.proofs.Following.{Keeps, hold_script-keeps, script_name-there}
use Rattle.cc_heaps.proofs.StandingAfter.{script_register-stands}
use Rattle.cc_heaps.proofs.MarksKept.{marks-go_on, marks-then}
use Rattle.cc_heaps.specs.NewMarks.{new_marks_in}
use Rattle.cc_heaps.proofs.heaps.Heaps.set_script_reg.Goals as goal

pub write_script_reg-requires-clause-within : goal.write_script_reg-requires-clause-within
write_script_reg-requires-clause-within c =
    let v = c.args.self.now in
    subst (λ (rs : Slots). c.args.r < length rs)
    (sym (ap (λ (h : Heap). h.script_registers) c.expose_content.ensures.heap ∙ (Leaves-exposed v.heap (script_name v c.args.content)).beside.script_registers)) c.requires.within

pub write_script_reg-requires-clause-order : goal.write_script_reg-requires-clause-order
write_script_reg-requires-clause-order c = let f = c.requires.order in (f.0, c.expose_content.ensures.order f.0 f.1)

-- the heaps afterwards
held : (c : goal.After-write_script_reg) → c.write_script_reg.new.self.heap ≡ hold_script c.args.self.now.heap c.args.r (script_name c.args.self.now c.args.content)
held c = rw (c.write_script_reg.ensures.heap, c.expose_content.ensures.heap, c.expose_content.ensures.name)

pub returns-clause-heap : goal.returns-clause-heap
returns-clause-heap c = held c

keeps : (c : goal.After-write_script_reg) → Keeps c.args.self.now.heap c.write_script_reg.new.self.heap
keeps c =
    let v = c.args.self.now in
    let f = c.requires.order in
    subst (Keeps v.heap) (sym (held c))
    (hold_script-keeps v.heap c.args.r (script_name v c.args.content) (script_name-there f.0 v f.1 c.args.content) f.1.sound)

pub returns-clause-kept : goal.returns-clause-kept
returns-clause-kept c = record {
  keys = (let e = c.write_script_reg.ensures.heap in
      KeepsKeys-on c.args.self.now c.expose_content.new.self c.write_script_reg.new.self c.expose_content.ensures.keys c.write_script_reg.ensures.natives c.write_script_reg.ensures.scripts
      (ap native_names e) (ap script_names e));
  order = λ owned o. (c.write_script_reg.ensures.order owned (c.expose_content.ensures.order owned o));
  counts = few-owned _;
  colours = (keeps c).follows.colours;
  fresh = (keeps c).follows.fresh;
  suspected = (keeps c).suspected;
  marks = marks-then c.expose_content.ensures.marks (marks-go_on c.write_script_reg.ensures.marks);
}

pub returns-clause-stands : goal.returns-clause-stands
returns-clause-stands c =
    let f = c.requires.order in
    script_register-stands c.args.self.now c.write_script_reg.new.self f.1 ((returns-clause-kept c).order f.0 f.1) c.args.r c.args.content (held c)

pub returns-clause-marking : goal.returns-clause-marking
returns-clause-marking c =
    (λ i. option_map (new_marks_in (c.write_script_reg.ensures.scripts i)) (c.write_script_reg.ensures.marks.lists i))
    ∙ c.expose_content.ensures.marking
