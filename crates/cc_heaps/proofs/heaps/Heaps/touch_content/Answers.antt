use Rattle.std.proofs.Common.{◌≡◌, Option, Some, None, option_map, rules, refl, sym, ◌∙◌, ap}
use Rattle.cc_model.specs.Effects.{touched}
use Rattle.cc_counted.specs.declared.held.Held.{Held}
use Rattle.cc_counted.specs.declared.held.Held.TheVariants as held
use Rattle.cc_script.specs.Objects.{name_at}
use Rattle.cc_heaps.specs.Changes.{held_name}
use Rattle.cc_heaps.proofs.Content.{held-no_native}
use Rattle.cc_heaps.proofs.Moving.{touched-exposed}
use Rattle.cc_heaps.proofs.MarksKept.{marks-changed, marks-same}
use Rattle.cc_heaps.specs.NewMarks.{marks_of}
use Rattle.cc_heaps.specs.Keyed.{number_at}
use Rattle.cc_model.specs.Marking.{exposed_marks}
use Rattle.cc_heaps.proofs.ExposedMarks.{natives-marked, nothing-in}
use Rattle.cc_heaps.proofs.heaps.Heaps.touch_content.Goals as goal

pub returns-in-Some-Script-clause-heap : goal.returns-in-Some-Script-clause-heap
returns-in-Some-Script-clause-heap c =
    let v = c.args.self.now in
    let f = c.requires.order in
    let key = c.in-Some-Script.key in
    let is : c.args.content ≡ Some (held.Script key) = search rules in
    c.expose.ensures.heap
    ∙ (touched-exposed v.heap (name_at v.scripts key.0) (held-no_native f.0 v f.1 (Some (held.Script key)) refl)
    ∙ ap (λ (x : Option Held). touched v.heap (held_name v x)) (sym is))

pub returns-in-Some-Native-clause-marks : goal.returns-in-Some-Native-clause-marks
returns-in-Some-Native-clause-marks c = marks-changed c.args.self.now c.touch.new.self _ c.touch.ensures.heap

pub returns-in-Some-Script-clause-marks : goal.returns-in-Some-Script-clause-marks
returns-in-Some-Script-clause-marks c = c.expose.ensures.kept.marks

pub returns-in-None-clause-marks : goal.returns-in-None-clause-marks
returns-in-None-clause-marks c = marks-same c.args.self.now c.args.self.now refl refl

pub returns-in-Some-Native-clause-marking : goal.returns-in-Some-Native-clause-marking
returns-in-Some-Native-clause-marking c =
    let v = c.args.self.now in
    let key = c.in-Some-Native.key in
    let is : c.args.content ≡ Some (held.Native key) = search rules in
    let f = c.requires.order in
    ap marks_of c.touch.ensures.heap
    ∙ (natives-marked f.0 v f.1 (number_at v key.0)
    ∙ ap (λ (x : Option Held). option_map (exposed_marks v.heap (held_name v x)) (marks_of v)) (sym is))

pub returns-in-Some-Script-clause-marking : goal.returns-in-Some-Script-clause-marking
returns-in-Some-Script-clause-marking c =
    let v = c.args.self.now in
    let key = c.in-Some-Script.key in
    let is : c.args.content ≡ Some (held.Script key) = search rules in
    c.expose.ensures.marking
    ∙ ap (λ (x : Option Held). option_map (exposed_marks v.heap (held_name v x)) (marks_of v)) (sym is)

pub returns-in-None-clause-marking : goal.returns-in-None-clause-marking
returns-in-None-clause-marking c =
    let v = c.args.self.now in
    let is : c.args.content ≡ None = search rules in
    nothing-in v.heap (marks_of v)
    ∙ ap (λ (x : Option Held). option_map (exposed_marks v.heap (held_name v x)) (marks_of v)) (sym is)
