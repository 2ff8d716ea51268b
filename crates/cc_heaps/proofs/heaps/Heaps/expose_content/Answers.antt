use Rattle.std.proofs.Common.{◌≡◌, ℕ, Option, None, option_map, get_or, sym, ◌∙◌, ap, subst, refl}
use Rattle.cc_names.specs.declared.number.SKey.{SKey}
use Rattle.cc_model.specs.Exposure.{exposed}
use Rattle.cc_model.specs.Marking.{exposed_marks}
use Rattle.cc_script.specs.Objects.{name_at}
use Rattle.cc_heaps.specs.Changes.{IsScriptThere, script_name}
use Rattle.cc_heaps.specs.NewMarks.{marks_of}
use Rattle.cc_heaps.proofs.ExposedMarks.{nothing-marked}
use Rattle.cc_heaps.proofs.MarksKept.{marks-go_on, marks-same, marks-then}
use Rattle.cc_heaps.proofs.ObjectsKept.{there-kept}
use Rattle.cc_heaps.proofs.Remarked.{remarked-named}
use Rattle.cc_heaps.proofs.ScriptCalls.{nothing-exposed}
use Rattle.cc_heaps.proofs.heaps.Heaps.expose_content.Goals as goal

pub expose_new-requires-clause-order : goal.expose_new-requires-clause-order
expose_new-requires-clause-order c = c.requires.order

pub expose_new-requires-clause-live : goal.expose_new-requires-clause-live
expose_new-requires-clause-live c = subst (IsScriptThere c.args.self.now) c.in-Some.is c.requires.there

pub expose_colours-requires-clause-order : goal.expose_colours-requires-clause-order
expose_colours-requires-clause-order c = let f = c.requires.order in (f.0, c.expose_new.ensures.order f.0 f.1)

pub expose_colours-requires-clause-live : goal.expose_colours-requires-clause-live
expose_colours-requires-clause-live c =
    let v = c.args.self.now in
    there-kept v.scripts c.expose_new.new.self.scripts c.in-Some.key.0 (remarked-named v.scripts c.expose_new.new.self.scripts c.expose_new.ensures.same c.in-Some.key.0)
    (subst (IsScriptThere v) c.in-Some.is c.requires.there)

-- each key has the name that it had
named : (c : goal.After-expose_colours) (k : ℕ) → name_at c.expose_colours.new.self.scripts k ≡ name_at c.args.self.now.scripts k
named c k = c.expose_colours.ensures.names k ∙ remarked-named c.args.self.now.scripts c.expose_new.new.self.scripts c.expose_new.ensures.same k

keyed : (c : goal.After-expose_colours) → c.expose_colours.new.self.keys ≡ c.args.self.now.keys
keyed c = c.expose_colours.ensures.natives ∙ c.expose_new.ensures.natives

pub returns-in-Some-clause-heap : goal.returns-in-Some-clause-heap
returns-in-Some-clause-heap c =
    let v = c.args.self.now in
    c.expose_colours.ensures.heap
    ∙ ((λ i. exposed (c.expose_new.ensures.heap i) (remarked-named v.scripts c.expose_new.new.self.scripts c.expose_new.ensures.same c.in-Some.key.0 i))
    ∙ ap (λ (x : Option SKey). exposed v.heap (script_name v x)) (sym c.in-Some.is))

pub returns-in-Some-clause-natives : goal.returns-in-Some-clause-natives
returns-in-Some-clause-natives c = keyed c

pub returns-in-Some-clause-keys : goal.returns-in-Some-clause-keys
returns-in-Some-clause-keys c = record {
  natives = λ key k at m. ap (λ ks. get_or ks key None) (keyed c) ∙ at;
  scripts = λ key x at m. named c key ∙ at;
}

pub returns-in-Some-clause-marks : goal.returns-in-Some-clause-marks
returns-in-Some-clause-marks c = marks-then c.expose_new.ensures.marks (marks-go_on c.expose_colours.ensures.marks)

pub returns-in-Some-clause-marking : goal.returns-in-Some-clause-marking
returns-in-Some-clause-marking c =
    let v = c.args.self.now in
    c.expose_colours.ensures.marking
    ∙ (c.expose_new.ensures.marking
    ∙ ap (λ (x : Option SKey). option_map (exposed_marks v.heap (script_name v x)) (marks_of v)) (sym c.in-Some.is))

pub returns-in-Some-clause-name : goal.returns-in-Some-clause-name
returns-in-Some-clause-name c =
    ap (script_name c.expose_colours.new.self) c.in-Some.is
    ∙ (named c c.in-Some.key.0 ∙ ap (script_name c.args.self.now) (sym c.in-Some.is))

pub returns-in-Some-clause-there : goal.returns-in-Some-clause-there
returns-in-Some-clause-there c =
    let v = c.args.self.now in
    subst (IsScriptThere c.expose_colours.new.self) (sym c.in-Some.is)
    (there-kept v.scripts c.expose_colours.new.self.scripts c.in-Some.key.0 (named c c.in-Some.key.0) (subst (IsScriptThere v) c.in-Some.is c.requires.there))

pub returns-in-Some-clause-order : goal.returns-in-Some-clause-order
returns-in-Some-clause-order c owned o = c.expose_colours.ensures.order owned (c.expose_new.ensures.order owned o)

-- nothing comes in

pub returns-in_default-clause-heap : goal.returns-in_default-clause-heap
returns-in_default-clause-heap c = sym (nothing-exposed c.args.self.now c.args.content c.in_default.not-Some)

pub returns-in_default-clause-order : goal.returns-in_default-clause-order
returns-in_default-clause-order c owned o = o

pub returns-in_default-clause-marks : goal.returns-in_default-clause-marks
returns-in_default-clause-marks c = marks-same c.args.self.now c.args.self.now refl refl

pub returns-in_default-clause-marking : goal.returns-in_default-clause-marking
returns-in_default-clause-marking c = nothing-marked c.args.self.now c.args.self.now.heap c.args.content c.in_default.not-Some
