use Rattle.std.proofs.Common.{◌≡◌, ℕ, ◌+◌, ◌<◌, ◌≤◌, length, sym, ◌∙◌, ap, subst, arith, option_map}
use Rattle.cc_lists.specs.Members.{Among}
use Rattle.cc_names.specs.declared.register.Reg.TheVariants.{S}
use Rattle.cc_names.specs.Sizes.{most_roots}
use Rattle.cc_model.specs.Banks.{of_scripts}
use Rattle.cc_model.specs.Graph as graph
use Rattle.cc_model.specs.Effects.{hold_script}
use Rattle.cc_model.specs.WellFormed.{names_there}
use Rattle.cc_heaps.specs.Keyed.{Keyed}
use Rattle.cc_heaps.specs.Changes.{IsScriptThere, script_name}
use Rattle.cc_heaps.specs.Leaving.{NothingLeft}
use Rattle.cc_heaps.specs.Standing.{IsReachedOrReflects, StandsAfter}
use Rattle.cc_heaps.proofs.Kept.{KeepsAll-same}
use Rattle.cc_heaps.proofs.Lengthened.{has-place, held-left, kept-longer, left-longer, order-longer, reflects-longer, stands-longer}
use Rattle.cc_heaps.specs.NewMarks.{marks_of}
use Rattle.cc_model.specs.Marking.{exposed_marks}
use Rattle.cc_heaps.proofs.ExposedMarks.{exposed-longer}
use Rattle.cc_heaps.proofs.heaps.Heaps.root_script_at.Goals as goal

-- a bank may be as long
few : (place : ℕ) → place < most_roots → place + 1 ≤ most_roots
few place within = omega (arith, within)

pub set_script_reg-requires-clause-within : goal.set_script_reg-requires-clause-within
set_script_reg-requires-clause-within c =
    subst (λ (u : Keyed). c.args.place < length u.heap.script_registers) (sym c.in_ok-reach_script_reg.ensures.heap)
    (has-place c.args.self.now.heap.script_registers c.args.place)

pub set_script_reg-requires-clause-order : goal.set_script_reg-requires-clause-order
set_script_reg-requires-clause-order c =
    let f = c.requires.order in
    let mid = c.reach_script_reg.new.self in
    (f.0, order-longer c.args.self.now mid mid of_scripts (c.args.place + 1) (few c.args.place c.requires.within) c.in_ok-reach_script_reg.ensures.heap f.0 f.1)

pub set_script_reg-requires-clause-there : goal.set_script_reg-requires-clause-there
set_script_reg-requires-clause-there c = subst (λ (u : Keyed). IsScriptThere u c.args.content) (sym c.in_ok-reach_script_reg.ensures.heap) c.requires.there

pub returns-clause-heap : goal.returns-clause-heap
returns-clause-heap c =
    c.set_script_reg.ensures.heap
    ∙ ap (λ (u : Keyed). hold_script u.heap c.args.place (script_name u c.args.content)) c.in_ok-reach_script_reg.ensures.heap

pub returns-clause-left : goal.returns-clause-left
returns-clause-left c =
    let v = c.args.self.now in
    let mid = c.reach_script_reg.new.self in
    let w = c.set_script_reg.new.self in
    let f = c.requires.order in
    let is = c.in_ok-reach_script_reg.ensures.heap in
    let room = few c.args.place c.requires.within in
    left-longer v mid w of_scripts (c.args.place + 1) room is
    (subst (λ h. NothingLeft mid.heap h) (sym c.set_script_reg.ensures.heap)
    (held-left mid.heap c.args.place (script_name mid c.args.content) (order-longer v mid w of_scripts (c.args.place + 1) room is f.0 f.1).sound.well_formed))

pub returns-clause-kept : goal.returns-clause-kept
returns-clause-kept c =
    kept-longer c.args.self.now c.reach_script_reg.new.self c.set_script_reg.new.self of_scripts (c.args.place + 1) (few c.args.place c.requires.within) c.in_ok-reach_script_reg.ensures.heap
    c.set_script_reg.ensures.kept

pub returns-clause-stands : goal.returns-clause-stands
returns-clause-stands c = λ reached.
    let v = c.args.self.now in
    let mid = c.reach_script_reg.new.self in
    let w = c.set_script_reg.new.self in
    let is = c.in_ok-reach_script_reg.ensures.heap in
    let room = few c.args.place c.requires.within in
    let same : script_name mid c.args.content ≡ script_name v c.args.content = ap (λ (u : Keyed). script_name u c.args.content) is in
    stands-longer v mid w of_scripts (c.args.place + 1) room is c.requires.order.1.sound.well_formed (λ e. graph.set_register e (S c.args.place) (script_name v c.args.content))
    (subst (λ x. StandsAfter mid.heap w.heap (λ e. graph.set_register e (S c.args.place) x)) same
    (c.set_script_reg.ensures.stands (subst (IsReachedOrReflects mid.heap) (sym same)
    (reflects-longer v mid w of_scripts (c.args.place + 1) room is (script_name v c.args.content) reached))))

-- no memory: the heaps are as they were

pub returns-in_err-reach_script_reg-clause-left : goal.returns-in_err-reach_script_reg-clause-left
returns-in_err-reach_script_reg-clause-left c = λ x i. subst (λ (u : Keyed). Among x (names_there u.heap)) (sym c.in_err-reach_script_reg.ensures.same) i

pub returns-in_err-reach_script_reg-clause-kept : goal.returns-in_err-reach_script_reg-clause-kept
returns-in_err-reach_script_reg-clause-kept c = KeepsAll-same c.args.self.now _ c.in_err-reach_script_reg.ensures.same

pub returns-clause-marking : goal.returns-clause-marking
returns-clause-marking c =
    let v = c.args.self.now in
    c.set_script_reg.ensures.marking
    ∙ (ap (λ (u : Keyed). option_map (exposed_marks u.heap (script_name u c.args.content)) (marks_of u)) c.in_ok-reach_script_reg.ensures.heap
    ∙ ap (λ f. option_map f (marks_of v)) (exposed-longer v.heap (c.args.place + 1) (script_name v c.args.content)))
