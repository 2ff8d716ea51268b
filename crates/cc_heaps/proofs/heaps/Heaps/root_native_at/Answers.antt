use Rattle.std.proofs.Common.{◌≡◌, ℕ, ◌+◌, ◌<◌, ◌≤◌, length, sym, ◌∙◌, ap, subst, arith}
use Rattle.cc_lists.specs.Members.{Among}
use Rattle.cc_names.specs.declared.register.Reg.TheVariants.{N}
use Rattle.cc_names.specs.Sizes.{most_roots}
use Rattle.cc_model.specs.Banks.{of_natives}
use Rattle.cc_model.specs.Graph as graph
use Rattle.cc_model.specs.Telling.{TellsEvents}
use Rattle.cc_model.specs.Effects.{hold_native}
use Rattle.cc_model.specs.WellFormed.{names_there}
use Rattle.cc_heaps.specs.Keyed.{Keyed}
use Rattle.cc_heaps.specs.Changes.{IsNativeThere, native_name}
use Rattle.cc_heaps.specs.Standing.{IsReached, StandsAfter}
use Rattle.cc_heaps.proofs.Kept.{KeepsAll-same}
use Rattle.cc_heaps.proofs.Leaving.{nothing-told}
use Rattle.cc_heaps.proofs.Lengthened.{has-place, kept-longer, order-longer, reached-longer, stands-longer, tells-longer}
use Rattle.cc_heaps.proofs.StandingAfter.{reached-may_be_held}
use Rattle.cc_heaps.proofs.MarksKept.{marks-stay-then, marks-stay-changed}
use Rattle.cc_heaps.proofs.Reserved.{marks-unchanged}
use Rattle.cc_heaps.specs.NewMarks.{marks_of}
use Rattle.cc_heaps.proofs.heaps.Heaps.root_native_at.Goals as goal

-- a bank may be as long
few : (place : ℕ) → place < most_roots → place + 1 ≤ most_roots
few place within = omega (arith, within)

pub set_native_reg-requires-clause-within : goal.set_native_reg-requires-clause-within
set_native_reg-requires-clause-within g c =
    subst (λ (u : Keyed). c.args.place < length u.heap.native_registers) (sym c.in_ok-reach_native_reg.ensures.heap)
    (has-place c.args.self.now.heap.native_registers c.args.place)

pub set_native_reg-requires-clause-order : goal.set_native_reg-requires-clause-order
set_native_reg-requires-clause-order g c =
    let f = c.requires.order in
    let mid = c.reach_native_reg.new.self in
    (f.0, order-longer c.args.self.now mid mid of_natives (c.args.place + 1) (few c.args.place c.requires.within) c.in_ok-reach_native_reg.ensures.heap f.0 f.1, f.2)

pub set_native_reg-requires-clause-there : goal.set_native_reg-requires-clause-there
set_native_reg-requires-clause-there g c = subst (λ (u : Keyed). IsNativeThere u c.args.content) (sym c.in_ok-reach_native_reg.ensures.heap) c.requires.there

pub returns-clause-heap : goal.returns-clause-heap
returns-clause-heap g c =
    ap (λ (u : Keyed). u.heap) c.set_native_reg.ensures.heap
    ∙ ap (λ (u : Keyed). (hold_native u.heap c.args.place (native_name u c.args.content)).heap) c.in_ok-reach_native_reg.ensures.heap

pub returns-clause-told : goal.returns-clause-told
returns-clause-told g c =
    subst (λ (u : Keyed). TellsEvents (g.N.Notices.telling c.args.out.now) (g.N.Notices.telling c.set_native_reg.new.out) (hold_native u.heap c.args.place (native_name u c.args.content)).events)
    c.in_ok-reach_native_reg.ensures.heap c.set_native_reg.ensures.told

pub returns-clause-tells : goal.returns-clause-tells
returns-clause-tells g c =
    tells-longer c.args.self.now c.reach_native_reg.new.self c.set_native_reg.new.self of_natives (c.args.place + 1) (few c.args.place c.requires.within) c.in_ok-reach_native_reg.ensures.heap
    (g.N.Notices.telling c.args.out.now) (g.N.Notices.telling c.set_native_reg.new.out) c.set_native_reg.ensures.tells

pub returns-clause-kept : goal.returns-clause-kept
returns-clause-kept g c =
    kept-longer c.args.self.now c.reach_native_reg.new.self c.set_native_reg.new.self of_natives (c.args.place + 1) (few c.args.place c.requires.within) c.in_ok-reach_native_reg.ensures.heap
    c.set_native_reg.ensures.kept

pub returns-clause-stands : goal.returns-clause-stands
returns-clause-stands g c = λ reached.
    let v = c.args.self.now in
    let mid = c.reach_native_reg.new.self in
    let w = c.set_native_reg.new.self in
    let is = c.in_ok-reach_native_reg.ensures.heap in
    let room = few c.args.place c.requires.within in
    let same : native_name mid c.args.content ≡ native_name v c.args.content = ap (λ (u : Keyed). native_name u c.args.content) is in
    stands-longer v mid w of_natives (c.args.place + 1) room is c.requires.order.1.sound.well_formed (λ e. graph.set_register e (N c.args.place) (native_name v c.args.content))
    (subst (λ x. StandsAfter mid.heap w.heap (λ e. graph.set_register e (N c.args.place) x)) same
    (c.set_native_reg.ensures.stands (reached-may_be_held mid.heap (native_name mid c.args.content) (subst (IsReached mid.heap) (sym same)
    (reached-longer v mid w of_natives (c.args.place + 1) room is (native_name v c.args.content) reached)))))

-- no memory: the heaps are as they were

pub returns-in_err-reach_native_reg-clause-kept : goal.returns-in_err-reach_native_reg-clause-kept
returns-in_err-reach_native_reg-clause-kept g c = KeepsAll-same c.args.self.now _ c.in_err-reach_native_reg.ensures.same

pub returns-in_err-reach_native_reg-clause-tells : goal.returns-in_err-reach_native_reg-clause-tells
returns-in_err-reach_native_reg-clause-tells g c =
    nothing-told c.args.self.now.heap c.reach_native_reg.new.self.heap (g.N.Notices.telling c.args.out.now)
    (λ x i. subst (λ (u : Keyed). Among x (names_there u.heap)) (sym c.in_err-reach_native_reg.ensures.same) i)

pub returns-clause-marks : goal.returns-clause-marks
returns-clause-marks g c = marks-stay-then (marks-stay-changed c.args.self.now c.reach_native_reg.new.self _ c.in_ok-reach_native_reg.ensures.heap) c.set_native_reg.ensures.marks

pub returns-in_err-reach_native_reg-clause-marks : goal.returns-in_err-reach_native_reg-clause-marks
returns-in_err-reach_native_reg-clause-marks g c = marks-unchanged c.args.self.now _ c.in_err-reach_native_reg.ensures.same

pub returns-clause-marking : goal.returns-clause-marking
returns-clause-marking g c = ap marks_of c.set_native_reg.ensures.heap ∙ ap marks_of c.in_ok-reach_native_reg.ensures.heap

pub returns-in_err-reach_native_reg-clause-marking : goal.returns-in_err-reach_native_reg-clause-marking
returns-in_err-reach_native_reg-clause-marking g c = ap marks_of c.in_err-reach_native_reg.ensures.same
