use Rattle.std.proofs.Common.{◌≡◌, ◌<◌, ◌≤◌, sym, ◌∙◌, ap, subst, arith}
use Rattle.cc_model.specs.End.{give_back}
use Rattle.cc_heaps.specs.Keyed.{changed_to}
use Rattle.cc_builder.specs.Building.{Built, snapshot_of}
use Rattle.cc_builder.proofs.Promises.{abandoned-unseen, abandoned-suspected}
use Rattle.cc_builder.proofs.GivingBack.{left_to_give, left-given, left-none}
use Rattle.cc_builder.proofs.build.Build.abandon.Goals as goal

pub loop-i-preserved : goal.loop-i-preserved
loop-i-preserved c =
    let b = c.args.self in
    let v = c.args.heaps.now in
    let l : c.loop-i.i < b.candidates = subst (λ (a : Built). c.loop-i.i < a.candidates) c.self.view_is c.loop-i-test.true in
    record {
      left = left-given b (changed_to v (give_back (left_to_give b 0) v.heap)) c.loop-i.heaps c.give_back.new.heaps c.loop-i.i l c.requires.built.first c.give_back.ensures.heap c.loop-i.invariant.left;
      built = c.give_back.ensures.built;
      held = c.give_back.ensures.held;
      order = c.give_back.ensures.order;
    }

-- the candidates went back into the buffer
given : (c : goal.After-drop-self-inside-7) → c.loop-i.heaps ≡ changed_to c.args.heaps.now (give_back (snapshot_of c.args.self).candidates c.args.heaps.now.heap)
given c =
    let b = c.args.self in
    let past : b.candidates ≤ c.loop-i.i = subst (λ (a : Built). a.candidates ≤ c.loop-i.i) c.self.view_is (omega (arith, c.loop-i-test.false)) in
    ap (λ ks. changed_to c.loop-i.heaps (give_back ks c.loop-i.heaps.heap)) (sym (left-none b c.loop-i.i past c.requires.built.first)) ∙ c.loop-i.invariant.left

pub returns-clause-suspected : goal.returns-clause-suspected
returns-clause-suspected c = abandoned-suspected c.args.heaps.now c.loop-i.heaps (snapshot_of c.args.self).candidates c.requires.order (given c)

pub returns-clause-unseen : goal.returns-clause-unseen
returns-clause-unseen c = abandoned-unseen c.args.heaps.now c.loop-i.heaps (snapshot_of c.args.self).candidates c.loop-i.invariant.order (given c)
