use Rattle.std.specs.Prelude.{slice_get}
use Rattle.std.proofs.Common.{Some, option_map, sym, ◌∙◌, ap, subst, arith, inl, ⊎_elim}
use Rattle.cc_model.specs.View.{view}
use Rattle.cc_graph.specs.Shown.{Shown}
use Rattle.cc_graph.specs.Held.{AreHeld}
use Rattle.cc_heaps.specs.HasKey.{HasKey}
use Rattle.cc_repair.specs.Touched.{is_touched}
use Rattle.cc_graph.proofs.MarkedNodes.{marked-black, marked-other, marked-all}
use Rattle.cc_repair.proofs.TouchedKeys.{untouched-none}
use Rattle.cc_repair.proofs.touched.mark_touched.Goals as goal
use Rattle.cc_repair.proofs.touched.mark_touched.Goals.{then-is_touched, else-is_touched}

pub returns-then-is_untouched-clause-marked : goal.returns-then-is_untouched-clause-marked
returns-then-is_untouched-clause-marked c i = (
  λ b. inl b,
  λ s. ⊎_elim (λ b. b) (λ m. absurd (untouched-none c.args.graph.now c.args.heaps.now.heap (c.is_untouched.ensures c.if-is_untouched.true) i m)) s,
)

pub is_touched-requires-clause-held : goal.is_touched-requires-clause-held
is_touched-requires-clause-held c = subst (λ (z : Shown). AreHeld z (HasKey c.args.heaps.now)) (sym c.loop-i.invariant.rest) c.requires.held

pub loop-i-preserved : goal.loop-i-preserved
loop-i-preserved c =
    let same = ap (λ (z : Shown). option_map (λ v. is_touched (view c.args.heaps.now.heap) v.name) (slice_get z.nodes c.loop-i.i)) c.loop-i.invariant.rest in
    let test = sym same ∙ c.is_touched.ensures in
    elim c.if-is_touched.branch [
      | then-is_touched w ↦ marked-black _ c.args.graph.now c.loop-i.graph c.if-is_touched.graph c.loop-i.i c.loop-i.invariant
          (test ∙ ap Some w.if-is_touched.true) (w.graph-is ∙ w.blacken.ensures)
      | else-is_touched w ↦ marked-other _ c.args.graph.now c.loop-i.graph c.if-is_touched.graph c.loop-i.i c.loop-i.invariant
          (test ∙ ap Some w.if-is_touched.false) w.graph-is
    ]

pub returns-clause-marked : goal.returns-clause-marked
returns-clause-marked c = marked-all _ c.args.graph.now c.loop-i.graph c.loop-i.i c.loop-i.invariant (omega arith)
