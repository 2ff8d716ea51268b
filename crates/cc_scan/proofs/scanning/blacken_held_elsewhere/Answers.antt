use Rattle.std.specs.Prelude.{slice_get}
use Rattle.std.proofs.Common.{Some, option_map, sym, ◌∙◌, ap, arith}
use Rattle.cc_graph.specs.Shown.{Shown, edges_to}
use Rattle.cc_scan.specs.Scanning.{exceeds}
use Rattle.cc_graph.proofs.MarkedNodes.{marked-black, marked-other, marked-all}
use Rattle.cc_scan.proofs.scanning.blacken_held_elsewhere.Goals as goal
use Rattle.cc_scan.proofs.scanning.blacken_held_elsewhere.Goals.{then-is_held_elsewhere, else-is_held_elsewhere}

pub loop-i-preserved : goal.loop-i-preserved
loop-i-preserved c =
    let same = ap (λ (z : Shown). option_map (λ v. exceeds (edges_to z.edges c.loop-i.i) v.sampled) (slice_get z.nodes c.loop-i.i)) c.loop-i.invariant.rest in
    let test = sym same ∙ c.is_held_elsewhere.ensures in
    elim c.if-is_held_elsewhere.branch [
      | then-is_held_elsewhere w ↦ marked-black _ c.args.graph.now c.loop-i.graph c.if-is_held_elsewhere.graph c.loop-i.i c.loop-i.invariant
          (test ∙ ap Some w.if-is_held_elsewhere.true) (w.graph-is ∙ w.blacken.ensures)
      | else-is_held_elsewhere w ↦ marked-other _ c.args.graph.now c.loop-i.graph c.if-is_held_elsewhere.graph c.loop-i.i c.loop-i.invariant
          (test ∙ ap Some w.if-is_held_elsewhere.false) w.graph-is
    ]

pub returns-clause-marked : goal.returns-clause-marked
returns-clause-marked c = marked-all _ c.args.graph.now c.loop-i.graph c.loop-i.i c.loop-i.invariant (omega arith)
